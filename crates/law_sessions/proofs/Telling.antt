-- What a state tells of a cursor's transaction: its changes are numbered from 1, and one that goes on made no commit.
use Rattle.std.proofs.Common.{◌≡◌, ◌≢◌, inl, inr, ◌<◌, ◌≤◌, ◌+◌, ◌-◌, ◌*◌, ◌%◌, ◌==◌, nat_lt, ℕ, suc, Bool, true, false, if◌then◌else◌, List, [], ◌∷◌, ◌++◌, length, map, get_or, Option, Some, None, refl, sym, ◌∙◌, ap, subst, arith}
use Rattle.std.proofs.lemmas.Bool.{cases_lt, eqb-true}
use Rattle.std.proofs.lemmas.Bool.Decides.{nat_tests}
use Rattle.rb_base.specs.declared.ids.Xid.{Xid}
use Rattle.rb_base.specs.declared.shape.Shape.{Shape}
use Rattle.rb_base.specs.declared.sizes.TheConstants.{ACTIVE, SLOTS}
use Rattle.rb_model.specs.Book.{Owner}
use Rattle.rb_model.specs.Change as model
use Rattle.rb_model.specs.State as machine
use Rattle.rb_model.specs.State.{State, owner_at, session_own}
use Rattle.law_read.specs.Copies.{IsTold}
use Rattle.law_read.specs.Reading.{flat}
use Rattle.rb_segment.specs.Header.{Segment, slot_in}
use Rattle.rb_sessions.specs.Kept.{KeptCursor}
use Rattle.rb_sessions.specs.declared.cursor.Cursor.{Cursor}
use Rattle.law_blocks.specs.Says.{xid_by}
use Rattle.law_blocks.specs.Standing.{env_of, segments_of}
use Rattle.law_blocks.specs.States.{BlocksStand, IsMade, commits_from, lives_of, newest_first, no_xid, owned, past_of, walk_change}
use Rattle.law_blocks.specs.Values.{slot_of}
use Rattle.law_blocks.proofs.Homes.{own_here}
use Rattle.law_blocks.proofs.Seen.{one_xid}
use Rattle.law_blocks.proofs.States.{lives_at}
use Rattle.rb_txntable.specs.Looks.{slot_look}
use Rattle.rb_txntable.specs.declared.looks.Look.TheVariants.{Active, At, Before}
use Rattle.rb_txntable.specs.declared.slots.TableSlot.{TableSlot}
use Rattle.law_write.proofs.Homes.{own_beyond}
use Rattle.law_sessions.specs.Views.{Frozen, IsCursor, done, history, live, none, reader_slot}
use Rattle.law_sessions.proofs.Honest.{reader_is}
use Rattle.law_sessions.proofs.Seeing.{active_look, apart, owned_active}
use Rattle.law_home.specs.Homes.{here, narrow}
use Rattle.law_home.specs.Walk.{In, Change, Commit, Env, own}

-- A slot that was taken up to a wrap, and says Active of it, is Active under that wrap.
tests_say : (over same active made : Bool) (newest before : ℕ) → (if over then Active else if same then (if active then Active else if made then At newest else Before newest) else if made then Before before else Before newest) ≡ Active
    → over ≡ false → (same ≡ true) × (active ≡ true)
tests_say true same active made newest before look low = absurd cc
tests_say false true true made newest before look low = (refl, refl)
tests_say false true false true newest before look low = absurd cc
tests_say false true false false newest before look low = absurd cc
tests_say false false active true newest before look low = absurd cc
tests_say false false active false newest before look low = absurd cc

goes_on : (s : TableSlot) (wrap : ℕ) → wrap ≤ s.wrap → slot_look s wrap ≡ Active → (s.wrap ≡ wrap) × (s.state ≡ ACTIVE)
goes_on s wrap made look =
    let tests : ((s.wrap == wrap) ≡ true) × ((s.state == ACTIVE) ≡ true) = tests_say (nat_lt s.wrap wrap) (s.wrap == wrap) (s.state == ACTIVE) (s.state == 2) s.newest s.before look (not_over s.wrap wrap made) in
    (eqb-true s.wrap wrap tests.0, eqb-true s.state ACTIVE tests.1)
  where
    not_over : (a b : ℕ) → b ≤ a → nat_lt a b ≡ false
    not_over a b le = grind (arith, nat_tests)

-- What holds of each change of a transaction holds of what is left of them in a home.
abbrev Each : (Change → Type 0) → List Change → Type 0
Each Q chs = (ch : Change) → In ch chs → Q ch

module _ (Q : Change → Type 0) where
  each_none : Each Q []
  each_none ch named = absurd named

  each_more : (w : Change) (chs : List Change) → Q w → Each Q chs → Each Q (w ∷ chs)
  each_more w chs one each ch (inl is) = subst Q is one
  each_more w chs one each ch (inr named) = each ch named

  each_append : (a b : List Change) → Each Q a → Each Q b → Each Q (a ++ b)
  each_append [] b first second = second
  each_append (w ∷ a) b first second = each_more w (a ++ b) (first w (inl refl)) (each_append a b (λ ch named. first ch (inr named)) second)

  each_if : (t : Bool) (a b : List Change) → Each Q a → Each Q b → Each Q (if t then a else b)
  each_if true a b first second = first
  each_if false a b first second = second

  each_here : (b : ℕ) (chs : List Change) → Each Q chs → Each Q (here b chs)
  each_here b [] each = each
  each_here b (w ∷ chs) each =
      let deep : Each Q (here b chs) = each_here b chs (λ ch named. each ch (inr named)) in
      each_if (w.home == b) (w ∷ here b chs) (here b chs) (each_more w (here b chs) (each w (inl refl)) deep) deep

  module _ (shape : Shape) where
    -- changes that are numbered from n on
    each_newest : (x : Xid) (n : ℕ) (cs : List model.Change) (before : List Change) → ((c : model.Change) (q : ℕ) → n ≤ q → Q (walk_change shape x q c)) → Each Q before → Each Q (newest_first shape x n cs before)
    each_newest x n [] before made each = each
    each_newest x n (c ∷ cs) before made each =
        each_newest x (n + 1) cs (walk_change shape x n c ∷ before) (λ d q le. made d q (omega (arith, le))) (each_more (walk_change shape x n c) before (made c n (omega arith)) each)

    -- and those of the commits above n
    each_flat : (b n m : ℕ) (list : List (List model.Change)) (xids : List Xid) (before : List Commit) → ((i : ℕ) → i < length xids → (c : model.Change) (q : ℕ) → 1 ≤ q → Q (walk_change shape (get_or xids i no_xid) q c))
        → Each Q (flat n (map (narrow b) before)) → Each Q (flat n (map (narrow b) (commits_from shape m list xids before)))
    each_flat b n m [] xids before made each = each
    each_flat b n m (cs ∷ list) [] before made each = each
    each_flat b n m (cs ∷ list) (y ∷ xids) before made each =
        let t : Commit = record { xid = y; number = m; changes = newest_first shape y 1 cs [] } in
        each_flat b n (m + 1) list xids (t ∷ before) (λ i lt. made (suc i) (omega (arith, lt)))
        (each_if (nat_lt n m) (here b t.changes ++ flat n (map (narrow b) before)) []
        (each_append (here b t.changes) (flat n (map (narrow b) before)) (each_here b t.changes (each_newest y 1 cs [] (made 0 (omega arith)) each_none)) each)
        each_none)

-- numbered from 1
abbrev FromOne : Change → Type 0
FromOne ch = (k : ℕ) × (ch.number ≡ suc k)

from_one : (shape : Shape) (x : Xid) (c : model.Change) (q : ℕ) → 1 ≤ q → FromOne (walk_change shape x q c)
from_one shape x c q low = (q - 1, omega (arith, low))

module _ (h : State) (xids : List Xid) (blocks : List (List ℕ)) (stand : BlocksStand h xids blocks) where
  abbrev env : Env
  env = env_of h.shape blocks

  abbrev segments : ℕ → Segment
  segments = segments_of h.shape blocks

  -- the live changes of a slot
  lives_numbered : (b r : ℕ) → Each FromOne (own (map (here b) (lives_of h env)) r)
  lives_numbered b r = subst (Each FromOne) (sym (own_here b (lives_of h env) r)) (each_here FromOne b (own (lives_of h env) r) (elim (cases_lt r (SLOTS * h.shape.segments)) [
    | inl lt ↦ subst (Each FromOne) (sym (lives_at h env r lt)) (by_owner (owner_at h r))
    | inr le ↦ subst (Each FromOne) (sym (own_beyond h env r le)) (each_none FromOne)
  ]))
    where
      by_owner : (o : Option Owner) → Each FromOne (owned h (env.xid r) o)
      by_owner None = each_none FromOne
      by_owner (Some o) = each_newest FromOne h.shape (env.xid r) 1 (session_own h o.session) [] (from_one h.shape (env.xid r)) (each_none FromOne)

  done_numbered : (b n : ℕ) → Each FromOne (flat n (map (narrow b) (past_of h xids).list))
  done_numbered b n = each_flat FromOne h.shape b n (h.commits.base + 1) h.commits.list xids [] (λ i lt. from_one h.shape (get_or xids i no_xid)) (each_none FromOne)

  -- the transaction of a commit doesn't go on
  commit_done : (i : ℕ) → i < length xids → env.look (get_or xids i no_xid) ≡ Active → ⊥
  commit_done i lt look =
      let x : Xid = get_or xids i no_xid in
      let made : IsMade h.shape segments x = stand.tell.ids_made i lt in
      let at : slot_look (slot_of segments made.slot) x.wrap ≡ Active =
      ap (λ (g : ℕ). slot_look (slot_in (segments g).header (made.slot % SLOTS)) x.wrap) (sym made.at.0)
      ∙ (ap (λ (j : ℕ). slot_look (slot_in (segments x.seg).header j) x.wrap) (sym made.at.1) ∙ look) in
      let on = goes_on (slot_of segments made.slot) x.wrap made.wrap at in
      stand.tell.ids_over i made.slot lt made.within on.1 (one_xid x (xid_by segments made.slot) made.at.0 made.at.1 (sym on.0))

  module _ (s : ℕ) (kept : KeptCursor) (c : machine.Cursor) (is : IsCursor h xids env s kept c) where
    abbrev m : Cursor
    m = kept.cursor

    -- what home b tells of the cursor's transaction
    pub told : (b : ℕ) → IsTold env (history h xids blocks b m.own) m.own m.upto m.scn
    told b = record {
      live = lives_numbered b (reader_slot m.own);
      done = done_numbered b m.scn;
      going = λ x mine some look. by_case x mine some look is.frozen;
    }
      where
        by_case : (x : Xid) → m.own ≡ Some x → m.upto ≢ 0 → env.look x ≡ Active → Frozen h xids env s m c
            → (env.xid (reader_slot m.own) ≡ x) × ((ch : Change) → In ch (flat m.scn (map (narrow b) (past_of h xids).list)) → ch.xid ≢ x)
        by_case x mine some look (none zero_is) = absurd (some zero_is)
        by_case x mine some look (live t present owns own_is rows) =
            let both : Some (env.xid t) ≡ Some x = sym own_is ∙ mine in
            let same : env.xid t ≡ x = cc in
            let slot : t ≡ reader_slot m.own = reader_is h.shape segments m.own t (active_look (slot_of segments t) (owned_active h xids blocks stand t owns.owner owns.at)) (sym own_is) in
            (ap env.xid (sym slot) ∙ same, each_flat (λ ch. ch.xid ≢ x) h.shape b m.scn (h.commits.base + 1) h.commits.list xids [] (λ i lt d q low is_x. apart h xids blocks stand i t owns.owner lt owns.at (is_x ∙ sym same)) (each_none (λ ch. ch.xid ≢ x)))
        by_case x mine some look (done i few high own_is rows) =
            let both : Some (get_or xids i no_xid) ≡ Some x = sym own_is ∙ mine in
            let same : get_or xids i no_xid ≡ x = cc in
            absurd (commit_done i (let n = stand.tell.counted in omega (arith, n, few)) (ap env.look same ∙ look))
