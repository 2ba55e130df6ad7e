-- What the group of a commit, or of an end, makes of blocks that stand for the machine's state.
use Rattle.std.proofs.Common.{◌≡◌, inl, inr, ◌<◌, ◌≤◌, ◌+◌, ◌-◌, ◌*◌, ◌/◌, ◌%◌, ◌++◌, Bool, true, false, if◌then◌else◌, ℕ, List, [], ◌∷◌, length, get_or, map, set, Option, Some, None, refl, sym, ◌∙◌, ap, subst, arith}
use Rattle.std.proofs.lemmas.Bool.{cases_eq}
use Rattle.std.proofs.lemmas.List.{get_or-set_same, get_or-set_other, length-set}
use Rattle.std.specs.List.{AllByRecursion, flat_map, range_with_len}
use Rattle.rb_base.specs.declared.sizes.TheConstants.{SLOTS}
use Rattle.rb_base.proofs.Each.{all_so}
use Rattle.rb_base.specs.Blocks.{after_group, block_of, header_block, written_to, StaysBehind}
use Rattle.rb_base.specs.Groups.{Patch, IsGroup, IsPatch}
use Rattle.rb_base.specs.declared.ids.Xid.{Xid}
use Rattle.rb_model.specs.Book.{Owner}
use Rattle.rb_model.specs.Calls.{Owned}
use Rattle.rb_model.specs.Change as model
use Rattle.rb_model.specs.State.{Cursor, Session, State, no_session, owner_at, session_own}
use Rattle.rb_model.specs.NextState.{committed, cursors_of, ended, not_present, without_owner}
use Rattle.rb_model.specs.Rows.{last_scn}
use Rattle.law_crash.specs.Made.{CommitMade, EndMade}
use Rattle.law_crash.proofs.Owners.{owns_of}
use Rattle.rb_restart.proofs.Slots.{slot_for}
use Rattle.rb_segment.proofs.HeaderAfter.{header_after}
use Rattle.rb_segment.specs.Calls.{commit_patches, slot_patches, stamp_patch, Runs}
use Rattle.rb_segment.specs.Header.{Header, has_bit, header_of, slot_in}
use Rattle.rb_segment.specs.Moves as moves
use Rattle.rb_segment.specs.Segments.{commit_scn}
use Rattle.law_blocks.proofs.BlocksMachine.{commit_keeps_machine, end_keeps_machine, ids_committed, ids_ended}
use Rattle.law_blocks.proofs.Group.{logged_next}
use Rattle.law_blocks.proofs.MachineDone.{last_commits}
use Rattle.law_blocks.proofs.States.{lives_at, lives_owned, length_newest}
use Rattle.law_blocks.specs.Groups.{GroupOn, IsCommitted, IsEnded, header_at}
use Rattle.law_blocks.specs.NextStates.{after_commit, after_end}
use Rattle.law_blocks.specs.Says.{xid_by}
use Rattle.law_blocks.specs.Standing.{Standing, env_of, logged_of, segments_of}
use Rattle.law_blocks.specs.States.{BlocksStand, Owns, SegmentsTell, lives_of, newest_first, owned, past_of}
use Rattle.law_blocks.specs.Values.{slot_of}
use Rattle.rb_txntable.specs.declared.slots.TableSlot.{TableSlot}
use Rattle.law_home.specs.Walk.{own}

-- The block of each patch of a commit is the header's.
stamps_there : (block bits : ℕ) (h : Header) (es : List ℕ) → AllByRecursion (λ p. p.block ≡ block) (flat_map (stamp_patch block bits h) es)
stamps_there block bits h [] = tt
stamps_there block bits h (e ∷ es) = by (has_bit bits e) (stamps_there block bits h es)
  where
    by : (b : Bool) → AllByRecursion (λ p. p.block ≡ block) (flat_map (stamp_patch block bits h) es)
        → AllByRecursion (λ p. p.block ≡ block) ((if b then Rattle.rb_ring.specs.Ring.extent_patch block e (Rattle.rb_segment.specs.Header.extent_in h e) ∷ [] else []) ++ flat_map (stamp_patch block bits h) es)
    by true rest = (refl, rest)
    by false rest = rest

pub commit_there : (block i : ℕ) (h : Header) → AllByRecursion (λ p. p.block ≡ block) (commit_patches block i h)
commit_there block i h = (refl, stamps_there block (slot_in h i).touched h (range_with_len 0 8))

pub end_there : (block i : ℕ) (h : Header) → AllByRecursion (λ p. p.block ≡ block) (slot_patches block i h)
end_there block i h = (refl, tt)

behind : (p : Patch) → IsPatch p → StaysBehind p
behind p is = record { behind_head = is.behind_head; within_block = is.within_block }

-- Only the changes of the sessions matter, and not their savepoints and cursors.
module _ (h : State) (s : ℕ) (session : Session) (s_in : (1 ≤ s) × (s ≤ length h.sessions)) (same : session.own ≡ session_own h s) where
  abbrev Other : State
  Other = record h { sessions = set h.sessions (s - 1) session }

  own_same : (r : ℕ) → session_own Other r ≡ session_own h r
  own_same r = elim (cases_eq (r - 1) (s - 1)) [
    | inl at ↦
        ap (λ (k : ℕ). (get_or (set h.sessions (s - 1) session) k no_session).own) at
        ∙ (ap (λ (x : Session). x.own) (get_or-set_same h.sessions (s - 1) session no_session (omega (arith, s_in)))
        ∙ (same ∙ ap (λ (k : ℕ). (get_or h.sessions k no_session).own) (sym at)))
    | inr ne ↦ ap (λ (x : Session). x.own) (get_or-set_other h.sessions (s - 1) (r - 1) session no_session ne)
  ]

  owned_same : (x : Xid) (o : Option Owner) → owned Other x o ≡ owned h x o
  owned_same x None = refl
  owned_same x (Some o) = ap (λ (l : List model.Change). Rattle.law_blocks.specs.States.newest_first h.shape x 1 l []) (own_same o.session)

  lives_same : (env : Rattle.law_home.specs.Walk.Env) → lives_of Other env ≡ lives_of h env
  lives_same env =
      let each : (λ (t : ℕ). owned Other (env.xid t) (owner_at h t)) ≡ (λ (t : ℕ). owned h (env.xid t) (owner_at h t)) = λ i t. owned_same (env.xid t) (owner_at h t) i in
      ap (λ (f : ℕ → List Rattle.law_home.specs.Walk.Change). map f (range_with_len 0 (SLOTS * h.shape.segments))) each

  pub cursors_free : (xids : List Xid) (blocks : List (List ℕ)) → BlocksStand h xids blocks → BlocksStand Other xids blocks
  cursors_free xids blocks stand = record {
    tell = record {
      in_range = stand.tell.in_range;
      counted = stand.tell.counted;
      books_counted = stand.tell.books_counted;
      books = stand.tell.books;
      owner_there = λ r t owns. let a = stand.tell.owner_there r t (record { owner = owns.owner; at = owns.at; session = owns.session }) in let l = length-set h.sessions (s - 1) session in (a.0, omega (arith, a.1, l));
      one_slot = λ r t v one two. stand.tell.one_slot r t v (record { owner = one.owner; at = one.at; session = one.session }) (record { owner = two.owner; at = two.at; session = two.session });
      has_slot = λ r c more r_in is. let f = stand.tell.has_slot r c more r_in (sym (own_same r) ∙ is) in (f.0, f.1, record { owner = f.2.owner; at = f.2.at; session = f.2.session });
      tables = λ r. subst (Rattle.law_blocks.specs.States.InTables h.shape) (sym (own_same r)) (stand.tell.tables r);
      commit_tables = stand.tell.commit_tables;
      ids_differ = stand.tell.ids_differ;
      ids_made = stand.tell.ids_made;
      ids_over = stand.tell.ids_over;
      running = stand.tell.running;
    };
    standing = subst (λ (l : List (List Rattle.law_home.specs.Walk.Change)). Standing h.shape blocks (past_of h xids) l) (sym (lives_same (env_of h.shape blocks))) stand.standing;
  }

-- the file's commit number is the machine's
pub scn_is : (h : State) (xids : List Xid) (blocks : List (List ℕ)) → BlocksStand h xids blocks → commit_scn h.shape blocks ≡ last_scn h.commits
scn_is h xids blocks stand = stand.standing.stands.number ∙ last_commits h.shape h.commits.base h.commits.list xids [] stand.tell.counted refl

module _ (h : State) (xids : List Xid) (before now : List (List ℕ)) (s : ℕ) (x : Xid) (stand : BlocksStand h xids before) (there : x.seg < h.shape.segments) (few : x.slot < SLOTS) (owned_by : Owned h s x.seg x.slot)
    (runs : Runs (header_of (block_of before (header_block h.shape x.seg))) x) where
  abbrev T : ℕ
  T = SLOTS * x.seg + x.slot

  abbrev at : ℕ
  at = header_block h.shape x.seg

  seg_is : T / SLOTS ≡ x.seg
  seg_is = omega (arith, few)

  slot_is : T % SLOTS ≡ x.slot
  slot_is = omega (arith, few)

  t_in : T < SLOTS * h.shape.segments
  t_in = omega (arith, there, few)

  owns : Owns h s T
  owns = owns_of h s x.seg x.slot owned_by

  header_is : header_at h.shape before T ≡ header_of (block_of before at)
  header_is = ap (λ (g : ℕ). header_of (block_of before (header_block h.shape g))) seg_is

  header_now : header_at h.shape now T ≡ header_of (block_of now at)
  header_now = ap (λ (g : ℕ). header_of (block_of now (header_block h.shape g))) seg_is

  -- Its live changes are the session's.
  pub live_is : (slot_in (header_of (block_of before at)) x.slot).live ≡ length (session_own h s)
  live_is =
      let slot = slot_is_read in
      let count = ((stand.standing.stands.slots T t_in).active (ap (λ (z : TableSlot). z.state) slot ∙ runs.active)).count in
      let env = env_of h.shape before in
      let all : length (own (lives_of h env) T) ≡ length (session_own h owns.owner.session) + 0 = ap (λ (l : List Rattle.law_home.specs.Walk.Change). length l) (lives_at h env T t_in ∙ ap (owned h (env.xid T)) owns.at) ∙ length_newest h.shape (env.xid T) 1 (session_own h owns.owner.session) [] in
      let mine = ap (λ (r : ℕ). length (session_own h r)) owns.session in
      omega (arith, count, all, mine, ap (λ (z : TableSlot). z.live) slot)
    where
      slot_is_read : slot_of (segments_of h.shape before) T ≡ slot_in (header_of (block_of before at)) x.slot
      slot_is_read = slot_for h.shape before x few

  -- one group of the header's block
  module _ (group : List Patch) (some : 1 ≤ length group) (is_group : IsGroup group) (only : AllByRecursion (λ p. p.block ≡ at) group) (made : now ≡ after_group (logged_of h.shape before + 1) group before) where
    on : GroupOn h.shape (λ b. b ≡ header_block h.shape (T / SLOTS)) before now
    on = record {
      patches = group;
      some = some;
      each = is_group.each;
      only = subst (λ (g : ℕ). AllByRecursion (λ p. p.block ≡ header_block h.shape g) group) (sym seg_is) only;
      made = made;
    }

    moved : (header : List ℕ) → header ≡ written_to at group (block_of before at) → header_of (block_of now at) ≡ header_of header
    moved header copied =
        ap (λ (l : List (List ℕ)). header_of (block_of l at)) made
        ∙ header_after h.shape before (logged_of h.shape before + 1) at group stand.standing.whole (omega (arith, there)) (all_so IsPatch StaysBehind group behind is_group.each)
        ∙ ap header_of (sym copied)

    pub logged : logged_of h.shape now ≡ logged_of h.shape before + 1
    logged = logged_next h.shape (λ b. b ≡ header_block h.shape (T / SLOTS)) before now on stand.standing.whole (λ b is. omega (arith, is, seg_is, there)) (let a = stand.standing.ahead in omega (arith, a))

    active : (slot_of (segments_of h.shape before) T).state ≡ 1
    active = ap (λ (z : TableSlot). z.state) (slot_for h.shape before x few) ∙ runs.active

    -- The patches are those of the header that there is then.
    patched : (patches : ℕ → ℕ → Header → List Patch) (header : List ℕ) → group ≡ patches at x.slot (header_of header) → header ≡ written_to at group (block_of before at) → on.patches ≡ patches (header_block h.shape (T / SLOTS)) (T % SLOTS) (header_at h.shape now T)
    unfolding on
    patched patches header is copied =
        is
        ∙ (ap (patches at x.slot) (sym (header_now ∙ moved header copied))
        ∙ (ap (λ (i : ℕ). patches at i (header_at h.shape now T)) (sym slot_is)
        ∙ ap (λ (g : ℕ). patches (header_block h.shape g) (T % SLOTS) (header_at h.shape now T)) (sym seg_is)))

    pub commits : (n : ℕ) → n ≡ last_scn h.commits + 1 → (header : List ℕ) → group ≡ commit_patches at x.slot (header_of header) → header ≡ written_to at group (block_of before at) → header_of header ≡ moves.committed n x.slot (header_of (block_of before at))
        → CommitMade h xids s x before now
    commits n next header patches copied means =
        let scn = scn_is h xids before stand in
        let number : n ≡ commit_scn h.shape before + 1 = omega (arith, next, scn) in
        let header_moved : header_at h.shape now T ≡ moves.committed (commit_scn h.shape before + 1) (T % SLOTS) (header_at h.shape before T) = header_now ∙ (moved header copied ∙ (means
        ∙ (ap (λ (k : ℕ). moves.committed k x.slot (header_of (block_of before at))) number ∙ (ap (λ (i : ℕ). moves.committed (commit_scn h.shape before + 1) i (header_of (block_of before at))) (sym slot_is)
        ∙ ap (moves.committed (commit_scn h.shape before + 1) (T % SLOTS)) (sym header_is))))) in
        let is : IsCommitted h.shape T (commit_scn h.shape before + 1) before now = record { group = on; header = header_moved; patches = patched commit_patches header patches copied } in
        let kept = commit_keeps_machine h xids before now stand s T t_in owns (map not_present (cursors_of h s)) is in
        let state : after_commit h s T (commit_scn h.shape before + 1) (map not_present (cursors_of h s)) ≡ committed h s x.seg x.slot = rw (seg_is, slot_is, scn) refl in
        let id : xid_by (segments_of h.shape before) T ≡ x = xid_is in
        record {
          stand = subst (λ (z : State). BlocksStand z (xids ++ x ∷ []) now) state (subst (λ (z : Xid). BlocksStand (after_commit h s T (commit_scn h.shape before + 1) (map not_present (cursors_of h s))) (xids ++ z ∷ []) now) id kept);
          ids = λ r v mine. ids_committed h xids before now stand s T t_in owns is v;
          last = logged;
          group = subst (λ (k : ℕ). IsCommitted h.shape T k before now) (sym number ∙ next) is;
        }
      where
        xid_is : xid_by (segments_of h.shape before) T ≡ x
        xid_is =
            let head : (segments_of h.shape before (T / SLOTS)).header ≡ header_of (block_of before at) = Rattle.law_blocks.proofs.SegmentRead.header_is h.shape before (T / SLOTS) ∙ header_is in
            let wrap : (slot_in (segments_of h.shape before (T / SLOTS)).header (T % SLOTS)).wrap ≡ x.wrap = ap (λ (k : Header). (slot_in k (T % SLOTS)).wrap) head ∙ (ap (λ (i : ℕ). (slot_in (header_of (block_of before at)) i).wrap) slot_is ∙ runs.wrap) in
            Rattle.law_blocks.proofs.Seen.one_xid (xid_by (segments_of h.shape before) T) x seg_is slot_is wrap

    pub ends : session_own h s ≡ [] → (header : List ℕ) → group ≡ slot_patches at x.slot (header_of header) → header ≡ written_to at group (block_of before at) → header_of header ≡ moves.ended x.slot (header_of (block_of before at))
        → EndMade h xids s x before now
    ends empty header patches copied means =
        let header_moved : header_at h.shape now T ≡ moves.ended (T % SLOTS) (header_at h.shape before T) = header_now ∙ (moved header copied ∙ (means
        ∙ (ap (λ (i : ℕ). moves.ended i (header_of (block_of before at))) (sym slot_is) ∙ ap (moves.ended (T % SLOTS)) (sym header_is)))) in
        let is : IsEnded h.shape T before now = record { group = on; header = header_moved; patches = patched slot_patches header patches copied } in
        let kept = end_keeps_machine h xids before now stand s T t_in owns empty is in
        let s_in = stand.tell.owner_there s T owns in
        let env = env_of h.shape before in
        let none : own (lives_of h env) T ≡ [] = lives_owned h env s T t_in owns ∙ ap (λ (z : List model.Change). newest_first h.shape (xid_by (segments_of h.shape before) T) 1 z []) empty in
        let free : (cursors : List Cursor) → BlocksStand (record (after_end h T) { sessions = set h.sessions (s - 1) (record no_session { cursors = map not_present cursors }) }) xids now = λ cursors.
        cursors_free (after_end h T) s (record no_session { cursors = map not_present cursors }) s_in (sym empty) xids now kept in
        let state : (cursors : List Cursor) → record (after_end h T) { sessions = set h.sessions (s - 1) (record no_session { cursors = map not_present cursors }) } ≡ without_owner x.seg x.slot (ended h s cursors) = λ cursors. rw (seg_is, slot_is) refl in
        record {
          stand = λ cursors. subst (λ (z : State). BlocksStand z xids now) (state cursors) (free cursors);
          ids = λ r v mine. ids_ended h xids before now stand s T t_in owns empty is v;
          last = logged;
          group = is;
        }
