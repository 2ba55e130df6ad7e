-- The table remembers the end of a transaction: a commit, a rollback, or the end of one without changes.
use Rattle.std.proofs.Common.{◌≡◌, ◌≢◌, inl, inr, ⊎_elim, ◌<◌, ◌≤◌, ◌+◌, ◌-◌, ◌*◌, ℕ, zero, suc, false, List, [], ◌∷◌, ◌++◌, length, map, get_or, set, take, Option, Some, None, refl, sym, ◌∙◌, ap, subst, arith, append-nil}
use Rattle.std.proofs.Math.ListN as lists
use Rattle.std.proofs.Math.Seq as seq
use Rattle.std.proofs.lemmas.List.{length-set}
use Rattle.rb_base.specs.declared.sizes.TheConstants.{SLOTS}
use Rattle.rb_base.specs.declared.ids.Xid.{Xid}
use Rattle.law_crash.specs.Made.{KeepsIds}
use Rattle.law_crash.proofs.Owners.{OwnedBy, few_slots, finished_else, finished_here, freed, id_none, left_else, left_here, owned_by, owns_of, same_owners}
use Rattle.rb_model.specs.Book.{Book, Owner, book_at, book_slot, finished, left, slot_owner}
use Rattle.rb_model.specs.Calls.{HasNoSlot, Owned}
use Rattle.rb_model.specs.Change.{Change}
use Rattle.rb_model.specs.NextState.{EndsAs, cursors_of, left_open, not_present, rolled_to}
use Rattle.rb_model.specs.NextState as next
use Rattle.rb_model.specs.Rows.{Commits, last_scn}
use Rattle.rb_model.specs.State as machine
use Rattle.rb_model.specs.State.{Session, State, no_session, owner_at, session_of, session_own}
use Rattle.rb_model.proofs.BookLemmas.{owner_set}
use Rattle.rb_sessions.specs.Kept as kept
use Rattle.rb_sessions.specs.Kept.{KeptCursor, KeptSession, kept_at, passed, with_kept}
use Rattle.rb_sessions.specs.declared.sessions.TheConstants.{SESSIONS}
use Rattle.law_blocks.specs.Standing.{env_of, homes_of, segments_of}
use Rattle.law_blocks.specs.States.{BlocksStand, Owns, no_xid}
use Rattle.law_write.specs.Verdict.{IsOwnId}
use Rattle.law_write.proofs.Presence.{owner_within}
use Rattle.law_write.proofs.StoodBlocks.{stood_of}
use Rattle.law_sessions.specs.Views.{AreCursors, IsCursor, IsSession, Remembers}
use Rattle.law_sessions.proofs.Lasting.{Keeps, cursor_told, frozen_commits}
use Rattle.law_sessions.proofs.Owning.{owner_else, owner_had, place_of}
use Rattle.law_sessions.proofs.Savepoints.{cursors_cut, session_cut}
use Rattle.law_sessions.proofs.Tables.{Moves, cursors_passed, one_passed, set_others, set_this, table_last}
use Rattle.law_home.specs.Walk.{Env}

-- a state in which the session has no change, and these cursors, of no present transaction
module _ (h h2 : State) (xids xids2 : List Xid) (env env2 : Env) (s : ℕ) (cursors : List machine.Cursor) (low : 1 ≤ s) (high : s ≤ length h.sessions)
    (sessions : h2.sessions ≡ set h.sessions (s - 1) (record no_session { cursors = map not_present cursors })) (keeps : Keeps h h2 xids xids2) (none : HasNoSlot h2 s)
    (owns : (u t : ℕ) → u ≢ s → Owns h u t → Owns h2 u t) (owned : (u t : ℕ) → u ≢ s → Owns h2 u t → Owns h u t) (ids : KeepsIds h env env2) where
  abbrev ended : Session
  ended = record no_session { cursors = map not_present cursors }

  moves : Moves h h2 xids xids2 env env2 s
  moves = record {
    keeps = keeps;
    counted = ap (λ (l : List Session). length l) sessions ∙ length-set h.sessions (s - 1) ended;
    others = λ u u_low ne. ap (λ (l : List Session). get_or l (u - 1) no_session) sessions ∙ set_others h.sessions s u ended low u_low ne;
    owns = owns;
    owned = owned;
    ids = ids;
  }

  session : session_of h2 s ≡ ended
  session = ap (λ (l : List Session). get_or l (s - 1) no_session) sessions ∙ set_this h.sessions s ended low high

  -- the table with the session's cursors in memory passed, too
  pub ended_remembered : (table : List KeptSession) (ms : List KeptCursor) (k : KeptSession) → s ≤ SESSIONS → Remembers h xids env table → AreCursors h2 xids2 env2 s (map passed ms) (map not_present cursors) → Remembers h2 xids2 env2 (with_kept table s (kept.ended ms k))
  ended_remembered table ms k few is are = table_last h h2 xids xids2 env env2 s moves table (kept.ended ms k) low few is (record {
    isolation = sym (ap (λ (z : Session). z.isolation) session);
    snapshot = (omega arith, omega arith);
    id = id_none h2 env2 s none;
    count = sym (ap (λ (z : Session). length z.own) session);
    savepoints = sym (ap (λ (z : Session). z.savepoints) session);
    cursors = subst (λ (z : Session). AreCursors h2 xids2 env2 s (map passed ms) z.cursors) (sym session) are;
  })

-- the owners of a book in which one left, or committed
fewer_left : (i j : ℕ) (b : Book) (o : Owner) → slot_owner (left i b) j ≡ Some o → slot_owner b j ≡ Some o
fewer_left i j b o is = ⊎_elim (λ gone. let clash : None ≡ Some o = gone in absurd cc) (λ had. had) (owner_set b.slots i j (record (book_slot b i) { owner = None }) o is)

fewer_finished : (n i j : ℕ) (b : Book) (o : Owner) → slot_owner (finished n i b) j ≡ Some o → slot_owner b j ≡ Some o
fewer_finished n i j b o is = ⊎_elim (λ gone. let clash : None ≡ Some o = gone in absurd cc) (λ had. had) (owner_set b.slots i j (record { newest = n; owner = None }) o is)

-- The other sessions' slots, where slot i of segment g, which was the session's, loses its owner.
module _ (h h2 : State) (s g i : ℕ) (b : Book) (books : h2.books ≡ set h.books g b) (slot : Owned h s g i) (else_same : (j : ℕ) → j ≢ i → slot_owner b j ≡ slot_owner (book_at h.books g) j) (fewer : (j : ℕ) (o : Owner) → slot_owner b j ≡ Some o → slot_owner (book_at h.books g) j ≡ Some o) where
  others_own : (u t : ℕ) → u ≢ s → Owns h u t → Owns h2 u t
  others_own u t ne o = record {
    owner = o.owner;
    at = owner_else h h2 g i b books else_same t (λ at.
        let mine : Owns h s (SLOTS * g + i) = owns_of h s g i slot in
        let both : Some mine.owner ≡ Some o.owner = sym mine.at ∙ (ap (owner_at h) (sym (place_of g i t at)) ∙ o.at) in
        let same : mine.owner ≡ o.owner = cc in
        ne (sym o.session ∙ (ap (λ (z : Owner). z.session) (sym same) ∙ mine.session))) ∙ o.at;
    session = o.session;
  }

  others_owned : (u t : ℕ) → Owns h2 u t → Owns h u t
  others_owned u t o = record { owner = o.owner; at = owner_had h h2 g b books fewer t o.owner o.at; session = o.session }

-- a commit
module _ (h : State) (xids : List Xid) (blocks now : List (List ℕ)) (table : List KeptSession) (s : ℕ) (x : Xid) (stand : BlocksStand h xids blocks) (is : Remembers h xids (env_of h.shape blocks) table) (low : 1 ≤ s) (high : s ≤ SESSIONS) (own : (kept_at table s).own ≡ Some x) (ids : KeepsIds h (env_of h.shape blocks) (env_of h.shape now)) where
  abbrev h2 : State
  h2 = next.freeing (next.committed h s x.seg x.slot) s

  abbrev env : Env
  env = env_of h.shape blocks

  abbrev env2 : Env
  env2 = env_of h.shape now

  abbrev of_session : IsSession h xids env s (kept_at table s)
  of_session = is.each s low high

  abbrev its : OwnedBy h blocks s x
  its = owned_by h xids blocks s x stand (subst (λ (z : Option Xid). IsOwnId h env s z) own of_session.id)

  abbrev b : Book
  b = book_at h.books x.seg

  abbrev n : ℕ
  n = last_scn h.commits + 1

  abbrev keeps : Keeps h h2 xids (xids ++ x ∷ [])
  keeps = record {
    shape = refl;
    base = refl;
    rows = refl;
    more = session_own h s ∷ [];
    list = refl;
    ids = λ i lt. lists.get_or-append xids (x ∷ []) no_xid i (let c = stand.tell.counted in omega (arith, c, lt));
  }

  cursor_now : (m : KeptCursor) (c : machine.Cursor) → IsCursor h xids env s m c → IsCursor h2 (xids ++ x ∷ []) env2 s (passed m) (not_present c)
  cursor_now m c is = cursor_told h h2 xids (xids ++ x ∷ []) env env2 s keeps m c false false refl is
      (frozen_commits h h2 xids (xids ++ x ∷ []) env env2 s keeps m c x refl last_xid (λ t owns. let both : Some x ≡ Some (env.xid t) = sym own ∙ of_session.id.owns t owns in cc) is)
    where
      last_xid : get_or (xids ++ x ∷ []) (length h.commits.list) no_xid ≡ x
      last_xid = ap (λ i. get_or (xids ++ x ∷ []) i no_xid) (sym stand.tell.counted) ∙ seq.get_or-append_seam xids x [] no_xid

  pub committed_remembered : Remembers h2 (xids ++ x ∷ []) env2 (with_kept table s (kept.committed (kept_at table s)))
  committed_remembered =
      ended_remembered h h2 xids (xids ++ x ∷ []) env env2 s (cursors_of h s) low (let c = is.as_many in omega (arith, c, high)) refl keeps
      (freed h h2 xids blocks s x.seg x.slot (finished n x.slot b) stand its.few its.there its.owned refl (finished_here n x.slot b (few_slots stand x.seg its.there x.slot its.few)) (finished_else n x.slot b))
      (others_own h h2 s x.seg x.slot (finished n x.slot b) refl its.owned (finished_else n x.slot b) (λ j. fewer_finished n x.slot j b))
      (λ u t ne. others_owned h h2 s x.seg x.slot (finished n x.slot b) refl its.owned (finished_else n x.slot b) (λ j. fewer_finished n x.slot j b) u t) ids
      table (kept_at table s).cursors (kept_at table s) high is
      (cursors_passed h h2 xids (xids ++ x ∷ []) env env2 s cursor_now (kept_at table s).cursors (cursors_of h s) of_session.cursors)

-- The end of a transaction without a number, which leaves the session no slot.
module _ (h h2 : State) (xids : List Xid) (blocks : List (List ℕ)) (env2 : Env) (table : List KeptSession) (s : ℕ) (cursors : List machine.Cursor) (stand : BlocksStand h xids blocks) (is : Remembers h xids (env_of h.shape blocks) table) (low : 1 ≤ s) (high : s ≤ SESSIONS) (ids : KeepsIds h (env_of h.shape blocks) env2) where
  abbrev before : Env
  before = env_of h.shape blocks

  many : s ≤ length h.sessions
  many = let c = is.as_many in omega (arith, c, high)

  kept_by : h2.shape ≡ h.shape → h2.commits ≡ h.commits → Keeps h h2 xids xids
  kept_by shape commits = record {
    shape = shape;
    base = ap (λ (z : Commits). z.base) commits;
    rows = ap (λ (z : Commits). z.rows) commits;
    more = [];
    list = ap (λ (z : Commits). z.list) commits ∙ sym (append-nil h.commits.list);
    ids = λ i lt. refl;
  }

  ends_remembered : EndsAs h s cursors h2 → (ms : List KeptCursor) → ((keeps : Keeps h h2 xids xids) → AreCursors h2 xids env2 s (map passed ms) (map not_present cursors)) → Remembers h2 xids env2 (with_kept table s (kept.ended ms (kept_at table s)))
  ends_remembered (inl f) ms are =
      let g : ℕ = f.0 in
      let i : ℕ = f.1 in
      let slot : Owned h s g i = f.2 in
      let b : Book = book_at h.books g in
      let books : h2.books ≡ set h.books g (left i b) = ap (λ (z : State). z.books) f.3 in
      let keeps : Keeps h h2 xids xids = kept_by (ap (λ (z : State). z.shape) f.3) (ap (λ (z : State). z.commits) f.3) in
      let few : i < SLOTS = slot.0 in
      let mine : Owns h s (SLOTS * g + i) = owns_of h s g i slot in
      let within : SLOTS * g + i < SLOTS * h.shape.segments = owner_within h xids (segments_of h.shape blocks) (homes_of h.shape blocks) (stood_of h xids blocks stand) (SLOTS * g + i) mine.owner mine.at in
      let there : g < h.shape.segments = omega (arith, within) in
      ended_remembered h h2 xids xids before env2 s cursors low many (ap (λ (z : State). z.sessions) f.3) keeps
      (freed h h2 xids blocks s g i (left i b) stand few there slot books (left_here i b (few_slots stand g there i few)) (left_else i b))
      (others_own h h2 s g i (left i b) books slot (left_else i b) (λ j. fewer_left i j b))
      (λ u t ne. others_owned h h2 s g i (left i b) books slot (left_else i b) (λ j. fewer_left i j b) u t) ids
      table ms (kept_at table s) high is (are keeps)
  ends_remembered (inr f) ms are =
      let books : h2.books ≡ h.books = ap (λ (z : State). z.books) f.1 in
      let keeps : Keeps h h2 xids xids = kept_by (ap (λ (z : State). z.shape) f.1) (ap (λ (z : State). z.commits) f.1) in
      ended_remembered h h2 xids xids before env2 s cursors low many (ap (λ (z : State). z.sessions) f.1) keeps
      (λ t o at. f.0 t o (sym (same_owners h h2 t books) ∙ at))
      (λ u t ne o. record { owner = o.owner; at = same_owners h h2 t books ∙ o.at; session = o.session })
      (λ u t ne o. record { owner = o.owner; at = sym (same_owners h h2 t books) ∙ o.at; session = o.session }) ids
      table ms (kept_at table s) high is (are keeps)

-- the cursors of a transaction without changes, as it ends
cursors_ended : (h h2 : State) (xids : List Xid) (env env2 : Env) (s : ℕ) → session_own h s ≡ [] → Keeps h h2 xids xids → (ms : List KeptCursor) (cs : List machine.Cursor) → AreCursors h xids env s ms cs → AreCursors h2 xids env2 s (map passed ms) (map not_present cs)
cursors_ended h h2 xids env env2 s empty keeps ms cs are =
    cursors_passed h h2 xids xids env env2 s (λ m c of. one_passed h h2 xids xids env env2 s keeps m c (λ present seen. sees_none m c seen of) of) ms cs are
  where
    take_nothing : (n : ℕ) → take {A = Change} n [] ≡ []
    take_nothing zero = refl
    take_nothing (suc n) = refl

    sees_none : (m : KeptCursor) (c : machine.Cursor) → c.own ≡ take m.cursor.upto (session_own h s) → IsCursor h xids env s m c → m.cursor.upto ≡ 0
    sees_none m c seen of = of.upto ∙ ap (λ (l : List Change). length l) (seen ∙ ap (take m.cursor.upto) empty ∙ take_nothing m.cursor.upto)

-- of one without changes, whose cursors stay open
pub end_remembered : (h h2 : State) (xids : List Xid) (blocks : List (List ℕ)) (env2 : Env) (table : List KeptSession) (s : ℕ) → BlocksStand h xids blocks → Remembers h xids (env_of h.shape blocks) table → 1 ≤ s → s ≤ SESSIONS → session_own h s ≡ [] → EndsAs h s (cursors_of h s) h2 → KeepsIds h (env_of h.shape blocks) env2
    → Remembers h2 xids env2 (with_kept table s (kept.committed (kept_at table s)))
end_remembered h h2 xids blocks env2 table s stand is low high empty ends ids =
    ends_remembered h h2 xids blocks env2 table s (cursors_of h s) stand is low high ids ends (kept_at table s).cursors
    (λ keeps. cursors_ended h h2 xids (env_of h.shape blocks) env2 s empty keeps (kept_at table s).cursors (cursors_of h s) (is.each s low high).cursors)

-- a rollback: no change is kept, and the transaction ends
pub back_remembered : (h h2 : State) (xids : List Xid) (blocks : List (List ℕ)) (env2 : Env) (table : List KeptSession) (s : ℕ) → BlocksStand h xids blocks → Remembers h xids (env_of h.shape blocks) table → 1 ≤ s → s ≤ SESSIONS → EndsAs h s (left_open 0 (cursors_of h s)) h2 → KeepsIds h (env_of h.shape blocks) env2
    → Remembers h2 xids env2 (with_kept table s (kept.rolled_back (kept_at table s)))
back_remembered h h2 xids blocks env2 table s stand is low high ends ids =
    let env : Env = env_of h.shape blocks in
    let k : KeptSession = kept_at table s in
    let many : s ≤ length h.sessions = let n = is.as_many in omega (arith, n, high) in
    let cut : State = rolled_to h s [] 0 in
    let empty : session_own cut s ≡ [] = ap (λ (z : Session). z.own) (set_this h.sessions s (session_cut h s [] 0) low many) in
    ends_remembered h h2 xids blocks env2 table s (left_open 0 (cursors_of h s)) stand is low high ids ends (kept.left_open 0 k.cursors)
    (λ keeps. cursors_ended cut h2 xids env env2 s empty
    (record { shape = keeps.shape; base = keeps.base; rows = keeps.rows; more = keeps.more; list = keeps.list; ids = keeps.ids })
    (kept.left_open 0 k.cursors) (left_open 0 (cursors_of h s)) (cursors_cut h xids env env s [] 0 low (λ u t o. refl) many k.cursors (is.each s low high).cursors))
