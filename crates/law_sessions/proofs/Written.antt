-- The table remembers a write.
use Rattle.std.proofs.Common.{◌≡◌, ◌≢◌, inl, inr, ◌≤◌, ◌+◌, ◌-◌, ◌*◌, ◌%◌, ◌^◌, ℕ, Bool, true, false, if◌then◌else◌, List, [], ◌∷◌, ◌++◌, length, min, take, Some, None, refl, sym, ◌∙◌, ap, subst, arith, append-nil, length-append}
use Rattle.std.proofs.lemmas.List.{length-set, take-append-le}
use Rattle.rb_base.specs.declared.sizes.TheConstants.{SLOTS}
use Rattle.rb_ring.specs.declared.extents.TheConstants.{EXTENTS, EXTENT_RECORDS}
use Rattle.rb_base.specs.declared.ids.Xid.{Xid}
use Rattle.law_crash.specs.Made.{KeepsIds}
use Rattle.law_crash.proofs.Owners.{owns_of}
use Rattle.rb_model.specs.Book.{Book, BookSlot, Owner, IsBegun, book_at, marked, slot_owner, taken}
use Rattle.rb_model.specs.Calls.{WritesIn, has_slot}
use Rattle.rb_model.specs.Change.{Change}
use Rattle.rb_model.specs.NextState.{written}
use Rattle.rb_model.specs.State.{Session, State, owner_at, session_of, session_own, with_changes}
use Rattle.rb_model.proofs.BookLemmas.{slots_kept}
use Rattle.rb_sessions.specs.Kept.{KeptSession, kept_at, with_kept, wrote}
use Rattle.rb_sessions.specs.declared.sessions.TheConstants.{SESSIONS}
use Rattle.law_blocks.specs.Standing.{env_of}
use Rattle.law_blocks.specs.States.{BlocksStand, Owns}
use Rattle.law_write.specs.Verdict.{IsOwnId}
use Rattle.law_sessions.specs.Views.{AreCursors, IsSession, Remembers}
use Rattle.law_sessions.proofs.Few.{session_few}
use Rattle.law_sessions.proofs.Lasting.{Keeps, Stays, cursor_stays}
use Rattle.law_sessions.proofs.Owning.{Is, is_place, owner_else, place_of}
use Rattle.law_sessions.proofs.Tables.{Moves, cursors_last, set_others, set_this, table_last}
use Rattle.law_home.specs.Walk.{Env}

module _ (h : State) (xids : List Xid) (blocks now : List (List ℕ)) (s g i : ℕ) (c : Change) (x : Xid) (stand : BlocksStand h xids blocks) (low : 1 ≤ s) (high : s ≤ length h.sessions) (writes : WritesIn h s g i) (stands : BlocksStand (written h s g i c) xids now)
    (id : IsOwnId (written h s g i c) (env_of h.shape now) s (Some x)) (ids : KeepsIds h (env_of h.shape blocks) (env_of h.shape now)) where
  abbrev h2 : State
  h2 = written h s g i c

  abbrev env : Env
  env = env_of h.shape blocks

  abbrev env2 : Env
  env2 = env_of h.shape now

  abbrev ready : Book
  ready = if has_slot h s g i then book_at h.books g else taken s i (book_at h.books g)

  kept : (j : ℕ) → j ≢ i → slot_owner (marked i ready) j ≡ slot_owner (book_at h.books g) j
  kept j ne = ap (λ (z : BookSlot). z.owner) (slots_kept s 0 i j ready ne).0 ∙ by (has_slot h s g i)
    where
      by : (has : Bool) → slot_owner (if has then book_at h.books g else taken s i (book_at h.books g)) j ≡ slot_owner (book_at h.books g) j
      by true = refl
      by false = ap (λ (z : BookSlot). z.owner) (slots_kept s 0 i j (book_at h.books g) ne).1

  else_same : (t : ℕ) → (Is g i t → ⊥) → owner_at h2 t ≡ owner_at h t
  else_same = owner_else h h2 g i (marked i ready) refl kept

  -- the slot in which the write is made was the session's, or nobody's
  was_own : (t : ℕ) → Is g i t → (o : Owner) → owner_at h t ≡ Some o → o.session ≡ s
  was_own t at o is = by writes
    where
      by : WritesIn h s g i → o.session ≡ s
      by (inl owned) =
          let mine : Owns h s (SLOTS * g + i) = owns_of h s g i owned in
          let both : Some mine.owner ≡ Some o = sym mine.at ∙ (ap (owner_at h) (sym (place_of g i t at)) ∙ is) in
          let same : mine.owner ≡ o = cc in
          ap (λ (z : Owner). z.session) (sym same) ∙ mine.session
      by (inr begins) =
          let read : owner_at h t ≡ slot_owner (book_at h.books g) i = ap (λ (z : ℕ). slot_owner (book_at h.books z) (t % SLOTS)) at.0 ∙ ap (λ (z : ℕ). slot_owner (book_at h.books g) z) at.1 in
          let begun : IsBegun h.books g i = begins.1 in
          let clash : None ≡ Some o = sym begun.slot.free ∙ (sym read ∙ is) in
          absurd cc

  -- a slot that the session has is that one
  own_there : (t : ℕ) → Owns h s t → t ≡ SLOTS * g + i
  own_there t o = by writes
    where
      by : WritesIn h s g i → t ≡ SLOTS * g + i
      by (inl owned) = stand.tell.one_slot s t (SLOTS * g + i) o (owns_of h s g i owned)
      by (inr begins) = absurd (begins.0 t o.owner o.at o.session)

  -- so is the slot that it has then
  abbrev its : (t : ℕ) × Owns h2 s t × (x ≡ env2.xid t)
  its = id.owned x refl

  its_there : (t : ℕ) → Owns h2 s t → (Is g i t → ⊥) → Owns h s t
  its_there t o ne = record { owner = o.owner; at = sym (else_same t ne) ∙ o.at; session = o.session }

  still : (t : ℕ) → Owns h s t → Owns h2 s t
  still t o = elim (is_place g i its.0) [
    | inl at ↦ subst (λ (z : ℕ). Owns h2 s z) (place_of g i its.0 at ∙ sym (own_there t o)) its.1
    | inr ne ↦ subst (λ (z : ℕ). Owns h2 s z) (stand.tell.one_slot s its.0 t (its_there its.0 its.1 ne) o) its.1
  ]

  now_own : (t : ℕ) → Is g i t → (o : Owner) → owner_at h2 t ≡ Some o → o.session ≡ s
  now_own t at o is =
      let same : its.0 ≡ t = elim (is_place g i its.0) [
        | inl there ↦ place_of g i its.0 there ∙ sym (place_of g i t at)
        | inr ne ↦ own_there its.0 (its_there its.0 its.1 ne) ∙ sym (place_of g i t at)
      ] in
      let mine : Owns h2 s t = subst (λ (z : ℕ). Owns h2 s z) same its.1 in
      let both : Some mine.owner ≡ Some o = sym mine.at ∙ is in
      let one : mine.owner ≡ o = cc in
      ap (λ (z : Owner). z.session) (sym one) ∙ mine.session

  keeps : Keeps h h2 xids xids
  keeps = record { shape = refl; base = refl; rows = refl; more = []; list = sym (append-nil h.commits.list); ids = λ j lt. refl }

  moves : Moves h h2 xids xids env env2 s
  moves = record {
    keeps = keeps;
    counted = length-set h.sessions (s - 1) (with_changes h s (session_own h s ++ c ∷ []));
    others = λ u u_low ne. set_others h.sessions s u (with_changes h s (session_own h s ++ c ∷ [])) low u_low ne;
    owns = λ u t ne o. record { owner = o.owner; at = else_same t (λ at. ne (sym o.session ∙ was_own t at o.owner o.at)) ∙ o.at; session = o.session };
    owned = λ u t ne o. record { owner = o.owner; at = sym (else_same t (λ at. ne (sym o.session ∙ now_own t at o.owner o.at))) ∙ o.at; session = o.session };
    ids = ids;
  }

  session : session_of h2 s ≡ with_changes h s (session_own h s ++ c ∷ [])
  session = set_this h.sessions s (with_changes h s (session_own h s ++ c ∷ [])) low high

  own_is : session_own h2 s ≡ session_own h s ++ c ∷ []
  own_is = ap (λ (z : Session). z.own) session

  own_session : (k : KeptSession) → IsSession h xids env s k → IsSession h2 xids env2 s (wrote x k)
  own_session k is = record {
    isolation = is.isolation ∙ ap (λ (z : Session). z.isolation) (sym session);
    snapshot = is.snapshot;
    id = id;
    count =
        let n = ap (λ (l : List Change). length l) own_is in
        let m = length-append (session_own h s) (c ∷ []) in
        let few = session_few h2 xids now stands s low in
        let was = is.count in
        counted k.count (length (session_own h2 s)) (omega (arith, n, m, was)) few;
    savepoints = is.savepoints ∙ ap (λ (z : Session). z.savepoints) (sym session);
    cursors = subst (λ (z : Session). AreCursors h2 xids env2 s k.cursors z.cursors) (sym session)
        (cursors_last h h2 xids xids env env2 s (λ m cursor. cursor_stays h h2 xids xids env env2 s keeps m cursor (λ present. stays m.cursor.upto)) k.cursors (session_of h s).cursors is.cursors);
  }
    where
      counted : (count n : ℕ) → count + 1 ≡ n → n ≤ (EXTENTS * EXTENT_RECORDS) → min (count + 1) (2 ^ 32 - 1) ≡ n
      counted count n is few = omega (arith, is, few)

      stays : (upto : ℕ) → Stays h h2 env env2 s upto
      stays upto = record {
        owns = still;
        xid = λ t o. ids s t o;
        own = λ le. ap (take upto) own_is ∙ take-append-le upto (session_own h s) (c ∷ []) le;
      }

  pub written_remembered : (table : List KeptSession) → s ≤ SESSIONS → Remembers h xids env table → Remembers h2 xids env2 (with_kept table s (wrote x (kept_at table s)))
  written_remembered table few is = table_last h h2 xids xids env env2 s moves table (wrote x (kept_at table s)) low few is (own_session (kept_at table s) (is.each s low few))
