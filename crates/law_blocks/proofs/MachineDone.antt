-- A commit with changes, and the end of a transaction without one, keep what the machine's state stands for.
use Rattle.std.proofs.Common.{◌≡◌, ◌≢◌, ◌⊎◌, inl, inr, ◌<◌, ◌≤◌, ◌+◌, ◌-◌, ◌*◌, ◌/◌, ◌%◌, ◌++◌, ℕ, List, [], ◌∷◌, length, get_or, set, Option, Some, None, refl, sym, ◌∙◌, ap, subst, arith}
use Rattle.std.proofs.lemmas.Bool.{cases_eq, cases_lt}
use Rattle.std.proofs.lemmas.List.{get_or-set_same, get_or-set_other, length-set, length-append, get_or_append_left}
use Rattle.std.proofs.Math.Seq.{get_or-append_seam}
use Rattle.std.proofs.Math.Nat.{div-add-mod}
use Rattle.rb_base.specs.declared.sizes.TheConstants.{SLOTS}
use Rattle.rb_base.specs.declared.ids.Xid.{Xid}
use Rattle.rb_base.specs.declared.shape.Shape.{Shape}
use Rattle.rb_model.specs.Book.{Owner, Book, BookSlot, free_slot, fresh_book, book_at, finished}
use Rattle.rb_model.specs.State.{State, Session, Cursor, no_session, session_own, owner_at}
use Rattle.rb_segment.specs.Books.{IsOwned, IsBook}
use Rattle.rb_segment.specs.Header.{Segment, slot_in}
use Rattle.rb_segment.specs.Moves.{committed, with_header, with_segment}
use Rattle.law_blocks.specs.NextStates.{after_commit}
use Rattle.law_blocks.specs.Says.{says}
use Rattle.law_blocks.specs.States.{no_xid, InTables, IsMade, owned, newest_first, lives_of, commits_from, past_of, Owns, BlocksStandAs}
use Rattle.law_blocks.specs.Values.{Past, StandingAs, slot_of}
use Rattle.law_blocks.specs.Writes.{committed_past}
use Rattle.rb_txntable.specs.Slots.{no_slot}
use Rattle.rb_txntable.specs.declared.slots.TableSlot.{TableSlot}
use Rattle.law_home.specs.Walk.{Change, Commit, Home, Env, own, last}
use Rattle.rb_base.proofs.Each.{all_push}
use Rattle.rb_segment.proofs.BookMoves.{book_finished}
use Rattle.rb_segment.proofs.WithSegment.{at_segment, off_segment}
use Rattle.law_blocks.proofs.Ids.{owner_of, active_of, made_later}
use Rattle.law_blocks.proofs.Machine.{commits_more, lives_set}
use Rattle.law_blocks.proofs.Seen.{one_slot, one_xid}
use Rattle.law_blocks.proofs.StandingDone.{standing_committed, running_committed}
use Rattle.law_blocks.proofs.StandingWritten.{slot_few}
use Rattle.law_blocks.proofs.States.{lives_owned}
use Rattle.rb_model.specs.Change as model

pub last_commits : (shape : Shape) (n : ℕ) (list : List (List model.Change)) (xids : List Xid) (before : List Commit) → length xids ≡ length list → last n before ≡ n → last n (commits_from shape (n + 1) list xids before) ≡ n + length list
last_commits shape n list xids before long at = by list xids n before long at
  where
    -- the base may be any number, once there is a commit
    by : (list : List (List model.Change)) (xids : List Xid) (m : ℕ) (before : List Commit) → length xids ≡ length list → last n before ≡ m → last n (commits_from shape (m + 1) list xids before) ≡ m + length list
    by [] xids m before long at = omega (arith, at)
    by (c ∷ list) [] m before long at = absurd (omega (arith, long))
    by (c ∷ list) (x ∷ xids) m before long at = let h : last n (commits_from shape (m + 1 + 1) list xids (record { xid = x; number = m + 1; changes = newest_first shape x 1 c [] } ∷ before)) ≡ m + 1 + length list = by list xids (m + 1) (record { xid = x; number = m + 1; changes = newest_first shape x 1 c [] } ∷ before) (omega (arith, long)) refl in omega (arith, h)

module _ (h : State) (xids : List Xid) (commit logged : ℕ) (segments : ℕ → Segment) (homes : ℕ → Home) (stand : BlocksStandAs h xids commit logged segments homes) (s t : ℕ) (t_in : t < SLOTS * h.shape.segments) (owns : Owns h s t) (logs : commit ≤ logged) (cursors : List Cursor) where
  abbrev G : ℕ
  G = t / SLOTS

  abbrev I : ℕ
  I = t % SLOTS

  abbrev Old : Env
  Old = says h.shape segments

  abbrev S : Segment
  S = segments G

  abbrev B : Book
  B = book_at h.books G

  abbrev N : ℕ
  N = commit + 1

  abbrev Next : State
  Next = after_commit h s t N cursors

  abbrev After : ℕ → Segment
  After = with_segment G (with_header (committed N I S.header) S) segments

  abbrev New : Env
  New = says h.shape After

  g_in : G < h.shape.segments
  g_in = let a = div-add-mod t SLOTS in omega (arith, a, t_in)

  book : IsBook S.header B
  book = stand.tell.books G g_in

  active : (slot_of segments t).state ≡ 1
  active = let is : IsOwned S.header (slot_in S.header I) (Some owns.owner) = subst (λ (z : Option Owner). IsOwned S.header (slot_in S.header I) z) owns.at (book.owners I (slot_few t)) in is.state

  s_in : (1 ≤ s) × (s ≤ length h.sessions)
  s_in = stand.tell.owner_there s t owns

  next_book : book_at Next.books G ≡ finished N I B
  next_book = get_or-set_same h.books G (finished N I B) fresh_book (omega (arith, g_in, stand.tell.books_counted))

  other_book : (g : ℕ) → g ≢ G → book_at Next.books g ≡ book_at h.books g
  other_book g ne = get_or-set_other h.books G g (finished N I B) fresh_book ne

  owner_own : owner_at Next t ≡ None
  owner_own = ap (λ (z : Book). (get_or z.slots I free_slot).owner) next_book ∙ ap (λ (z : BookSlot). z.owner) (get_or-set_same B.slots I (record { newest = N; owner = None }) free_slot (let a = slot_few t in omega (arith, a, book.slots)))

  owner_other : (v : ℕ) → v ≢ t → owner_at Next v ≡ owner_at h v
  owner_other v ne = elim (cases_eq (v / SLOTS) G) [
    | inr off ↦ ap (λ (z : Book). (get_or z.slots (v % SLOTS) free_slot).owner) (other_book (v / SLOTS) off)
    | inl seg ↦
        let nj : v % SLOTS ≢ I = λ is. ne (one_slot v t seg is) in
        ap (λ (z : ℕ). (get_or (book_at Next.books z).slots (v % SLOTS) free_slot).owner) seg ∙ (ap (λ (z : Book). (get_or z.slots (v % SLOTS) free_slot).owner) next_book ∙ (ap (λ (z : BookSlot). z.owner) (get_or-set_other B.slots I (v % SLOTS) (record { newest = N; owner = None }) free_slot nj) ∙ ap (λ (z : ℕ). (get_or (book_at h.books z).slots (v % SLOTS) free_slot).owner) (sym seg)))
  ]

  own_other : (r : ℕ) → r - 1 ≢ s - 1 → session_own Next r ≡ session_own h r
  own_other r ne = ap (λ (z : Session). z.own) (get_or-set_other h.sessions (s - 1) (r - 1) (record no_session { cursors = cursors }) no_session ne)

  own_none : session_own Next s ≡ []
  own_none = ap (λ (z : Session). z.own) (get_or-set_same h.sessions (s - 1) (record no_session { cursors = cursors }) no_session (omega (arith, s_in)))

  not_mine : (v : ℕ) (o : Owner) → v ≢ t → owner_at h v ≡ Some o → o.session ≢ s
  not_mine v o ne at is = ne (stand.tell.one_slot s v t (record { owner = o; at = at; session = is }) owns)

  -- each slot keeps its id
  pub xid_same : (v : ℕ) → New.xid v ≡ Old.xid v
  xid_same v = one_xid (New.xid v) (Old.xid v) refl refl (by (cases_eq (v / SLOTS) G))
    where
      wrap_same : (j : ℕ) → (slot_in (committed N I S.header) j).wrap ≡ (slot_in S.header j).wrap
      wrap_same j = elim (cases_eq j I) [
        | inl at ↦ subst (λ (z : ℕ). (slot_in (committed N I S.header) z).wrap ≡ (slot_in S.header z).wrap) (sym at) (ap (λ (z : TableSlot). z.wrap) (get_or-set_same S.header.slots I (let x = slot_in S.header I in record x { state = 2; newest = N }) no_slot (let a = slot_few t in omega (arith, a, (stand.stands.in_order G g_in).header.slots_counted))))
        | inr ne ↦ ap (λ (z : TableSlot). z.wrap) (get_or-set_other S.header.slots I j (let x = slot_in S.header I in record x { state = 2; newest = N }) no_slot ne)
      ]

      by : ((v / SLOTS ≡ G) ⊎ (v / SLOTS ≢ G)) → (slot_in (After (v / SLOTS)).header (v % SLOTS)).wrap ≡ (slot_in (segments (v / SLOTS)).header (v % SLOTS)).wrap
      by (inr off) = ap (λ (z : Segment). (slot_in z.header (v % SLOTS)).wrap) (off_segment G (v / SLOTS) (with_header (committed N I S.header) S) segments off)
      by (inl seg) = ap (λ (z : ℕ). (slot_in (After z).header (v % SLOTS)).wrap) seg ∙ (ap (λ (z : Segment). (slot_in z.header (v % SLOTS)).wrap) (at_segment G (with_header (committed N I S.header) S) segments) ∙ (wrap_same (v % SLOTS) ∙ ap (λ (z : ℕ). (slot_in (segments z).header (v % SLOTS)).wrap) (sym seg)))

  owned_other : (v : ℕ) → v ≢ t → v < SLOTS * h.shape.segments → owned Next (New.xid v) (owner_at Next v) ≡ owned h (Old.xid v) (owner_at h v)
  owned_other v ne v_in = ap (owned Next (New.xid v)) (owner_other v ne) ∙ by (owner_at h v) refl
    where
      by : (o : Option Owner) → owner_at h v ≡ o → owned Next (New.xid v) o ≡ owned h (Old.xid v) o
      by None at = refl
      by (Some o) at =
          let there = stand.tell.owner_there o.session v (record { owner = o; at = at; session = refl }) in
          let other : o.session - 1 ≢ s - 1 = λ is. not_mine v o ne at (omega (arith, is, there, s_in)) in
          ap (λ (z : Xid). newest_first h.shape z 1 (session_own Next o.session) []) (xid_same v) ∙ ap (λ (z : List model.Change). newest_first h.shape (Old.xid v) 1 z []) (own_other o.session other)

  lives_next : lives_of Next New ≡ set (lives_of h Old) t []
  lives_next = lives_set h Next Old New t [] refl t_in (ap (owned Next (New.xid t)) owner_own) owned_other

  -- the commit's changes are what its slot had live
  lives_mine : own (lives_of h Old) t ≡ newest_first h.shape (Old.xid t) 1 (session_own h s) []
  lives_mine = lives_owned h Old s t t_in owns

  past_next : past_of Next (xids ++ Old.xid t ∷ []) ≡ committed_past segments t N (past_of h xids) (lives_of h Old)
  past_next =
      let number : h.commits.base + 1 + length h.commits.list ≡ N = let a = last_commits h.shape h.commits.base h.commits.list xids [] stand.tell.counted refl in omega (arith, a, stand.stands.number) in
      let list : commits_from h.shape (h.commits.base + 1) (h.commits.list ++ session_own h s ∷ []) (xids ++ Old.xid t ∷ []) [] ≡ record { xid = Old.xid t; number = h.commits.base + 1 + length h.commits.list; changes = newest_first h.shape (Old.xid t) 1 (session_own h s) [] } ∷ commits_from h.shape (h.commits.base + 1) h.commits.list xids [] = commits_more h.shape (h.commits.base + 1) h.commits.list xids (session_own h s) (Old.xid t) [] stand.tell.counted in
      ap (λ (z : List Commit). let p : Past = record { base = h.commits.base; rows = h.commits.rows; list = z } in p) (list
      ∙ (ap (λ (z : ℕ). (let c : Commit = record { xid = Old.xid t; number = z; changes = newest_first h.shape (Old.xid t) 1 (session_own h s) [] } in c) ∷ commits_from h.shape (h.commits.base + 1) h.commits.list xids []) number
      ∙ ap (λ (z : List Change). (let c : Commit = record { xid = Old.xid t; number = N; changes = z } in c) ∷ commits_from h.shape (h.commits.base + 1) h.commits.list xids []) (sym lives_mine)))

  was : (r v : ℕ) → Owns Next r v → Owns h r v
  was r v now = elim (cases_eq v t) [
    | inl at ↦ let none : owner_at Next v ≡ None = ap (owner_at Next) at ∙ owner_own in let some : owner_at Next v ≡ Some now.owner = now.at in absurd (cc)
    | inr ne ↦ record { owner = now.owner; at = sym (owner_other v ne) ∙ now.at; session = now.session }
  ]

  -- an id of the commits is one of before, or that of this commit
  among : (i : ℕ) → i < length (xids ++ Old.xid t ∷ []) → ((i < length xids) × (get_or (xids ++ Old.xid t ∷ []) i no_xid ≡ get_or xids i no_xid)) ⊎ ((i ≡ length xids) × (get_or (xids ++ Old.xid t ∷ []) i no_xid ≡ Old.xid t))
  among i i_in = elim (cases_lt i (length xids)) [
    | inl old ↦ inl (old, get_or_append_left xids (Old.xid t ∷ []) no_xid i old)
    | inr past ↦
        let at : i ≡ length xids = let long = length-append xids (Old.xid t ∷ []) in omega (arith, past, i_in, long) in
        inr (at, ap (λ (z : ℕ). get_or (xids ++ Old.xid t ∷ []) z no_xid) at ∙ get_or-append_seam xids (Old.xid t) [] no_xid)
  ]

  -- what another session owns is another slot
  not_here : (r v : ℕ) → r - 1 ≢ s - 1 → Owns h r v → v ≢ t
  not_here r v ne other at = let mine : Owns h r t = subst (λ (z : ℕ). Owns h r z) at other in let one : Some mine.owner ≡ Some owns.owner = sym mine.at ∙ owns.at in let who : mine.owner ≡ owns.owner = cc in ne (ap (λ (z : ℕ). z - 1) (sym mine.session ∙ (ap (λ (z : Owner). z.session) who ∙ owns.session)))

  still_owns : (r v : ℕ) → r - 1 ≢ s - 1 → Owns h r v → Owns Next r v
  still_owns r v ne other = record { owner = other.owner; at = owner_other v (not_here r v ne other) ∙ other.at; session = other.session }

  books_next : (g : ℕ) → g < h.shape.segments → IsBook (After g).header (book_at Next.books g)
  books_next g g_few = elim (cases_eq g G) [
    | inl at ↦ subst (λ (z : ℕ). IsBook (After z).header (book_at Next.books z)) (sym at) (subst (λ (z : Segment). IsBook z.header (book_at Next.books G)) (sym (at_segment G (with_header (committed N I S.header) S) segments)) (subst (λ (z : Book). IsBook (committed N I S.header) z) (sym next_book)
        (let o = stand.stands.in_order G g_in in book_finished S.header B book commit o.header o.numbers.count o.numbers.begun N I (slot_few t) active)))
    | inr ne ↦ subst (λ (z : Segment). IsBook z.header (book_at Next.books g)) (sym (off_segment G g (with_header (committed N I S.header) S) segments ne)) (subst (λ (z : Book). IsBook (segments g).header z) (sym (other_book g ne)) (stand.tell.books g g_few))
  ]

  pub stands_committed : BlocksStandAs Next (xids ++ Old.xid t ∷ []) N (logged + 1) After homes
  stands_committed = record {
    tell = record {
      in_range = stand.tell.in_range;
      counted = let a = length-append xids (Old.xid t ∷ []) in let b = length-append h.commits.list (session_own h s ∷ []) in omega (arith, a, b, stand.tell.counted);
      books_counted = simp length-set stand.tell.books_counted;
      books = books_next;
      owner_there = λ r v now. let a = stand.tell.owner_there r v (was r v now) in let l = length-set h.sessions (s - 1) (let z : Session = record no_session { cursors = cursors } in z) in (a.0, omega (arith, a.1, l));
      one_slot = λ r v x one two. stand.tell.one_slot r v x (was r v one) (was r x two);
      has_slot = λ r d more r_in is.
          let ne : r - 1 ≢ s - 1 = λ at. let rs : r ≡ s = omega (arith, at, r_in, s_in) in let none : session_own Next r ≡ [] = ap (session_own Next) rs ∙ own_none in let some : session_own Next r ≡ d ∷ more = is in cc in
          let f = stand.tell.has_slot r d more r_in (sym (own_other r ne) ∙ is) in
          (f.0, f.1, still_owns r f.0 ne f.2);
      tables = λ r. elim (cases_eq (r - 1) (s - 1)) [
        | inl at ↦ subst (λ (z : ℕ). InTables h.shape (get_or Next.sessions z no_session).own) (sym at) (subst (InTables h.shape) (sym own_none) tt)
        | inr ne ↦ subst (InTables h.shape) (sym (own_other r ne)) (stand.tell.tables r)
      ];
      commit_tables = all_push (InTables h.shape) h.commits.list (session_own h s) stand.tell.commit_tables (stand.tell.tables s);
      ids_differ = λ i j i_in j_in same. elim (among i i_in) [
        | inl old ↦ elim (among j j_in) [
          | inl other ↦ stand.tell.ids_differ i j old.0 other.0 (sym old.1 ∙ (same ∙ other.1))
          | inr new ↦ absurd (stand.tell.ids_over i t old.0 t_in active (sym old.1 ∙ (same ∙ new.1)))
        ]
        | inr new ↦ elim (among j j_in) [
          | inl other ↦ absurd (stand.tell.ids_over j t other.0 t_in active (sym other.1 ∙ (sym same ∙ new.1)))
          | inr again ↦ new.0 ∙ sym again.0
        ]
      ];
      ids_made = λ i i_in. made_later h.shape segments After (get_or (xids ++ Old.xid t ∷ []) i no_xid) (λ v. let a = ap (λ (z : Xid). z.wrap) (xid_same v) in omega (arith, a)) (elim (among i i_in) [
        | inl old ↦ subst (IsMade h.shape segments) (sym old.1) (stand.tell.ids_made i old.0)
        | inr new ↦ subst (IsMade h.shape segments) (sym new.1) (record { slot = t; within = t_in; at = (refl, refl); wrap = omega arith })
      ]);
      ids_over = λ i v i_in v_in now is.
          let o : (o : Owner) × (owner_at Next v ≡ Some o) = owner_of Next After books_next v v_in now in
          let before : Owns h o.0.session v = was o.0.session v (record { owner = o.0; at = o.1; session = refl }) in
          let here : get_or (xids ++ Old.xid t ∷ []) i no_xid ≡ Old.xid v = is ∙ xid_same v in
          elim (among i i_in) [
            | inl old ↦ stand.tell.ids_over i v old.0 v_in (active_of h segments stand.tell.books v v_in before.owner before.at) (sym old.1 ∙ here)
            | inr new ↦
                let both : Old.xid t ≡ Old.xid v = sym new.1 ∙ here in
                let at : v ≡ t = one_slot v t (sym (ap (λ (z : Xid). z.seg) both)) (sym (ap (λ (z : Xid). z.slot) both)) in
                let none : owner_at Next v ≡ None = ap (owner_at Next) at ∙ owner_own in
                let some : owner_at Next v ≡ Some o.0 = o.1 in
                cc
          ];
      running = running_committed h.shape commit logged segments homes (past_of h xids) (lives_of h Old) stand.stands t t_in active stand.tell.running N (omega arith) (omega (arith, logs));
    };
    stands = subst (λ (z : Past). StandingAs h.shape N (logged + 1) After homes z (lives_of Next New)) (sym past_next) (subst (λ (z : List (List Change)). StandingAs h.shape N (logged + 1) After homes (committed_past segments t N (past_of h xids) (lives_of h Old)) z) (sym lives_next) (standing_committed h.shape commit logged segments homes (past_of h xids) (lives_of h Old) stand.stands t t_in active stand.tell.running N (omega arith) (omega (arith, logs))));
  }
