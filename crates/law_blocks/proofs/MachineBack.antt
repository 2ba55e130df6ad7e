-- Putting back a session's last change, and the end of a transaction without one, keep what the machine's state stands for.
use Rattle.std.proofs.Common.{◌≡◌, ◌≢◌, ◌⊎◌, inl, inr, ◌<◌, ◌≤◌, ◌+◌, ◌-◌, ◌*◌, ◌/◌, ◌%◌, ◌++◌, ℕ, List, [], ◌∷◌, length, get_or, set, Option, Some, None, refl, sym, ◌∙◌, ap, subst, arith}
use Rattle.std.proofs.lemmas.Bool.{cases_eq}
use Rattle.std.proofs.lemmas.List.{get_or-set_same, get_or-set_other, length-set}
use Rattle.std.proofs.Math.Nat.{div-add-mod}
use Rattle.rb_base.specs.declared.sizes.TheConstants.{SLOTS}
use Rattle.rb_base.specs.declared.ids.Xid.{Xid}
use Rattle.rb_model.specs.Book.{Owner, Book, BookSlot, free_slot, fresh_book, book_at, left}
use Rattle.rb_model.specs.State.{State, Session, no_session, with_changes, session_own, owner_at}
use Rattle.rb_segment.specs.Books.{IsOwned, IsBook}
use Rattle.rb_segment.specs.Header.{Segment, slot_in, SegmentInOrder}
use Rattle.rb_segment.specs.Moves.{taken_back, ended, with_header, with_segment}
use Rattle.law_blocks.specs.NextStates.{after_end}
use Rattle.rb_model.specs.NextState.{with_own}
use Rattle.law_blocks.specs.Says.{says}
use Rattle.law_blocks.specs.States.{no_xid, InTables, owned, walk_change, newest_first, lives_of, past_of, Owns, BlocksStandAs}
use Rattle.law_blocks.specs.Values.{StandingAs, slot_of}
use Rattle.law_blocks.specs.Writes.{PutBack}
use Rattle.rb_txntable.specs.Slots.{no_slot}
use Rattle.rb_txntable.specs.declared.slots.TableSlot.{TableSlot}
use Rattle.rb_undoblock.specs.declared.record.UndoRecord.{UndoRecord}
use Rattle.law_home.specs.Walk.{Change, Home, Env, own}
use Rattle.rb_segment.proofs.BookMoves.{book_back, book_left}
use Rattle.rb_segment.proofs.WithSegment.{at_segment, off_segment}
use Rattle.law_blocks.proofs.Ids.{owner_of, active_of, made_later, all_front}
use Rattle.law_blocks.proofs.Machine.{newest_more, lives_set}
use Rattle.law_blocks.proofs.Seen.{one_slot, one_xid}
use Rattle.law_blocks.proofs.StandingBack.{standing_back, running_back, xid_back}
use Rattle.law_blocks.proofs.StandingDone.{standing_ended, running_ended}
use Rattle.law_blocks.proofs.StandingWritten.{slot_few}
use Rattle.law_blocks.proofs.States.{lives_owned}
use Rattle.rb_model.specs.Change as model

module _ (h : State) (xids : List Xid) (commit logged : ℕ) (segments : ℕ → Segment) (homes : ℕ → Home) (stand : BlocksStandAs h xids commit logged segments homes) (s t : ℕ) (t_in : t < SLOTS * h.shape.segments) (owns : Owns h s t) where
  abbrev G : ℕ
  G = t / SLOTS

  abbrev I : ℕ
  I = t % SLOTS

  abbrev Old : Env
  Old = says h.shape segments

  abbrev S : Segment
  S = segments G

  abbrev B : Book
  B = book_at h.books G

  g_in : G < h.shape.segments
  g_in = let a = div-add-mod t SLOTS in omega (arith, a, t_in)

  book : IsBook S.header B
  book = stand.tell.books G g_in

  s_in : (1 ≤ s) × (s ≤ length h.sessions)
  s_in = stand.tell.owner_there s t owns

  active : (slot_of segments t).state ≡ 1
  active = let is : IsOwned S.header (slot_in S.header I) (Some owns.owner) = subst (λ (z : Option Owner). IsOwned S.header (slot_in S.header I) z) owns.at (book.owners I (slot_few t)) in is.state

  not_mine : (v : ℕ) (o : Owner) → v ≢ t → owner_at h v ≡ Some o → o.session - 1 ≢ s - 1
  not_mine v o ne at is = let there = stand.tell.owner_there o.session v (record { owner = o; at = at; session = refl }) in ne (stand.tell.one_slot s v t (record { owner = o; at = at; session = omega (arith, is, there, s_in) }) owns)

  lives_mine : own (lives_of h Old) t ≡ newest_first h.shape (Old.xid t) 1 (session_own h s) []
  lives_mine = lives_owned h Old s t t_in owns

  in_order : SegmentInOrder commit logged S
  in_order = stand.stands.in_order G g_in

  -- the session's last change is the slot's newest
  pub newest_is : (front : List model.Change) (c : model.Change) → session_own h s ≡ front ++ c ∷ [] → own (lives_of h Old) t ≡ walk_change h.shape (Old.xid t) (1 + length front) c ∷ newest_first h.shape (Old.xid t) 1 front []
  newest_is front c is = lives_mine ∙ (ap (λ (z : List model.Change). newest_first h.shape (Old.xid t) 1 z []) is ∙ newest_more h.shape (Old.xid t) 1 front c [])

  -- the last change is put back
  module _ (homes2 : ℕ → Home) (after : ℕ → Segment) (u : UndoRecord) (put : PutBack h.shape segments after homes homes2 t u) (front : List model.Change) (c : model.Change) (own_is : session_own h s ≡ front ++ c ∷ []) where
    abbrev Next : State
    Next = with_own h s front

    abbrev New : Env
    New = says h.shape after

    has : own (lives_of h Old) t ≡ walk_change h.shape (Old.xid t) (1 + length front) c ∷ newest_first h.shape (Old.xid t) 1 front []
    has = newest_is front c own_is

    own_next : session_own Next s ≡ front
    own_next = ap (λ (z : Session). z.own) (get_or-set_same h.sessions (s - 1) (with_changes h s front) no_session (omega (arith, s_in)))

    own_other : (r : ℕ) → r - 1 ≢ s - 1 → session_own Next r ≡ session_own h r
    own_other r ne = ap (λ (z : Session). z.own) (get_or-set_other h.sessions (s - 1) (r - 1) (with_changes h s front) no_session ne)

    xids_same : (v : ℕ) → New.xid v ≡ Old.xid v
    xids_same v = xid_back h.shape commit logged segments homes (past_of h xids) (lives_of h Old) stand.stands homes2 t u t_in after put (walk_change h.shape (Old.xid t) (1 + length front) c) (newest_first h.shape (Old.xid t) 1 front []) has v

    lives_next : lives_of Next New ≡ set (lives_of h Old) t (newest_first h.shape (Old.xid t) 1 front [])
    lives_next = lives_set h Next Old New t (newest_first h.shape (Old.xid t) 1 front []) refl t_in mine others
      where
        mine : owned Next (New.xid t) (owner_at h t) ≡ newest_first h.shape (Old.xid t) 1 front []
        mine = ap (owned Next (New.xid t)) owns.at ∙ (ap (λ (z : ℕ). newest_first h.shape (New.xid t) 1 (session_own Next z) []) owns.session ∙ (ap (λ (z : List model.Change). newest_first h.shape (New.xid t) 1 z []) own_next ∙ ap (λ (z : Xid). newest_first h.shape z 1 front []) (xids_same t)))

        others : (v : ℕ) → v ≢ t → v < SLOTS * h.shape.segments → owned Next (New.xid v) (owner_at h v) ≡ owned h (Old.xid v) (owner_at h v)
        others v ne v_in = by (owner_at h v) refl
          where
            by : (o : Option Owner) → owner_at h v ≡ o → owned Next (New.xid v) o ≡ owned h (Old.xid v) o
            by None at = refl
            by (Some o) at = ap (λ (z : Xid). newest_first h.shape z 1 (session_own Next o.session) []) (xids_same v) ∙ ap (λ (z : List model.Change). newest_first h.shape (Old.xid v) 1 z []) (own_other o.session (not_mine v o ne at))

    books_next : (g : ℕ) → g < h.shape.segments → IsBook (after g).header (book_at h.books g)
    books_next g g_few = elim (cases_eq g G) [
      | inl at ↦ subst (λ (z : ℕ). IsBook (after z).header (book_at h.books z)) (sym at) (subst (λ (z : Segment). IsBook z.header B) (sym (put.others G ∙ at_segment G (with_header (taken_back I u.previous S.header) S) segments)) (book_back S.header B book in_order.header.slots_counted I u.previous (slot_few t)))
      | inr ne ↦ subst (λ (z : Segment). IsBook z.header (book_at h.books g)) (sym (put.others g ∙ off_segment G g (with_header (taken_back I u.previous S.header) S) segments ne)) (stand.tell.books g g_few)
    ]

    pub stands_back_as : BlocksStandAs Next xids commit (logged + 1) after homes2
    stands_back_as = record {
      tell = record {
        in_range = stand.tell.in_range;
        counted = stand.tell.counted;
        books_counted = stand.tell.books_counted;
        books = books_next;
        owner_there = λ r v now. let a = stand.tell.owner_there r v (record { owner = now.owner; at = now.at; session = now.session }) in let l = length-set h.sessions (s - 1) (with_changes h s front) in (a.0, omega (arith, a.1, l));
        one_slot = λ r v x one two. stand.tell.one_slot r v x (record { owner = one.owner; at = one.at; session = one.session }) (record { owner = two.owner; at = two.at; session = two.session });
        has_slot = λ r d more r_in is. elim (cases_eq (r - 1) (s - 1)) [
          | inl at ↦ let rs : r ≡ s = omega (arith, at, r_in, s_in) in (t, t_in, record { owner = owns.owner; at = owns.at; session = owns.session ∙ sym rs })
          | inr ne ↦ let f = stand.tell.has_slot r d more r_in (sym (own_other r ne) ∙ is) in (f.0, f.1, record { owner = f.2.owner; at = f.2.at; session = f.2.session })
        ];
        tables = λ r. elim (cases_eq (r - 1) (s - 1)) [
          | inl at ↦ subst (λ (z : ℕ). InTables h.shape (get_or Next.sessions z no_session).own) (sym at) (subst (InTables h.shape) (sym own_next) (all_front (λ (z : model.Change). (1 ≤ z.table) × (z.table ≤ h.shape.tables)) front (c ∷ []) (subst (InTables h.shape) own_is (stand.tell.tables s))))
          | inr ne ↦ subst (InTables h.shape) (sym (own_other r ne)) (stand.tell.tables r)
        ];
        commit_tables = stand.tell.commit_tables;
        ids_differ = stand.tell.ids_differ;
        ids_made = λ i i_in. made_later h.shape segments after (get_or xids i no_xid) (λ v. let a = ap (λ (z : Xid). z.wrap) (xids_same v) in omega (arith, a)) (stand.tell.ids_made i i_in);
        ids_over = λ i v i_in v_in now is. let o : (o : Owner) × (owner_at h v ≡ Some o) = owner_of Next after books_next v v_in now in stand.tell.ids_over i v i_in v_in (active_of h segments stand.tell.books v v_in o.0 o.1) (is ∙ xids_same v);
        running = running_back h.shape commit logged segments homes (past_of h xids) (lives_of h Old) stand.stands homes2 t u t_in after put (walk_change h.shape (Old.xid t) (1 + length front) c) (newest_first h.shape (Old.xid t) 1 front []) has stand.tell.running;
      };
      stands = subst (λ (z : List (List Change)). StandingAs h.shape commit (logged + 1) after homes2 (past_of h xids) z) (sym lives_next) (standing_back h.shape commit logged segments homes (past_of h xids) (lives_of h Old) stand.stands homes2 t u t_in after put (walk_change h.shape (Old.xid t) (1 + length front) c) (newest_first h.shape (Old.xid t) 1 front []) has);
    }

  -- the transaction ends, with no change left
  module _ (empty : session_own h s ≡ []) where
    abbrev Ended : State
    Ended = after_end h t

    abbrev S3 : Segment
    S3 = with_header (ended I S.header) S

    abbrev Then : ℕ → Segment
    Then = with_segment G S3 segments

    abbrev Last : Env
    Last = says h.shape Then

    none_live : own (lives_of h Old) t ≡ []
    none_live = lives_mine ∙ ap (λ (z : List model.Change). newest_first h.shape (Old.xid t) 1 z []) empty

    ended_book : book_at Ended.books G ≡ left I B
    ended_book = get_or-set_same h.books G (left I B) fresh_book (omega (arith, g_in, stand.tell.books_counted))

    still_book : (g : ℕ) → g ≢ G → book_at Ended.books g ≡ book_at h.books g
    still_book g ne = get_or-set_other h.books G g (left I B) fresh_book ne

    owner_gone : owner_at Ended t ≡ None
    owner_gone = ap (λ (z : Book). (get_or z.slots I free_slot).owner) ended_book ∙ ap (λ (z : BookSlot). z.owner) (get_or-set_same B.slots I (let y = get_or B.slots I free_slot in record y { owner = None }) free_slot (let a = slot_few t in omega (arith, a, book.slots)))

    owner_still : (v : ℕ) → v ≢ t → owner_at Ended v ≡ owner_at h v
    owner_still v ne = elim (cases_eq (v / SLOTS) G) [
      | inr off ↦ ap (λ (z : Book). (get_or z.slots (v % SLOTS) free_slot).owner) (still_book (v / SLOTS) off)
      | inl seg ↦
          let nj : v % SLOTS ≢ I = λ is. ne (one_slot v t seg is) in
          ap (λ (z : ℕ). (get_or (book_at Ended.books z).slots (v % SLOTS) free_slot).owner) seg ∙ (ap (λ (z : Book). (get_or z.slots (v % SLOTS) free_slot).owner) ended_book ∙ (ap (λ (z : BookSlot). z.owner) (get_or-set_other B.slots I (v % SLOTS) (let y = get_or B.slots I free_slot in record y { owner = None }) free_slot nj) ∙ ap (λ (z : ℕ). (get_or (book_at h.books z).slots (v % SLOTS) free_slot).owner) (sym seg)))
    ]

    -- each slot keeps its id
    pub wrap_still : (v : ℕ) → Last.xid v ≡ Old.xid v
    wrap_still v = one_xid (Last.xid v) (Old.xid v) refl refl (by (cases_eq (v / SLOTS) G))
      where
        here : (j : ℕ) → (slot_in (ended I S.header) j).wrap ≡ (slot_in S.header j).wrap
        here j = elim (cases_eq j I) [
          | inl at ↦ subst (λ (z : ℕ). (slot_in (ended I S.header) z).wrap ≡ (slot_in S.header z).wrap) (sym at) (ap (λ (z : TableSlot). z.wrap) (get_or-set_same S.header.slots I (let x = slot_in S.header I in record x { state = 3 }) no_slot (let a = slot_few t in omega (arith, a, in_order.header.slots_counted))))
          | inr ne ↦ ap (λ (z : TableSlot). z.wrap) (get_or-set_other S.header.slots I j (let x = slot_in S.header I in record x { state = 3 }) no_slot ne)
        ]

        by : ((v / SLOTS ≡ G) ⊎ (v / SLOTS ≢ G)) → (slot_in (Then (v / SLOTS)).header (v % SLOTS)).wrap ≡ (slot_in (segments (v / SLOTS)).header (v % SLOTS)).wrap
        by (inr off) = ap (λ (z : Segment). (slot_in z.header (v % SLOTS)).wrap) (off_segment G (v / SLOTS) S3 segments off)
        by (inl seg) = ap (λ (z : ℕ). (slot_in (Then z).header (v % SLOTS)).wrap) seg ∙ (ap (λ (z : Segment). (slot_in z.header (v % SLOTS)).wrap) (at_segment G S3 segments) ∙ (here (v % SLOTS) ∙ ap (λ (z : ℕ). (slot_in (segments z).header (v % SLOTS)).wrap) (sym seg)))

    lives_then : lives_of Ended Last ≡ set (lives_of h Old) t []
    lives_then = lives_set h Ended Old Last t [] refl t_in (ap (owned Ended (Last.xid t)) owner_gone) others
      where
        others : (v : ℕ) → v ≢ t → v < SLOTS * h.shape.segments → owned Ended (Last.xid v) (owner_at Ended v) ≡ owned h (Old.xid v) (owner_at h v)
        others v ne v_in = ap (owned Ended (Last.xid v)) (owner_still v ne) ∙ by (owner_at h v)
          where
            by : (o : Option Owner) → owned Ended (Last.xid v) o ≡ owned h (Old.xid v) o
            by None = refl
            by (Some o) = ap (λ (z : Xid). newest_first h.shape z 1 (session_own h o.session) []) (wrap_still v)

    was : (r v : ℕ) → Owns Ended r v → Owns h r v
    was r v now = elim (cases_eq v t) [
      | inl at ↦ let none : owner_at Ended v ≡ None = ap (owner_at Ended) at ∙ owner_gone in let some : owner_at Ended v ≡ Some now.owner = now.at in absurd (cc)
      | inr ne ↦ record { owner = now.owner; at = sym (owner_still v ne) ∙ now.at; session = now.session }
    ]

    books_then : (g : ℕ) → g < h.shape.segments → IsBook (Then g).header (book_at Ended.books g)
    books_then g g_few = elim (cases_eq g G) [
      | inl at ↦ subst (λ (z : ℕ). IsBook (Then z).header (book_at Ended.books z)) (sym at) (subst (λ (z : Segment). IsBook z.header (book_at Ended.books G)) (sym (at_segment G S3 segments)) (subst (λ (z : Book). IsBook (ended I S.header) z) (sym ended_book) (book_left S.header B book in_order.header.slots_counted I (slot_few t))))
      | inr ne ↦ subst (λ (z : Segment). IsBook z.header (book_at Ended.books g)) (sym (off_segment G g S3 segments ne)) (subst (λ (z : Book). IsBook (segments g).header z) (sym (still_book g ne)) (stand.tell.books g g_few))
    ]

    pub stands_ended : BlocksStandAs Ended xids commit (logged + 1) Then homes
    stands_ended = record {
      tell = record {
        in_range = stand.tell.in_range;
        counted = stand.tell.counted;
        books_counted = simp length-set stand.tell.books_counted;
        books = books_then;
        owner_there = λ r v now. stand.tell.owner_there r v (was r v now);
        one_slot = λ r v x one two. stand.tell.one_slot r v x (was r v one) (was r x two);
        has_slot = λ r d more r_in is.
            let f = stand.tell.has_slot r d more r_in is in
            let vt : f.0 ≢ t = λ at.
            let mine : Owns h r t = subst (λ (z : ℕ). Owns h r z) at f.2 in
            let one : Some mine.owner ≡ Some owns.owner = sym mine.at ∙ owns.at in
            let who : mine.owner ≡ owns.owner = cc in
            let rs : r ≡ s = sym mine.session ∙ (ap (λ (z : Owner). z.session) who ∙ owns.session) in
            let none : session_own h r ≡ [] = ap (session_own h) rs ∙ empty in
            let some : session_own h r ≡ d ∷ more = is in
            cc in
            (f.0, f.1, record { owner = f.2.owner; at = owner_still f.0 vt ∙ f.2.at; session = f.2.session });
        tables = stand.tell.tables;
        commit_tables = stand.tell.commit_tables;
        ids_differ = stand.tell.ids_differ;
        ids_made = λ i i_in. made_later h.shape segments Then (get_or xids i no_xid) (λ v. let a = ap (λ (z : Xid). z.wrap) (wrap_still v) in omega (arith, a)) (stand.tell.ids_made i i_in);
        ids_over = λ i v i_in v_in now is. let o : (o : Owner) × (owner_at Ended v ≡ Some o) = owner_of Ended Then books_then v v_in now in
            let before : Owns h o.0.session v = was o.0.session v (record { owner = o.0; at = o.1; session = refl }) in
            stand.tell.ids_over i v i_in v_in (active_of h segments stand.tell.books v v_in before.owner before.at) (is ∙ wrap_still v);
        running = running_ended h.shape commit logged segments homes (past_of h xids) (lives_of h Old) stand.stands t t_in active none_live stand.tell.running;
      };
      stands = subst (λ (z : List (List Change)). StandingAs h.shape commit (logged + 1) Then homes (past_of h xids) z) (sym lives_then) (standing_ended h.shape commit logged segments homes (past_of h xids) (lives_of h Old) stand.stands t t_in active none_live);
    }
