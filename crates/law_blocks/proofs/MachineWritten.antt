-- A write keeps what the machine's state stands for.
use Rattle.std.proofs.Common.{◌≡◌, ◌≢◌, ◌⊎◌, inl, inr, ◌<◌, ◌≤◌, ◌==◌, ◌+◌, ◌-◌, ◌*◌, ◌/◌, ◌%◌, ◌++◌, ℕ, max, Bool, true, false, if◌then◌else◌, List, [], ◌∷◌, length, get_or, set, Option, Some, None, refl, sym, ◌∙◌, ap, subst, arith}
use Rattle.std.proofs.lemmas.Bool.{cases_eq}
use Rattle.std.proofs.lemmas.Bool.Decides.{nat_tests}
use Rattle.std.proofs.lemmas.List.{get_or-set_same, get_or-set_other, length-set}
use Rattle.std.proofs.Math.Nat.{div-add-mod}
use Rattle.rb_base.specs.declared.sizes.TheConstants.{SLOTS}
use Rattle.rb_base.specs.Blocks.{home_block}
use Rattle.rb_base.specs.declared.ids.Uba.{Uba}
use Rattle.rb_base.specs.declared.ids.Xid.{Xid}
use Rattle.rb_model.specs.Book.{Owner, Book, BookSlot, free_slot, fresh_book, book_at, needs_turn, is_pinned, oldest_number, later_numbers, touches, turned, marked, taken, turn_of}
use Rattle.rb_model.specs.Change.{Kind, Place}
use Rattle.rb_model.specs.State.{State, Session, no_session, with_changes, session_own, owner_at}
use Rattle.rb_segment.specs.Books.{IsOwned, IsBook}
use Rattle.rb_segment.specs.Header.{Segment, slot_in}
use Rattle.rb_segment.specs.MoveLaws.{book_ready}
use Rattle.law_blocks.specs.NextStates.{Takes, SameChange, after_write}
use Rattle.law_blocks.specs.Says.{says, walk_undo, place_of}
use Rattle.law_blocks.specs.States.{no_xid, InTables, IsMade, owned, walk_change, newest_first, lives_of, past_of, Owns, BlocksStandAs}
use Rattle.law_blocks.specs.Values.{StandingAs, slot_of}
use Rattle.law_blocks.specs.Writes.{Written, change_made}
use Rattle.rb_txntable.specs.declared.slots.TableSlot.{TableSlot}
use Rattle.rb_undoblock.specs.declared.record.UndoRecord.{UndoRecord}
use Rattle.law_home.specs.Walk.{Change, Home, Env, own}
use Rattle.rb_base.proofs.Each.{all_push}
use Rattle.rb_segment.proofs.BookWritten.{book_written}
use Rattle.rb_segment.proofs.SegmentWritten.{slot_claimed, written_ages, own_slot}
use Rattle.rb_segment.proofs.WithSegment.{at_segment, off_segment}
use Rattle.law_blocks.proofs.Ids.{owner_of, active_of, made_later}
use Rattle.law_blocks.proofs.Machine.{newest_more, lives_set}
use Rattle.law_blocks.proofs.Seen.{one_slot, one_xid}
use Rattle.law_blocks.proofs.StandingWritten.{slot_few, keeps_of, running_of, wraps_rise, standing_written, running_written}
use Rattle.law_blocks.proofs.States.{length_newest, lives_at}
use Rattle.rb_model.specs.Change as model

-- a turn leaves the slots
turned_slots : (b : Book) → (turned b).slots ≡ b.slots
turned_slots b = by (needs_turn b) (is_pinned b)
  where
    by : (n p : Bool) → (if n then (if p then record b { turns = b.turns ++ 0 ∷ [] } else record b { lost = max b.lost (oldest_number b.turns); turns = later_numbers b.turns ++ 0 ∷ [] }) else b).slots ≡ b.slots
    by true true = refl
    by true false = refl
    by false p = refl

-- marking leaves the owners of the other slots, and gives the one a turn more
marked_other : (i j : ℕ) (b : Book) → j ≢ i → (get_or (marked i b).slots j free_slot).owner ≡ (get_or b.slots j free_slot).owner
marked_other i j b ne = ap (λ (z : BookSlot). z.owner) (get_or-set_other (turned b).slots i j (let s = get_or (turned b).slots i free_slot in record s { owner = touches (turn_of ((turned b).writes + 1)) s.owner }) free_slot ne) ∙ ap (λ (z : List BookSlot). (get_or z j free_slot).owner) (turned_slots b)

marked_own : (i : ℕ) (b : Book) → i < length b.slots → (get_or (marked i b).slots i free_slot).owner ≡ touches (turn_of ((turned b).writes + 1)) (get_or b.slots i free_slot).owner
marked_own i b within =
    ap (λ (z : BookSlot). z.owner) (get_or-set_same (turned b).slots i (let s = get_or (turned b).slots i free_slot in record s { owner = touches (turn_of ((turned b).writes + 1)) s.owner }) free_slot (subst (λ (z : List BookSlot). i < length z) (sym (turned_slots b)) within))
    ∙ ap (λ (z : List BookSlot). touches (turn_of ((turned b).writes + 1)) (get_or z i free_slot).owner) (turned_slots b)

module _ (h : State) (xids : List Xid) (commit logged : ℕ) (segments : ℕ → Segment) (homes : ℕ → Home) (stand : BlocksStandAs h xids commit logged segments homes) (after : ℕ → Segment) (homes2 : ℕ → Home) (s t : ℕ) (c : model.Change) (kind : Kind) (address : Uba) (u : UndoRecord) (t_in : t < SLOTS * h.shape.segments) (s_in : (1 ≤ s) × (s ≤ length h.sessions)) (takes : Takes h segments s t) (w : Written h.shape commit segments after homes homes2 (lives_of h (says h.shape segments)) t kind address u) (same : SameChange h.shape c kind address u) where
  abbrev G : ℕ
  G = t / SLOTS

  abbrev I : ℕ
  I = t % SLOTS

  abbrev State0 : ℕ
  State0 = (slot_of segments t).state

  abbrev Next : State
  Next = after_write h s t State0 c

  abbrev Old : Env
  Old = says h.shape segments

  abbrev New : Env
  New = says h.shape after

  abbrev B : Book
  B = book_at h.books G

  g_in : G < h.shape.segments
  g_in = let a = div-add-mod t SLOTS in omega (arith, a, t_in)

  i_few : I < SLOTS
  i_few = slot_few t

  book : IsBook (segments G).header B
  book = stand.tell.books G g_in

  abbrev B2 : Book
  B2 = marked I (book_ready s I State0 B)

  next_book : book_at Next.books G ≡ B2
  next_book = get_or-set_same h.books G B2 fresh_book (omega (arith, g_in, stand.tell.books_counted))

  other_book : (g : ℕ) → g ≢ G → book_at Next.books g ≡ book_at h.books g
  other_book g ne = get_or-set_other h.books G g B2 fresh_book ne

  -- the slots but this one have their owners still
  ready_other : (j : ℕ) → j ≢ I → (get_or (book_ready s I State0 B).slots j free_slot).owner ≡ (get_or B.slots j free_slot).owner
  ready_other j ne = by (State0 == 1)
    where
      by : (x : Bool) → (get_or (if x then B else taken s I B).slots j free_slot).owner ≡ (get_or B.slots j free_slot).owner
      by true = refl
      by false = ap (λ (z : BookSlot). z.owner) (get_or-set_other B.slots I j (let y = get_or B.slots I free_slot in record y { owner = Some (record { session = s; start = B.writes; touched = [] }) }) free_slot ne)

  owner_other : (v : ℕ) → v ≢ t → owner_at Next v ≡ owner_at h v
  owner_other v ne = elim (cases_eq (v / SLOTS) G) [
    | inr off ↦ ap (λ (z : Book). (get_or z.slots (v % SLOTS) free_slot).owner) (other_book (v / SLOTS) off)
    | inl seg ↦
        let nj : v % SLOTS ≢ I = λ is. ne (one_slot v t seg is) in
        ap (λ (z : ℕ). (get_or (book_at Next.books z).slots (v % SLOTS) free_slot).owner) seg ∙ (ap (λ (z : Book). (get_or z.slots (v % SLOTS) free_slot).owner) next_book ∙ (marked_other I (v % SLOTS) (book_ready s I State0 B) nj ∙ (ready_other (v % SLOTS) nj ∙ ap (λ (z : ℕ). (get_or (book_at h.books z).slots (v % SLOTS) free_slot).owner) (sym seg))))
  ]

  -- and this one is the session's
  ready_own : (o : Owner) × ((get_or (book_ready s I State0 B).slots I free_slot).owner ≡ Some o) × (o.session ≡ s)
  ready_own = elim takes [
    | inl owns ↦
        let is : IsOwned (segments G).header (slot_in (segments G).header I) (Some owns.owner) = subst (λ (z : Option Owner). IsOwned (segments G).header (slot_in (segments G).header I) z) owns.at (book.owners I i_few) in
        let one : State0 ≡ 1 = is.state in
        let test : (State0 == 1) ≡ true = grind (arith, nat_tests) in
        (owns.owner, rw test owns.at, owns.session)
    | inr free ↦
        let not : State0 ≢ 1 = free.0 in
        let test : (State0 == 1) ≡ false = grind (arith, nat_tests) in
        (record { session = s; start = B.writes; touched = [] }, rw test (ap (λ (z : BookSlot). z.owner) (get_or-set_same B.slots I (let y = get_or B.slots I free_slot in record y { owner = Some (record { session = s; start = B.writes; touched = [] }) }) free_slot (omega (arith, i_few, book.slots)))), refl)
  ]

  ready_slots : length (book_ready s I State0 B).slots ≡ SLOTS
  ready_slots = by (State0 == 1)
    where
      by : (x : Bool) → length (if x then B else taken s I B).slots ≡ SLOTS
      by true = book.slots
      by false = simp length-set book.slots

  pub owner_own : (o : Owner) × (owner_at Next t ≡ Some o) × (o.session ≡ s)
  owner_own = let r = ready_own in (
    record r.0 { touched = turn_of ((turned (book_ready s I State0 B)).writes + 1) ∷ r.0.touched },
    ap (λ (z : Book). (get_or z.slots I free_slot).owner) next_book ∙ (marked_own I (book_ready s I State0 B) (omega (arith, i_few, ready_slots)) ∙ ap (touches (turn_of ((turned (book_ready s I State0 B)).writes + 1))) r.1),
    r.2,
  )

  -- the sessions' own changes
  own_next : session_own Next s ≡ session_own h s ++ c ∷ []
  own_next = ap (λ (z : Session). z.own) (get_or-set_same h.sessions (s - 1) (with_changes h s (session_own h s ++ c ∷ [])) no_session (omega (arith, s_in)))

  own_other : (v : ℕ) → v - 1 ≢ s - 1 → session_own Next v ≡ session_own h v
  own_other v ne = ap (λ (z : Session). z.own) (get_or-set_other h.sessions (s - 1) (v - 1) (with_changes h s (session_own h s ++ c ∷ [])) no_session ne)

  -- whoever owns another slot is another session
  not_mine : (v : ℕ) (o : Owner) → v ≢ t → owner_at h v ≡ Some o → o.session ≢ s
  not_mine v o ne at is = elim takes [
    | inl owns ↦ ne (stand.tell.one_slot s v t (record { owner = o; at = at; session = is }) owns)
    | inr free ↦ free.1 v (record { owner = o; at = at; session = is })
  ]

  -- a slot that is owned keeps its id
  pub xid_stays : (v : ℕ) (o : Owner) → v < SLOTS * h.shape.segments → owner_at h v ≡ Some o → New.xid v ≡ Old.xid v
  xid_stays v o v_in at = one_xid (New.xid v) (Old.xid v) refl refl (wrap_stays (cases_eq (v / SLOTS) G))
    where
      v_book : IsBook (segments (v / SLOTS)).header (book_at h.books (v / SLOTS))
      v_book = let a = div-add-mod v SLOTS in stand.tell.books (v / SLOTS) (omega (arith, a, v_in))

      active : (slot_of segments v).state ≡ 1
      active =
          let is : IsOwned (segments (v / SLOTS)).header (slot_in (segments (v / SLOTS)).header (v % SLOTS)) (Some o) = subst (λ (z : Option Owner). IsOwned (segments (v / SLOTS)).header (slot_in (segments (v / SLOTS)).header (v % SLOTS)) z) at (v_book.owners (v % SLOTS) (slot_few v)) in
          is.state

      wrap_stays : ((v / SLOTS ≡ G) ⊎ (v / SLOTS ≢ G)) → (slot_in (after (v / SLOTS)).header (v % SLOTS)).wrap ≡ (slot_in (segments (v / SLOTS)).header (v % SLOTS)).wrap
      wrap_stays (inr off) = ap (λ (z : Segment). (slot_in z.header (v % SLOTS)).wrap) (w.others (v / SLOTS) ∙ off_segment G (v / SLOTS) w.segment segments off)
      wrap_stays (inl seg) =
          let here : (slot_in (segments G).header (v % SLOTS)).state ≡ 1 = subst (λ (z : ℕ). (slot_in (segments z).header (v % SLOTS)).state ≡ 1) seg active in
          let stays : (slot_in w.segment.header (v % SLOTS)).wrap ≡ (slot_in (segments G).header (v % SLOTS)).wrap = (written_ages (segments G) I address u w.segment w.records commit logged (stand.stands.in_order G g_in) i_few (keeps_of h.shape commit logged segments homes (past_of h xids) (lives_of h Old) stand.stands stand.tell.running G g_in) (running_of h.shape commit logged segments homes (past_of h xids) (lives_of h Old) stand.stands stand.tell.running G g_in) w.slot w.wrap).wrap (v % SLOTS) here in
          ap (λ (z : ℕ). (slot_in (after z).header (v % SLOTS)).wrap) seg ∙ (ap (λ (z : Segment). (slot_in z.header (v % SLOTS)).wrap) (w.others G ∙ at_segment G w.segment segments) ∙ (stays ∙ ap (λ (z : ℕ). (slot_in (segments z).header (v % SLOTS)).wrap) (sym seg)))

  -- what other slots have live is what they had
  owned_other : (v : ℕ) → v ≢ t → v < SLOTS * h.shape.segments → owned Next (New.xid v) (owner_at Next v) ≡ owned h (Old.xid v) (owner_at h v)
  owned_other v ne v_in = ap (owned Next (New.xid v)) (owner_other v ne) ∙ by (owner_at h v) refl
    where
      by : (o : Option Owner) → owner_at h v ≡ o → owned Next (New.xid v) o ≡ owned h (Old.xid v) o
      by None at = refl
      by (Some o) at =
          let there = stand.tell.owner_there o.session v (record { owner = o; at = at; session = refl }) in
          let other : o.session - 1 ≢ s - 1 = λ is. not_mine v o ne at (omega (arith, is, there, s_in)) in
          ap (λ (z : Xid). newest_first h.shape z 1 (session_own Next o.session) []) (xid_stays v o v_in at) ∙ ap (λ (z : List model.Change). newest_first h.shape (Old.xid v) 1 z []) (own_other o.session other)

  -- the session's own, as its slot's live changes
  lives_mine : own (lives_of h Old) t ≡ newest_first h.shape (New.xid t) 1 (session_own h s) []
  lives_mine = lives_at h Old t t_in ∙ elim takes [
    | inl owns ↦
        ap (owned h (Old.xid t)) owns.at ∙ (ap (λ (z : ℕ). newest_first h.shape (Old.xid t) 1 (session_own h z) []) owns.session ∙ ap (λ (z : Xid). newest_first h.shape z 1 (session_own h s) []) (sym (xid_stays t owns.owner t_in owns.at)))
    | inr free ↦
        let nobody : owner_at h t ≡ None = by_none (owner_at h t) (book.owners I i_few) free.0 in
        let nothing : session_own h s ≡ [] = by_empty (session_own h s) refl free.1 in
        ap (owned h (Old.xid t)) nobody ∙ ap (λ (z : List model.Change). newest_first h.shape (New.xid t) 1 z []) (sym nothing)
  ]
    where
      by_none : (o : Option Owner) → IsOwned (segments G).header (slot_in (segments G).header I) o → State0 ≢ 1 → o ≡ None
      by_none None is not = refl
      by_none (Some o) is not = absurd (not is.state)

      by_empty : (cs : List model.Change) → session_own h s ≡ cs → ((v : ℕ) → Owns h s v → ⊥) → cs ≡ []
      by_empty [] is none = refl
      by_empty (d ∷ more) is none = let f = stand.tell.has_slot s d more s_in.0 is in absurd (none f.0 f.2)

  abbrev Made : Change
  Made = change_made h.shape t kind address u

  -- the model's change as the walk's is the one made
  change_is : walk_change h.shape (New.xid t) (1 + length (session_own h s)) c ≡ Made
  change_is = changes (home_block h.shape c.table c.key) u.home c.place (place_of h.shape address) (New.xid t) (walk_undo h.shape G u).xid (1 + length (session_own h s)) u.number c.key u.key c.kind kind (sym same.home) same.place (sym w.reads.xid) number (sym same.key) same.kind_is
    where
      number : 1 + length (session_own h s) ≡ u.number
      number = let a = ap length lives_mine in let b = length_newest h.shape (New.xid t) 1 (session_own h s) [] in omega (arith, a, b, w.number)

      changes : (a a2 : ℕ) (b b2 : Place) (x x2 : Xid) (n n2 k k2 : ℕ) (d d2 : Kind) → a ≡ a2 → b ≡ b2 → x ≡ x2 → n ≡ n2 → k ≡ k2 → d ≡ d2 → (let one : Change = record { home = a; place = b; xid = x; number = n; key = k; kind = d } in one) ≡ record { home = a2; place = b2; xid = x2; number = n2; key = k2; kind = d2 }
      changes a a2 b b2 x x2 n n2 k k2 d d2 p q r i j l = cc

  lives_next : lives_of Next New ≡ set (lives_of h Old) t (Made ∷ own (lives_of h Old) t)
  lives_next = lives_set h Next Old New t (Made ∷ own (lives_of h Old) t) refl t_in mine owned_other
    where
      mine : owned Next (New.xid t) (owner_at Next t) ≡ Made ∷ own (lives_of h Old) t
      mine =
          ap (owned Next (New.xid t)) owner_own.1
          ∙ (ap (λ (z : ℕ). newest_first h.shape (New.xid t) 1 (session_own Next z) []) owner_own.2
          ∙ (ap (λ (z : List model.Change). newest_first h.shape (New.xid t) 1 z []) own_next
          ∙ (newest_more h.shape (New.xid t) 1 (session_own h s) c []
          ∙ (ap (λ (z : Change). z ∷ newest_first h.shape (New.xid t) 1 (session_own h s) []) change_is ∙ ap (λ (z : List Change). Made ∷ z) (sym lives_mine)))))

  -- who owns what after the write
  owns_next : (v r : ℕ) → Owns Next r v → ((v ≡ t) × (r ≡ s)) ⊎ ((v ≢ t) × Owns h r v)
  owns_next v r owns = elim (cases_eq v t) [
    | inl at ↦
        let here : owner_at Next t ≡ Some owns.owner = ap (owner_at Next) (sym at) ∙ owns.at in
        let one : Some owner_own.0 ≡ Some owns.owner = sym owner_own.1 ∙ here in
        let who : owner_own.0 ≡ owns.owner = cc in
        inl (at, sym owns.session ∙ (ap (λ (z : Owner). z.session) (sym who) ∙ owner_own.2))
    | inr ne ↦ inr (ne, record { owner = owns.owner; at = sym (owner_other v ne) ∙ owns.at; session = owns.session })
  ]

  owned_before : (v : ℕ) → v ≢ t → Owns h s v → ⊥
  owned_before v ne owns = not_mine v owns.owner ne owns.at owns.session

  -- nobody else owned the slot
  only_mine : (r : ℕ) → Owns h r t → r ≡ s
  only_mine r owns = elim takes [
    | inl mine ↦ let one : Some owns.owner ≡ Some mine.owner = sym owns.at ∙ mine.at in let who : owns.owner ≡ mine.owner = cc in sym owns.session ∙ (ap (λ (z : Owner). z.session) who ∙ mine.session)
    | inr free ↦ let is : IsOwned (segments G).header (slot_in (segments G).header I) (Some owns.owner) = subst (λ (z : Option Owner). IsOwned (segments G).header (slot_in (segments G).header I) z) owns.at (book.owners I i_few) in absurd (free.0 is.state)
  ]

  books_next : (g : ℕ) → g < h.shape.segments → IsBook (after g).header (book_at Next.books g)
  books_next g g_few = elim (cases_eq g G) [
    | inl at ↦ subst (λ (z : ℕ). IsBook (after z).header (book_at Next.books z)) (sym at) (subst (λ (z : Segment). IsBook z.header (book_at Next.books G)) (sym (w.others G ∙ at_segment G w.segment segments)) (subst (λ (z : Book). IsBook w.segment.header z) (sym next_book)
        (book_written (segments G) I address u w.segment w.records commit logged (stand.stands.in_order G g_in) i_few (keeps_of h.shape commit logged segments homes (past_of h xids) (lives_of h Old) stand.stands stand.tell.running G g_in) (running_of h.shape commit logged segments homes (past_of h xids) (lives_of h Old) stand.stands stand.tell.running G g_in) w.slot w.wrap s B book)))
    | inr ne ↦ subst (λ (z : Segment). IsBook z.header (book_at Next.books g)) (sym (w.others g ∙ off_segment G g w.segment segments ne)) (subst (λ (z : Book). IsBook (segments g).header z) (sym (other_book g ne)) (stand.tell.books g g_few))
  ]

  -- a slot that is taken has the next wrap
  taken_wrap : State0 ≢ 1 → (slot_of after t).wrap ≡ (slot_of segments t).wrap + 1
  taken_wrap idle =
      ap (λ (z : Segment). (slot_in z.header I).wrap) (w.others G ∙ at_segment G w.segment segments)
      ∙ (ap (λ (z : TableSlot). z.wrap) (own_slot (segments G) I address u w.segment w.records commit logged (stand.stands.in_order G g_in) i_few (keeps_of h.shape commit logged segments homes (past_of h xids) (lives_of h Old) stand.stands stand.tell.running G g_in) (running_of h.shape commit logged segments homes (past_of h xids) (lives_of h Old) stand.stands stand.tell.running G g_in) w.slot w.wrap)
      ∙ elim w.records.is_ready [
        | inl same_one ↦ absurd (idle same_one.0)
        | inr free ↦ ap (λ (z : TableSlot). z.wrap) (slot_claimed (segments G) I address u w.segment w.records commit logged (stand.stands.in_order G g_in) i_few (keeps_of h.shape commit logged segments homes (past_of h xids) (lives_of h Old) stand.stands stand.tell.running G g_in) (running_of h.shape commit logged segments homes (past_of h xids) (lives_of h Old) stand.stands stand.tell.running G g_in) w.slot w.wrap free.0 free.1)
      ])

  -- no commit is of a slot that is Active now: one that was taken has an id that was never made
  over_next : (i v : ℕ) → i < length xids → v < SLOTS * h.shape.segments → (slot_of after v).state ≡ 1 → get_or xids i no_xid ≢ New.xid v
  over_next i v i_in v_in active is = elim (cases_eq v t) [
    | inl at ↦ let here : get_or xids i no_xid ≡ New.xid t = is ∙ ap New.xid at in elim takes [
      | inl owns ↦ stand.tell.ids_over i t i_in t_in (active_of h segments stand.tell.books t t_in owns.owner owns.at) (here ∙ xid_stays t owns.owner t_in owns.at)
      | inr free ↦
          let m : IsMade h.shape segments (get_or xids i no_xid) = stand.tell.ids_made i i_in in
          let at_t : m.slot ≡ t = one_slot m.slot t (sym m.at.0 ∙ ap (λ (z : Xid). z.seg) here) (sym m.at.1 ∙ ap (λ (z : Xid). z.slot) here) in
          let wrap : (get_or xids i no_xid).wrap ≡ (slot_of segments t).wrap + 1 = ap (λ (z : Xid). z.wrap) here ∙ taken_wrap free.0 in
          let old : (slot_of segments m.slot).wrap ≡ (slot_of segments t).wrap = ap (λ (z : ℕ). (slot_of segments z).wrap) at_t in
          let le = m.wrap in
          omega (arith, wrap, old, le)
    ]
    | inr ne ↦
        let o : (o : Owner) × (owner_at Next v ≡ Some o) = owner_of Next after books_next v v_in active in
        let was : owner_at h v ≡ Some o.0 = sym (owner_other v ne) ∙ o.1 in
        stand.tell.ids_over i v i_in v_in (active_of h segments stand.tell.books v v_in o.0 was) (is ∙ xid_stays v o.0 v_in was)
  ]

  pub stands_written : BlocksStandAs Next xids commit (logged + 1) after homes2
  stands_written = record {
    tell = record {
      in_range = stand.tell.in_range;
      counted = stand.tell.counted;
      books_counted = simp length-set stand.tell.books_counted;
      books = books_next;
      owner_there = λ r v owns. elim (owns_next v r owns) [
        | inl mine ↦ let l = length-set h.sessions (s - 1) (with_changes h s (session_own h s ++ c ∷ [])) in (omega (arith, mine.1, s_in), omega (arith, mine.1, s_in, l))
        | inr old ↦ let a = stand.tell.owner_there r v old.1 in let l = length-set h.sessions (s - 1) (with_changes h s (session_own h s ++ c ∷ [])) in (a.0, omega (arith, a.1, l))
      ];
      one_slot = λ r v x one two. elim (owns_next v r one) [
        | inl mine ↦ elim (owns_next x r two) [
          | inl again ↦ mine.0 ∙ sym again.0
          | inr old ↦ absurd (owned_before x old.0 (subst (λ (z : ℕ). Owns h z x) mine.1 old.1))
        ]
        | inr old ↦ elim (owns_next x r two) [
          | inl mine ↦ absurd (owned_before v old.0 (subst (λ (z : ℕ). Owns h z v) mine.1 old.1))
          | inr again ↦ stand.tell.one_slot r v x old.1 again.1
        ]
      ];
      has_slot = λ r d more r_in is. elim (cases_eq (r - 1) (s - 1)) [
        | inl at ↦ elim (cases_eq r s) [
          | inl rs ↦ (t, t_in, record { owner = owner_own.0; at = owner_own.1; session = owner_own.2 ∙ sym rs })
          | inr rn ↦ absurd (rn (omega (arith, at, r_in, s_in)))
        ]
        | inr ne ↦ let f = stand.tell.has_slot r d more r_in (sym (own_other r ne) ∙ is) in
            let vt : f.0 ≢ t = λ at. ne (ap (λ (z : ℕ). z - 1) (only_mine r (subst (λ (z : ℕ). Owns h r z) at f.2))) in
            (f.0, f.1, record { owner = f.2.owner; at = owner_other f.0 vt ∙ f.2.at; session = f.2.session })
      ];
      tables = λ r. elim (cases_eq (r - 1) (s - 1)) [
        | inl at ↦ subst (λ (z : ℕ). InTables h.shape (get_or Next.sessions z no_session).own) (sym at) (subst (InTables h.shape) (sym own_next) (all_push (λ (z : model.Change). (1 ≤ z.table) × (z.table ≤ h.shape.tables)) (session_own h s) c (stand.tell.tables s) same.table))
        | inr ne ↦ subst (InTables h.shape) (sym (own_other r ne)) (stand.tell.tables r)
      ];
      commit_tables = stand.tell.commit_tables;
      ids_differ = stand.tell.ids_differ;
      ids_made = λ i i_in. made_later h.shape segments after (get_or xids i no_xid) (λ v. wraps_rise h.shape commit logged segments homes (past_of h xids) (lives_of h Old) stand.stands stand.tell.running homes2 t kind address u t_in after w (v / SLOTS) (v % SLOTS)) (stand.tell.ids_made i i_in);
      ids_over = over_next;
      running = running_written h.shape commit logged segments homes (past_of h xids) (lives_of h Old) stand.stands stand.tell.running homes2 t kind address u t_in after w;
    };
    stands = subst (λ (z : List (List Change)). StandingAs h.shape commit (logged + 1) after homes2 (past_of h xids) z) (sym lives_next) (standing_written h.shape commit logged segments homes (past_of h xids) (lives_of h Old) stand.stands stand.tell.running homes2 t kind address u t_in after w);
  }
