-- A write of a segment is one of its book: the slot is taken where the transaction has none, and then marked.
use Rattle.std.proofs.Common.{◌≡◌, ◌≢◌, ◌⊎◌, inl, inr, ◌<◌, ◌≤◌, ◌==◌, ◌+◌, ◌*◌, ℕ, true, false, Some, refl, sym, ◌∙◌, ap, subst, arith}
use Rattle.std.proofs.lemmas.Bool.{cases_eq}
use Rattle.std.proofs.lemmas.Bool.Decides.{nat_tests}
use Rattle.rb_base.specs.declared.sizes.TheConstants.{SLOTS}
use Rattle.rb_ring.specs.declared.extents.TheConstants.{EXTENT_RECORDS}
use Rattle.rb_base.specs.declared.ids.Uba.{Uba}
use Rattle.rb_model.specs.Book.{Book, needs_turn, is_pinned, is_full, turn_of}
use Rattle.rb_segment.specs.Books.{IsBook}
use Rattle.rb_segment.specs.Header.{Header, Segment, slot_in, head_turn, extent_with, HeaderInOrder, SegmentInOrder}
use Rattle.rb_segment.specs.MoveLaws.{book_ready}
use Rattle.rb_segment.specs.Moves.{with_record, Records}
use Rattle.rb_segment.specs.Running.{KeepsRecords, RunningSlot}
use Rattle.rb_txntable.specs.declared.slots.TableSlot.{TableSlot}
use Rattle.rb_undoblock.specs.declared.record.UndoRecord.{UndoRecord}
use Rattle.rb_segment.proofs.BookMoves.{book_taken, book_turned, book_added}
use Rattle.rb_segment.proofs.Books.{needs_is}
use Rattle.rb_segment.proofs.Recording.{claimed_other}
use Rattle.rb_segment.proofs.SegmentWritten.{claimed_order, turned_order, ready, room, room_slot, going_slot, slot_claimed}
use Rattle.rb_model.specs.Book as model

module _ (s : Segment) (i : ℕ) (address : Uba) (u : UndoRecord) (s2 : Segment) (records : Records s i address u s2) (commit logged : ℕ) (order : SegmentInOrder commit logged s) (within : i < SLOTS) (keeps : (j : ℕ) → (slot_in s.header j).state ≡ 1 → KeepsRecords s j) (running : (j : ℕ) → (slot_in s.header j).state ≡ 1 → RunningSlot s.header (slot_in s.header j)) (of : u.slot ≡ i) (wrap : u.wrap ≡ (slot_in s2.header i).wrap) (session : ℕ) (b : Book) (book : IsBook s.header b) where
  abbrev Ready : Segment
  Ready = records.ready

  abbrev Room : Segment
  Room = records.room

  abbrev B : Book
  B = book_ready session i (slot_in s.header i).state b

  ready_book : IsBook Ready.header B
  ready_book = elim records.is_ready [
    | inl own ↦ let test : ((slot_in s.header i).state == 1) ≡ true = let a : (slot_in s.header i).state ≡ 1 = own.0 in grind (arith, nat_tests) in rw test (subst (λ (z : Segment). IsBook z.header b) (sym own.1) book)
    | inr free ↦ let test : ((slot_in s.header i).state == 1) ≡ false = let a : (slot_in s.header i).state ≢ 1 = free.0 in grind (arith, nat_tests) in rw test (subst (λ (z : Segment). IsBook z.header (model.taken session i b)) (sym free.1) (book_taken s.header b book order.header.slots_counted session i within free.0))
  ]

  ready_order : HeaderInOrder commit Ready.header
  ready_order = elim records.is_ready [
    | inl own ↦ subst (λ (z : Segment). HeaderInOrder commit z.header) (sym own.1) order.header
    | inr free ↦ subst (λ (z : Segment). HeaderInOrder commit z.header) (sym free.1) (claimed_order commit i s.header within order.header)
  ]

  -- the numbers of the ring stay
  same_ring : (Ready.header.writes ≡ s.header.writes) × (Ready.header.records ≡ s.header.records) × (head_turn Ready.header ≡ head_turn s.header)
  same_ring = elim records.is_ready [
    | inl own ↦ (ap (λ (z : Segment). z.header.writes) own.1, ap (λ (z : Segment). z.header.records) own.1, ap (λ (z : Segment). head_turn z.header) own.1)
    | inr free ↦ (ap (λ (z : Segment). z.header.writes) free.1, ap (λ (z : Segment). z.header.records) free.1, ap (λ (z : Segment). head_turn z.header) free.1)
  ]

  count : Ready.header.writes + 2 * EXTENT_RECORDS ≡ EXTENT_RECORDS * head_turn Ready.header + Ready.header.records
  count = omega (arith, same_ring.0, same_ring.1, same_ring.2, order.numbers.count)

  begun : Ready.header.records ≡ 0 → Ready.header.writes ≡ 0
  begun none = same_ring.0 ∙ order.numbers.begun (sym same_ring.1 ∙ none)

  -- a slot that is Active now was, or is the one that was taken
  was_active : (j : ℕ) → (slot_in Ready.header j).state ≡ 1 → ((slot_in s.header j).state ≡ 1) ⊎ (((slot_in Ready.header j).touched ≡ 0) × ((slot_in Ready.header j).start ≡ s.header.writes))
  was_active j active = elim records.is_ready [
    | inl own ↦ inl (ap (λ (z : Segment). (slot_in z.header j).state) (sym own.1) ∙ active)
    | inr free ↦ elim (cases_eq j i) [
      | inl at ↦
          let slot = slot_claimed s i address u s2 records commit logged order within keeps running of wrap free.0 free.1 in
          inr (ap (λ (z : ℕ). (slot_in Ready.header z).touched) at ∙ ap (λ (z : TableSlot). z.touched) slot, ap (λ (z : ℕ). (slot_in Ready.header z).start) at ∙ ap (λ (z : TableSlot). z.start) slot)
      | inr ne ↦ inl (ap (λ (z : TableSlot). z.state) (sym (ap (λ (z : Segment). slot_in z.header j) free.1 ∙ claimed_other s.header i j ne)) ∙ active)
    ]
  ]

  firsts : (j : ℕ) → j < SLOTS → (slot_in Ready.header j).state ≡ 1 → (slot_in Ready.header j).touched ≢ 0 → ((slot_in Ready.header j).first ≡ turn_of ((slot_in Ready.header j).start + 1)) × ((f : ℕ) × (extent_with Ready.header.extents (slot_in Ready.header j).first ≡ Some f))
  firsts j few active some = elim (was_active j active) [
    | inl was ↦ let k : KeepsRecords Ready j = ((ready s i address u s2 records commit logged order within keeps running of wrap).keeps j was).1 in (k.first, k.pinned)
    | inr fresh ↦ absurd (some fresh.0)
  ]

  new : (j : ℕ) → j < SLOTS → (slot_in Ready.header j).state ≡ 1 → (slot_in Ready.header j).touched ≡ 0 → (slot_in Ready.header j).start ≡ Ready.header.writes
  new j few active none = elim (was_active j active) [
    | inl was ↦ absurd ((running j was).begun (ap (λ (z : TableSlot). z.touched) (sym (going_slot s i address u s2 records commit logged order within keeps running of wrap j was)) ∙ none))
    | inr fresh ↦ fresh.1 ∙ sym same_ring.0
  ]

  room_book : IsBook Room.header (model.turned B)
  room_book = elim records.has_room [
    | inl few ↦
        let no : needs_turn B ≡ false = needs_is Ready.header B ready_book commit ready_order count begun ∙ (let test : (Ready.header.records == EXTENT_RECORDS) ≡ false = let a : Ready.header.records < EXTENT_RECORDS = few.0 in grind (arith, nat_tests) in test) in
        subst (λ (z : Segment). IsBook z.header (model.turned B)) (sym few.1) (rw no ready_book)
    | inr full ↦ subst (λ (z : Segment). IsBook z.header (model.turned B)) (sym full.2) (book_turned Ready.header B ready_book commit ready_order count begun full.0 full.1 (record { begun = firsts; new = new }))
  ]

  room_order : HeaderInOrder commit Room.header
  room_order = elim records.has_room [
    | inl few ↦ subst (λ (z : Segment). HeaderInOrder commit z.header) (sym few.1) ready_order
    | inr full ↦ subst (λ (z : Segment). HeaderInOrder commit z.header) (sym full.2) (turned_order commit full.0 Ready.header (ready s i address u s2 records commit logged order within keeps running of wrap).ring full.1 ready_order)
  ]

  active_now : (slot_in Room.header i).state ≡ 1
  active_now = ap (λ (z : TableSlot). z.state) (room_slot s i address u s2 records commit logged order within keeps running of wrap i) ∙ elim records.is_ready [
    | inl own ↦ ap (λ (z : Segment). (slot_in z.header i).state) own.1 ∙ own.0
    | inr free ↦ ap (λ (z : TableSlot). z.state) (slot_claimed s i address u s2 records commit logged order within keeps running of wrap free.0 free.1)
  ]

  started : (slot_in Room.header i).start ≤ Room.header.writes
  started =
      let a : (slot_in Room.header i).start ≡ (slot_in Ready.header i).start = ap (λ (z : TableSlot). z.start) (room_slot s i address u s2 records commit logged order within keeps running of wrap i) in
      let w = (room s i address u s2 records commit logged order within keeps running of wrap).writes in
      elim records.is_ready [
        | inl own ↦ let c : (slot_in Ready.header i).start ≡ (slot_in s.header i).start = ap (λ (z : Segment). (slot_in z.header i).start) own.1 in let r = (running i own.0).started in omega (arith, a, c, r, w)
        | inr free ↦ let c : (slot_in Ready.header i).start ≡ s.header.writes = ap (λ (z : TableSlot). z.start) (slot_claimed s i address u s2 records commit logged order within keeps running of wrap free.0 free.1) in omega (arith, a, c, w)
      ]

  pub book_written : IsBook s2.header (model.marked i B)
  book_written =
      let r = room s i address u s2 records commit logged order within keeps running of wrap in
      subst (λ (z : Segment). IsBook z.header (model.marked i B)) (sym records.made) (book_added Room.header (model.turned B) room_book commit room_order r.ring.count i address records.touched within active_now started r.few records.bits)

-- whatever the record says of its transaction
pub book_of_write : (s : Segment) (i : ℕ) (address : Uba) (u : UndoRecord) (s2 : Segment) → Records s i address u s2 → (commit logged : ℕ) → SegmentInOrder commit logged s → i < SLOTS → ((j : ℕ) → (slot_in s.header j).state ≡ 1 → KeepsRecords s j) → ((j : ℕ) → (slot_in s.header j).state ≡ 1 → RunningSlot s.header (slot_in s.header j)) → (session : ℕ) (b : Book) → IsBook s.header b → IsBook s2.header (model.marked i (book_ready session i (slot_in s.header i).state b))
book_of_write s i address u s2 records commit logged order within keeps running session b book =
    let own : UndoRecord = record u { slot = i; wrap = (slot_in s2.header i).wrap } in
    let s3 : Segment = with_record i address records.touched own records.room in
    let same : s3.header ≡ s2.header = ap (λ (z : Segment). z.header) (sym records.made) in
    let again : Records s i address own s3 = record { ready = records.ready; room = records.room; touched = records.touched; is_ready = records.is_ready; has_room = records.has_room; bits = records.bits; made = refl } in
    subst (λ (z : Header). IsBook z (model.marked i (book_ready session i (slot_in s.header i).state b))) same (book_written s i address own s3 again commit logged order within keeps running refl (ap (λ (z : Header). (slot_in z i).wrap) (sym same)) session b book)
