-- A segment that is in order stays so through a write, with what each Active slot has in it.
use Rattle.std.proofs.Common.{◌≡◌, ◌≢◌, ◌⊎◌, inl, inr, ◌<◌, ◌≤◌, ◌==◌, ◌+◌, ℕ, max, true, false, List, length, get_or, set, Some, refl, sym, ◌∙◌, ap, subst, arith}
use Rattle.std.proofs.lemmas.Bool.{cases_eq, cases_lt}
use Rattle.std.proofs.lemmas.Bool.Decides.{nat_tests}
use Rattle.std.proofs.lemmas.List.{get_or-set_same, get_or-set_other, length-set}
use Rattle.rb_base.specs.declared.sizes.TheConstants.{SLOTS}
use Rattle.rb_ring.specs.declared.extents.TheConstants.{EXTENT_RECORDS}
use Rattle.rb_base.specs.declared.ids.Uba.{Uba}
use Rattle.rb_base.specs.declared.shape.Shape.{Shape}
use Rattle.rb_ring.specs.declared.extents.Extent.{Extent}
use Rattle.rb_segment.specs.Header.{Header, Segment, no_extent, slot_in, extent_in, ord_in, head_turn, record_in, SlotNumbers, has_bit, SlotInOrder, HeaderInOrder, SegmentInOrder}
use Rattle.rb_segment.specs.Moves.{claimed_slot, added_slot, claimed, turned, added, with_header, next_address, Ring, IsAddress, MayTurn, SegmentAges, Records}
use Rattle.rb_segment.specs.Running.{KeepsRecords, RunningSlot}
use Rattle.rb_txntable.specs.Slots.{no_slot}
use Rattle.rb_txntable.specs.declared.slots.TableSlot.{TableSlot}
use Rattle.rb_undoblock.specs.declared.record.UndoRecord.{UndoRecord}
use Rattle.rb_segment.proofs.Addresses.{address_same, address_turned, next_address_is}
use Rattle.rb_segment.proofs.Moments.{has_none}
use Rattle.rb_segment.proofs.Recording.{ReadyIs, RoomIs, is_ready, has_room, write_ages, write_found, write_ring, write_writes, claimed_other}
use Rattle.rb_segment.proofs.Records.{made_of}
use Rattle.rb_segment.proofs.Rings.{ring_of, turned_is_ring}
use Rattle.rb_segment.proofs.Slots.{keeps_turned, fresh_turned, keeps_added_other, keeps_added_own, keeps_added_first}

-- what holds of each slot, and of the one that is set
pub slots_set : (P : TableSlot → Type 0) (slots : List TableSlot) (i : ℕ) (x : TableSlot) → i < length slots → P x → ((j : ℕ) → j < SLOTS → j ≢ i → P (get_or slots j no_slot)) → (j : ℕ) → j < SLOTS → P (get_or (set slots i x) j no_slot)
slots_set P slots i x within here all j few = elim (cases_eq j i) [
  | inl at ↦ subst (λ (z : ℕ). P (get_or (set slots i x) z no_slot)) (sym at) (subst P (sym (get_or-set_same slots i x no_slot within)) here)
  | inr ne ↦ subst P (sym (get_or-set_other slots i j x no_slot ne)) (all j few ne)
]

pub claimed_order : (commit i : ℕ) (h : Header) → i < SLOTS → HeaderInOrder commit h → HeaderInOrder commit (claimed i h)
claimed_order commit i h few order = let o = order.slots i few in record {
  slots_counted = simp length-set order.slots_counted;
  extents_counted = order.extents_counted;
  ring = order.ring;
  records = order.records;
  slots = slots_set (SlotInOrder commit) h.slots i (claimed_slot h (slot_in h i)) (omega (arith, few, order.slots_counted)) (record { state = omega arith; before = omega arith; newest = o.newest }) (λ j j_few ne. order.slots j j_few);
  lost = omega (arith, order.lost, o.newest);
  newest = order.newest;
}

pub turned_order : (commit e : ℕ) (h : Header) → Ring h → MayTurn h e → HeaderInOrder commit h → HeaderInOrder commit (turned e h)
turned_order commit e h ring may order = record {
  slots_counted = order.slots_counted;
  extents_counted = simp length-set order.extents_counted;
  ring = turned_is_ring h order.ring.0 order.extents_counted order.ring.1 e may;
  records = omega arith;
  slots = order.slots;
  lost = elim (cases_eq (ord_in h e) 0) [
    | inl out ↦ let test : (ord_in h e == 0) ≡ true = grind (arith, nat_tests) in rw test order.lost
    | inr in_ring ↦ let test : (ord_in h e == 0) ≡ false = grind (arith, nat_tests) in let n = order.newest e may.within in rw test (omega (arith, order.lost, n))
  ];
  newest = λ f few. elim (cases_eq f e) [
    | inl fe ↦ let here : (extent_in (turned e h) f).newest ≡ 0 = ap (λ (z : ℕ). (extent_in (turned e h) z).newest) fe ∙ ap (λ (z : Extent). z.newest) (get_or-set_same h.extents e (record { ord = head_turn h + 1; newest = 0 }) no_extent (omega (arith, may.within, order.extents_counted))) in omega (arith, here)
    | inr fn ↦ let there : (extent_in (turned e h) f).newest ≡ (extent_in h f).newest = ap (λ (z : Extent). z.newest) (get_or-set_other h.extents e f (record { ord = head_turn h + 1; newest = 0 }) no_extent fn) in let n = order.newest f few in omega (arith, there, n)
  ];
}

added_order : (commit i : ℕ) (address : Uba) (touched : ℕ) (h : Header) → i < SLOTS → h.records < EXTENT_RECORDS → HeaderInOrder commit h → HeaderInOrder commit (added i address touched h)
added_order commit i address touched h few room order = let o = order.slots i few in record {
  slots_counted = simp length-set order.slots_counted;
  extents_counted = order.extents_counted;
  ring = order.ring;
  records = omega arith;
  slots = slots_set (SlotInOrder commit) h.slots i (added_slot (head_turn h) address touched (slot_in h i)) (omega (arith, few, order.slots_counted)) (record { state = o.state; before = o.before; newest = o.newest }) (λ j j_few ne. order.slots j j_few);
  lost = order.lost;
  newest = order.newest;
}

module _ (s : Segment) (i : ℕ) (address : Uba) (u : UndoRecord) (s2 : Segment) (records : Records s i address u s2) (commit logged : ℕ) (order : SegmentInOrder commit logged s) (within : i < SLOTS) (keeps : (j : ℕ) → (slot_in s.header j).state ≡ 1 → KeepsRecords s j) (running : (j : ℕ) → (slot_in s.header j).state ≡ 1 → RunningSlot s.header (slot_in s.header j)) (of : u.slot ≡ i) (wrap : u.wrap ≡ (slot_in s2.header i).wrap) where
  -- the slots that are Active go on
  abbrev Active : ℕ → Type 0
  Active j = (slot_in s.header j).state ≡ 1

  ring : Ring s.header
  ring = ring_of s.header order.header.ring.0 order.header.extents_counted order.header.ring.1 order.header.records order.numbers.count

  abbrev Ready : Segment
  Ready = records.ready

  abbrev Room : Segment
  Room = records.room

  pub ready : ReadyIs Active s Ready
  ready = is_ready Active s i address u s2 ring order.header.slots_counted order.undo_counted within (order.header.slots i within).before (λ j g. (g, keeps j g)) records

  pub room : RoomIs Active s Room
  room = has_room Active s i address u s2 ring order.header.slots_counted order.undo_counted within (order.header.slots i within).before (λ j g. (g, keeps j g)) records

  pub written_ages : SegmentAges Active s s2
  written_ages = write_ages Active s i address u s2 ring order.header.slots_counted order.undo_counted within (order.header.slots i within).before (λ j g. (g, keeps j g)) records

  pub written_found : record_in s2 (s.header.writes + 1) ≡ Some u
  written_found = write_found Active s i address u s2 ring order.header.slots_counted order.undo_counted within (order.header.slots i within).before (λ j g. (g, keeps j g)) records

  pub written_ring : Ring s2.header
  written_ring = write_ring Active s i address u s2 ring order.header.slots_counted order.undo_counted within (order.header.slots i within).before (λ j g. (g, keeps j g)) records

  pub written_writes : s2.header.writes ≡ s.header.writes + 1
  written_writes = write_writes Active s i address u s2 ring order.header.slots_counted order.undo_counted within (order.header.slots i within).before (λ j g. (g, keeps j g)) records

  -- each address that was given stays one
  pub written_addresses : (shape : Shape) (g : ℕ) (u : Uba) → IsAddress shape g s.header u → IsAddress shape g s2.header u
  written_addresses shape g u a = subst (λ (z : Segment). IsAddress shape g z.header u) (sym records.made) (address_same shape g Room.header (added i address records.touched Room.header) u refl refl of_room)
    where
      of_ready : IsAddress shape g Ready.header u
      of_ready = elim records.is_ready [
        | inl own ↦ subst (λ (z : Segment). IsAddress shape g z.header u) (sym own.1) a
        | inr free ↦ subst (λ (z : Segment). IsAddress shape g z.header u) (sym free.1) (address_same shape g s.header (claimed i s.header) u refl refl a)
      ]

      of_room : IsAddress shape g Room.header u
      of_room = elim records.has_room [
        | inl same ↦ subst (λ (z : Segment). IsAddress shape g z.header u) (sym same.1) of_ready
        | inr full ↦ subst (λ (z : Segment). IsAddress shape g z.header u) (sym full.2) (address_turned shape g full.0 Ready.header u ready.ring full.1 of_ready)
      ]

  -- and that of the record is one, where it is the next of the head
  pub written_address : (shape : Shape) (g : ℕ) → address ≡ next_address shape g Room.header → IsAddress shape g s2.header address
  written_address shape g at = subst (λ (z : Segment). IsAddress shape g z.header address) (sym records.made) (address_same shape g Room.header (added i address records.touched Room.header) address refl refl (subst (λ (z : Uba). IsAddress shape g Room.header z) (sym at) (next_address_is shape g Room.header room.ring room.few)))

  -- a turn leaves the slots
  room_slots : Room.header.slots ≡ Ready.header.slots
  room_slots = elim records.has_room [
    | inl few ↦ ap (λ (z : Segment). z.header.slots) few.1
    | inr full ↦ ap (λ (z : Segment). z.header.slots) full.2
  ]

  pub room_slot : (j : ℕ) → slot_in Room.header j ≡ slot_in Ready.header j
  room_slot j = ap (λ (z : List TableSlot). get_or z j no_slot) room_slots

  ready_slot : (j : ℕ) → j ≢ i → slot_in Ready.header j ≡ slot_in s.header j
  ready_slot j ne = elim records.is_ready [
    | inl own ↦ ap (λ (z : Segment). slot_in z.header j) own.1
    | inr free ↦ ap (λ (z : Segment). slot_in z.header j) free.1 ∙ claimed_other s.header i j ne
  ]

  -- one that was Active is what it was
  pub going_slot : (j : ℕ) → Active j → slot_in Ready.header j ≡ slot_in s.header j
  going_slot j active = elim records.is_ready [
    | inl own ↦ ap (λ (z : Segment). slot_in z.header j) own.1
    | inr free ↦ ap (λ (z : Segment). slot_in z.header j) free.1 ∙ claimed_other s.header i j (λ is. free.0 (subst Active is active))
  ]

  pub other_slot_same : (j : ℕ) → j ≢ i → slot_in s2.header j ≡ slot_in s.header j
  other_slot_same j ne =
      ap (λ (z : Segment). slot_in z.header j) records.made ∙ (get_or-set_other Room.header.slots i j (added_slot (head_turn Room.header) address records.touched (slot_in Room.header i)) no_slot ne ∙ (room_slot j ∙ ready_slot j ne))

  pub own_slot : slot_in s2.header i ≡ (added_slot (head_turn Room.header) address records.touched (slot_in Ready.header i))
  own_slot =
      ap (λ (z : Segment). slot_in z.header i) records.made ∙ (get_or-set_same Room.header.slots i (added_slot (head_turn Room.header) address records.touched (slot_in Room.header i)) no_slot (omega (arith, within, room.slots)) ∙ ap (λ (z : TableSlot). added_slot (head_turn Room.header) address records.touched z) (room_slot i))

  -- the slot taken, in its segment
  pub slot_claimed : (slot_in s.header i).state ≢ 1 → Ready ≡ with_header (claimed i s.header) s → slot_in Ready.header i ≡ (claimed_slot s.header (slot_in s.header i))
  slot_claimed idle is = ap (λ (z : Segment). slot_in z.header i) is ∙ get_or-set_same s.header.slots i (claimed_slot s.header (slot_in s.header i)) no_slot (omega (arith, within, order.header.slots_counted))

  -- what stays of an Active slot until the record comes
  keeps_room : (j : ℕ) → Active j → KeepsRecords Room j
  keeps_room j active = elim records.has_room [
    | inl few ↦ subst (λ (z : Segment). KeepsRecords z j) (sym few.1) (ready.keeps j active).1
    | inr full ↦
        let some : (slot_in Ready.header j).touched ≢ 0 = λ none. (running j active).begun (ap (λ (z : TableSlot). z.touched) (sym (going_slot j active)) ∙ none) in
        subst (λ (z : Segment). KeepsRecords z j) (sym full.2) (keeps_turned Ready full.0 ready.ring ready.slots full.1 j (ready.keeps j active).0 some (ready.keeps j active).1)
  ]

  few : Room.header.records < EXTENT_RECORDS
  few = room.few

  in_slots : i < length Room.header.slots
  in_slots = omega (arith, within, room.slots)

  pub keeps_other : (j : ℕ) → j ≢ i → Active j → KeepsRecords s2 j
  keeps_other j ne active = subst (λ (z : Segment). KeepsRecords z j) (sym records.made) (keeps_added_other i address records.touched u Room room.ring few room.room in_slots records.bits j ne of (keeps_room j active))

  -- no record of before is of the transaction that takes the slot
  fresh_ready : Ready ≡ with_header (claimed i s.header) s → (slot_in s.header i).state ≢ 1 → (k : ℕ) (q : UndoRecord) → record_in Ready k ≡ Some q → q.slot ≡ i → q.wrap ≡ (slot_in Ready.header i).wrap → ⊥
  fresh_ready is idle k q there slot wraps =
      let was : record_in s k ≡ Some q = subst (λ (z : Segment). record_in z k ≡ Some q) is there in
      let le : q.wrap ≤ (slot_in s.header q.slot).wrap = order.numbers.records k q was in
      let le_i : q.wrap ≤ (slot_in s.header i).wrap = subst (λ (z : ℕ). q.wrap ≤ (slot_in s.header z).wrap) slot le in
      let next : (slot_in Ready.header i).wrap ≡ (slot_in s.header i).wrap + 1 = ap (λ (z : TableSlot). z.wrap) (slot_claimed idle is) in
      omega (arith, le_i, next, wraps)

  fresh_room : Ready ≡ with_header (claimed i s.header) s → (slot_in s.header i).state ≢ 1 → (k : ℕ) (q : UndoRecord) → record_in Room k ≡ Some q → q.slot ≡ i → q.wrap ≡ (slot_in Room.header i).wrap → ⊥
  fresh_room is idle k q there slot wraps = elim records.has_room [
    | inl same ↦ fresh_ready is idle k q (subst (λ (z : Segment). record_in z k ≡ Some q) same.1 there) slot (wraps ∙ ap (λ (z : TableSlot). z.wrap) (room_slot i))
    | inr full ↦ fresh_turned Ready full.0 ready.ring ready.slots full.1 i (slot_in Ready.header i).wrap (fresh_ready is idle) k q (subst (λ (z : Segment). record_in z k ≡ Some q) full.2 there) slot (wraps ∙ ap (λ (z : TableSlot). z.wrap) (room_slot i))
  ]

  pub keeps_own : KeepsRecords s2 i
  keeps_own = subst (λ (z : Segment). KeepsRecords z i) (sym records.made) (elim records.is_ready [
    | inl own ↦
        let same : slot_in Room.header i ≡ slot_in s.header i = room_slot i ∙ going_slot i own.0 in
        let runs = running i own.0 in
        let some : (slot_in Room.header i).touched ≢ 0 = λ none. runs.begun (ap (λ (z : TableSlot). z.touched) (sym same) ∙ none) in
        let started : (slot_in Room.header i).start < Room.header.writes = let a : (slot_in Room.header i).start ≡ (slot_in s.header i).start = ap (λ (z : TableSlot). z.start) same in omega (arith, a, runs.started, room.writes) in
        keeps_added_own i address records.touched u Room room.ring few room.room in_slots records.bits some started (keeps_room i own.0)
    | inr free ↦
        let slot = slot_claimed free.0 free.1 in
        let none : (slot_in Room.header i).touched ≡ 0 = ap (λ (z : TableSlot). z.touched) (room_slot i ∙ slot) in
        let started : (slot_in Room.header i).start ≡ Room.header.writes = ap (λ (z : TableSlot). z.start) (room_slot i ∙ slot) ∙ sym room.writes in
        keeps_added_first i address records.touched u Room room.ring few room.room in_slots records.bits none started (fresh_room free.1 free.0)
  ])

  pub state_own : (slot_in s2.header i).state ≡ 1
  state_own = ap (λ (z : TableSlot). z.state) own_slot ∙ elim records.is_ready [
    | inl own ↦ ap (λ (z : TableSlot). z.state) (going_slot i own.0) ∙ own.0
    | inr free ↦ ap (λ (z : TableSlot). z.state) (slot_claimed free.0 free.1)
  ]

  -- the numbers of the slot: wrap, newest and the one before
  wrap_up : (j : ℕ) → (slot_in s.header j).wrap ≤ (slot_in s2.header j).wrap
  wrap_up j = elim (cases_eq j i) [
    | inl at ↦ subst (λ (z : ℕ). (slot_in s.header z).wrap ≤ (slot_in s2.header z).wrap) (sym at) (let a : (slot_in s2.header i).wrap ≡ (slot_in Ready.header i).wrap = ap (λ (z : TableSlot). z.wrap) own_slot in elim records.is_ready [
      | inl own ↦ let b : (slot_in Ready.header i).wrap ≡ (slot_in s.header i).wrap = ap (λ (z : TableSlot). z.wrap) (going_slot i own.0) in omega (arith, a, b)
      | inr free ↦ let b : (slot_in Ready.header i).wrap ≡ (slot_in s.header i).wrap + 1 = ap (λ (z : TableSlot). z.wrap) (slot_claimed free.0 free.1) in omega (arith, a, b)
    ])
    | inr ne ↦ let a : (slot_in s2.header j).wrap ≡ (slot_in s.header j).wrap = ap (λ (z : TableSlot). z.wrap) (other_slot_same j ne) in omega (arith, a)
  ]

  pub wraps_up : (j : ℕ) → (slot_in s.header j).wrap ≤ (slot_in s2.header j).wrap
  wraps_up = wrap_up

  pub newest_same : (j : ℕ) → (slot_in s2.header j).newest ≡ (slot_in s.header j).newest
  newest_same j = elim (cases_eq j i) [
    | inl at ↦ subst (λ (z : ℕ). (slot_in s2.header z).newest ≡ (slot_in s.header z).newest) (sym at) (ap (λ (z : TableSlot). z.newest) own_slot ∙ elim records.is_ready [
      | inl own ↦ ap (λ (z : TableSlot). z.newest) (going_slot i own.0)
      | inr free ↦ ap (λ (z : TableSlot). z.newest) (slot_claimed free.0 free.1)
    ])
    | inr ne ↦ ap (λ (z : TableSlot). z.newest) (other_slot_same j ne)
  ]

  pub running_own : RunningSlot s2.header (slot_in s2.header i)
  running_own = subst (λ (z : TableSlot). RunningSlot s2.header z) (sym own_slot) (elim records.is_ready [
    | inl own ↦
        let runs = running i own.0 in
        let a : (slot_in Ready.header i).start ≡ (slot_in s.header i).start = ap (λ (z : TableSlot). z.start) (going_slot i own.0) in
        let c : (slot_in Ready.header i).live ≡ (slot_in s.header i).live = ap (λ (z : TableSlot). z.live) (going_slot i own.0) in
        let d : (slot_in Ready.header i).wrap ≡ (slot_in s.header i).wrap = ap (λ (z : TableSlot). z.wrap) (going_slot i own.0) in record { started = omega (arith, a, runs.started, written_writes); few = omega (arith, a, c, runs.few, written_writes); begun = some; before = ap (λ (z : TableSlot). z.before) (going_slot i own.0) ∙ (runs.before ∙ ap (λ (z : TableSlot). z.newest) (sym (going_slot i own.0))); wrap = omega (arith, d, runs.wrap) }
    | inr free ↦
        let slot = slot_claimed free.0 free.1 in
        let a : (slot_in Ready.header i).start ≡ s.header.writes = ap (λ (z : TableSlot). z.start) slot in
        let c : (slot_in Ready.header i).live ≡ 0 = ap (λ (z : TableSlot). z.live) slot in
        let d : (slot_in Ready.header i).wrap ≡ (slot_in s.header i).wrap + 1 = ap (λ (z : TableSlot). z.wrap) slot in record { started = omega (arith, a, written_writes); few = omega (arith, a, c, written_writes); begun = some; before = ap (λ (z : TableSlot). z.before) slot ∙ ap (λ (z : TableSlot). z.newest) (sym slot); wrap = omega (arith, d) }
  ])
    where
      some : records.touched ≢ 0
      some none = has_none Room.header.head (subst (λ (z : ℕ). has_bit z Room.header.head ≡ true) none records.bits.this)

  pub running_other : (j : ℕ) → j ≢ i → Active j → RunningSlot s2.header (slot_in s2.header j)
  running_other j ne active = let runs = running j active in subst (λ (z : TableSlot). RunningSlot s2.header z) (sym (other_slot_same j ne)) (record { started = omega (arith, runs.started, written_writes); few = omega (arith, runs.few, written_writes); begun = runs.begun; before = runs.before; wrap = runs.wrap })

  -- the header in order, and the numbers
  written_header : HeaderInOrder commit s2.header
  written_header = subst (λ (z : Segment). HeaderInOrder commit z.header) (sym records.made) (added_order commit i address records.touched Room.header within few of_room)
    where
      of_ready : HeaderInOrder commit Ready.header
      of_ready = elim records.is_ready [
        | inl own ↦ subst (λ (z : Segment). HeaderInOrder commit z.header) (sym own.1) order.header
        | inr free ↦ subst (λ (z : Segment). HeaderInOrder commit z.header) (sym free.1) (claimed_order commit i s.header within order.header)
      ]

      of_room : HeaderInOrder commit Room.header
      of_room = elim records.has_room [
        | inl same ↦ subst (λ (z : Segment). HeaderInOrder commit z.header) (sym same.1) of_ready
        | inr full ↦ subst (λ (z : Segment). HeaderInOrder commit z.header) (sym full.2) (turned_order commit full.0 Ready.header ready.ring full.1 of_ready)
      ]

  -- a record is the new one, or was there
  pub record_is : (k : ℕ) (q : UndoRecord) → record_in s2 k ≡ Some q → ((k ≡ s.header.writes + 1) × (q ≡ u)) ⊎ ((k ≤ s.header.writes) × (record_in s k ≡ Some q))
  record_is k q is = elim (cases_lt s.header.writes k) [
    | inl above ↦
        let m = (made_of s2 k q is).1 in
        let at : k ≡ s.header.writes + 1 = omega (arith, m, above, written_writes) in
        let same : Some q ≡ Some u = sym is ∙ (ap (record_in s2) at ∙ written_found) in
        inl (at, cc)
    | inr le ↦ inr (le, written_ages.records k q le is)
  ]

  lost_newest : (slot_in s.header i).state ≢ 1 → Ready ≡ with_header (claimed i s.header) s → (slot_in s.header i).newest ≤ s2.header.lost
  lost_newest idle is =
      let a : Ready.header.lost ≡ max s.header.lost (slot_in s.header i).newest = ap (λ (z : Segment). z.header.lost) is in
      let b : Room.header.lost ≡ s2.header.lost = ap (λ (z : Segment). z.header.lost) (sym records.made) in
      let c : Ready.header.lost ≤ Room.header.lost = elim records.has_room [
        | inl same ↦ let d : Room.header.lost ≡ Ready.header.lost = ap (λ (z : Segment). z.header.lost) same.1 in omega (arith, d)
        | inr full ↦ let d : Room.header.lost ≡ (turned full.0 Ready.header).lost = ap (λ (z : Segment). z.header.lost) full.2 in let e = turn_lost full.0 Ready.header in omega (arith, d, e)
      ] in
      omega (arith, a, b, c)
    where
      turn_lost : (e : ℕ) (h : Header) → h.lost ≤ (turned e h).lost
      turn_lost e h = elim (cases_eq (ord_in h e) 0) [
        | inl out ↦ let test : (ord_in h e == 0) ≡ true = grind (arith, nat_tests) in rw test (omega arith)
        | inr in_ring ↦ let test : (ord_in h e == 0) ≡ false = grind (arith, nat_tests) in rw test (omega arith)
      ]

  slot_numbers : (j : ℕ) → j < SLOTS → SlotNumbers (logged + 1) s2.header.lost (slot_in s2.header j)
  slot_numbers j few_j = elim (cases_eq j i) [
    | inl at ↦ subst (λ (z : ℕ). SlotNumbers (logged + 1) s2.header.lost (slot_in s2.header z)) (sym at) own_numbers
    | inr ne ↦ let n = order.numbers.slots j few_j in let l = written_ages.lost in subst (λ (z : TableSlot). SlotNumbers (logged + 1) s2.header.lost z) (sym (other_slot_same j ne)) (record { wrap = omega (arith, n.wrap); newest = omega (arith, n.newest); before = omega (arith, n.before, l); not_lost = λ is. let k = n.not_lost is in omega (arith, k, l) })
  ]
    where
      own_numbers : SlotNumbers (logged + 1) s2.header.lost (slot_in s2.header i)
      own_numbers = let n = order.numbers.slots i within in let l = written_ages.lost in subst (λ (z : TableSlot). SlotNumbers (logged + 1) s2.header.lost z) (sym own_slot) (elim records.is_ready [
        | inl own ↦
            let x = going_slot i own.0 in
            let a : (slot_in Ready.header i).wrap ≡ (slot_in s.header i).wrap = ap (λ (z : TableSlot). z.wrap) x in
            let b : (slot_in Ready.header i).newest ≡ (slot_in s.header i).newest = ap (λ (z : TableSlot). z.newest) x in
            let c : (slot_in Ready.header i).before ≡ (slot_in s.header i).before = ap (λ (z : TableSlot). z.before) x in
            let k = n.not_lost (λ two. let one : (slot_in s.header i).state ≡ 1 = own.0 in omega (arith, one, two)) in
            record { wrap = omega (arith, n.wrap, a); newest = omega (arith, n.newest, b); before = omega (arith, n.before, c, l); not_lost = λ is. omega (arith, k, b, l) }
        | inr free ↦
            let x = slot_claimed free.0 free.1 in
            let a : (slot_in Ready.header i).wrap ≡ (slot_in s.header i).wrap + 1 = ap (λ (z : TableSlot). z.wrap) x in
            let b : (slot_in Ready.header i).newest ≡ (slot_in s.header i).newest = ap (λ (z : TableSlot). z.newest) x in
            let c : (slot_in Ready.header i).before ≡ (slot_in s.header i).newest = ap (λ (z : TableSlot). z.before) x in
            let up = lost_newest free.0 free.1 in
            record { wrap = omega (arith, n.wrap, a); newest = omega (arith, n.newest, b); before = omega (arith, c, up); not_lost = λ is. omega (arith, b, up) }
      ])

  pub written_order : SegmentInOrder commit (logged + 1) s2
  written_order = record {
    header = written_header;
    undo_counted = ap (λ (z : Segment). length z.undo) records.made ∙ simp length-set room.room;
    numbers = record {
      writes = omega (arith, written_writes, order.numbers.writes);
      records = λ k q is. elim (record_is k q is) [
        | inl new ↦ let a : q.wrap ≡ (slot_in s2.header i).wrap = ap (λ (z : UndoRecord). z.wrap) new.1 ∙ wrap in let b : q.slot ≡ i = ap (λ (z : UndoRecord). z.slot) new.1 ∙ of in subst (λ (z : ℕ). q.wrap ≤ (slot_in s2.header z).wrap) (sym b) (omega (arith, a))
        | inr old ↦ let a = order.numbers.records k q old.1 in let b = wrap_up q.slot in omega (arith, a, b)
      ];
      count = written_ring.count;
      begun = λ none. let a : s2.header.records ≡ Room.header.records + 1 = ap (λ (z : Segment). z.header.records) records.made in absurd (omega (arith, a, none));
      slots = slot_numbers;
    };
  }
