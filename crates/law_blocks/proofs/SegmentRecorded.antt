-- The segments after a write: one has one record more, and the others are what they were.
use Rattle.std.proofs.Common.{◌*◌, ◌≡◌, ◌≢◌, inl, inr, ◌<◌, ◌≤◌, ◌+◌, ◌/◌, ◌%◌, ℕ, List, map, set, refl, sym, ◌∙◌, ap, arith}
use Rattle.std.proofs.lemmas.Bool.{cases_eq}
use Rattle.std.proofs.lemmas.List.{get_or-set_same}
use Rattle.std.specs.List.{range_with_len}
use Rattle.rb_undoblock.specs.declared.record.TheConstants.{UNDO_RECORDS}
use Rattle.rb_base.specs.declared.sizes.TheConstants.{SLOTS}
use Rattle.rb_ring.specs.declared.extents.TheConstants.{EXTENTS, EXTENT_RECORDS}
use Rattle.rb_base.specs.Blocks.{block_of, header_block, table_blocks}
use Rattle.rb_base.specs.declared.ids.Uba.{Uba}
use Rattle.rb_base.specs.declared.shape.Shape.{Shape}
use Rattle.rb_segment.specs.Header.{Header, Segment, SegmentInOrder, header_of, segment_of, slot_in, head_turn, undo_block}
use Rattle.rb_segment.specs.Moves.{Records, Ring, added_slot, claimed, next_place, with_header, with_record, with_segment}
use Rattle.law_blocks.specs.Groups.{header_at}
use Rattle.law_blocks.specs.Standing.{segments_of}
use Rattle.law_blocks.specs.Writing.{IsRecorded}
use Rattle.rb_txntable.specs.Slots.{no_slot}
use Rattle.rb_txntable.specs.declared.slots.TableSlot.{TableSlot}
use Rattle.rb_undoblock.specs.Undo.{undo_at, no_undo}
use Rattle.rb_undoblock.specs.declared.record.UndoRecord.{UndoRecord}
use Rattle.rb_base.proofs.Listed.{listed_set}
use Rattle.rb_segment.proofs.Recording.{RoomIs, has_room}
use Rattle.rb_segment.proofs.Rings.{ring_of}
use Rattle.rb_segment.proofs.WithSegment.{at_segment, off_segment}
use Rattle.law_blocks.proofs.SegmentRead.{header_is, segment_stays}
use Rattle.law_blocks.proofs.StandingWritten.{slot_few}

module _ (shape : Shape) (t : ℕ) (address : Uba) (u : UndoRecord) (before now : List (List ℕ)) (commit logged : ℕ) (order : SegmentInOrder commit logged (segments_of shape before (t / SLOTS))) (is : IsRecorded shape (t / SLOTS) (t % SLOTS) address u (header_at shape before t) (header_at shape now t) before now) where
  abbrev G : ℕ
  G = t / SLOTS

  abbrev I : ℕ
  I = t % SLOTS

  abbrev S : Segment
  S = segments_of shape before G

  abbrev Ready : Segment
  Ready = with_header is.ready S

  abbrev pub Room : Segment
  Room = with_header is.room S

  abbrev pub Made : Segment
  Made = with_record I address is.added_as.touched u Room

  pub header : S.header ≡ header_at shape before t
  header = header_is shape before G

  abbrev pub recorded : Records S I address u Made
  recorded = record {
    ready = Ready;
    room = Room;
    touched = is.added_as.touched;
    is_ready = elim is.is_ready [
      | inl own ↦ inl (ap (λ (z : Header). (slot_in z I).state) header ∙ own.0, ap (λ (z : Header). with_header z S) (own.1 ∙ sym header))
      | inr free ↦ inr (λ active. free.0.idle (ap (λ (z : Header). (slot_in z I).state) (sym header) ∙ active), ap (λ (z : Header). with_header z S) (free.1 ∙ ap (claimed I) (sym header)))
    ];
    has_room = elim is.has_room [
      | inl few ↦ inl (few.0, ap (λ (z : Header). with_header z S) few.1)
      | inr full ↦ inr (full.0, full.1, ap (λ (z : Header). with_header z S) full.2)
    ];
    bits = is.added_as.bits;
    made = refl;
  }

  ring : Ring S.header
  ring = ring_of S.header order.header.ring.0 order.header.extents_counted order.header.ring.1 order.header.records order.numbers.count

  pub room : RoomIs (λ j. ⊥) S Room
  room = has_room (λ j. ⊥) S I address u Made ring order.header.slots_counted order.undo_counted (slot_few t) (order.header.slots I (slot_few t)).before (λ j never. absurd never) recorded

  room_slot : slot_in is.room I ≡ slot_in is.ready I
  room_slot = elim is.has_room [
    | inl few ↦ ap (λ (z : Header). slot_in z I) few.1
    | inr full ↦ ap (λ (z : Header). slot_in z I) full.2
  ]

  own_slot : slot_in Made.header I ≡ added_slot (head_turn is.room) address is.added_as.touched (slot_in is.room I)
  own_slot = get_or-set_same is.room.slots I (added_slot (head_turn is.room) address is.added_as.touched (slot_in is.room I)) no_slot (let f = slot_few t in omega (arith, f, room.slots))

  -- the record is of the slot's transaction
  pub made_wrap : u.wrap ≡ (slot_in Made.header I).wrap
  made_wrap = is.wrap ∙ (ap (λ (z : TableSlot). z.wrap) (sym room_slot) ∙ ap (λ (z : TableSlot). z.wrap) (sym own_slot))

  place_few : next_place is.room < (EXTENTS * EXTENT_RECORDS)
  place_few = omega (arith, room.ring.head_in, room.few)

  block_is : address.block ≡ undo_block shape G (next_place is.room)
  block_is = ap (λ (z : Uba). z.block) is.at

  rec_is : address.rec ≡ next_place is.room % UNDO_RECORDS
  rec_is = ap (λ (z : Uba). z.rec) is.at

  -- where the record stands
  pub address_within : (header_block shape G < address.block) × (address.block ≤ header_block shape G + 32)
  address_within = (omega (arith, block_is), omega (arith, block_is, place_few))

  -- a group of the header's block, of the record's, and of blocks of rows
  module _ (stays : (b : ℕ) → table_blocks shape ≤ b → b ≢ header_block shape (t / SLOTS) → b ≢ address.block → block_of now b ≡ block_of before b) where
    abbrev Undo : List (List ℕ) → ℕ → UndoRecord
    Undo blocks i = undo_at (block_of blocks (undo_block shape G i)) (i % UNDO_RECORDS)

    own_record : Undo now (next_place is.room) ≡ u
    own_record = ap (λ (z : ℕ). undo_at (block_of now z) (next_place is.room % UNDO_RECORDS)) (sym block_is) ∙ (ap (undo_at (block_of now address.block)) (sym rec_is) ∙ is.made)

    other_record : (i : ℕ) → i < (EXTENTS * EXTENT_RECORDS) → i ≢ next_place is.room → Undo now i ≡ Undo before i
    other_record i few ne = elim (cases_eq (undo_block shape G i) address.block) [
      | inl at ↦
          ap (λ (z : ℕ). undo_at (block_of now z) (i % UNDO_RECORDS)) at
          ∙ (is.others (i % UNDO_RECORDS) (omega arith) (λ same. ne (omega (arith, at, same, block_is, rec_is)))
          ∙ ap (λ (z : ℕ). undo_at (block_of before z) (i % UNDO_RECORDS)) (sym at))
      | inr off ↦ ap (λ (z : List ℕ). undo_at z (i % UNDO_RECORDS)) (stays (undo_block shape G i) (omega arith) (λ head. omega (arith, head)) off)
    ]

    own_segment : segments_of shape now G ≡ Made
    unfolding segment_of
    own_segment =
        let undo : map (Undo now) (range_with_len 0 (EXTENTS * EXTENT_RECORDS)) ≡ set (map (Undo before) (range_with_len 0 (EXTENTS * EXTENT_RECORDS))) (next_place is.room) u = listed_set (Undo now) (Undo before) (EXTENTS * EXTENT_RECORDS) (next_place is.room) u no_undo place_few own_record other_record in
        ap (λ (z : List UndoRecord). let s : Segment = record { header = header_at shape now t; undo = z } in s) undo
        ∙ ap (λ (z : Header). let s : Segment = record { header = z; undo = set (map (Undo before) (range_with_len 0 (EXTENTS * EXTENT_RECORDS))) (next_place is.room) u } in s) is.added_as.made

    other_segment : (k : ℕ) → k ≢ G → segments_of shape now k ≡ segments_of shape before k
    other_segment k ne = segment_stays shape before now k (λ i few. let a = address_within in stays (undo_block shape k i) (omega arith) (λ head. omega (arith, head, few)) (λ at. ne (omega (arith, at, a, few))))
        (ap header_of (let a = address_within in stays (header_block shape k) (omega arith) (λ head. ne (omega (arith, head))) (λ at. ne (omega (arith, at, a)))))

    pub segments_recorded : segments_of shape now ≡ with_segment G Made (segments_of shape before)
    segments_recorded = λ i k. each k i
      where
        each : (k : ℕ) → segments_of shape now k ≡ with_segment G Made (segments_of shape before) k
        each k = elim (cases_eq k G) [
          | inl at ↦ ap (segments_of shape now) at ∙ (own_segment ∙ (sym (at_segment G Made (segments_of shape before)) ∙ ap (with_segment G Made (segments_of shape before)) (sym at)))
          | inr ne ↦ other_segment k ne ∙ sym (off_segment G k Made (segments_of shape before) ne)
        ]
