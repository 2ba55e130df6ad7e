-- What a write makes of its segment: it ages, the record is found under the next number, and the ring stays a ring.
use Rattle.std.proofs.Common.{◌*◌, ◌≡◌, ◌≢◌, inl, inr, ◌<◌, ◌≤◌, ◌+◌, ℕ, List, length, Option, Some, refl, sym, ◌∙◌, ap, subst, arith}
use Rattle.std.proofs.lemmas.List.{get_or-set_other, length-set}
use Rattle.rb_base.specs.declared.sizes.TheConstants.{SLOTS}
use Rattle.rb_ring.specs.declared.extents.TheConstants.{EXTENTS, EXTENT_RECORDS}
use Rattle.rb_base.specs.declared.ids.Uba.{Uba}
use Rattle.rb_model.specs.Book.{turn_of}
use Rattle.rb_ring.specs.declared.extents.Extent.{Extent}
use Rattle.rb_segment.specs.Header.{Header, Segment, slot_in, extent_with, record_in}
use Rattle.rb_segment.specs.Moves.{claimed_slot, claimed, turned, with_header, with_record, Ring, SegmentAges, Records}
use Rattle.rb_segment.specs.Running.{KeepsRecords, Touches}
use Rattle.rb_txntable.specs.Slots.{no_slot}
use Rattle.rb_txntable.specs.declared.slots.TableSlot.{TableSlot}
use Rattle.rb_undoblock.specs.declared.record.UndoRecord.{UndoRecord}
use Rattle.rb_segment.proofs.Moments.{ages_same, ages_joined, claim_ages, turn_ages, add_ages}
use Rattle.rb_segment.proofs.Records.{added_found, turned_ring, added_ring}

-- a slot keeps its records where it, the turns and the records are the same
pub keeps_same : (s s2 : Segment) (j : ℕ) → slot_in s2.header j ≡ slot_in s.header j → s2.header.extents ≡ s.header.extents → ((k : ℕ) → record_in s2 k ≡ record_in s k) → KeepsRecords s j → KeepsRecords s2 j
keeps_same s s2 j slot extents records keeps = record {
  first = ap (λ (z : TableSlot). z.first) slot ∙ (keeps.first ∙ ap (λ (z : TableSlot). turn_of (z.start + 1)) (sym slot));
  pinned = (keeps.pinned.0, ap (λ (z : List Extent). extent_with z (slot_in s2.header j).first) extents ∙ (ap (λ (z : TableSlot). extent_with s.header.extents z.first) slot ∙ keeps.pinned.1));
  touched = λ k r is of wrap.
      let t : ((slot_in s.header j).start < k) × Touches (slot_in s.header j).touched (extent_with s.header.extents (turn_of k)) = keeps.touched k r (sym (records k) ∙ is) of (wrap ∙ ap (λ (z : TableSlot). z.wrap) slot) in (
        subst (λ (z : TableSlot). z.start < k) (sym slot) t.0,
        touches (slot_in s.header j).touched (slot_in s2.header j).touched (ap (λ (z : TableSlot). z.touched) (sym slot)) (extent_with s.header.extents (turn_of k)) (extent_with s2.header.extents (turn_of k)) (ap (λ (z : List Extent). extent_with z (turn_of k)) (sym extents)) t.1,
      );
}
  where
    touches : (bits bits2 : ℕ) → bits ≡ bits2 → (o o2 : Option ℕ) → o ≡ o2 → Touches bits o → Touches bits2 o2
    touches bits bits2 same o o2 is t = subst (λ (z : Option ℕ). Touches bits2 z) is (subst (λ (z : ℕ). Touches z o) same t)

pub claimed_other : (h : Header) (i j : ℕ) → j ≢ i → slot_in (claimed i h) j ≡ slot_in h j
claimed_other h i j ne = get_or-set_other h.slots i j (claimed_slot h (slot_in h i)) no_slot ne

-- the segment once the slot is the transaction's
pub record ReadyIs (goes : ℕ → Type 0) (s ready : Segment) : Type 0 where
  pub ages : SegmentAges goes s ready
  pub ring : Ring ready.header
  pub slots : length ready.header.slots ≡ SLOTS
  pub room : length ready.undo ≡ (EXTENTS * EXTENT_RECORDS)
  pub writes : ready.header.writes ≡ s.header.writes
  pub keeps : (j : ℕ) → goes j → ((slot_in ready.header j).state ≡ 1) × KeepsRecords ready j

-- and once its head has room
pub record RoomIs (goes : ℕ → Type 0) (s now : Segment) : Type 0 where
  pub ages : SegmentAges goes s now
  pub ring : Ring now.header
  pub few : now.header.records < EXTENT_RECORDS
  pub slots : length now.header.slots ≡ SLOTS
  pub room : length now.undo ≡ (EXTENTS * EXTENT_RECORDS)
  pub writes : now.header.writes ≡ s.header.writes

-- a segment before the write: its ring and its lists, and what goes on in it
module _ (goes : ℕ → Type 0) (s : Segment) (i : ℕ) (address : Uba) (r : UndoRecord) (s2 : Segment) (ring : Ring s.header) (slots : length s.header.slots ≡ SLOTS) (room : length s.undo ≡ (EXTENTS * EXTENT_RECORDS)) (within : i < SLOTS) (in_order : (slot_in s.header i).before ≤ (slot_in s.header i).newest) (keeps : (j : ℕ) → goes j → ((slot_in s.header j).state ≡ 1) × KeepsRecords s j) (records : Records s i address r s2) where
  ready_same : ReadyIs goes s s
  ready_same = record { ages = ages_same goes s; ring = ring; slots = slots; room = room; writes = refl; keeps = keeps }

  ready_claimed : (slot_in s.header i).state ≢ 1 → ReadyIs goes s (with_header (claimed i s.header) s)
  ready_claimed idle = record {
    ages = claim_ages goes s i (omega (arith, within, slots)) idle in_order gone;
    ring = record { extents = ring.extents; head_in = ring.head_in; apart = ring.apart; highest = ring.highest; second = ring.second; few = ring.few; count = ring.count };
    slots = simp length-set slots;
    room = room;
    writes = refl;
    keeps = λ j g. let k : ((slot_in s.header j).state ≡ 1) × KeepsRecords s j = keeps j g in (ap (λ (z : TableSlot). z.state) (claimed_other s.header i j (gone j g)) ∙ k.0, keeps_same s (with_header (claimed i s.header) s) j (claimed_other s.header i j (gone j g)) refl (λ k. refl) k.1);
  }
    where
      gone : (j : ℕ) → goes j → j ≢ i
      gone j g same = idle (subst (λ (z : ℕ). (slot_in s.header z).state ≡ 1) same (keeps j g).0)

  pub is_ready : ReadyIs goes s records.ready
  is_ready = elim records.is_ready [
    | inl own ↦ subst (λ (z : Segment). ReadyIs goes s z) (sym own.1) ready_same
    | inr free ↦ subst (λ (z : Segment). ReadyIs goes s z) (sym free.1) (ready_claimed free.0)
  ]

  pub has_room : RoomIs goes s records.room
  has_room = elim records.has_room [
    | inl few ↦ subst (λ (z : Segment). RoomIs goes s z) (sym few.1) (record { ages = is_ready.ages; ring = is_ready.ring; few = few.0; slots = is_ready.slots; room = is_ready.room; writes = is_ready.writes })
    | inr full ↦ subst (λ (z : Segment). RoomIs goes s z) (sym full.2) (record {
      ages = ages_joined goes s records.ready (with_header (turned full.0 records.ready.header) records.ready) is_ready.ages (turn_ages goes records.ready full.0 is_ready.ring is_ready.slots full.1 is_ready.keeps);
      ring = turned_ring full.0 records.ready.header is_ready.ring full.1;
      few = omega arith;
      slots = is_ready.slots;
      room = is_ready.room;
      writes = is_ready.writes;
    })
  ]

  pub write_ages : SegmentAges goes s s2
  write_ages = subst (λ (z : Segment). SegmentAges goes s z) (sym records.made) (ages_joined goes s records.room (with_record i address records.touched r records.room) has_room.ages (add_ages goes i address records.touched r records.room has_room.ring has_room.few has_room.room))

  pub write_found : record_in s2 (s.header.writes + 1) ≡ Some r
  write_found = subst (λ (z : Segment). record_in z (s.header.writes + 1) ≡ Some r) (sym records.made) (subst (λ (z : ℕ). record_in (with_record i address records.touched r records.room) (z + 1) ≡ Some r) has_room.writes (added_found i address records.touched r records.room has_room.ring has_room.few has_room.room))

  pub write_ring : Ring s2.header
  write_ring = subst (λ (z : Segment). Ring z.header) (sym records.made) (added_ring i address records.touched records.room.header has_room.ring has_room.few)

  pub write_writes : s2.header.writes ≡ s.header.writes + 1
  write_writes = ap (λ (z : Segment). z.header.writes) records.made ∙ ap (λ (z : ℕ). z + 1) has_room.writes
