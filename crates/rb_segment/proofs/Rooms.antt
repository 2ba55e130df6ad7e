-- A running transaction has at most the records that the ring has room for.
use Rattle.std.proofs.Common.{◌*◌, ◌≡◌, ◌<◌, ◌≤◌, ◌+◌, ◌-◌, ℕ, length, arith}
use Rattle.std.proofs.Math.Nat.{div-add-mod}
use Rattle.rb_ring.specs.declared.extents.TheConstants.{EXTENTS, EXTENT_RECORDS}
use Rattle.rb_model.specs.Book.{turn_of}
use Rattle.rb_segment.specs.Header.{Segment, slot_in, ord_in, SegmentInOrder}
use Rattle.rb_segment.specs.Running.{KeepsRecords, RunningSlot}
use Rattle.rb_segment.proofs.Records.{found}
use Rattle.rb_segment.proofs.Rings.{within_ring}

pub live_few : (commit logged : ℕ) (s : Segment) (i : ℕ) → SegmentInOrder commit logged s → KeepsRecords s i → RunningSlot s.header (slot_in s.header i) → (slot_in s.header i).live ≤ (EXTENTS * EXTENT_RECORDS)
live_few commit logged s i order keeps runs =
    let at : (keeps.pinned.0 < length s.header.extents) × (ord_in s.header keeps.pinned.0 ≡ (slot_in s.header i).first) = found s.header.extents (slot_in s.header i).first keeps.pinned.0 keeps.pinned.1 in
    let first_is : (slot_in s.header i).first ≡ turn_of ((slot_in s.header i).start + 1) = keeps.first in
    let in_ring : keeps.pinned.0 < order.header.ring.0 = within_ring s.header order.header.ring.0 order.header.extents_counted order.header.ring.1 keeps.pinned.0 (omega (arith, at.1, first_is)) in
    let near = (order.header.ring.1.near keeps.pinned.0 in_ring).near in
    let eight = order.header.ring.1.few in
    let records = order.header.records in
    let count = order.numbers.count in
    let few = runs.few in
    let a = div-add-mod ((slot_in s.header i).start + 1 - 1) EXTENT_RECORDS in
    omega (arith, at.1, first_is, near, eight, records, count, few, a)
