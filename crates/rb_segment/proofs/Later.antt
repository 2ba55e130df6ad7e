-- A segment that is in order is so in a later file.
use Rattle.std.proofs.Common.{◌≤◌, ℕ, arith}
use Rattle.rb_segment.specs.Header.{Segment, SegmentNumbers, SegmentInOrder}

pub numbers_later : (logged logged2 : ℕ) (s : Segment) → logged ≤ logged2 → SegmentNumbers logged s → SegmentNumbers logged2 s
numbers_later logged logged2 s le n = record {
  writes = omega (arith, n.writes);
  records = n.records;
  count = n.count;
  begun = n.begun;
  slots = λ i few. let k = n.slots i few in record { wrap = omega (arith, k.wrap); newest = omega (arith, k.newest); before = k.before; not_lost = k.not_lost };
}

pub order_later : (commit commit2 logged logged2 : ℕ) (s : Segment) → commit ≤ commit2 → logged ≤ logged2 → SegmentInOrder commit logged s → SegmentInOrder commit2 logged2 s
order_later commit commit2 logged logged2 s le le2 o = record {
  header = record {
    slots_counted = o.header.slots_counted;
    extents_counted = o.header.extents_counted;
    ring = o.header.ring;
    records = o.header.records;
    slots = λ i few. let k = o.header.slots i few in record { state = k.state; before = k.before; newest = omega (arith, k.newest) };
    lost = omega (arith, o.header.lost);
    newest = λ e few. let k = o.header.newest e few in omega (arith, k);
  };
  undo_counted = o.undo_counted;
  numbers = numbers_later logged logged2 s le2 o.numbers;
}
