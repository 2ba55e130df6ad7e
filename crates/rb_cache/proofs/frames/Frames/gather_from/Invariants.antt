use Rattle.std.proofs.Common.{◌≡◌, ◌-◌, ◌<◌, ◌≤◌, ◌⊎◌, true, length}
use Rattle.std.specs.Map.{keys_of}
use Rattle.rb_cache.specs.Slots.{AreCleanFrom, GatheredSoFar, frame_at}
use Rattle.rb_cache.proofs.frames.Frames.gather_from.Given as goal

abbrev pub invariant-loop-next : goal.invariant-loop-next
invariant-loop-next l = record {
  from : l.from ≤ l.next;
  end : l.next ≤ length l.self-inside.slots.items;
  order : keys_of l.self-inside.order.entries ≡ l.fn.self.order;
  so_far : GatheredSoFar l.fn.self.slots l.self-inside.slots.items (keys_of l.self-inside.order.entries) l.self-inside.places.items l.twin.batch;
  clean : AreCleanFrom l.from l.next l.self-inside.slots.items;
  layout : l.twin.layout ≡ l.fn.twin.layout;
  same : l.next ≡ l.from → l.self-inside.slots.items ≡ l.fn.self.slots;
  some : (frame_at l.fn.self.slots l.from).dirty ≡ true → l.from < l.next → 0 < length l.twin.batch;
  on : (l.from < l.next) ⊎ (length l.twin.batch ≡ 0);
}

abbrev pub decreases-loop-next : goal.decreases-loop-next
decreases-loop-next l = length l.self-inside.slots.items - l.next
