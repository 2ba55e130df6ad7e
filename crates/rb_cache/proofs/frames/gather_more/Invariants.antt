use Rattle.std.proofs.Common.{◌≡◌, ◌<◌, ◌≤◌, ℕ, List, length, false}
use Rattle.std.specs.List.{AllByRecursion}
use Rattle.std.specs.Map.{keys_of}
use Rattle.rb_cache.specs.Slots.{GatheredSoFar, IsGathering, frame_at}
use Rattle.rb_cache.specs.declared.frame.Frame.{Frame}
use Rattle.rb_cache.proofs.frames.gather_more.Given as goal

abbrev pub invariant-loop-frame : goal.invariant-loop-frame
invariant-loop-frame l = record {
  can_next : (goal.iterator-loop-frame).can_next l.frame-iterator;
  is_finite : (goal.iterator-loop-frame).is_finite l.frame-iterator;
  rest : AllByRecursion (λ e. e.0 < length l.slots) l.frame-iterator.iter.iter;
  begun : IsGathering l.slots (keys_of l.order.entries) l.twin;
  gathered : (before : List Frame) (places : List ℕ) → GatheredSoFar before l.fn.slots (keys_of l.order.entries) places l.fn.twin.batch → GatheredSoFar before l.slots (keys_of l.order.entries) places l.twin.batch;
  cleaner : (k : ℕ) → (frame_at l.fn.slots k).dirty ≡ false → (frame_at l.slots k).dirty ≡ false;
  more : length l.fn.twin.batch ≤ length l.twin.batch;
  layout : l.twin.layout ≡ l.fn.twin.layout;
  count : length l.slots ≡ length l.fn.slots;
}
