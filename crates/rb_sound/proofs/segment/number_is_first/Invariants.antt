use Rattle.std.proofs.Common.{◌≢◌, ℕ, ◌<◌}
use Rattle.rb_ring.specs.Ring.{extent_ord}
use Rattle.rb_sound.proofs.segment.number_is_first.Given as goal

abbrev pub invariant-loop-lower : goal.invariant-loop-lower
invariant-loop-lower l = (k : ℕ) → k < l.lower → extent_ord l.header k ≢ l.ord
