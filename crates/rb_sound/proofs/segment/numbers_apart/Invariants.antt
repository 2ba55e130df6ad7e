use Rattle.std.proofs.Common.{◌≢◌, ℕ, ◌<◌}
use Rattle.rb_ring.specs.Ring.{extent_ord}
use Rattle.rb_sound.proofs.segment.numbers_apart.Given as goal

abbrev pub invariant-loop-e : goal.invariant-loop-e
invariant-loop-e l = (k : ℕ) → k < l.e → (lower : ℕ) → lower < k → extent_ord l.header lower ≢ extent_ord l.header k
