use Rattle.std.proofs.Common.{ℕ, ◌<◌, ◌≤◌}
use Rattle.rb_ring.specs.Ring.{extent_ord}
use Rattle.rb_ring.proofs.turns.outside.Given as goal

abbrev pub invariant-loop-e : goal.invariant-loop-e
invariant-loop-e l = (k : ℕ) → k < l.e → 1 ≤ extent_ord l.header k
