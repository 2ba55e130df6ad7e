use Rattle.std.proofs.Common.{◌≢◌, ◌<◌, ℕ}
use Rattle.rb_ring.specs.Ring.{extent_ord}
use Rattle.rb_cr.proofs.reads.extent_of.Given as goal

abbrev pub invariant-loop-e : goal.invariant-loop-e
invariant-loop-e l = (f : ℕ) → f < l.e → extent_ord l.header f ≢ l.turn
