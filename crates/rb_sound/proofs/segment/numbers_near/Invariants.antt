use Rattle.std.proofs.Common.{ℕ, ◌<◌}
use Rattle.rb_ring.specs.Ring.{extent_ord, IsNear}
use Rattle.rb_sound.proofs.segment.numbers_near.Given as goal

abbrev pub invariant-loop-e : goal.invariant-loop-e
invariant-loop-e l = (k : ℕ) → k < l.e → IsNear l.extents l.newest (extent_ord l.header k)
