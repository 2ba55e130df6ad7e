use Rattle.std.proofs.Common.{◌≡◌, ℕ, ◌<◌, ◌≤◌}
use Rattle.rb_ring.specs.Ring.{extent_ord}
use Rattle.rb_sound.proofs.segment.others_out.Given as goal

abbrev pub invariant-loop-e : goal.invariant-loop-e
invariant-loop-e l = (k : ℕ) → l.first ≤ k → k < l.e → extent_ord l.header k ≡ 0
