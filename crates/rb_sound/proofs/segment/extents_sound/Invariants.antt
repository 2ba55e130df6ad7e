use Rattle.std.proofs.Common.{ℕ, ◌<◌, ◌≤◌}
use Rattle.rb_ring.specs.Ring.{extent_newest}
use Rattle.rb_sound.proofs.segment.extents_sound.Given as goal

abbrev pub invariant-loop-e : goal.invariant-loop-e
invariant-loop-e l = (k : ℕ) → k < l.e → extent_newest l.header k ≤ l.commit
