use Rattle.std.proofs.Common.{ℕ, ◌<◌}
use Rattle.rb_ring.specs.Turns.{PinsAt}
use Rattle.rb_ring.proofs.turns.is_pinned.Given as goal

abbrev pub invariant-loop-i : goal.invariant-loop-i
invariant-loop-i l = (k : ℕ) → k < l.i → ¬ (PinsAt l.header l.turn k)
