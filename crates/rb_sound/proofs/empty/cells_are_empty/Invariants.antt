use Rattle.std.proofs.Common.{ℕ, ◌<◌}
use Rattle.rb_sound.specs.Empty.{IsEmptyCell}
use Rattle.rb_sound.proofs.empty.cells_are_empty.Given as goal

abbrev pub invariant-loop-c : goal.invariant-loop-c
invariant-loop-c l = (k : ℕ) → k < l.c → IsEmptyCell l.block k
