use Rattle.std.proofs.Common.{ℕ, ◌<◌, ◌≤◌}
use Rattle.rb_base.specs.declared.sizes.TheConstants.{VALUE_BYTES}
use Rattle.rb_cell.specs.Cells.{value_length}
use Rattle.rb_sound.proofs.home.values_sound.Given as goal

abbrev pub invariant-loop-c : goal.invariant-loop-c
invariant-loop-c l = (k : ℕ) → k < l.c → value_length l.block k ≤ VALUE_BYTES
