use Rattle.std.proofs.Common.{ℕ, ◌<◌}
use Rattle.rb_cell.specs.Cells.{cell_at}
use Rattle.rb_heap.specs.Soundness.{IsCellSound}
use Rattle.rb_sound.proofs.home.cells_sound.Given as goal

abbrev pub invariant-loop-c : goal.invariant-loop-c
invariant-loop-c l = (k : ℕ) → k < l.c → IsCellSound l.shape l.home (cell_at l.block k)
