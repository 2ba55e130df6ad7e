use Rattle.std.proofs.Common.{ℕ, ◌<◌}
use Rattle.rb_cell.specs.Cells.{cell_at}
use Rattle.rb_heap.specs.Soundness.{IsLock}
use Rattle.rb_sound.proofs.home.locks_sound.Given as goal

abbrev pub invariant-loop-c : goal.invariant-loop-c
invariant-loop-c l = (k : ℕ) → k < l.c → IsLock l.block (cell_at l.block k).lock
