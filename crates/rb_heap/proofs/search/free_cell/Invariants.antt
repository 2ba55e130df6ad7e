use Rattle.std.proofs.Common.{◌≡◌, ◌<◌, ℕ, false}
use Rattle.rb_cell.specs.Cells.{cell_at}
use Rattle.rb_heap.specs.Homes.{is_free}
use Rattle.rb_heap.proofs.search.free_cell.Given as goal

abbrev pub invariant-loop-c : goal.invariant-loop-c
invariant-loop-c l = (k : ℕ) → k < l.c → is_free (cell_at l.block k) ≡ false
