use Rattle.std.proofs.Common.{◌≡◌, ◌<◌, ℕ, false}
use Rattle.rb_cell.specs.Cells.{cell_at}
use Rattle.rb_heap.specs.Homes.{is_keyed}
use Rattle.rb_heap.proofs.search.find.Given as goal

abbrev pub invariant-loop-c : goal.invariant-loop-c
invariant-loop-c l = (k : ℕ) → k < l.c → is_keyed l.key (cell_at l.block k) ≡ false
