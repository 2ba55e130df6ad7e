use Rattle.std.proofs.Common.{◌<◌, ℕ, IfSome, slice_index_or}
use Rattle.rb_cr.specs.Rows.{IsFound, Reaches}
use Rattle.rb_cr.specs.Scratches.{shown_over}
use Rattle.rb_heap.specs.Homes.{empty_cell}
use Rattle.rb_cr.proofs.rows.least_cell.Given as goal

abbrev pub invariant-loop-i : goal.invariant-loop-i
invariant-loop-i l = record {
  found : IfSome l.least (λ k. IsFound l.wanted.after l.wanted.lo l.wanted.hi (shown_over l.cells l.kept) k);
  reached : (j : ℕ) → j < l.i → IsFound l.wanted.after l.wanted.lo l.wanted.hi (shown_over l.cells l.kept) (slice_index_or l.cells j empty_cell).key → Reaches l.least (slice_index_or l.cells j empty_cell).key;
}
