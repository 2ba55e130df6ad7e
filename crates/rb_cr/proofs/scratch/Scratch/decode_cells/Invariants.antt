use Rattle.std.proofs.Common.{◌≡◌, length}
use Rattle.rb_cell.specs.declared.cell.TheConstants.{CELLS}
use Rattle.rb_cr.proofs.Decoded.{CellsFilled}
use Rattle.rb_cr.proofs.scratch.Scratch.decode_cells.Given as goal

abbrev pub invariant-loop-c : goal.invariant-loop-c
invariant-loop-c l = record {
  long : length l.self.cells ≡ CELLS;
  filled : CellsFilled l.block l.c l.self.cells;
  entries : l.self.entries ≡ l.initial.self.entries;
  number : l.self.block ≡ l.initial.self.block;
  watch : l.self.watch ≡ l.initial.self.watch;
}
