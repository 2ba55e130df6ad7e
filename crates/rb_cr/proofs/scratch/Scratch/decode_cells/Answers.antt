use Rattle.std.proofs.Common.{rules, ◌+◌, set, refl, sym, subst, arith, ◌∙◌}
use Rattle.std.proofs.lemmas.List.{length-set}
use Rattle.rb_cell.specs.Cells.{cell_at}
use Rattle.rb_heap.specs.Homes.{empty_cell}
use Rattle.rb_cr.proofs.Decoded.{CellsFilled, cells_all, filled_more}
use Rattle.rb_cr.proofs.scratch.Scratch.decode_cells.Goals as goal

pub loop-c-init : goal.loop-c-init
loop-c-init c = record { long = search rules; filled = λ j lt. absurd (omega (arith, lt)); entries = refl; number = refl; watch = refl }

pub loop-c-preserved : goal.loop-c-preserved
loop-c-preserved c =
    let inv = c.loop-c.invariant in
    let block = c.args.block.now in
    let more : CellsFilled block (c.loop-c.c + 1) (set c.loop-c.self.cells c.loop-c.c (cell_at block c.loop-c.c)) = filled_more (cell_at block) empty_cell c.loop-c.self.cells c.loop-c.c (omega (arith, inv.long, c.loop-c-test.true)) inv.filled in
    record {
      long = length-set c.loop-c.self.cells c.loop-c.c c.cells.result ∙ inv.long;
      filled = subst (λ z. CellsFilled block (c.loop-c.c + 1) (set c.loop-c.self.cells c.loop-c.c z)) (sym c.cells.ensures.cell) more;
      entries = inv.entries;
      number = inv.number;
      watch = inv.watch;
    }

pub returns-clause-cells : goal.returns-clause-cells
returns-clause-cells c = cells_all c.args.block.now c.loop-c.c c.loop-c.self.cells c.loop-c-test.false c.loop-c.invariant.long c.loop-c.invariant.filled

pub returns-clause-entries : goal.returns-clause-entries
returns-clause-entries c = c.loop-c.invariant.entries

pub returns-clause-number : goal.returns-clause-number
returns-clause-number c = c.loop-c.invariant.number

pub returns-clause-watch : goal.returns-clause-watch
returns-clause-watch c = c.loop-c.invariant.watch
