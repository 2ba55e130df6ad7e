use Rattle.std.proofs.Common.{◌∙◌, sym, ap, arith}
use Rattle.rb_cell.specs.declared.cell.Cell.{Cell}
use Rattle.rb_cr.proofs.Shown.{cell_there, sixteen}
use Rattle.rb_cr.proofs.plain.BlockCellsPlainCells.value.Goals as goal

pub overflow_cast-c : goal.overflow_cast-c
overflow_cast-c c = omega (arith, c.requires.within, sixteen c.args.self.now.block.now)

pub value_at-requires-clause-within : goal.value_at-requires-clause-within
value_at-requires-clause-within c = omega (arith, c.requires.within, sixteen c.args.self.now.block.now)

pub returns-clause-bytes : goal.returns-clause-bytes
returns-clause-bytes c = c.value_at.ensures.bytes ∙ ap (λ (x : Cell). x.value.items) (sym (cell_there c.args.self.now.block.now c.args.c (omega (arith, c.requires.within, sixteen c.args.self.now.block.now))))
