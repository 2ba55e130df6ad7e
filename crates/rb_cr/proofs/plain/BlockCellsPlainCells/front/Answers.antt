use Rattle.std.proofs.Common.{◌∙◌, sym, ap, arith}
use Rattle.rb_cell.specs.declared.cell.Cell.{Cell}
use Rattle.rb_cr.proofs.Shown.{cell_there, sixteen}
use Rattle.rb_cr.proofs.plain.BlockCellsPlainCells.front.Goals as goal

pub overflow_cast-c : goal.overflow_cast-c
overflow_cast-c c = omega (arith, c.requires.within, sixteen c.args.self.now.block.now)

pub front-requires-clause-within : goal.front-requires-clause-within
front-requires-clause-within c = omega (arith, c.requires.within, sixteen c.args.self.now.block.now)

pub returns-clause-state : goal.returns-clause-state
returns-clause-state c = c.front.ensures.state ∙ sym (ap (λ (x : Cell). x.state) (cell_there c.args.self.now.block.now c.args.c (omega (arith, c.requires.within, sixteen c.args.self.now.block.now))))

pub returns-clause-key : goal.returns-clause-key
returns-clause-key c = c.front.ensures.key ∙ sym (ap (λ (x : Cell). x.key) (cell_there c.args.self.now.block.now c.args.c (omega (arith, c.requires.within, sixteen c.args.self.now.block.now))))
