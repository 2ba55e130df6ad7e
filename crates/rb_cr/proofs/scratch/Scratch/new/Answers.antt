use Rattle.std.proofs.Common.{rules}
use Rattle.rb_cell.specs.declared.cell.TheConstants.{CELLS}
use Rattle.rb_cr.proofs.Shown.{none_in}
use Rattle.rb_cr.proofs.scratch.Scratch.new.Goals as goal

pub returns : goal.returns
returns c key =
    let none = none_in c.from_fn.result CELLS key c.from_fn.ensures.items.long
    (λ i d lt. let call = c.from_fn.ensures.items.at i d lt in search rules) in
    search rules
