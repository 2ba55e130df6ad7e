use Rattle.rb_cell.proofs.CellBytes.{cell_read, length-cell, cell_there, cell_others, cell_outside, cell_size}
use Rattle.rb_cell.proofs.laws.cell_in_block.Goals as goal

pub returns-clause-read : goal.returns-clause-read
returns-clause-read c = cell_read

pub returns-clause-length : goal.returns-clause-length
returns-clause-length c = length-cell

pub returns-clause-same : goal.returns-clause-same
returns-clause-same c = cell_there

pub returns-clause-others : goal.returns-clause-others
returns-clause-others c = cell_others

pub returns-clause-outside : goal.returns-clause-outside
returns-clause-outside c = cell_outside

pub returns-clause-size : goal.returns-clause-size
returns-clause-size c = cell_size
