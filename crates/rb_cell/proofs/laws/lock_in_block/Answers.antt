use Rattle.rb_cell.proofs.CellBytes.{lock_there, lock_others, lock_outside, lock_size}
use Rattle.rb_cell.proofs.laws.lock_in_block.Goals as goal

pub returns-clause-same : goal.returns-clause-same
returns-clause-same c = lock_there

pub returns-clause-others : goal.returns-clause-others
returns-clause-others c = lock_others

pub returns-clause-outside : goal.returns-clause-outside
returns-clause-outside c = lock_outside

pub returns-clause-size : goal.returns-clause-size
returns-clause-size c = lock_size
