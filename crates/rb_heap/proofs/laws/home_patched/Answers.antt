use Rattle.std.proofs.Common.{arith, ◌∙◌}
use Rattle.rb_cell.specs.Cells.{cell_patch, lock_patch}
use Rattle.rb_cell.proofs.CellBytes.{length-cell}
use Rattle.rb_heap.specs.Homes.{entry_patch}
use Rattle.rb_heap.proofs.Patching.{cell_written, lock_written, entry_written}
use Rattle.rb_heap.proofs.Blocks.{home_lone}
use Rattle.rb_heap.proofs.laws.home_patched.Goals as goal

pub returns-clause-cell : goal.returns-clause-cell
returns-clause-cell c block number which at cell long few sound = home_lone block number (cell_patch which at cell) long (omega arith) (omega (arith, length-cell cell sound)) ∙ cell_written block at cell long few sound

pub returns-clause-lock : goal.returns-clause-lock
returns-clause-lock c block number which at lock long few = home_lone block number (lock_patch which at lock) long (omega arith) (omega arith) ∙ lock_written block at lock long few

pub returns-clause-entry : goal.returns-clause-entry
returns-clause-entry c block number which i entry long few sound = home_lone block number (entry_patch which i entry) long (omega arith) (omega arith) ∙ entry_written block i entry long few sound
