use Rattle.rb_itl.specs.Entries.{free_entry}
use Rattle.rb_heap.specs.Homes.{empty_cell}
use Rattle.rb_heap.proofs.Reading.{entries_counted, cells_counted, entry_read, cell_read}
use Rattle.rb_heap.proofs.Ranges.{home_fits}
use Rattle.rb_heap.proofs.Fresh.{fresh_empty, new_empty}
use Rattle.rb_heap.proofs.laws.home_read.Goals as goal

pub returns-clause-entry_count : goal.returns-clause-entry_count
returns-clause-entry_count c = entries_counted

pub returns-clause-cell_count : goal.returns-clause-cell_count
returns-clause-cell_count c = cells_counted

pub returns-clause-entry : goal.returns-clause-entry
returns-clause-entry c block i few = entry_read block i free_entry few

pub returns-clause-cell : goal.returns-clause-cell
returns-clause-cell c block at few = cell_read block at empty_cell few

pub returns-clause-sound : goal.returns-clause-sound
returns-clause-sound c = home_fits

pub returns-clause-fresh : goal.returns-clause-fresh
returns-clause-fresh c = fresh_empty

pub returns-clause-new_file : goal.returns-clause-new_file
returns-clause-new_file c = new_empty
