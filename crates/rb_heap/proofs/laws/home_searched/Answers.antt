use Rattle.rb_heap.proofs.Seen.{first_by_cells, first_or_nowhere, cell_kept_sound, entry_kept_sound}
use Rattle.rb_heap.proofs.laws.home_searched.Goals as goal

pub returns-clause-by_cells : goal.returns-clause-by_cells
returns-clause-by_cells c = first_by_cells

pub returns-clause-one_or_none : goal.returns-clause-one_or_none
returns-clause-one_or_none c = first_or_nowhere

pub returns-clause-with_cell : goal.returns-clause-with_cell
returns-clause-with_cell c = cell_kept_sound

pub returns-clause-with_entry : goal.returns-clause-with_entry
returns-clause-with_entry c = entry_kept_sound
