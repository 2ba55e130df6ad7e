use Rattle.rb_heap.proofs.Seen.{rows_at, rows_with, rows_locked, none_keyed}
use Rattle.rb_heap.proofs.laws.home_listed.Goals as goal

pub returns-clause-at_cell : goal.returns-clause-at_cell
returns-clause-at_cell c = rows_at

pub returns-clause-with_cell : goal.returns-clause-with_cell
returns-clause-with_cell c = rows_with

pub returns-clause-with_lock : goal.returns-clause-with_lock
returns-clause-with_lock c = rows_locked

pub returns-clause-none_keyed : goal.returns-clause-none_keyed
returns-clause-none_keyed c = none_keyed
