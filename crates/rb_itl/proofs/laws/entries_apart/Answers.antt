use Rattle.rb_itl.proofs.Places.{read_back, own_read, others_kept, entry_kept_outside, cells_kept, length_kept}
use Rattle.rb_itl.proofs.laws.entries_apart.Goals as goal

pub returns-clause-reads_back : goal.returns-clause-reads_back
returns-clause-reads_back c = read_back

pub returns-clause-own : goal.returns-clause-own
returns-clause-own c = own_read

pub returns-clause-others : goal.returns-clause-others
returns-clause-others c = others_kept

pub returns-clause-outside : goal.returns-clause-outside
returns-clause-outside c = entry_kept_outside

pub returns-clause-cells : goal.returns-clause-cells
returns-clause-cells c = cells_kept

pub returns-clause-length : goal.returns-clause-length
returns-clause-length c = length_kept
