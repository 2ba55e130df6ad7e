use Rattle.rb_txntable.proofs.Places.{read_back, own_read, others_kept, kept_outside, numbers_kept, bytes_kept, length_kept}
use Rattle.rb_txntable.proofs.laws.slots_apart.Goals as goal

pub returns-clause-reads_back : goal.returns-clause-reads_back
returns-clause-reads_back c = read_back

pub returns-clause-own : goal.returns-clause-own
returns-clause-own c = own_read

pub returns-clause-others : goal.returns-clause-others
returns-clause-others c = others_kept

pub returns-clause-outside : goal.returns-clause-outside
returns-clause-outside c = kept_outside

pub returns-clause-numbers : goal.returns-clause-numbers
returns-clause-numbers c = numbers_kept

pub returns-clause-bytes : goal.returns-clause-bytes
returns-clause-bytes c = bytes_kept

pub returns-clause-length : goal.returns-clause-length
returns-clause-length c = length_kept
