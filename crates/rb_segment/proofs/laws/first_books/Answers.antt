use Rattle.rb_segment.proofs.FoundBooks.{found_is_book}
use Rattle.rb_segment.proofs.Fresh.{fresh_order, fresh_is_book}
use Rattle.rb_segment.proofs.laws.first_books.Goals as goal

pub returns-clause-in_order : goal.returns-clause-in_order
returns-clause-in_order c = fresh_order

pub returns-clause-fresh : goal.returns-clause-fresh
returns-clause-fresh c = fresh_is_book

pub returns-clause-idle : goal.returns-clause-idle
returns-clause-idle c = λ commit h k order ring idle. found_is_book h commit (record order { ring = (k, ring) }) idle
