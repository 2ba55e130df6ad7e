use Rattle.rb_segment.proofs.BookMoves.{book_taken, book_turned, book_added, book_finished, book_left, book_back}
use Rattle.rb_segment.proofs.BookWritten.{book_of_write}
use Rattle.rb_segment.proofs.Books.{needs_is}
use Rattle.rb_segment.proofs.Choices.{claims_first_free, first_free_claims}
use Rattle.rb_segment.proofs.Full.{none_then_full, full_then_none, next_full_is}
use Rattle.rb_segment.proofs.laws.books_told.Goals as goal

pub returns-clause-claimed : goal.returns-clause-claimed
returns-clause-claimed c = λ h b session i book slots within idle. book_taken h b book slots session i within idle

pub returns-clause-needs : goal.returns-clause-needs
returns-clause-needs c = λ commit h b tells. needs_is h b tells.book commit tells.order tells.count tells.begun

pub returns-clause-turned : goal.returns-clause-turned
returns-clause-turned c = λ commit h b e tells turns may. book_turned h b tells.book commit tells.order tells.count tells.begun e may turns

pub returns-clause-added : goal.returns-clause-added
returns-clause-added c = λ commit h b i address touched book order count within active started few bits. book_added h b book commit order count i address touched within active started few bits

pub returns-clause-written : goal.returns-clause-written
returns-clause-written c = λ s i address u s2 commit logged session b records order within keeps running book. book_of_write s i address u s2 records commit logged order within keeps running session b book

pub returns-clause-committed : goal.returns-clause-committed
returns-clause-committed c = λ commit h b n i tells within active. book_finished h b tells.book commit tells.order tells.count tells.begun n i within active

pub returns-clause-ended : goal.returns-clause-ended
returns-clause-ended c = λ h b i book slots within. book_left h b book slots i within

pub returns-clause-put_back : goal.returns-clause-put_back
returns-clause-put_back c = λ h b i previous book slots within. book_back h b book slots i previous within

pub returns-clause-full : goal.returns-clause-full
returns-clause-full c = λ commit h b tells turns. (none_then_full commit h b tells turns, full_then_none commit h b tells turns)

pub returns-clause-next_full : goal.returns-clause-next_full
returns-clause-next_full c = λ commit h b tells turns. next_full_is commit h b tells turns

pub returns-clause-chosen : goal.returns-clause-chosen
returns-clause-chosen c = λ h b i book. (claims_first_free h b book i, first_free_claims h b book i)
