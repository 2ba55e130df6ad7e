use Rattle.rb_generator.proofs.CountLemmas.{counted_as_is, some_row}
use Rattle.rb_generator.proofs.counts.CountsListener.hear.Goals as goal

pub returns-clause-heard : goal.returns-clause-heard
returns-clause-heard c = (counted_as_is _ _ _ _ (c.count.ensures.counted some_row) (c.answer_to_write.ensures.answer some_row), c.count.ensures.few)
