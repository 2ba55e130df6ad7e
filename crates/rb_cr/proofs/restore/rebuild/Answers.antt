use Rattle.law_read.proofs.Copying.{on_ok}
use Rattle.rb_cr.proofs.restore.rebuild.Goals as goal

pub returns-clause-rows : goal.returns-clause-rows
returns-clause-rows g c = λ told h reading. (c.take_all_back.ensures.told told h reading).rows

pub returns-clause-count : goal.returns-clause-count
returns-clause-count g c = λ told h reading. (c.take_all_back.ensures.told told h reading).counted

pub returns-clause-most : goal.returns-clause-most
returns-clause-most g c = λ told h reading. (c.take_all_back.ensures.told told h reading).most

pub returns-clause-old : goal.returns-clause-old
returns-clause-old g c = λ told h reading. (c.take_all_back.ensures.told told h reading).old

pub returns-clause-counted : goal.returns-clause-counted
returns-clause-counted g c = λ told h reading. (c.take_all_back.ensures.told told h reading).stopped

pub returns-clause-left : goal.returns-clause-left
returns-clause-left g c = λ told h reading high. on_ok c.take_all_back.result (λ w. record { low = reading.low; high = high; walk = w }) (c.take_all_back.ensures.told told h reading).left

pub returns-clause-first : goal.returns-clause-first
returns-clause-first g c = c.take_all_back.ensures.first
