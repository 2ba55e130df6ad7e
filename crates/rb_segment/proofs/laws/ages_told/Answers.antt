use Rattle.rb_segment.specs.MoveLaws.{Each, AllBut, RunsOn}
use Rattle.rb_segment.proofs.Back.{back_ages}
use Rattle.rb_segment.proofs.Commits.{commit_segment}
use Rattle.rb_segment.proofs.Ended.{end_ages}
use Rattle.rb_segment.proofs.Moments.{claim_ages, turn_ages, add_ages}
use Rattle.rb_segment.proofs.Recording.{write_ages}
use Rattle.rb_segment.proofs.laws.ages_told.Goals as goal

pub returns-clause-claimed : goal.returns-clause-claimed
returns-clause-claimed c = λ s i within idle before. claim_ages (AllBut i) s i within idle before (λ j other. other)

pub returns-clause-turned : goal.returns-clause-turned
returns-clause-turned c = λ s e ring slots may. turn_ages (RunsOn s) s e ring slots may (λ j runs. runs)

pub returns-clause-added : goal.returns-clause-added
returns-clause-added c = λ s i address touched r place. add_ages Each i address touched r s place.ring place.few place.undo

pub returns-clause-written : goal.returns-clause-written
returns-clause-written c = λ s i address r s2 ring slots undo within before records. write_ages (RunsOn s) s i address r s2 ring slots undo within before (λ j runs. runs) records

pub returns-clause-put_back : goal.returns-clause-put_back
returns-clause-put_back c = λ s i previous within. back_ages s i previous within Each

pub returns-clause-ended : goal.returns-clause-ended
returns-clause-ended c = λ s i within active. end_ages s i within active

pub returns-clause-committed : goal.returns-clause-committed
returns-clause-committed c = λ s i n within runs before later. commit_segment s i n within runs.0 before runs.1 later
