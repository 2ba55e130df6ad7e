use Rattle.rb_segment.proofs.Numbers.{commit_above, commit_least}
use Rattle.rb_segment.proofs.laws.commit_greatest.Goals as goal

pub returns-clause-none_above : goal.returns-clause-none_above
returns-clause-none_above c = commit_above

pub returns-clause-least : goal.returns-clause-least
returns-clause-least c = commit_least
