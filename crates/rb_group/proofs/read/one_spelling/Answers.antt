use Rattle.rb_group.proofs.Spelling.{group_same, group_prefix, length-group}
use Rattle.rb_group.proofs.read.one_spelling.Goals as goal

pub returns-clause-same : goal.returns-clause-same
returns-clause-same c = group_same

pub returns-clause-prefix : goal.returns-clause-prefix
returns-clause-prefix c = group_prefix

pub returns-clause-length : goal.returns-clause-length
returns-clause-length c = length-group
