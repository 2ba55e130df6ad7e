use Rattle.rb_model.proofs.Acknowledged.{after_kept, checkpoint_safe, later_waits, lines_kept, told_safe}
use Rattle.rb_model.proofs.laws.safe_laws.Goals as goal

pub returns-clause-told : goal.returns-clause-told
returns-clause-told c = told_safe

pub returns-clause-checkpoint : goal.returns-clause-checkpoint
returns-clause-checkpoint c = checkpoint_safe

pub returns-clause-later : goal.returns-clause-later
returns-clause-later c = later_waits

pub returns-clause-call : goal.returns-clause-call
returns-clause-call c h h2 call r made after = after_kept h h2 call r after made

pub returns-clause-lines : goal.returns-clause-lines
returns-clause-lines c m m2 lines out made is = lines_kept m m2 _ lines out is made
