use Rattle.rb_recovery.proofs.Opened.{opens_to}
use Rattle.rb_recovery.proofs.laws.opened_stands.Goals as goal

pub returns : goal.returns
returns c = opens_to
