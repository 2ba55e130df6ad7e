use Rattle.rb_model.proofs.KeyLemmas.{first_asked}
use Rattle.rb_model.proofs.laws.key_laws.Goals as goal
use Rattle.rb_model.specs.Calls.{rows_seen}

pub returns-clause-read : goal.returns-clause-read
returns-clause-read c h s table key name = first_asked table key (rows_seen h s)
