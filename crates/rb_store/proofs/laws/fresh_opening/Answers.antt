use Rattle.rb_store.proofs.FreshOpening.{fresh_opens}
use Rattle.rb_store.proofs.laws.fresh_opening.Goals as goal

pub returns : goal.returns
returns c = fresh_opens
