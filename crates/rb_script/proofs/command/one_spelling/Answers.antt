use Rattle.rb_script.proofs.Spellings.{spelling_injective}
use Rattle.rb_script.proofs.command.one_spelling.Goals as goal

pub returns : goal.returns
returns c = spelling_injective
