use Rattle.rb_layout.specs.OneLayout.{one_layout}
use Rattle.rb_layout.proofs.read.one_layout.Goals as goal

pub returns : goal.returns
returns c = λ version l m file one two. one_layout version l m file one two
