use Rattle.rb_base.proofs.OneBlock.{one_block}
use Rattle.rb_base.proofs.laws.one_block.Goals as goal

-- src/laws.rt:6:1
pub returns : goal.returns
returns c = one_block
