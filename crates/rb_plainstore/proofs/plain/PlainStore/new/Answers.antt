use Rattle.std.proofs.Common.{sym, subst}
use Rattle.rb_base.specs.Blocks.{AreBlocks}
use Rattle.rb_layout.specs.Fresh.{fresh_are_blocks}
use Rattle.rb_plainstore.proofs.plain.PlainStore.new.Goals as goal

pub invariant_of-result : goal.invariant_of-result
invariant_of-result c = record {
  shape_fits = c.requires;
  are_blocks = subst (AreBlocks c.args.shape) (sym c.in_ok-fresh_blocks.ensures) (fresh_are_blocks c.args.shape);
  loaded_there = tt;
}
