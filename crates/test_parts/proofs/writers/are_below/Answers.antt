use Rattle.std.proofs.Common.{◌<◌, [], arith}
use Rattle.rb_base.specs.Groups.{Patch, patch}
use Rattle.rb_base.proofs.Each.{all_take_more}
use Rattle.test_parts.proofs.writers.are_below.Goals as goal

pub loop-i-preserved : goal.loop-i-preserved
loop-i-preserved c =
    let blocks = c.args.blocks in
    let d = patch 0 0 [] in
    all_take_more (λ (p : Patch). p.block < blocks) c.args.group.now c.loop-i.i d (omega (arith, c.patches-i-end.ensures.count, c.loop-i-test.true)) c.loop-i.invariant (omega (arith, c.patch_block.ensures d, c.if-patch_block-blocks.false))
