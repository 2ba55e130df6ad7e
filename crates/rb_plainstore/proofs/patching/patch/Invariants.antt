use Rattle.std.proofs.Common.{◌≡◌, take}
use Rattle.rb_base.specs.Blocks.{after_group}
use Rattle.rb_plainstore.proofs.patching.patch.Given as goal

abbrev pub invariant-loop-i : goal.invariant-loop-i
invariant-loop-i l = l.blocks ≡ after_group l.lsn (take l.i l.group) l.fn.blocks
