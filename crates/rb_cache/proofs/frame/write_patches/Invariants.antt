use Rattle.std.proofs.Common.{◌≡◌, length, take}
use Rattle.rb_base.specs.Blocks.{written_to}
use Rattle.rb_base.specs.declared.sizes.TheConstants.{UNIT}
use Rattle.law_redo.specs.Rolled.{has_block}
use Rattle.rb_cache.proofs.frame.write_patches.Given as goal

abbrev pub invariant-loop-place : goal.invariant-loop-place
invariant-loop-place l = record {
  written : l.bytes ≡ written_to l.no (take l.place l.group) l.fn.bytes;
  any : l.any ≡ has_block l.no (take l.place l.group);
  unit : length l.bytes ≡ UNIT;
}
