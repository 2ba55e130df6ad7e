use Rattle.std.proofs.Common.{◌≡◌, ◌*◌, length, take}
use Rattle.std.specs.List.{concat}
use Rattle.rb_base.specs.Blocks.{fresh_from}
use Rattle.rb_base.specs.declared.sizes.TheConstants.{UNIT}
use Rattle.rb_store.proofs.new_file.put_blocks.Given as goal

abbrev pub invariant-loop-k : goal.invariant-loop-k
invariant-loop-k l = record {
  long : length l.into ≡ UNIT * l.count;
  put : take (UNIT * l.k) l.into ≡ concat (fresh_from l.shape l.first l.k);
}
