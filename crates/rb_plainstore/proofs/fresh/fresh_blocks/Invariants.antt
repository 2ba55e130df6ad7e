use Rattle.std.proofs.Common.{◌≡◌, ◌≤◌}
use Rattle.std.specs.Prelude.{vec_capacity}
use Rattle.rb_base.specs.Blocks.{fresh_from}
use Rattle.rb_plainstore.proofs.fresh.fresh_blocks.Given as goal

abbrev pub invariant-loop-no : goal.invariant-loop-no
invariant-loop-no l = record {
  made : l.blocks.items ≡ fresh_from l.shape 0 l.no;
  room : l.count ≤ vec_capacity l.blocks;
}
