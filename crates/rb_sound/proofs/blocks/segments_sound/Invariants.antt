use Rattle.std.proofs.Common.{◌<◌, ℕ, true, []}
use Rattle.rb_base.specs.Blocks.{block_of, header_block}
use Rattle.rb_base.specs.Logs.{Logs}
use Rattle.rb_sound.specs.Sound.{IsSegment}
use Rattle.rb_sound.proofs.blocks.segments_sound.Given as goal

abbrev pub invariant-loop-g : goal.invariant-loop-g
invariant-loop-g g l = record {
  logs : Logs g.S.Store l.fn.store l.store [] true;
  so_far : g.S.Store.tells → (k : ℕ) → k < l.g → IsSegment l.commit (block_of (g.S.Store.blocks l.fn.store) (header_block (g.S.Store.shape_of l.fn.store) k));
}
