use Rattle.std.proofs.Common.{◌<◌, ◌%◌, ℕ, true, []}
use Rattle.rb_base.specs.Blocks.{block_of}
use Rattle.rb_base.specs.Logs.{Logs}
use Rattle.rb_heap.specs.Soundness.{IsHomeSound}
use Rattle.rb_segment.specs.Segments.{wrap_in}
use Rattle.rb_sound.proofs.blocks.homes_sound.Given as goal

abbrev pub invariant-loop-no : goal.invariant-loop-no
invariant-loop-no g l = record {
  logs : Logs g.S.Store l.fn.store l.store [] true;
  so_far : g.S.Store.tells → (k : ℕ) → k < l.no → IsHomeSound l.limits.shape l.limits.commit (wrap_in l.limits.wraps) (k % l.limits.shape.blocks) (block_of (g.S.Store.blocks l.fn.store) k);
}
