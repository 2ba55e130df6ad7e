use Rattle.std.proofs.Common.{ℕ, ◌<◌, true, []}
use Rattle.rb_base.specs.Blocks.{block_of, header_block}
use Rattle.rb_base.specs.Logs.{Logs}
use Rattle.rb_txntable.specs.Slots.{active_count}
use Rattle.rb_write.proofs.Writers.{IsSoFar}
use Rattle.rb_write.proofs.segment.fewest.Given as goal

abbrev pub invariant-loop-g : goal.invariant-loop-g
invariant-loop-g g l = record {
  logs : Logs g.S.Store l.fn.store l.store [] true;
  some : g.S.Store.tells → (k : ℕ) → k < l.g → 0 < active_count (block_of (g.S.Store.blocks l.fn.store) (header_block (g.S.Store.shape_of l.fn.store) k));
  within : l.fewest < (g.S.Store.shape_of l.fn.store).segments;
  so_far : g.S.Store.tells → IsSoFar (λ (k : ℕ). active_count (block_of (g.S.Store.blocks l.fn.store) (header_block (g.S.Store.shape_of l.fn.store) k))) l.g l.fewest l.least;
}
