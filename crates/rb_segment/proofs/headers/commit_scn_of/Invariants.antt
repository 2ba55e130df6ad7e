use Rattle.std.proofs.Common.{◌≡◌, ℕ, [], true}
use Rattle.rb_base.specs.Blocks.{block_of, greatest, header_block}
use Rattle.rb_base.specs.Logs.{Logs}
use Rattle.rb_txntable.specs.Slots.{header_newest}
use Rattle.rb_segment.proofs.headers.commit_scn_of.Given as goal

abbrev pub invariant-loop-g : goal.invariant-loop-g
invariant-loop-g g l = record {
  logs : Logs g.S.Store l.fn.store l.store [] true;
  so_far : g.S.Store.tells → l.commit ≡ greatest (λ (k : ℕ). header_newest (block_of (g.S.Store.blocks l.fn.store) (header_block (g.S.Store.shape_of l.fn.store) k))) l.g;
}
