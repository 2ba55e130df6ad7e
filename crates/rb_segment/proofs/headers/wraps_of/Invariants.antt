use Rattle.std.proofs.Common.{◌≡◌, ℕ, ◌<◌, [], true, length}
use Rattle.rb_base.specs.declared.sizes.TheConstants.{SLOTS}
use Rattle.rb_base.specs.Logs.{Logs}
use Rattle.rb_segment.specs.Segments.{wrap_at, wrap_in}
use Rattle.rb_segment.proofs.headers.wraps_of.Given as goal

abbrev pub invariant-loop-g : goal.invariant-loop-g
invariant-loop-g g l = record {
  logs : Logs g.S.Store l.fn.store l.store [] true;
  size : length l.wraps ≡ SLOTS;
  so_far : g.S.Store.tells → (seg slot : ℕ) → seg < l.g → slot < SLOTS → wrap_in l.wraps seg slot ≡ wrap_at (g.S.Store.shape_of l.fn.store) (g.S.Store.blocks l.fn.store) seg slot;
}
