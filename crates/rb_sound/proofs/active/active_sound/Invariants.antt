use Rattle.std.proofs.Common.{◌≡◌, ◌<◌, ℕ, true, []}
use Rattle.rb_base.specs.Logs.{Logs}
use Rattle.rb_base.specs.declared.sizes.TheConstants.{ACTIVE, SLOTS}
use Rattle.rb_segment.specs.Header.{segment_of, slot_in}
use Rattle.rb_sound.specs.Active.{Fits, IsActive}
use Rattle.rb_sound.proofs.active.active_sound.Given as goal

abbrev pub invariant-loop-g : goal.invariant-loop-g
invariant-loop-g g l = record {
  logs : Logs g.S.Store l.fn.store l.store [] true;
  so_far : g.S.Store.tells → (k i : ℕ) → k < l.g → i < SLOTS → (slot_in (segment_of (g.S.Store.shape_of l.fn.store) (g.S.Store.blocks l.fn.store) k).header i).state ≡ ACTIVE → IsActive (Fits l.limits) (g.S.Store.shape_of l.fn.store) k (segment_of (g.S.Store.shape_of l.fn.store) (g.S.Store.blocks l.fn.store) k) i;
}
