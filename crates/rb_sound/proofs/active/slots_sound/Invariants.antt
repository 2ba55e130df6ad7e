use Rattle.std.proofs.Common.{◌≡◌, ◌<◌, ℕ, true, []}
use Rattle.rb_base.specs.Logs.{Logs}
use Rattle.rb_base.specs.declared.sizes.TheConstants.{ACTIVE}
use Rattle.rb_segment.specs.Header.{segment_of, slot_in}
use Rattle.rb_sound.specs.Active.{Fits, IsActive}
use Rattle.rb_sound.proofs.active.slots_sound.Given as goal

abbrev pub invariant-loop-i : goal.invariant-loop-i
invariant-loop-i g l = record {
  logs : Logs g.S.Store l.fn.store l.store [] true;
  so_far : g.S.Store.tells → (k : ℕ) → k < l.i → (slot_in (segment_of l.shape (g.S.Store.blocks l.fn.store) l.g).header k).state ≡ ACTIVE → IsActive (Fits l.limits) l.shape l.g (segment_of l.shape (g.S.Store.blocks l.fn.store) l.g) k;
}
