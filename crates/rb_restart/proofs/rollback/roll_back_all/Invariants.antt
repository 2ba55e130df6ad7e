use Rattle.std.proofs.Common.{◌*◌, ◌^◌, ◌<◌, ℕ, true}
use Rattle.rb_base.specs.declared.sizes.TheConstants.{SLOTS}
use Rattle.rb_restart.specs.Steps.{IsIdle, Rolls}
use Rattle.rb_restart.proofs.rollback.roll_back_all.Given as goal

abbrev pub invariant-loop-seg : goal.invariant-loop-seg
invariant-loop-seg g l = record {
  rolls : Rolls g.S.Store l.shape l.fn.store l.store (l.seg * 2 ^ 36) true (λ now. (t : ℕ) → t < SLOTS * l.seg → IsIdle l.shape now t);
}
