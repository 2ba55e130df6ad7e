use Rattle.std.proofs.Common.{◌*◌, ◌^◌, ◌+◌, ◌<◌, ℕ, true}
use Rattle.rb_base.specs.declared.sizes.TheConstants.{SLOTS}
use Rattle.rb_restart.specs.Steps.{IsIdle, Rolls}
use Rattle.rb_restart.proofs.rollback.roll_back_segment.Given as goal

abbrev pub invariant-loop-i : goal.invariant-loop-i
invariant-loop-i g l = record {
  rolls : Rolls g.S.Store l.shape l.fn.store l.store (l.i * 2 ^ 32) true (λ now. (j : ℕ) → j < l.i → IsIdle l.shape now (SLOTS * l.seg + j));
}
