use Rattle.std.proofs.Common.{ℕ, ◌<◌}
use Rattle.rb_txntable.specs.Slots.{IsSlot}
use Rattle.rb_sound.proofs.segment.slots_sound.Given as goal

abbrev pub invariant-loop-i : goal.invariant-loop-i
invariant-loop-i l = (k : ℕ) → k < l.i → IsSlot l.header k
