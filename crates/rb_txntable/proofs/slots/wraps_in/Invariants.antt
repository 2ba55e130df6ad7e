use Rattle.std.proofs.Common.{◌≡◌, ℕ, ◌<◌, length}
use Rattle.std.specs.Prelude.{slice_index}
use Rattle.rb_base.specs.declared.sizes.TheConstants.{SLOTS}
use Rattle.rb_txntable.specs.Slots.{slot_wrap}
use Rattle.rb_txntable.proofs.slots.wraps_in.Given as goal

abbrev pub invariant-loop-i : goal.invariant-loop-i
invariant-loop-i l = record { size : length l.wraps ≡ SLOTS; below : (k : ℕ) → k < l.i → slice_index l.wraps k ≡ slot_wrap l.header k }
