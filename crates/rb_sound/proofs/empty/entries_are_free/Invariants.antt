use Rattle.std.proofs.Common.{◌≡◌, ℕ, ◌<◌}
use Rattle.rb_itl.specs.Entries.{entry_at}
use Rattle.rb_itl.specs.declared.slots.TheConstants.{FREE}
use Rattle.rb_sound.proofs.empty.entries_are_free.Given as goal

abbrev pub invariant-loop-i : goal.invariant-loop-i
invariant-loop-i l = (k : ℕ) → k < l.i → (entry_at l.block k).kind ≡ FREE
