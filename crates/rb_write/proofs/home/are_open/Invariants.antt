use Rattle.std.proofs.Common.{◌≡◌, ℕ, ◌<◌}
use Rattle.rb_itl.specs.Entries.{entry_at}
use Rattle.rb_itl.specs.declared.slots.TheConstants.{OPEN}
use Rattle.rb_write.proofs.home.are_open.Given as goal

abbrev pub invariant-loop-i : goal.invariant-loop-i
invariant-loop-i l = (k : ℕ) → k < l.i → (entry_at l.home k).kind ≡ OPEN
