use Rattle.std.proofs.Common.{◌≢◌, ◌<◌, ℕ}
use Rattle.rb_itl.specs.Entries.{entry_at}
use Rattle.rb_itl.specs.declared.slots.TheConstants.{OPEN}
use Rattle.rb_cleanout.proofs.blocks.has_open.Given as goal

abbrev pub invariant-loop-i : goal.invariant-loop-i
invariant-loop-i l = (j : ℕ) → j < l.i → (entry_at l.fn.block j).kind ≢ OPEN
