use Rattle.std.proofs.Common.{ℕ, ◌<◌}
use Rattle.rb_itl.specs.Entries.{entry_at}
use Rattle.rb_heap.specs.Choices.{IsOwnEntry}
use Rattle.rb_heap.proofs.choice.own_entry.Given as goal

abbrev pub invariant-loop-i : goal.invariant-loop-i
invariant-loop-i l = (k : ℕ) → k < l.i → ¬ IsOwnEntry l.xid (entry_at l.block k)
