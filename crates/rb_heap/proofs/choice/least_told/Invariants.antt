use Rattle.rb_itl.specs.Entries.{entry_at}
use Rattle.rb_heap.proofs.Chosen.{IsChoice}
use Rattle.rb_heap.proofs.choice.least_told.Given as goal

abbrev pub invariant-loop-i : goal.invariant-loop-i
invariant-loop-i l = IsChoice (entry_at l.block) l.i l.chosen
