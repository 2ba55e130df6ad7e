use Rattle.rb_txntable.proofs.Chosen.{IsChoice}
use Rattle.rb_txntable.proofs.choice.choose.Given as goal

abbrev pub invariant-loop-i : goal.invariant-loop-i
invariant-loop-i l = IsChoice l.header l.i l.chosen
