use Rattle.rb_log.proofs.WaitingLemmas.{GatesSet}
use Rattle.rb_log.proofs.waiting.set_gates.Given as goal

abbrev pub invariant-loop-i : goal.invariant-loop-i
invariant-loop-i l = GatesSet l.fn.units l.units l.i
