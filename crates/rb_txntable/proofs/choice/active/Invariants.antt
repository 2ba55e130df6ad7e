use Rattle.std.proofs.Common.{◌≡◌}
use Rattle.rb_txntable.proofs.Counted.{active_before}
use Rattle.rb_txntable.proofs.choice.active.Given as goal

abbrev pub invariant-loop-i : goal.invariant-loop-i
invariant-loop-i l = l.count ≡ active_before l.header l.i
