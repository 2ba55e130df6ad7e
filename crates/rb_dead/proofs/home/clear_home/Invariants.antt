use Rattle.rb_dead.proofs.Homes.{Clears}
use Rattle.rb_dead.proofs.home.clear_home.Given as goal

abbrev pub invariant-loop-owed : goal.invariant-loop-owed
invariant-loop-owed g l = Clears g.T.Store l.fn.sessions l.no l.fn.owed l.owed l.fn.store l.store

abbrev pub decreases-loop-owed : goal.decreases-loop-owed
decreases-loop-owed g l = l.owed
