use Rattle.std.proofs.Common.{◌≤◌, true}
use Rattle.rb_dead.proofs.Sweeps.{Sweeping}
use Rattle.rb_dead.specs.Takes.{Gives}
use Rattle.rb_dead.proofs.sweeping.sweep.Given as goal

abbrev pub invariant-loop-t : goal.invariant-loop-t
invariant-loop-t g l = record {
  gives : Gives g.T.Store l.fn.owed l.owed l.fn.store l.store true;
  few : l.left ≤ l.fn.most;
  swept : Sweeping g.T.Store l.fn.sessions l.fn.owed l.fn.store l.fn.most l.slots l.t l.left l.owed l.store;
}
