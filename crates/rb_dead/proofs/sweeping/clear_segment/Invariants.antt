use Rattle.std.proofs.Common.{◌*◌, true}
use Rattle.rb_dead.proofs.Sweeps.{Clears}
use Rattle.rb_dead.specs.Takes.{Gives}
use Rattle.rb_dead.proofs.sweeping.clear_segment.Given as goal

abbrev pub invariant-loop-i : goal.invariant-loop-i
invariant-loop-i g l = record {
  gives : Gives g.T.Store l.fn.owed l.owed l.fn.store l.store true;
  cleared : Clears g.T.Store l.fn.sessions l.fn.owed l.fn.store (16 * l.fn.seg) 16 l.i l.owed l.store;
}
