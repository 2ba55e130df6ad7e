use Rattle.std.proofs.Common.{◌≡◌}
use Rattle.rb_twin.proofs.HomeSteps.{BroughtSome}
use Rattle.rb_twin.proofs.steps.bring_home.Given as goal

abbrev pub invariant-loop-place : goal.invariant-loop-place
invariant-loop-place g l = record {
  so_far : g.D.Disk.tells → BroughtSome g.D.Disk l.layout l.area l.place l.fn.disk l.disk;
  still : g.D.Disk.faults l.disk ≡ g.D.Disk.faults l.fn.disk;
}
