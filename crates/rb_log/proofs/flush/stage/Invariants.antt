use Rattle.std.proofs.Common.{◌≡◌, ◌≤◌, ◌<◌, ◌+◌, ◌-◌, length}
use Rattle.rb_log.proofs.GroupRuns.{StagedSome}
use Rattle.rb_log.proofs.flush.stage.Given as goal

abbrev pub invariant-loop-done : goal.invariant-loop-done
invariant-loop-done g l = record {
  within : l.done ≤ length l.units;
  so_far : (slot : l.head.slot < l.layout.log) → (room : l.used + length l.units < l.layout.log) → g.D.Disk.tells → StagedSome l.layout l.head slot l.used l.units room g.D.Disk l.done l.fn.disk l.disk;
  still : g.D.Disk.faults l.disk ≡ g.D.Disk.faults l.fn.disk;
}

abbrev pub decreases-loop-done : goal.decreases-loop-done
decreases-loop-done g l = length l.units - l.done
