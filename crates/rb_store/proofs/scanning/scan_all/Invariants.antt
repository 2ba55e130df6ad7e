use Rattle.std.proofs.Common.{◌≡◌, ◌≤◌, vec_capacity}
use Rattle.rb_disk.specs.Moments.{Rests}
use Rattle.rb_store.specs.Scanned.{HasScanned}
use Rattle.rb_store.proofs.scanning.scan_all.Given as goal

abbrev pub invariant-loop : goal.invariant-loop
invariant-loop g l = record {
  so_far : HasScanned g.D.Disk.tells l.fn.layout l.fn.head (g.D.Disk.content l.fn.disk) l.scan.log l.scan.groups.items (vec_capacity l.scan.groups);
  turns : l.counter ≤ l.scan.log.used;
  still : g.D.Disk.faults l.disk ≡ g.D.Disk.faults l.fn.disk;
  same : g.D.Disk.tells → Rests g.D.Disk l.fn.disk l.disk;
}
