use Rattle.std.proofs.Common.{◌≡◌, ◌-◌, ◌≤◌}
use Rattle.rb_disk.specs.Moments.{Rests}
use Rattle.rb_layout.specs.Regions.{block_count}
use Rattle.rb_store.specs.Meaning.{AreHomesHeaded}
use Rattle.rb_store.proofs.headers.check_homes.Given as goal

abbrev pub invariant-loop-first : goal.invariant-loop-first
invariant-loop-first g l = record {
  within : l.first ≤ block_count l.layout;
  headed : g.D.Disk.tells → AreHomesHeaded l.layout l.last (g.D.Disk.content l.fn.disk) l.first;
  still : g.D.Disk.faults l.disk ≡ g.D.Disk.faults l.fn.disk;
  same : g.D.Disk.tells → Rests g.D.Disk l.fn.disk l.disk;
}

abbrev pub decreases-loop-first : goal.decreases-loop-first
decreases-loop-first g l = block_count l.layout - l.first
