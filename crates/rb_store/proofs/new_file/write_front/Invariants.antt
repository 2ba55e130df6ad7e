use Rattle.std.proofs.Common.{◌*◌, ◌≡◌, ◌-◌, ◌≤◌, ◌++◌, replicate}
use Rattle.rb_base.specs.declared.sizes.TheConstants.{UNIT}
use Rattle.rb_layout.specs.Regions.{file_version, fresh_first, block_offset}
use Rattle.rb_store.proofs.new_file.write_front.Given as goal

abbrev pub invariant-loop-at : goal.invariant-loop-at
invariant-loop-at g l = record {
  begun : (3 * UNIT) ≤ l.at;
  within : l.at ≤ block_offset l.layout 0;
  written : g.D.Disk.tells → g.D.Disk.content l.disk ≡ fresh_first file_version l.layout ++ replicate (l.at - (3 * UNIT)) 0;
  still : g.D.Disk.faults l.disk ≡ g.D.Disk.faults l.fn.disk;
}

abbrev pub decreases-loop-at : goal.decreases-loop-at
decreases-loop-at g l = block_offset l.layout 0 - l.at
