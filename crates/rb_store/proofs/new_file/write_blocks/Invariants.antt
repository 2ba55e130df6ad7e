use Rattle.std.proofs.Common.{◌≡◌, ◌-◌, ◌≤◌, ◌++◌}
use Rattle.std.specs.List.{concat}
use Rattle.rb_base.specs.Blocks.{fresh_from}
use Rattle.rb_layout.specs.Regions.{block_count, file_version, fresh_front, shape_of}
use Rattle.rb_store.proofs.new_file.write_blocks.Given as goal

abbrev pub invariant-loop-first : goal.invariant-loop-first
invariant-loop-first g l = record {
  within : l.first ≤ block_count l.layout;
  written : g.D.Disk.tells → g.D.Disk.content l.disk ≡ fresh_front file_version l.layout ++ concat (fresh_from (shape_of l.layout) 0 l.first);
  still : g.D.Disk.faults l.disk ≡ g.D.Disk.faults l.fn.disk;
}

abbrev pub decreases-loop-first : goal.decreases-loop-first
decreases-loop-first g l = block_count l.layout - l.first
