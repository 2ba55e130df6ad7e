use Rattle.std.proofs.Common.{◌≡◌, drop, map}
use Rattle.law_read.specs.Reading.{rows_in}
use Rattle.law_blocks.specs.Says.{walk_cell}
use Rattle.rb_cr.proofs.rows.value_of.Given as goal

abbrev pub invariant-loop-i : goal.invariant-loop-i
invariant-loop-i l = rows_in (map walk_cell (drop l.i l.cells)) l.key ≡ rows_in (map walk_cell l.cells) l.key
