use Rattle.std.proofs.Common.{◌≡◌, drop}
use Rattle.rb_cr.specs.KeptRows.{kept_of}
use Rattle.rb_cr.specs.Rows.{kept_row}
use Rattle.rb_cr.proofs.kept.KeptRows.row.Given as goal

abbrev pub invariant-loop-i : goal.invariant-loop-i
invariant-loop-i l = kept_row (kept_of (drop l.i l.self-inside.rows.items)) l.key ≡ kept_row (kept_of l.self-inside.rows.items) l.key
