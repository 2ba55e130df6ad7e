use Rattle.std.proofs.Common.{◌≡◌, drop}
use Rattle.rb_cr.specs.KeptRows.{kept_of}
use Rattle.law_read.specs.Keeping.{has}
use Rattle.rb_cr.proofs.kept.KeptRows.has.Given as goal

abbrev pub invariant-loop-i : goal.invariant-loop-i
invariant-loop-i l = has (kept_of (drop l.i l.self-inside.rows.items)) l.key ≡ has (kept_of l.self-inside.rows.items) l.key
