-- The rows that are kept, as the rebuild's definitions see them.
use Rattle.std.specs.Prelude.{List, map}
use Rattle.rb_cr.specs.declared.kept.KeptRow.{KeptRow}
use Rattle.rb_cr.specs.Records.{row_items}
use Rattle.law_read.specs.Keeping.{Kept}

abbrev pub kept_of : List KeptRow → Kept
kept_of rows = map (λ (x : KeptRow). (x.key, row_items x.row)) rows
