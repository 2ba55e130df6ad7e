-- A past that is forgotten: the rows after its commits are the new base.
use Rattle.std.specs.Prelude.{◌≡◌, ◌<◌, ℕ, List, [], map}
use Rattle.rb_base.specs.Blocks.{table_blocks}
use Rattle.rb_base.specs.declared.shape.Shape.{Shape}
use Rattle.rb_model.specs.Rows.{TableRow}
use Rattle.law_blocks.specs.Values.{Past, rows_here}
use Rattle.law_home.specs.Homes.{narrow}
use Rattle.law_home.specs.Walk.{last, rows_of}

-- the rows after a past, as rows of a file
pub record IsAfter (shape : Shape) (past : Past) (rows : List TableRow) : Type 0 where
  pub same : (b k : ℕ) → b < table_blocks shape → rows_here shape b rows k
      ≡ rows_of (rows_here shape b past.rows) (map (narrow b) past.list) k

abbrev pub forgotten_past : Past → List TableRow → Past
forgotten_past past rows = record { base = last past.base past.list; rows = rows; list = [] }
