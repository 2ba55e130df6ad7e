-- A decoded home as the walk sees it, and the rows that it shows.
use Rattle.std.specs.Prelude.{◌&&◌, ℕ, not, if◌then◌else◌, List, [], ◌∷◌, ◌++◌, get_or, map}
use Rattle.std.specs.Prelude.{Option}
use Rattle.rb_base.specs.declared.shape.Shape.{Shape}
use Rattle.rb_cell.specs.declared.cell.Cell.{Cell}
use Rattle.rb_cr.specs.Records.{maker_of}
use Rattle.rb_cr.specs.declared.records.SegmentRecord.{SegmentRecord}
use Rattle.rb_cr.specs.declared.scratch.Scratch.{Scratch}
use Rattle.rb_cr.specs.declared.scratch.Snapshot.{Snapshot}
use Rattle.law_read.specs.Keeping.{Kept, has, is_first, is_held, overlay}
use Rattle.law_read.specs.Reading.{rows_in}
use Rattle.law_blocks.specs.Says.{sort_by, walk_cell, walk_home}
use Rattle.law_home.specs.Kinds.{Empty}
use Rattle.law_home.specs.Walk.{Home, Rows, row_of}

abbrev pub scratch_home : Shape → Scratch → Home
scratch_home shape s = walk_home shape s.block (record { entries = s.entries; cells = s.cells })

-- what is kept lies over what the cells show
abbrev pub shown_over : List Cell → Kept → Rows
shown_over cells kept = overlay kept (rows_in (map walk_cell cells))

abbrev pub shown_by : Scratch → Rows
shown_by s = shown_over s.cells s.kept

-- the row that a decoded home shows of this key in this cell
abbrev pub shown_in : Scratch → ℕ → ℕ → Option (List ℕ)
shown_in s cell key = row_of (get_or (map walk_cell s.cells) cell Empty) key

-- what is kept once this record is taken back
abbrev pub kept_with : Snapshot → SegmentRecord → Scratch → Kept
kept_with snap found s =
    if is_first snap.own snap.upto (maker_of found) found.undo.number
    && (not (is_held (sort_by found.undo.kind)) && not (has s.kept found.undo.key))
    then s.kept ++ (found.undo.key, shown_in s found.undo.cell found.undo.key) ∷ []
    else s.kept
