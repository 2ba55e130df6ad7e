-- What holds of the committed cells of a home: the walk over its live changes comes to the same.
use Rattle.std.specs.Prelude.{◌≡◌, ◌<◌, ℕ, List, map}
use Rattle.rb_base.specs.Blocks.{IsShape, table_blocks}
use Rattle.rb_base.specs.declared.shape.Shape.{Shape}
use Rattle.law_committed.specs.Files.{AreCommitted, CommittedAt}
use Rattle.law_committed.specs.First.{Falls, CommittedCell, CommittedRows}
use Rattle.rb_model.specs.Rows.{TableRow}
use Rattle.rb_segment.specs.Header.{Segment}
use Rattle.rb_segment.specs.Segments.{commit_scn}
use Rattle.law_blocks.specs.Says.{says}
use Rattle.law_blocks.specs.Standing.{SoundAs}
use Rattle.law_blocks.specs.Values.{Past, StandingAs, rows_here}
use Rattle.law_home.specs.Homes.{here, narrow}
use Rattle.law_home.specs.Kinds.{Cell}
use Rattle.law_home.specs.Steps.{Stands}
use Rattle.law_home.specs.Walk.{Change, Commit, Env, Home, Rows, Tree, Walk, own, cell_at, rows_of}

-- In whatever order of slots the live changes are taken back, in the end each cell is the committed one.
abbrev pub WalkEndsCommitted : Type 0
WalkEndsCommitted = (env : Env) (w : ℕ → ℕ) (base : ℕ) (rows : Rows) (list : List Commit)
    (lives : List (List Change)) (b : Home) → ((s : ℕ) → Falls env (own lives s))
    → (stands : Stands env w base rows list lives b) → Tree env stands.m lives b
    (λ end. Walk env base rows list end × ((j : ℕ) → CommittedCell env lives b j (cell_at end j)))

-- There is just one for each cell: no two slots have live records of the same cell.
abbrev pub CommittedCellIsOne : Type 0
CommittedCellIsOne = (env : Env) (w : ℕ → ℕ) (base : ℕ) (rows : Rows) (list : List Commit)
    (lives : List (List Change)) (b : Home) → ((s : ℕ) → Falls env (own lives s))
    → Stands env w base rows list lives b → (j : ℕ)
    → (x : Cell) × CommittedCell env lives b j x × ((y : Cell) → CommittedCell env lives b j y → x ≡ y)

-- So they have the rows after all commits.
abbrev pub CommittedCellsShow : Type 0
CommittedCellsShow = (env : Env) (w : ℕ → ℕ) (base : ℕ) (rows : Rows) (list : List Commit)
    (lives : List (List Change)) (b : Home) → ((s : ℕ) → Falls env (own lives s))
    → Stands env w base rows list lives b → CommittedRows env lives b (rows_of rows list)

-- Of homes and segments that stand all this holds: the numbers of a slot's live records fall in each home,
abbrev pub StandingFalls : Type 0
StandingFalls = (shape : Shape) (commit logged : ℕ) (segments : ℕ → Segment) (homes : ℕ → Home) (past : Past)
    (lives : List (List Change)) → StandingAs shape commit logged segments homes past lives → (b t : ℕ)
    → Falls (says shape segments) (own (map (here b) lives) t)

-- and the committed cells of a home have the rows of the past there.
abbrev pub StandingShows : Type 0
StandingShows = (shape : Shape) (commit logged : ℕ) (segments : ℕ → Segment) (homes : ℕ → Home) (past : Past)
    (lives : List (List Change)) → StandingAs shape commit logged segments homes past lives → (b : ℕ)
    → b < table_blocks shape → CommittedRows (says shape segments) (map (here b) lives) (homes b)
    (rows_of (rows_here shape b past.rows) (map (narrow b) past.list))

-- So a sound file's number is its greatest commit number, and its rows are those of its committed cells,
abbrev pub SoundIsCommitted : Type 0
SoundIsCommitted = (shape : Shape) (blocks : List (List ℕ)) (number : ℕ) (rows : List TableRow) → IsShape shape
    → SoundAs shape blocks number rows → (number ≡ commit_scn shape blocks) × AreCommitted shape blocks rows

-- each cell of a home having just one;
abbrev pub CommittedAtIsOne : Type 0
CommittedAtIsOne = (shape : Shape) (blocks : List (List ℕ)) (number : ℕ) (rows : List TableRow)
    → SoundAs shape blocks number rows → (b j : ℕ) → b < table_blocks shape
    → (x : Cell) × CommittedAt shape blocks b j x × ((y : Cell) → CommittedAt shape blocks b j y → x ≡ y)

-- and those are one list of rows: no file is sound for two.
abbrev pub CommittedAreOne : Type 0
CommittedAreOne = (shape : Shape) (blocks : List (List ℕ)) (rows others : List TableRow) → IsShape shape
    → AreCommitted shape blocks rows → AreCommitted shape blocks others → rows ≡ others
