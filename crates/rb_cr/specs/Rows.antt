-- Which row of a home is the next one.
use Rattle.std.specs.Prelude.{◌≡◌, ◌<◌, ◌≤◌, ◌==◌, ℕ, if◌then◌else◌, is_some, true}
use Rattle.std.specs.Prelude.{List, [], ◌∷◌, get_or, length, map, Option, Some, None}
use Rattle.rb_cell.specs.declared.cell.Cell.{Cell}
use Rattle.rb_cell.specs.declared.cell.TheConstants.{ROW}
use Rattle.rb_cr.specs.declared.plain.KeyCell.{KeyCell}
use Rattle.rb_heap.specs.Homes.{empty_cell, home_of}
use Rattle.rb_model.specs.declared.row.Row.{Row}
use Rattle.law_read.specs.Keeping.{Kept}
use Rattle.law_read.specs.Reading.{rows_in}
use Rattle.law_blocks.specs.Says.{walk_cell}
use Rattle.law_home.specs.Walk.{Rows}

abbrev pub IsBehind : Option ℕ → ℕ → Type 0
IsBehind None key = Unit {0}
IsBehind (Some after) key = after < key

-- a key behind one, from one on and up to one
abbrev pub IsWanted : Option ℕ → ℕ → ℕ → ℕ → Type 0
IsWanted after lo hi key = IsBehind after key × (lo ≤ key) × (key ≤ hi)

-- the row of the least key that is wanted
pub record IsNext (after : Option ℕ) (lo hi : ℕ) (rows : Rows) (row : Row) : Type 0 where
  pub wanted : IsWanted after lo hi row.key
  pub shows : rows row.key ≡ Some row.value.items
  pub least : (key : ℕ) (value : List ℕ) → IsWanted after lo hi key → rows key ≡ Some value
      → row.key ≤ key

-- a key that is wanted, and has a row
abbrev pub IsFound : Option ℕ → ℕ → ℕ → Rows → ℕ → Type 0
IsFound after lo hi rows key = IsWanted after lo hi key × (is_some (rows key) ≡ true)

-- a key that was found, up to this one
abbrev pub Reaches : Option ℕ → ℕ → Type 0
Reaches found key = (least : ℕ) × (found ≡ Some least) × (least ≤ key)

-- the rows that cells show as they stand
abbrev pub cell_rows : List Cell → Rows
cell_rows cells = rows_in (map walk_cell cells)

-- and those of a block
abbrev pub block_rows : List ℕ → Rows
block_rows block = cell_rows (home_of block).cells

-- the cell shows the row of that key, which is wanted: none before it has one of it
pub record ShowsWanted (after : Option ℕ) (lo hi : ℕ) (cells : List Cell) (one : KeyCell) : Type 0 where
  pub there : one.cell < length cells
  pub state : (get_or cells one.cell empty_cell).state ≡ ROW
  pub key : (get_or cells one.cell empty_cell).key ≡ one.key
  pub wanted : IsWanted after lo hi one.key
  pub first : (j : ℕ) → j < one.cell → (get_or cells j empty_cell).state ≡ ROW
      → (get_or cells j empty_cell).key ≡ one.key → ⊥

-- of the first n cells, each with a row that is wanted has no lesser key than the one that was found
abbrev pub NoneLesser : Option ℕ → ℕ → ℕ → List Cell → ℕ → Option KeyCell → Type 0
NoneLesser after lo hi cells n found = (j : ℕ) → j < n → (get_or cells j empty_cell).state ≡ ROW
    → IsWanted after lo hi (get_or cells j empty_cell).key
    → (one : KeyCell) × (found ≡ Some one) × (one.key ≤ (get_or cells j empty_cell).key)

-- the key of the row that was kept as the i-th, from 0 on
abbrev pub kept_key : Kept → ℕ → ℕ
kept_key kept i = (get_or kept i (0, None)).0

-- what is kept of a key: its row, or that it had none
abbrev pub kept_row : Kept → ℕ → Option (Option (List ℕ))
kept_row [] key = None
kept_row (x ∷ kept) key = if key == x.0 then Some x.1 else kept_row kept key
