-- A heap block's bytes as one value, its home: eight slot entries and sixteen cells. What stands above heap blocks
-- speaks of homes.
use Rattle.std.specs.Prelude.{◌≡◌, ℕ, ◌<◌, Bool, false, true, not, ◌&&◌, ◌||◌, ◌==◌}
use Rattle.std.specs.Prelude.{if◌then◌else◌, List, [], ◌∷◌, length, map, replicate, slice_index_or}
use Rattle.std.specs.Prelude.{slice_set}
use Rattle.std.specs.List.{All, flat_map, range_with_len}
use Rattle.rb_base.specs.Groups.{Patch, patch}
use Rattle.rb_cell.specs.declared.cell.Cell.{Cell}
use Rattle.rb_cell.specs.declared.cell.TheConstants.{CELLS, EMPTY, ROW, STUB}
use Rattle.rb_cell.specs.Cells.{cell_at, cell_patch, locked_by, IsCell}
use Rattle.rb_itl.specs.declared.slots.Entry.{Entry}
use Rattle.rb_itl.specs.declared.slots.TheConstants.{ENTRIES}
use Rattle.rb_itl.specs.Entries.{entry_place, entry_bytes, entry_at, free_entry, IsEntry}

pub record Home : Type 0 where
  pub entries : List Entry
  pub cells : List Cell

-- what a block's bytes say of its eight entries and its sixteen cells
unfoldable pub home_of : List ℕ → Home
home_of block = record {
  entries = map (entry_at block) (range_with_len 0 ENTRIES);
  cells = map (cell_at block) (range_with_len 0 CELLS);
}

-- the cell that holds nothing, and has never held a row
abbrev pub empty_cell : Cell
empty_cell = record { state = EMPTY; lock = 0; key = 0; value = record { items = [] } }

-- the home of a block that no group has patched
abbrev pub empty_home : Home
empty_home = record { entries = replicate ENTRIES free_entry; cells = replicate CELLS empty_cell }

-- entry i of a home, and cell c
abbrev pub home_entry : Home → ℕ → Entry
home_entry home i = slice_index_or home.entries i free_entry

abbrev pub home_cell : Home → ℕ → Cell
home_cell home c = slice_index_or home.cells c empty_cell

-- the home with another entry i, with another cell c, and with another lock of cell c
abbrev pub with_home_entry : Home → ℕ → Entry → Home
with_home_entry home i entry = record home { entries = slice_set home.entries i entry }

abbrev pub with_home_cell : Home → ℕ → Cell → Home
with_home_cell home c cell = record home { cells = slice_set home.cells c cell }

abbrev pub with_home_lock : Home → ℕ → ℕ → Home
with_home_lock home c lock = with_home_cell home c (locked_by (home_cell home c) lock)

-- as many entries and cells as a block has, each of which can be written
pub record IsHome (home : Home) : Type 0 where
  pub entry_count : length home.entries ≡ ENTRIES
  pub cell_count : length home.cells ≡ CELLS
  pub entries : All IsEntry home.entries
  pub cells : All IsCell home.cells

-- the cell is a row or locked, and has that key
abbrev pub is_keyed : ℕ → Cell → Bool
is_keyed key cell = (cell.state == ROW || not (cell.lock == 0)) && (cell.key == key)

-- The cell is empty, or a stub that nothing has locked. An empty cell's lock is not looked at.
abbrev pub is_free : Cell → Bool
is_free cell = (cell.state == EMPTY) || ((cell.state == STUB) && (cell.lock == 0))

-- cell c passes the test, and none before it does
pub record IsFirst (test : Cell → Bool) (cells : List Cell) (c : ℕ) : Type 0 where
  pub within : c < CELLS
  pub passes : test (slice_index_or cells c empty_cell) ≡ true
  pub lower : (k : ℕ) → k < c → test (slice_index_or cells k empty_cell) ≡ false

-- none of the cells passes the test
abbrev pub IsNowhere : (Cell → Bool) → List Cell → Type 0
IsNowhere test cells = (k : ℕ) → k < CELLS → test (slice_index_or cells k empty_cell) ≡ false

-- the patch of an entry
abbrev pub entry_patch : ℕ → ℕ → Entry → Patch
entry_patch block i entry = patch block (entry_place i) (entry_bytes entry)

-- the two patches of a change: a cell, and then the entry of the transaction that changed it
abbrev pub home_patches : ℕ → ℕ → Cell → ℕ → Entry → List Patch
home_patches block c cell i entry = cell_patch block c cell ∷ entry_patch block i entry ∷ []

pub record CellRow : Type 0 where
  pub key : ℕ
  pub value : List ℕ

-- the row of a cell that holds one
abbrev pub row_in : Cell → List CellRow
row_in cell = if cell.state == ROW then record { key = cell.key; value = cell.value.items } ∷ [] else []

-- the rows that cells hold, in the order of the cells
abbrev pub rows_in : List Cell → List CellRow
rows_in cells = flat_map row_in cells

abbrev pub home_rows : Home → List CellRow
home_rows home = rows_in home.cells
