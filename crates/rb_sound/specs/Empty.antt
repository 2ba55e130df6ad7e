-- A block of rows that holds nothing.
use Rattle.std.specs.Prelude.{◌≡◌, ℕ, ◌<◌, List}
use Rattle.rb_cell.specs.declared.cell.TheConstants.{CELLS, EMPTY}
use Rattle.rb_cell.specs.Cells.{cell_at, value_length}
use Rattle.rb_itl.specs.declared.slots.TheConstants.{ENTRIES, FREE}
use Rattle.rb_itl.specs.Entries.{entry_at}

-- cell c of a block has no row, no lock and no value
pub record IsEmptyCell (block : List ℕ) (c : ℕ) : Type 0 where
  pub state : (cell_at block c).state ≡ EMPTY
  pub lock : (cell_at block c).lock ≡ 0
  pub value : value_length block c ≡ 0

-- nor has any other, and each entry is free
pub record IsEmptyHome (block : List ℕ) : Type 0 where
  pub entries : (i : ℕ) → i < ENTRIES → (entry_at block i).kind ≡ FREE
  pub cells : (c : ℕ) → c < CELLS → IsEmptyCell block c
