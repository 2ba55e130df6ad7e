-- The cells of a heap block: what their bytes say, and what a patch of one makes of its block.
use Rattle.std.specs.Prelude.{ℕ, ◌+◌, ◌*◌, ◌-◌, ◌^◌, ◌<◌, ◌≤◌, List, [], ◌∷◌}
use Rattle.std.specs.Prelude.{◌++◌, length, take, drop, replicate, slice_index}
use Rattle.byteorder.specs.Endian.{big_bytes}
use Rattle.rb_base.specs.Fields.{part, number_at, overwritten}
use Rattle.rb_base.specs.Groups.{Patch, patch}
use Rattle.rb_base.specs.declared.sizes.TheConstants.{VALUE_BYTES}
use Rattle.rb_cell.specs.declared.cell.Cell.{Cell}
use Rattle.rb_cell.specs.declared.cell.TheConstants.{CELLS_AT, CELL_BYTES, LENGTH_AT, KEY_AT, HEAD_BYTES}

-- the byte of its block at which cell c begins
abbrev pub cell_place : ℕ → ℕ
cell_place c = CELLS_AT + CELL_BYTES * c

-- a cell that can be written: its key and its value have room
pub record IsCell (cell : Cell) : Type 0 where
  pub key_fits : cell.key < 2 ^ 64
  pub short_value : length cell.value.items ≤ VALUE_BYTES

-- the value filled up with zeros to 80 bytes
abbrev pub padded : List ℕ → List ℕ
padded value = value ++ replicate (VALUE_BYTES - length value) 0

-- the 92 bytes of a cell: the state, the lock, the value's length, the key and the value
abbrev pub cell_bytes : Cell → List ℕ
cell_bytes cell = cell.state ∷ cell.lock ∷ (big_bytes 2 (length cell.value.items)
    ++ (big_bytes 8 cell.key ++ padded cell.value.items))

-- The cell that 92 bytes say. A length above 80 takes the 80 bytes that there are.
abbrev pub cell_of : List ℕ → Cell
cell_of bytes = record {
  state = slice_index bytes 0;
  lock = slice_index bytes 1;
  key = number_at bytes KEY_AT 8;
  value = record { items = take (number_at bytes LENGTH_AT 2) (drop HEAD_BYTES bytes) };
}

-- cell c of a block
abbrev pub cell_at : List ℕ → ℕ → Cell
cell_at block c = cell_of (part block (cell_place c) CELL_BYTES)

-- the length of the value of cell c, which the block may say to be more than there is room for
unfoldable pub value_length : List ℕ → ℕ → ℕ
value_length block c = number_at block (cell_place c + LENGTH_AT) 2

-- the patch of a whole cell
abbrev pub cell_patch : ℕ → ℕ → Cell → Patch
cell_patch block c cell = patch block (cell_place c) (cell_bytes cell)

-- the patch of a cell's lock alone
abbrev pub lock_patch : ℕ → ℕ → ℕ → Patch
lock_patch block c lock = patch block (cell_place c + 1) (lock ∷ [])

-- a block after the patch of a cell
abbrev pub with_cell : List ℕ → ℕ → Cell → List ℕ
with_cell block c cell = overwritten block (cell_place c) (cell_bytes cell)

-- a block after the patch of a lock
abbrev pub with_lock : List ℕ → ℕ → ℕ → List ℕ
with_lock block c lock = overwritten block (cell_place c + 1) (lock ∷ [])

-- the cell with another lock
abbrev pub locked_by : Cell → ℕ → Cell
locked_by cell lock = record cell { lock = lock }
