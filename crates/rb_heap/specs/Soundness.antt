-- What an opening tests on a heap block: its entries and its cells, and how they go together.
use Rattle.std.specs.Prelude.{◌≡◌, ◌≢◌, ℕ, ◌-◌, ◌%◌, ◌<◌, ◌≤◌, true, false, List}
use Rattle.rb_base.specs.declared.shape.Shape.{Shape}
use Rattle.rb_cell.specs.declared.cell.Cell.{Cell}
use Rattle.rb_base.specs.declared.sizes.TheConstants.{SLOTS, VALUE_BYTES}
use Rattle.rb_cell.specs.declared.cell.TheConstants.{CELLS, EMPTY, STUB}
use Rattle.rb_cell.specs.Cells.{cell_at, value_length}
use Rattle.rb_itl.specs.declared.slots.Entry.{Entry}
use Rattle.rb_itl.specs.declared.slots.TheConstants.{BOUND, CHAIN_RECORDS, ENTRIES, FREE}
use Rattle.rb_itl.specs.Entries.{entry_at}
use Rattle.rb_heap.specs.Homes.{is_keyed}

-- An entry of a transaction: what it names is there, and its numbers are ones that were given.
pub record IsTaken (shape : Shape) (commit : ℕ) (wrap_of : ℕ → ℕ → ℕ) (entry : Entry) : Type 0 where
  pub segment : entry.xid.seg < shape.segments
  pub slot : entry.xid.slot < SLOTS
  pub wrap : (1 ≤ entry.xid.wrap) × (entry.xid.wrap ≤ wrap_of entry.xid.seg entry.xid.slot)
  pub chain : (1 ≤ entry.length) × (entry.length ≤ CHAIN_RECORDS)
  pub number : entry.number ≤ commit

pub record IsEntrySound (shape : Shape) (commit : ℕ) (wrap_of : ℕ → ℕ → ℕ) (entry : Entry) : Type 0 where
  pub kind : entry.kind ≤ BOUND
  pub taken : entry.kind ≢ FREE → IsTaken shape commit wrap_of entry

-- no lock, or that of an entry of the block that isn't free
pub record IsLock (block : List ℕ) (lock : ℕ) : Type 0 where
  pub few : lock ≤ ENTRIES
  pub taken : lock ≢ 0 → (entry_at block (lock - 1)).kind ≢ FREE

-- a cell in order, but for its value and its lock
pub record IsCellSound (shape : Shape) (home : ℕ) (cell : Cell) : Type 0 where
  pub state : cell.state ≤ STUB
  pub unlocked : cell.state ≡ EMPTY → cell.lock ≡ 0
  pub key : cell.state ≢ EMPTY → cell.key % shape.blocks ≡ home

-- no cell below cell c has a key that cell c has, where a cell has its key if it is a row or locked
pub record IsFirstKeyed (block : List ℕ) (c : ℕ) : Type 0 where
  pub lower : (key k : ℕ) → k < c → is_keyed key (cell_at block c) ≡ true
      → is_keyed key (cell_at block k) ≡ false

-- each key is that of one cell at most
pub record AreKeysApart (block : List ℕ) : Type 0 where
  pub one : (key c other : ℕ) → c < CELLS → other < CELLS → is_keyed key (cell_at block c) ≡ true
      → is_keyed key (cell_at block other) ≡ true → c ≡ other

-- the cells of the block of that home are in order
pub record AreCellsSound (shape : Shape) (home : ℕ) (block : List ℕ) : Type 0 where
  pub each : (c : ℕ) → c < CELLS → IsCellSound shape home (cell_at block c)
  pub values : (c : ℕ) → c < CELLS → value_length block c ≤ VALUE_BYTES
  pub locks : (c : ℕ) → c < CELLS → IsLock block (cell_at block c).lock
  pub keys : AreKeysApart block

-- the block of rows of that home is in order
pub record IsHomeSound (shape : Shape) (commit : ℕ) (wrap_of : ℕ → ℕ
    → ℕ) (home : ℕ) (block : List ℕ) : Type 0 where
  pub entries : (i : ℕ) → i < ENTRIES → IsEntrySound shape commit wrap_of (entry_at block i)
  pub cells : AreCellsSound shape home block

-- no value of a block is longer than one may be, if none was
abbrev pub StaysShort : List ℕ → List ℕ → Type 0
StaysShort before now = ((c : ℕ) → c < CELLS → value_length before c ≤ VALUE_BYTES)
    → (c : ℕ) → c < CELLS → value_length now c ≤ VALUE_BYTES
