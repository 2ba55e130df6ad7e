-- What a write asks for, and where it is made.
use Rattle.std.specs.Prelude.{◌≡◌, ◌==◌, ◌<◌, ◌≤◌, ◌^◌, ℕ, Bool, true, false, not}
use Rattle.std.specs.Prelude.{List, length, Option, None, Some, ⊤}
use Rattle.rb_base.specs.Blocks.{block_of, header_block, home_block, table_blocks}
use Rattle.rb_base.specs.declared.ids.Xid.{Xid}
use Rattle.rb_base.specs.declared.shape.Shape.{Shape}
use Rattle.rb_base.specs.declared.sizes.TheConstants.{SLOTS, VALUE_BYTES}
use Rattle.rb_write.specs.Holding.{cell_of_key}
use Rattle.rb_write.specs.declared.ask.Ask.{Ask}
use Rattle.rb_cell.specs.declared.cell.Cell.{Cell}
use Rattle.rb_cell.specs.declared.cell.TheConstants.{ROW}
use Rattle.rb_heap.specs.Cleaning.{cleaned_home}
use Rattle.rb_heap.specs.Homes.{Home, home_entry, home_of}
use Rattle.rb_itl.specs.declared.slots.Entry.{Entry}
use Rattle.rb_itl.specs.declared.slots.TheConstants.{ENTRIES, OPEN}
use Rattle.rb_model.specs.Change.{Kind, Put, Gone, Held}
use Rattle.rb_model.specs.declared.op.Op.{Op}
use Rattle.rb_model.specs.declared.op.Op.TheVariants as op
use Rattle.rb_segment.specs.Calls.{IsYoung, Runs}
use Rattle.rb_segment.specs.Header.{Header, header_of, slot_in}
use Rattle.rb_segment.specs.Moves.{claimed, MayClaim}
use Rattle.law_blocks.specs.Standing.{env_of}
use Rattle.rb_txntable.specs.Slots.{active_count}

-- the cell, where there is one, holds a row
abbrev pub is_row : Option Cell → Bool
is_row None = false
is_row (Some cell) = cell.state == ROW

-- the key has a row in that home: the cell that is found by it holds one
abbrev pub shows_row : Home → ℕ → Bool
shows_row home key = is_row (cell_of_key home key)

-- Whether an operation adds a row, by whether its key has one: an insert does, a put does where there is none, and each
-- other write needs the one that is there.
abbrev pub adds_row : Option Op → Bool → Bool
adds_row (Some (op.Insert value)) present = true
adds_row (Some (op.Update value)) present = false
adds_row (Some (op.Put value)) present = not present
adds_row (Some op.Delete) present = false
adds_row None present = false

-- the write adds a row to that home
abbrev pub adds_in : Home → Ask → Bool
adds_in home ask = adds_row ask.op (shows_row home ask.key)

-- a value has room in its cell
abbrev pub IsShort : Option Op → Type 0
IsShort (Some (op.Insert value)) = length value.now ≤ VALUE_BYTES
IsShort (Some (op.Update value)) = length value.now ≤ VALUE_BYTES
IsShort (Some (op.Put value)) = length value.now ≤ VALUE_BYTES
IsShort (Some op.Delete) = ⊤
IsShort None = ⊤

abbrev pub kind_of : Option Op → Kind
kind_of (Some (op.Insert value)) = Put value.now
kind_of (Some (op.Update value)) = Put value.now
kind_of (Some (op.Put value)) = Put value.now
kind_of (Some op.Delete) = Gone
kind_of None = Held

abbrev pub header_in : Shape → List (List ℕ) → ℕ → Header
header_in shape blocks g = header_of (block_of blocks (header_block shape g))

-- the home of the write's key, cleaned
abbrev pub home_for : Shape → List (List ℕ) → Ask → Home
home_for shape blocks ask =
    cleaned_home (env_of shape blocks).look (home_of (block_of blocks (home_block shape ask.table ask.key)))

-- the write adds a row there
abbrev pub adds_for : Shape → List (List ℕ) → Ask → Bool
adds_for shape blocks ask = adds_in (home_for shape blocks ask) ask

-- Segment g has the fewest transactions that run, and is the lowest of these.
pub record IsFewest (shape : Shape) (blocks : List (List ℕ)) (g : ℕ) : Type 0 where
  pub within : g < shape.segments
  pub least : (k : ℕ) → k < shape.segments
      → active_count (block_of blocks (header_block shape g))
      ≤ active_count (block_of blocks (header_block shape k))
  pub lower : (k : ℕ) → k < g
      → active_count (block_of blocks (header_block shape g)) < active_count (block_of blocks (header_block shape k))

-- The transaction that writes and its segment's header: it has its slot, or takes the one that it may.
pub record IsWriterOf (shape : Shape) (blocks : List (List ℕ)) (own : Option Xid) (x : Xid) (ready : Header) : Type 0
  where
    pub has : (y : Xid) → own ≡ Some y → (x ≡ y) × (ready ≡ header_in shape blocks y.seg)
    pub takes : own ≡ None → IsFewest shape blocks x.seg × MayClaim (header_in shape blocks x.seg) x.slot
        × (ready ≡ claimed x.slot (header_in shape blocks x.seg)) × (x.wrap ≡ (slot_in ready x.slot).wrap)

-- the transaction that is named, if one is, runs
abbrev pub MayWrite : Shape → List (List ℕ) → Option Xid → Type 0
MayWrite shape blocks own = (x : Xid) → own ≡ Some x → Runs (header_in shape blocks x.seg) x

-- An Open entry is of a table slot that there is, and its chain isn't near the end of its type.
pub record IsEntryYoung (shape : Shape) (entry : Entry) : Type 0 where
  pub seg : entry.xid.seg < shape.segments
  pub slot : entry.xid.slot < SLOTS
  pub chain : entry.length < 2 ^ 31

-- no number of a header or of an Open entry is near the end of its type
pub record AreYoung (shape : Shape) (blocks : List (List ℕ)) : Type 0 where
  pub headers : (g : ℕ) → g < shape.segments → IsYoung (header_in shape blocks g)
  pub entries : (b i : ℕ) → b < table_blocks shape → i < ENTRIES
      → (home_entry (home_of (block_of blocks b)) i).kind ≡ OPEN
      → IsEntryYoung shape (home_entry (home_of (block_of blocks b)) i)
