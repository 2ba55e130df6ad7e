-- What an opening tests of each Active table slot: its live records, from the newest on.
use Rattle.std.specs.Prelude.{◌≡◌, ◌<◌, ◌≤◌, ◌+◌, ◌-◌, ◌*◌, ◌/◌, ◌%◌, ℕ}
use Rattle.std.specs.Prelude.{zero, suc, List, get_or}
use Rattle.rb_base.specs.Blocks.{header_block, table_blocks}
use Rattle.rb_base.specs.Fields.{number_at}
use Rattle.rb_base.specs.declared.ids.Uba.{Uba}
use Rattle.rb_base.specs.declared.ids.Xid.{Xid}
use Rattle.rb_base.specs.declared.shape.Shape.{Shape}
use Rattle.rb_base.specs.declared.sizes.TheConstants.{ACTIVE, SEGMENT_BLOCKS, SLOTS, VALUE_BYTES}
use Rattle.rb_cell.specs.Cells.{cell_of}
use Rattle.rb_cell.specs.declared.cell.TheConstants.{CELLS, LENGTH_AT}
use Rattle.rb_heap.specs.Soundness.{IsCellSound, IsEntrySound}
use Rattle.rb_itl.specs.Entries.{entry_of}
use Rattle.rb_itl.specs.declared.slots.TheConstants.{ENTRIES}
use Rattle.rb_ring.specs.declared.extents.TheConstants.{EXTENTS, EXTENT_BLOCKS}
use Rattle.rb_segment.specs.Header.{Header, Segment, ord_in, segment_of, slot_in}
use Rattle.rb_segment.specs.Segments.{wrap_in}
use Rattle.rb_sound.specs.declared.home.Limits.{Limits}
use Rattle.rb_txntable.specs.declared.slots.TableSlot.{TableSlot}
use Rattle.rb_undoblock.specs.Undo.{no_undo}
use Rattle.rb_undoblock.specs.declared.record.TheConstants.{UNDO_RECORDS}
use Rattle.rb_undoblock.specs.declared.record.UndoRecord.{UndoRecord}

-- the extent of segment g that has the block of an address, and which of the extent's records the address names
abbrev pub extent_named : Shape → ℕ → Uba → ℕ
extent_named shape g at = (at.block - header_block shape g - 1) / EXTENT_BLOCKS

abbrev pub position_named : Shape → ℕ → Uba → ℕ
position_named shape g at = UNDO_RECORDS * ((at.block - header_block shape g - 1) % EXTENT_BLOCKS) + at.rec

-- the record there
abbrev pub undo_named : Shape → ℕ → Segment → Uba → UndoRecord
undo_named shape g s at = get_or s.undo (40 * extent_named shape g at + position_named shape g at) no_undo

-- The address of a record that segment g has: its block is one of the segment's undo blocks, whose extent has the
-- address's turn now, and in the head the record stands before the place of the next one.
pub record IsValid (shape : Shape) (g : ℕ) (h : Header) (at : Uba) : Type 0 where
  pub some : 1 ≤ at.ord
  pub behind : header_block shape g < at.block
  pub within : at.block < header_block shape g + SEGMENT_BLOCKS
  pub rec : at.rec < UNDO_RECORDS
  pub turn : ord_in h (extent_named shape g at) ≡ at.ord
  pub made : extent_named shape g at ≡ h.head → position_named shape g at < h.records

-- A record of that transaction with number n among its live ones, which names a block of rows, an entry and a cell that
-- there are.
pub record IsLive (shape : Shape) (x : Xid) (n : ℕ) (r : UndoRecord) : Type 0 where
  pub slot : r.slot ≡ x.slot
  pub wrap : r.wrap ≡ x.wrap
  pub number : r.number ≡ n
  pub home : r.home < table_blocks shape
  pub entry : r.entry < ENTRIES
  pub cell : r.cell < CELLS

-- What a record keeps could stand in its block: an entry, a cell and a value's length as the tests of a block of rows
-- take them.
pub record CouldStand (shape : Shape) (commit : ℕ) (wrap_of : ℕ → ℕ → ℕ) (r : UndoRecord) : Type 0 where
  pub entry : IsEntrySound shape commit wrap_of (entry_of r.entry_before)
  pub cell : IsCellSound shape (r.home % shape.blocks) (cell_of r.cell_before)
  pub value : number_at r.cell_before LENGTH_AT 2 ≤ VALUE_BYTES

-- by the numbers of a file
abbrev pub Fits : Limits → UndoRecord → Type 0
Fits limits = CouldStand limits.shape limits.commit (wrap_in limits.wraps)

-- From an address on there are exactly n live records of a transaction, each of which leads to the one before it, with
-- the numbers n down to 1; then none. Of each one this holds.
abbrev pub Chain : (UndoRecord → Type 0) → Shape → Segment → Xid → ℕ → Uba → Type 0
Chain Kept shape s x zero at = at.ord ≡ 0
Chain Kept shape s x (suc n) at =
    IsValid shape x.seg s.header at
    × (IsLive shape x (suc n) (undo_named shape x.seg s at) × Kept (undo_named shape x.seg s at))
    × Chain Kept shape s x n (undo_named shape x.seg s at).previous

-- The turn of a slot's first record is in the ring, and the slot wasn't taken behind the last record.
pub record HasBegun (h : Header) (slot : TableSlot) : Type 0 where
  pub some : 1 ≤ slot.first
  pub first : (e : ℕ) × (e < EXTENTS) × (ord_in h e ≡ slot.first)
  pub start : slot.start ≤ h.writes

-- Slot i of segment g, which is Active, has its live records.
pub record IsActive (Kept : UndoRecord → Type 0) (shape : Shape) (g : ℕ) (s : Segment) (i : ℕ) : Type 0 where
  pub begun : HasBegun s.header (slot_in s.header i)
  pub chain : Chain Kept shape s (record { seg = g; slot = i; wrap = (slot_in s.header i).wrap })
      (slot_in s.header i).live (slot_in s.header i).newest_at

-- each Active slot of each segment has
abbrev pub AreActive : (UndoRecord → Type 0) → Shape → List (List ℕ) → Type 0
AreActive Kept shape blocks = (g i : ℕ) → g < shape.segments → i < SLOTS
    → (slot_in (segment_of shape blocks g).header i).state ≡ ACTIVE
    → IsActive Kept shape g (segment_of shape blocks g) i
