-- What a write makes: the undo record of its change, and what the change adds to its group.
use Rattle.std.specs.Prelude.{◌≡◌, ◌<◌, ◌+◌, ◌*◌, ◌^◌, ℕ, List, ◌++◌, length}
use Rattle.rb_write.specs.Asks.{adds_for, kind_of, IsWriterOf}
use Rattle.rb_write.specs.Refusals.{TakesAsk}
use Rattle.rb_write.specs.declared.ask.Ask.{Ask}
use Rattle.rb_write.specs.declared.home.Place.{Place}
use Rattle.rb_base.specs.Blocks.{after_group, header_block, home_block, written_to}
use Rattle.rb_base.specs.Fields.{part}
use Rattle.rb_base.specs.Groups.{Patch}
use Rattle.rb_base.specs.declared.ids.Uba.{Uba}
use Rattle.rb_base.specs.declared.ids.Xid.{Xid}
use Rattle.rb_base.specs.declared.shape.Shape.{Shape}
use Rattle.rb_base.specs.declared.sizes.TheConstants.{WORN}
use Rattle.rb_cell.specs.Cells.{cell_place, IsCell}
use Rattle.rb_cell.specs.declared.cell.Cell.{Cell}
use Rattle.rb_cell.specs.declared.cell.TheConstants.{CELL_BYTES}
use Rattle.rb_heap.specs.Homes.{home_cell, home_entry, home_of, home_patches}
use Rattle.rb_itl.specs.Entries.{entry_place, IsEntry}
use Rattle.rb_itl.specs.declared.slots.Entry.{Entry}
use Rattle.rb_itl.specs.declared.slots.TheConstants.{ENTRY_BYTES}
use Rattle.rb_segment.specs.Calls.{Recorded}
use Rattle.rb_segment.specs.Header.{Header, header_of, slot_in}
use Rattle.law_blocks.specs.Says.{sort_by}
use Rattle.law_blocks.specs.Writing.{cell_after, entry_after, IsWritten}
use Rattle.rb_undoblock.specs.Undo.{IsUndoRecord}
use Rattle.rb_undoblock.specs.declared.record.UndoRecord.{UndoRecord}
use Rattle.law_home.specs.Kinds.{sort_of}

-- The undo record of a change: the transaction, what is changed, and the bytes of the entry and of the cell as the copy
-- of the home has them.
pub record IsUndoOf (copy : List ℕ) (h : Header) (ask : Ask) (x : Xid) (p : Place) (u : UndoRecord) : Type 0 where
  pub wrap : u.wrap ≡ x.wrap
  pub slot : u.slot ≡ x.slot
  pub number : (slot_in h x.slot).live < 2 ^ 31 → u.number ≡ (slot_in h x.slot).live + 1
  pub previous : u.previous ≡ (slot_in h x.slot).newest_at
  pub table : u.table ≡ ask.table
  pub key : u.key ≡ ask.key
  pub sort : sort_by u.kind ≡ sort_of (kind_of ask.op)
  pub home : u.home ≡ p.block
  pub entry : u.entry ≡ p.entry
  pub cell : u.cell ≡ p.cell
  pub entry_before : u.entry_before ≡ part copy (entry_place p.entry) ENTRY_BYTES
  pub cell_before : u.cell_before ≡ part copy (cell_place p.cell) CELL_BYTES

-- What a change at that place adds to a group: what puts its record into the segment, as in the copy of the header, and
-- then the cell and the entry.
pub record Changes (shape : Shape) (ask : Ask) (x : Xid) (p : Place) (copy header header2 : List ℕ)
    (held holds : List Patch) : Type 0 where
  pub address : Uba
  pub undo : UndoRecord
  pub patches : List Patch
  pub undo_of : IsUndoOf copy (header_of header) ask x p undo
  pub sound : IsUndoRecord undo
  pub same : header2 ≡ written_to (header_block shape x.seg) patches header
  pub recorded : Recorded shape x undo (header_of header) (header_of header2) address patches
  pub cell : Cell
  pub cell_is : cell ≡ cell_after (kind_of ask.op) ask.key p.entry (home_cell (home_of copy) p.cell)
  pub cell_sound : IsCell cell
  pub entry : Entry
  pub entry_is : entry ≡ entry_after x address (home_entry (home_of copy) p.entry)
  pub entry_sound : IsEntry entry
  pub group : holds ≡ held ++ patches ++ home_patches p.block p.cell cell p.entry entry

-- The write that is asked for was made by transaction x: the blocks before, and now.
abbrev pub IsMade : Shape → List (List ℕ) → List (List ℕ) → Ask → Xid → Type 0
IsMade shape before now ask x = (address : Uba) × (u : UndoRecord) × (ready : Header)
    × IsWriterOf shape before ask.own x ready
    × (u.table ≡ ask.table) × (u.key ≡ ask.key) × (u.wrap ≡ x.wrap)
    × (u.home ≡ home_block shape ask.table ask.key)
    × IsWritten shape (16 * x.seg + x.slot) (adds_for shape before ask) (kind_of ask.op) address u before now

-- No test stands in its way: of the row and its home, and of the log's numbers.
pub record MayMake (shape : Shape) (blocks : List (List ℕ)) (ask : Ask) (logged : ℕ) : Type 0 where
  pub takes : TakesAsk shape blocks ask
  pub numbers : logged < WORN

-- The group of these patches, where there are any, makes the write.
abbrev pub MakesIfAny : Shape → List (List ℕ) → Ask → ℕ → List Patch → Type 0
MakesIfAny shape blocks ask logged patches = 0 < length patches
    → MayMake shape blocks ask logged
    × ((x : Xid) × IsMade shape blocks (after_group (logged + 1) patches blocks) ask x)
