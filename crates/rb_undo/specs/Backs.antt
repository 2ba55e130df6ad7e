-- The newest live change of a transaction and what puts it back, in the blocks of a file.
use Rattle.std.specs.Prelude.{◌≡◌, ◌≢◌, ℕ, ◌+◌, ◌<◌, ◌≤◌, List, [], ◌∷◌, ◌++◌}
use Rattle.rb_base.specs.Blocks.{after_groups, block_of, header_block, shape_blocks, table_blocks}
use Rattle.rb_base.specs.Groups.{Patch, IsGroup}
use Rattle.rb_base.specs.declared.ids.Uba.{Uba}
use Rattle.rb_base.specs.declared.ids.Xid.{Xid}
use Rattle.rb_base.specs.declared.shape.Shape.{Shape}
use Rattle.rb_cell.specs.Cells.{cell_of}
use Rattle.rb_cell.specs.declared.cell.TheConstants.{CELLS}
use Rattle.rb_heap.specs.Cleaning.{back_home}
use Rattle.rb_heap.specs.Homes.{home_of, home_patches}
use Rattle.rb_heap.specs.Soundness.{StaysShort}
use Rattle.rb_itl.specs.Entries.{entry_of}
use Rattle.rb_itl.specs.declared.slots.TheConstants.{ENTRIES}
use Rattle.rb_segment.specs.Calls.{slot_patches, Runs}
use Rattle.rb_segment.specs.Header.{Header, header_of, slot_in}
use Rattle.rb_segment.specs.Moves.{taken_back}
use Rattle.rb_undoblock.specs.Undo.{undo_at}
use Rattle.rb_undoblock.specs.declared.record.TheConstants.{UNDO_RECORDS}
use Rattle.rb_undoblock.specs.declared.record.UndoRecord.{UndoRecord}

-- the header of a transaction's segment, and the address of its newest live record there
abbrev pub header_for : Shape → List (List ℕ) → Xid → Header
header_for shape blocks x = header_of (block_of blocks (header_block shape x.seg))

abbrev pub newest_of : Shape → List (List ℕ) → Xid → Uba
newest_of shape blocks x = (slot_in (header_for shape blocks x) x.slot).newest_at

-- what is read there
abbrev pub newest_record : Shape → List (List ℕ) → Xid → UndoRecord
newest_record shape blocks x =
    undo_at (block_of blocks (newest_of shape blocks x).block) (newest_of shape blocks x).rec

-- The transaction runs and has a live record. The address of its newest one is of a record in the file, and the record
-- names a block of rows, an entry and a cell that there are.
pub record CanBack (shape : Shape) (blocks : List (List ℕ)) (x : Xid) : Type 0 where
  pub runs : Runs (header_for shape blocks x) x
  pub live : 1 ≤ (slot_in (header_for shape blocks x) x.slot).live
  pub some : 1 ≤ (newest_of shape blocks x).ord
  pub block : (newest_of shape blocks x).block < shape_blocks shape
  pub place : (newest_of shape blocks x).rec < UNDO_RECORDS
  pub home : (newest_record shape blocks x).home < table_blocks shape
  pub entry : (newest_record shape blocks x).entry < ENTRIES
  pub cell : (newest_record shape blocks x).cell < CELLS

-- The patches that put it back: the cell and the slot entry as they were, and the table slot with one live record less.
abbrev pub back_patches : Shape → Xid → UndoRecord → Header → List Patch
back_patches shape x u h =
    home_patches u.home u.cell (cell_of u.cell_before) u.entry (entry_of u.entry_before)
    ++ slot_patches (header_block shape x.seg) x.slot (taken_back x.slot u.previous h)

-- What that makes of the blocks: the home and the header are as before the change, and every other block stays.
pub record TakesBack (shape : Shape) (x : Xid) (u : UndoRecord) (before now : List (List ℕ)) : Type 0 where
  pub home : home_of (block_of now u.home)
      ≡ back_home u.entry (entry_of u.entry_before) u.cell (cell_of u.cell_before) (home_of (block_of before u.home))
  pub short : StaysShort (block_of before u.home) (block_of now u.home)
  pub header : header_for shape now x ≡ taken_back x.slot u.previous (header_for shape before x)
  pub others : (b : ℕ) → b ≢ u.home → b ≢ header_block shape x.seg → block_of now b ≡ block_of before b

-- The groups are one that puts it back, in blocks whose last log number is lsn.
pub record ArePutBack (shape : Shape) (x : Xid) (lsn : ℕ) (blocks : List (List ℕ)) (groups : List (List Patch))
    : Type 0 where
  pub can : CanBack shape blocks x
  pub one : groups ≡ back_patches shape x (newest_record shape blocks x) (header_for shape blocks x) ∷ []
  pub valid : IsGroup (back_patches shape x (newest_record shape blocks x) (header_for shape blocks x))
  pub takes : TakesBack shape x (newest_record shape blocks x) blocks (after_groups (lsn + 1) groups blocks)
