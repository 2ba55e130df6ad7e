-- Each kind of group as the blocks of a file see it: a cleaning, a put back, a commit and the end of a transaction.
use Rattle.std.specs.Prelude.{◌≡◌, ◌⊎◌, ◌≤◌, ◌/◌, ◌%◌, ◌+◌, ◌++◌, ℕ, List, length}
use Rattle.std.specs.List.{AllByRecursion}
use Rattle.rb_base.specs.Blocks.{after_group, block_of, header_block}
use Rattle.rb_base.specs.Groups.{Patch, IsPatch}
use Rattle.rb_base.specs.declared.shape.Shape.{Shape}
use Rattle.rb_cell.specs.Cells.{cell_of}
use Rattle.rb_heap.specs.Cleaning.{back_home, cleaned_home, IsCleanPatch}
use Rattle.rb_heap.specs.Homes.{home_of, home_patches}
use Rattle.rb_heap.specs.Soundness.{StaysShort}
use Rattle.rb_itl.specs.Entries.{entry_of}
use Rattle.rb_segment.specs.Calls.{commit_patches, slot_patches}
use Rattle.rb_segment.specs.Header.{Header, header_of}
use Rattle.rb_segment.specs.Moves.{committed, ended, taken_back}
use Rattle.law_blocks.specs.Standing.{env_of, logged_of, segments_of}
use Rattle.law_blocks.specs.Values.{slot_of}
use Rattle.rb_undoblock.specs.Undo.{undo_at}
use Rattle.rb_undoblock.specs.declared.record.UndoRecord.{UndoRecord}

-- the blocks after one group, the next to be logged, which patches such blocks alone
pub record GroupOn (shape : Shape) (Is : ℕ → Type 0) (before now : List (List ℕ)) : Type 0 where
  pub patches : List Patch
  pub some : 1 ≤ length patches
  pub each : AllByRecursion IsPatch patches
  pub only : AllByRecursion (λ p. Is p.block) patches
  pub made : now ≡ after_group (logged_of shape before + 1) patches before

-- the header of the segment of slot t
abbrev pub header_at : Shape → List (List ℕ) → ℕ → Header
header_at shape blocks t = header_of (block_of blocks (header_block shape (t / 16)))

-- the newest live record of slot t
abbrev pub last_record : Shape → List (List ℕ) → ℕ → UndoRecord
last_record shape blocks t = undo_at (block_of blocks (slot_of (segments_of shape blocks) t).newest_at.block)
    (slot_of (segments_of shape blocks) t).newest_at.rec

-- Block b is cleaned of the transactions that have ended, and no byte is patched but those of its slot entries and of
-- the locks of its cells.
pub record IsCleaned (shape : Shape) (b : ℕ) (before now : List (List ℕ)) : Type 0 where
  pub group : GroupOn shape (λ x. x ≡ b) before now
  pub home : home_of (block_of now b) ≡ cleaned_home (env_of shape before).look (home_of (block_of before b))
  pub short : StaysShort (block_of before b) (block_of now b)
  pub patches : AllByRecursion (IsCleanPatch b) group.patches

-- The change of slot t with that undo record is put back, in its home and in its table slot: no byte is patched but
-- those of the cell, of the slot entry and of the table slot, each as it is then.
pub record IsPutBack (shape : Shape) (t : ℕ) (u : UndoRecord) (before now : List (List ℕ)) : Type 0 where
  pub group : GroupOn shape (λ x. (x ≡ u.home) ⊎ (x ≡ header_block shape (t / 16))) before now
  pub home : home_of (block_of now u.home)
      ≡ back_home u.entry (entry_of u.entry_before) u.cell (cell_of u.cell_before) (home_of (block_of before u.home))
  pub short : StaysShort (block_of before u.home) (block_of now u.home)
  pub header : header_at shape now t ≡ taken_back (t % 16) u.previous (header_at shape before t)
  pub patches : group.patches ≡ home_patches u.home u.cell (cell_of u.cell_before) u.entry (entry_of u.entry_before)
      ++ slot_patches (header_block shape (t / 16)) (t % 16) (header_at shape now t)

-- The transaction of slot t commits at number c, and no byte is patched but those of the slot and of its extents,
pub record IsCommitted (shape : Shape) (t c : ℕ) (before now : List (List ℕ)) : Type 0 where
  pub group : GroupOn shape (λ x. x ≡ header_block shape (t / 16)) before now
  pub header : header_at shape now t ≡ committed c (t % 16) (header_at shape before t)
  pub patches : group.patches ≡ commit_patches (header_block shape (t / 16)) (t % 16) (header_at shape now t)

-- or ends without a number, and none but those of the slot.
pub record IsEnded (shape : Shape) (t : ℕ) (before now : List (List ℕ)) : Type 0 where
  pub group : GroupOn shape (λ x. x ≡ header_block shape (t / 16)) before now
  pub header : header_at shape now t ≡ ended (t % 16) (header_at shape before t)
  pub patches : group.patches ≡ slot_patches (header_block shape (t / 16)) (t % 16) (header_at shape now t)
