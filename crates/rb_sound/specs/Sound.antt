-- What an opening tests on the blocks of a file: each header of a segment, each block of rows, and the live records of
-- each Active table slot.
use Rattle.std.specs.Prelude.{ℕ, ◌%◌, ◌<◌, ◌≤◌, List}
use Rattle.rb_base.specs.Blocks.{block_of, header_block, table_blocks}
use Rattle.rb_base.specs.declared.shape.Shape.{Shape}
use Rattle.rb_base.specs.declared.sizes.TheConstants.{SLOTS}
use Rattle.rb_heap.specs.Soundness.{IsHomeSound}
use Rattle.rb_ring.specs.Ring.{extent_ord, extent_newest, head_extent, head_records, lost_number, IsRing}
use Rattle.rb_ring.specs.declared.extents.TheConstants.{EXTENTS, EXTENT_RECORDS}
use Rattle.rb_segment.specs.Segments.{commit_scn, wrap_at}
use Rattle.rb_sound.specs.Active.{AreActive, CouldStand}
use Rattle.rb_txntable.specs.Slots.{IsSlot}

-- the header of a segment is in order, in a file of that commit number
pub record IsSegment (commit : ℕ) (header : List ℕ) : Type 0 where
  pub ring : (k : ℕ) × IsRing (extent_ord header) (head_extent header) k
  pub records : head_records header ≤ EXTENT_RECORDS
  pub slots : (i : ℕ) → i < SLOTS → IsSlot header i
  pub lost : lost_number header ≤ commit
  pub newest : (e : ℕ) → e < EXTENTS → extent_newest header e ≤ commit

-- each segment's header is in order
abbrev pub AreSegmentsSound : Shape → ℕ → List (List ℕ) → Type 0
AreSegmentsSound shape commit blocks = (g : ℕ) → g < shape.segments
    → IsSegment commit (block_of blocks (header_block shape g))

-- each block of rows is in order; those of a table stand by their homes, from 0 on
abbrev pub AreHomesSound : Shape → ℕ → (ℕ → ℕ → ℕ) → List (List ℕ) → Type 0
AreHomesSound shape commit wrap_of blocks = (which : ℕ) → which < table_blocks shape
    → IsHomeSound shape commit wrap_of (which % shape.blocks) (block_of blocks which)

-- the blocks of a file are in order
pub record AreSound (shape : Shape) (blocks : List (List ℕ)) : Type 0 where
  pub segments : AreSegmentsSound shape (commit_scn shape blocks) blocks
  pub homes : AreHomesSound shape (commit_scn shape blocks) (wrap_at shape blocks) blocks
  pub active : AreActive (CouldStand shape (commit_scn shape blocks) (wrap_at shape blocks)) shape blocks
