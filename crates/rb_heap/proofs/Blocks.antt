-- The home of a block after a group of patches.
use Rattle.std.proofs.Common.{◌≡◌, ℕ, ◌+◌, ◌<◌, ◌≤◌, List, [], ◌∷◌, length, refl, arith, ◌∙◌}
use Rattle.std.proofs.lemmas.Bool.{eq-eqb}
use Rattle.std.specs.List.{AllByRecursion}
use Rattle.rb_cell.specs.declared.cell.TheConstants.{CELLS}
use Rattle.rb_base.specs.declared.sizes.TheConstants.{BLOCK_HEAD, UNIT}
use Rattle.rb_base.specs.declared.shape.Shape.{Shape}
use Rattle.rb_base.specs.Blocks.{block_of, patched, after_group, shape_blocks, written_to, AreBlocks, StaysBehind}
use Rattle.rb_base.specs.Fields.{overwritten}
use Rattle.rb_base.specs.Groups.{Patch, patch}
use Rattle.rb_base.proofs.Blocks.{block_long}
use Rattle.rb_base.proofs.OneBlock.{one_block}
use Rattle.rb_cell.specs.declared.cell.Cell.{Cell}
use Rattle.rb_cell.specs.Cells.{cell_patch, IsCell}
use Rattle.rb_cell.proofs.CellBytes.{length-cell}
use Rattle.rb_heap.specs.Homes.{home_of, with_home_cell}
use Rattle.rb_heap.proofs.Patching.{same_behind, cell_written}

-- The home after a group is that of the block with its own patches written over it. So a kind of patch needs no lemma
-- here: what its bytes, written over a block, make of the home is one of `Patching`.
pub home_after : (shape : Shape) (blocks : List (List ℕ)) (number which : ℕ) (patches : List Patch) → AreBlocks shape blocks → which < shape_blocks shape → AllByRecursion StaysBehind patches
    → home_of (block_of (after_group number patches blocks) which) ≡ home_of (written_to which patches (block_of blocks which))
home_after shape blocks number which patches are lt stay = same_behind (block_of (after_group number patches blocks) which) (written_to which patches (block_of blocks which)) (one_block shape number which patches blocks are lt stay)

-- so a group of one patch
pub home_one : (shape : Shape) (blocks : List (List ℕ)) (number : ℕ) (p : Patch) → AreBlocks shape blocks → p.block < shape_blocks shape → BLOCK_HEAD ≤ p.at → p.at + length p.bytes ≤ UNIT
    → home_of (block_of (after_group number (p ∷ []) blocks) p.block) ≡ home_of (overwritten (block_of blocks p.block) p.at p.bytes)
home_one shape blocks number p are lt behind within =
    home_after shape blocks number p.block (p ∷ []) are lt (record { behind_head = behind; within_block = within }, tt)
    ∙ rw (eq-eqb p.block p.block refl) refl

-- and a patch of a block alone, which is that of a file of one block
pub home_lone : (block : List ℕ) (number : ℕ) (p : Patch) → length block ≡ UNIT → BLOCK_HEAD ≤ p.at → p.at + length p.bytes ≤ UNIT → home_of (patched number p block) ≡ home_of (overwritten block p.at p.bytes)
home_lone block number p long behind within =
    home_one (record { tables = 1; blocks = 1; segments = 0 }) (block ∷ []) number (patch 0 p.at p.bytes) (record { count = refl; each = (long, tt) }) (omega arith) behind within

pub cell_alone : (shape : Shape) (blocks : List (List ℕ)) (number which c : ℕ) → AreBlocks shape blocks → which < shape_blocks shape → c < CELLS → (cell : Cell) → IsCell cell
    → home_of (block_of (after_group number (cell_patch which c cell ∷ []) blocks) which) ≡ with_home_cell (home_of (block_of blocks which)) c cell
cell_alone shape blocks number which c are lt few cell sound =
    home_one shape blocks number (cell_patch which c cell) are lt (omega arith) (omega (arith, length-cell cell sound)) ∙ cell_written (block_of blocks which) c cell (block_long shape blocks which are lt) few sound
