-- The blocks of a file in their order, and what groups of patches make of them.
use Rattle.std.specs.Prelude.{◌≡◌, ℕ, ◌+◌, ◌*◌, ◌-◌, ◌%◌, ◌<◌, ◌≤◌, zero, suc}
use Rattle.std.specs.Prelude.{◌==◌, nat_lt, max, if◌then◌else◌, List, [], ◌∷◌, ◌++◌, length}
use Rattle.std.specs.Prelude.{replicate, slice_index_or, slice_set, drop}
use Rattle.std.specs.List.{AllByRecursion}
use Rattle.byteorder.specs.Endian.{big_bytes}
use Rattle.rb_base.specs.Fields.{overwritten, with_number}
use Rattle.rb_base.specs.Groups.{Patch}
use Rattle.rb_base.specs.declared.shape.Shape.{Shape}
use Rattle.rb_base.specs.declared.sizes.TheConstants.{BLOCK_HEAD, SEGMENT_BLOCKS, UNIT}

-- the numbers that a file may have
pub record IsShape (shape : Shape) : Type 0 where
  pub few_tables : (1 ≤ shape.tables) × (shape.tables ≤ 16)
  pub few_blocks : (1 ≤ shape.blocks) × (shape.blocks ≤ 4096)
  pub few_segments : (1 ≤ shape.segments) × (shape.segments ≤ 16)

-- the blocks of the tables; behind them stand those of the segments
abbrev pub table_blocks : Shape → ℕ
table_blocks shape = shape.tables * shape.blocks

-- a segment has a header and eight extents of four blocks
abbrev pub shape_blocks : Shape → ℕ
shape_blocks shape = table_blocks shape + SEGMENT_BLOCKS * shape.segments

-- the block of the header of segment g
abbrev pub header_block : Shape → ℕ → ℕ
header_block shape g = table_blocks shape + SEGMENT_BLOCKS * g

-- the block where the row of that key of a table, from 1 on, has its place
abbrev pub home_block : Shape → ℕ → ℕ → ℕ
home_block shape table key = (table - 1) * shape.blocks + key % shape.blocks

abbrev pub block_of : List (List ℕ) → ℕ → List ℕ
block_of blocks which = slice_index_or blocks which []

-- a block after a patch of the group of that number: other bytes, and the number in front
abbrev pub patched : ℕ → Patch → List ℕ → List ℕ
patched number p block = with_number (overwritten block p.at p.bytes) 0 8 number

abbrev pub after_patch : ℕ → Patch → List (List ℕ) → List (List ℕ)
after_patch number p blocks = slice_set blocks p.block (patched number p (block_of blocks p.block))

-- the blocks after the patches of the group of that number, in order
abbrev pub after_group : ℕ → List Patch → List (List ℕ) → List (List ℕ)
after_group number [] blocks = blocks
after_group number (p ∷ patches) blocks = after_group number patches (after_patch number p blocks)

-- the blocks after groups, of which the first has that number
abbrev pub after_groups : ℕ → List (List Patch) → List (List ℕ) → List (List ℕ)
after_groups number [] blocks = blocks
after_groups number (group ∷ groups) blocks = after_groups (number + 1) groups (after_group number group blocks)

-- The patches of a group that are of one block, written over it in order. Behind its head this is what the group makes
-- of the block.
abbrev pub written_to : ℕ → List Patch → List ℕ → List ℕ
written_to which [] block = block
written_to which (p ∷ patches) block = written_to which patches
    (if p.block == which then overwritten block p.at p.bytes else block)

-- all of a block but its head
abbrev pub behind_head : List ℕ → List ℕ
behind_head block = drop BLOCK_HEAD block

-- each patch of the group is of a block of the file
abbrev pub AreWithin : Shape → List Patch → Type 0
AreWithin shape group = AllByRecursion (λ p. p.block < shape_blocks shape) group

-- as many blocks as the file has, each of a unit
pub record AreBlocks (shape : Shape) (blocks : List (List ℕ)) : Type 0 where
  pub count : length blocks ≡ shape_blocks shape
  pub each : AllByRecursion (λ block. length block ≡ UNIT) blocks

-- a patch leaves the head of its block, and ends within it
pub record StaysBehind (p : Patch) : Type 0 where
  pub behind_head : BLOCK_HEAD ≤ p.at
  pub within_block : p.at + length p.bytes ≤ UNIT

-- what a group makes of one block, behind its head
abbrev pub OneBlock : Type 0
OneBlock = (shape : Shape) (number which : ℕ) (patches : List Patch) (blocks : List (List ℕ))
    → AreBlocks shape blocks → which < shape_blocks shape → AllByRecursion StaysBehind patches
    → behind_head (block_of (after_group number patches blocks) which)
    ≡ behind_head (written_to which patches (block_of blocks which))

-- 1 a block of rows, 2 the header of a segment, 3 a block of undo
abbrev pub block_kind : Shape → ℕ → ℕ
block_kind shape which =
    if nat_lt which (table_blocks shape) then 1
    else if (which - table_blocks shape) % SEGMENT_BLOCKS == 0 then 2 else 3

-- the 32 bytes in front of a block that no group has patched: no log number yet, the kind and the block's own number
abbrev pub fresh_head : ℕ → ℕ → List ℕ
fresh_head kind which = replicate 8 0 ++ kind ∷ replicate 3 0 ++ big_bytes 4 which ++ replicate 16 0

-- An extent is a number of its turn and a commit number. In a fresh segment extent 0 has turn 2 and extent 1 turn 1,
-- behind sixteen table slots of 64 bytes.
abbrev pub fresh_segment : List ℕ
fresh_segment = replicate 1024 0 ++ big_bytes 8 2 ++ replicate 24 0 ++ big_bytes 8 1 ++ replicate 952 0

-- all of a block behind its first 32 bytes, as a new file has it
abbrev pub fresh_rest : ℕ → List ℕ
fresh_rest kind = if kind == 2 then fresh_segment else replicate (UNIT - BLOCK_HEAD) 0

abbrev pub fresh_block : Shape → ℕ → List ℕ
fresh_block shape which = fresh_head (block_kind shape which) which ++ fresh_rest (block_kind shape which)

-- that many blocks of a new file from one on
abbrev pub fresh_from : Shape → ℕ → ℕ → List (List ℕ)
fresh_from shape first zero = []
fresh_from shape first (suc count) = fresh_block shape first ∷ fresh_from shape (first + 1) count

-- the blocks of a new file
abbrev pub fresh_blocks : Shape → List (List ℕ)
fresh_blocks shape = fresh_from shape 0 (shape_blocks shape)

-- the greatest of f 0 to f (n - 1), and 0 of none
unfoldable pub greatest : (ℕ → ℕ) → ℕ → ℕ
greatest f zero = 0
greatest f (suc n) = max (greatest f n) (f n)
