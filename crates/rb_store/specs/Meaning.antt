-- What a file with blocks at home means.
use Rattle.std.specs.Prelude.{◌≡◌, ℕ, ◌+◌, ◌<◌, ◌≤◌, List, length, Option, Some, slice_index}
use Rattle.rb_base.specs.Blocks.{block_of, block_kind, shape_blocks, AreBlocks}
use Rattle.rb_base.specs.Fields.{number_at, part}
use Rattle.rb_base.specs.Groups.{Patch}
use Rattle.rb_base.specs.declared.shape.Shape.{Shape}
use Rattle.rb_control.specs.Heads.{head_of}
use Rattle.rb_layout.specs.Regions.{HasIdentity, block_count, file_version, shape_of}
use Rattle.rb_layout.specs.declared.layout.Head.{Head}
use Rattle.rb_layout.specs.declared.layout.Layout.{Layout}
use Rattle.law_redo.specs.Rolled.{rolled}
use Rattle.rb_log.specs.GroupSlots.{GroupsAre}
use Rattle.rb_twin.specs.Twins.{home, kept, IsTwin}

-- A file of a layout means these blocks, with this last log number: what it keeps of each, with the groups of its log
-- rolled forward.
pub record Means (l : Layout) (file : List ℕ) (blocks : List (List ℕ)) (n : ℕ) : Type 0 where
  pub identity : HasIdentity file_version l file
  pub head : Head
  pub head_is : head ≡ head_of file
  pub in_log : head.slot < l.log
  pub first : 1 ≤ head.number
  pub groups : List (List Patch)
  pub log : GroupsAre l head file 0 groups
  pub twin : IsTwin l file
  pub last : n + 1 ≡ head.number + length groups
  pub whole : AreBlocks (shape_of l) blocks
  pub made : (which : ℕ) → which < block_count l
      → block_of blocks which ≡ rolled head.number groups which (kept l file which)

-- bytes 8 to 31 of a block, which groups leave
abbrev pub place_of : List ℕ → List ℕ
place_of block = part block 8 24

-- A block tells the kind and the number of its place, and a log number of at most the last.
pub record IsHeaded (shape : Shape) (last which : ℕ) (block : List ℕ) : Type 0 where
  pub kind : slice_index (place_of block) 0 ≡ block_kind shape which
  pub own : number_at (place_of block) 4 4 ≡ which
  pub low : number_at block 0 8 ≤ last

abbrev pub AreHeaded : Shape → List (List ℕ) → ℕ → Type 0
AreHeaded shape blocks n = (which : ℕ) → which < shape_blocks shape
    → IsHeaded shape n which (block_of blocks which)

-- The first so many homes of a file are headed.
abbrev pub AreHomesHeaded : Layout → ℕ → List ℕ → ℕ → Type 0
AreHomesHeaded l last file count = (which : ℕ) → which < count
    → IsHeaded (shape_of l) last which (home l file which)

-- What an opening tests of the blocks that a file keeps, before it rolls forward.
abbrev pub KeepsHeads : Layout → List ℕ → ℕ → Type 0
KeepsHeads l file n = (which : ℕ) → which < block_count l → IsHeaded (shape_of l) n which (kept l file which)

-- it means blocks with the right heads
pub record OpensAt (l : Layout) (file : List ℕ) (blocks : List (List ℕ)) (n : ℕ) : Type 0 where
  pub means : Means l file blocks n
  pub headed : AreHeaded (shape_of l) blocks n

-- what a file opens to, by the shape and the slots of its layout
pub record Opens (shape : Shape) (slots : Option ℕ) (file : List ℕ) (blocks : List (List ℕ)) (lsn : ℕ) :
    Type 0 where
  pub layout : Layout
  pub shape_is : shape_of layout ≡ shape
  pub slots_are : Some layout.log ≡ slots
  pub opens : OpensAt layout file blocks lsn
