-- Where the parts of a file lie, and what its first bytes say. All parts are units.
use Rattle.std.specs.Prelude.{◌≡◌, ℕ, ◌+◌, ◌-◌, ◌*◌}
use Rattle.std.specs.Prelude.{List, ◌∷◌, ◌++◌, length, take, replicate, codes}
use Rattle.std.specs.List.{concat}
use Rattle.byteorder.specs.Endian.{big_bytes}
use Rattle.rb_base.specs.Blocks.{fresh_blocks, shape_blocks}
use Rattle.rb_base.specs.declared.shape.Shape.{Shape}
use Rattle.rb_base.specs.declared.sizes.TheConstants.{UNIT}
use Rattle.rb_layout.specs.declared.layout.Layout.{Layout}

-- the version of this form of file
abbrev pub file_version : ℕ
file_version = 1

abbrev pub shape_of : Layout → Shape
shape_of l = record { tables = l.tables; blocks = l.blocks; segments = l.segments }

-- how many blocks there are
abbrev pub block_count : Layout → ℕ
block_count l = shape_blocks (shape_of l)

-- the identity, two control copies and the chooser, the log, the twin's header and eight images, the blocks
abbrev pub file_units : Layout → ℕ
file_units l = 4 + l.log + 9 + block_count l

abbrev pub file_length : Layout → ℕ
file_length l = UNIT * file_units l

abbrev pub log_offset : ℕ → ℕ
log_offset slot = UNIT * (4 + slot)

abbrev pub twin_offset : Layout → ℕ → ℕ
twin_offset l part = UNIT * (4 + l.log + part)

abbrev pub block_offset : Layout → ℕ → ℕ
block_offset l block = UNIT * (4 + l.log + 9 + block)

-- the first 24 bytes of a file: a mark, the version, and the numbers of the layout, the highest byte first
abbrev pub identity : ℕ → Layout → List ℕ
identity version l =
    codes "RBS7FILE" ++ big_bytes 4 version ++ big_bytes 2 l.tables ++ big_bytes 2 l.segments
    ++ big_bytes 4 l.blocks ++ big_bytes 4 l.log

-- a file says that it has this layout, and has the length that follows
pub record HasIdentity (version : ℕ) (l : Layout) (file : List ℕ) : Type 0 where
  pub front : take 24 file ≡ identity version l
  pub whole : length file ≡ file_length l

-- a control copy of a new file: its log begins in slot 0, with number 1
abbrev pub fresh_copy : List ℕ
fresh_copy = big_bytes 4 0 ++ 0 ∷ 0 ∷ 0 ∷ 0 ∷ big_bytes 8 1 ++ replicate (UNIT - 16) 0

-- the first three units of a new file: what it is, and the control copies
abbrev pub fresh_first : ℕ → Layout → List ℕ
fresh_first version l = identity version l ++ replicate (UNIT - 24) 0 ++ fresh_copy ++ fresh_copy

-- all that is in front of the blocks of a new file: these, and zeros
abbrev pub fresh_front : ℕ → Layout → List ℕ
fresh_front version l = fresh_first version l ++ replicate (block_offset l 0 - UNIT * 3) 0

-- a new file: that, and its blocks at home
abbrev pub fresh_file : ℕ → Layout → List ℕ
fresh_file version l = fresh_front version l ++ concat (fresh_blocks (shape_of l))
