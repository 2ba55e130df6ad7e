-- Where the log of a file begins: two copies of its head, and a byte that chooses one of them.
use Rattle.std.specs.Prelude.{◌≡◌, ◌⊎◌, ◌+◌, ◌-◌, ◌*◌, ◌%◌, ◌^◌, ◌<◌, ◌≤◌}
use Rattle.std.specs.Prelude.{ℕ, List, [], ◌∷◌, ◌++◌, replicate, slice_index}
use Rattle.byteorder.specs.Endian.{big_bytes}
use Rattle.rb_base.specs.Fields.{number_at, overwritten}
use Rattle.rb_base.specs.declared.sizes.TheConstants.{UNIT}
use Rattle.rb_disk.specs.Ranges.{SameBut}
use Rattle.rb_layout.specs.Regions.{log_offset}
use Rattle.rb_layout.specs.declared.layout.Head.{Head}
use Rattle.rb_layout.specs.declared.layout.Layout.{Layout}

-- where copy 0 or 1 begins, and where the byte stands that chooses
abbrev pub copy_offset : ℕ → ℕ
copy_offset copy = UNIT * (1 + copy)

abbrev pub chooser_offset : ℕ
chooser_offset = UNIT * 3

-- the head that a copy says
abbrev pub copy_at : List ℕ → ℕ → Head
copy_at file copy = record {
  slot = number_at file (copy_offset copy) 4;
  number = number_at file (copy_offset copy + 8) 8;
}

-- which copy is chosen, 0 where the byte is even and 1 where it is odd; and which one isn't
abbrev pub chosen : List ℕ → ℕ
chosen file = slice_index file chooser_offset % 2

abbrev pub other_copy : List ℕ → ℕ
other_copy file = 1 - chosen file

-- where the log of the file begins
abbrev pub head_of : List ℕ → Head
head_of file = copy_at file (chosen file)

-- Where the log of a file of this layout may begin.
pub record IsHead (l : Layout) (head : Head) : Type 0 where
  pub slot : head.slot < l.log
  pub first : 1 ≤ head.number
  pub last : head.number ≤ 2 ^ 61

-- the unit of a copy: the slot, four zeros, the number, and zeros
abbrev pub copy_unit : Head → List ℕ
copy_unit head = big_bytes 4 head.slot ++ 0 ∷ 0 ∷ 0 ∷ 0 ∷ big_bytes 8 head.number ++ replicate (UNIT - 16) 0

-- The file after a move: the other copy says the new head, and the chooser is that copy's number.
abbrev pub moved : List ℕ → Head → List ℕ
moved file head =
    let other = other_copy file in
    overwritten (overwritten file (copy_offset other) (copy_unit head)) chooser_offset (other ∷ [])

-- An image of a move: but for the copies and the chooser it is as an image of before, and its head is the old one or
-- the new one.
pub record Advanced (image : List ℕ → Type 0) (old new : Head) (c : List ℕ) : Type 0 where
  pub outside : (d : List ℕ) × image d × SameBut UNIT (log_offset 0) d c
  pub head : (head_of c ≡ old) ⊎ (head_of c ≡ new)
