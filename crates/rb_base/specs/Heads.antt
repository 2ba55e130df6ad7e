-- How a group lies in memory: the bytes of all its patches one behind another, and a head for each patch.
use Rattle.std.specs.Prelude.{◌≡◌, ℕ, ◌+◌, ◌*◌, ◌≤◌, List, length, map}
use Rattle.std.specs.List.{AllByRecursion}
use Rattle.rb_base.specs.Fields.{part}
use Rattle.rb_base.specs.Groups.{Patch, patch, group_length, IsGroup}
use Rattle.rb_base.specs.declared.group.Head.{Head}

abbrev pub patch_of : List ℕ → Head → Patch
patch_of bytes head = patch head.block head.at (part bytes head.start head.length)

abbrev pub patches_of : List ℕ → List Head → List Patch
patches_of bytes heads = map (patch_of bytes) heads

-- the head's bytes are there
abbrev pub IsWithin : List ℕ → Head → Type 0
IsWithin bytes head = head.start + head.length ≤ length bytes

pub record IsKept (bytes : List ℕ) (heads : List Head) : Type 0 where
  pub valid : IsGroup (patches_of bytes heads)
  pub each_within : AllByRecursion (IsWithin bytes) heads
  -- no byte is there but those of the patches
  pub filled : group_length (patches_of bytes heads) ≡ 2 + 8 * length heads + length bytes
