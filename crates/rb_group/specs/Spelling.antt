-- The bytes of a group: its patches in order, behind how many they are.
use Rattle.std.specs.Prelude.{◌≡◌, ℕ, zero, suc, ◌+◌, ◌<◌, List, [], ◌∷◌, ◌++◌, length, drop}
use Rattle.std.specs.List.{flat_map}
use Rattle.byteorder.specs.Endian.{big_bytes}
use Rattle.rb_base.specs.Fields.{part, number_at}
use Rattle.rb_base.specs.Groups.{Patch, patch, IsGroup}

-- the block, the offset, the length and the bytes
abbrev pub patch_bytes : Patch → List ℕ
patch_bytes p = big_bytes 4 p.block ++ big_bytes 2 p.at ++ big_bytes 2 (length p.bytes) ++ p.bytes

abbrev pub group_bytes : List Patch → List ℕ
group_bytes patches = big_bytes 2 (length patches) ++ flat_map patch_bytes patches

-- The bytes are the spelling of these patches. The group of no patch has none.
pub record SpellsGroup (bytes : List ℕ) (patches : List Patch) : Type 0 where
  pub valid : IsGroup patches
  pub some : 0 < length patches
  pub whole : bytes ≡ group_bytes patches

-- so many patches, where they are spelled at the front of the bytes
abbrev pub patches_in : ℕ → List ℕ → List Patch
patches_in zero bytes = []
patches_in (suc n) bytes =
    patch (number_at bytes 0 4) (number_at bytes 4 2) (part bytes 8 (number_at bytes 6 2))
    ∷ patches_in n (drop (8 + number_at bytes 6 2) bytes)

-- The group whose spelling stands at the front of the bytes. Where none stands there it is no matter.
unfoldable pub group_in_front : List ℕ → List Patch
group_in_front bytes = patches_in (number_at bytes 0 2) (drop 2 bytes)
