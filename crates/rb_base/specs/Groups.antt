-- Patches of blocks, and which of them may stand together in one group.
use Rattle.std.specs.Prelude.{ℕ, ◌+◌, ◌^◌, ◌<◌, ◌≤◌, List, length}
use Rattle.std.specs.List.{sum_by, AllByRecursion}
use Rattle.rb_base.specs.declared.sizes.TheConstants.{BLOCK_HEAD, GROUP_BYTES, GROUP_PATCHES, UNIT}

-- these bytes take the place of those of a block from its byte `at` on
pub record Patch : Type 0 where
  pub block : ℕ
  pub at : ℕ
  pub bytes : List ℕ

abbrev pub patch : ℕ → ℕ → List ℕ → Patch
patch block at bytes = record { block = block; at = at; bytes = bytes }

-- A patch leaves the first 32 bytes of its block, and ends within its 2,048.
pub record IsPatch (p : Patch) : Type 0 where
  pub block_fits : p.block < 2 ^ 32
  pub some : 1 ≤ length p.bytes
  pub behind_head : BLOCK_HEAD ≤ p.at
  pub within_block : p.at + length p.bytes ≤ UNIT

-- the bytes of a patch's spelling: a head of eight and its own
abbrev pub patch_length : Patch → ℕ
patch_length p = 8 + length p.bytes

-- the bytes of a group's spelling: the count and the patches
abbrev pub group_length : List Patch → ℕ
group_length patches = 2 + sum_by patch_length patches

pub record IsGroup (patches : List Patch) : Type 0 where
  pub few : length patches ≤ GROUP_PATCHES
  pub each : AllByRecursion IsPatch patches
  pub within : group_length patches ≤ GROUP_BYTES
