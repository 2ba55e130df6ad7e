-- A copy of a block that is changed as the patches of a group will change the block.
use Rattle.std.specs.Prelude.{◌≡◌, ℕ, List, ◌++◌}
use Rattle.rb_base.specs.Blocks.{written_to}
use Rattle.rb_base.specs.Groups.{Patch}

-- the copy of that block and the group have the same bytes more
pub record SamePatches (block : ℕ) (old new : List ℕ) (held holds : List Patch) (patches : List Patch) : Type 0
  where
    pub copy : new ≡ written_to block patches old
    pub group : holds ≡ held ++ patches
