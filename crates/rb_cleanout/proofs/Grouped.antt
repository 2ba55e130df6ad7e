-- What a group that cleans a block makes of the blocks of a file.
use Rattle.std.proofs.Common.{◌≡◌, ◌≢◌, ℕ, ◌<◌, List, [], ◌∷◌, length, refl, arith, ap, sym, ◌∙◌, inl, inr}
use Rattle.std.specs.List.{AllByRecursion}
use Rattle.rb_base.proofs.Blocks.{block_long, group_others}
use Rattle.rb_base.proofs.Each.{all_so}
use Rattle.rb_base.proofs.OneBlock.{one_block}
use Rattle.rb_base.specs.Blocks.{after_group, block_of, shape_blocks, written_to, AreBlocks, StaysBehind}
use Rattle.rb_base.specs.Groups.{Patch}
use Rattle.rb_base.specs.Logs.{group_of}
use Rattle.rb_base.specs.declared.shape.Shape.{Shape}
use Rattle.rb_heap.proofs.Blocks.{home_after}
use Rattle.rb_heap.proofs.Lengths.{length_behind, length_cleaned, short_same}
use Rattle.rb_heap.specs.Cleaning.{IsCleanPatch}
use Rattle.rb_heap.specs.Homes.{home_of}
use Rattle.rb_heap.specs.Soundness.{StaysShort}

-- a group that has a patch is one
pub one_group : (patches : List Patch) → 0 < length patches → patches ∷ [] ≡ group_of patches
one_group [] some = absurd (omega arith)
one_group (p ∷ patches) some = refl

pub of_block : (block : ℕ) (p : Patch) → IsCleanPatch block p → p.block ≡ block
of_block block p (inl (i, e, few, sound, is)) = ap (λ (q : Patch). q.block) is
of_block block p (inr (c, few, is)) = ap (λ (q : Patch). q.block) is

stays_behind : (block : ℕ) (p : Patch) → IsCleanPatch block p → StaysBehind p
stays_behind block p (inl (i, e, few, sound, is)) = rw is (record { behind_head = omega arith; within_block = omega arith })
stays_behind block p (inr (c, few, is)) = rw is (record { behind_head = omega arith; within_block = omega arith })

module _ (number no_block : ℕ) (patches : List Patch) (clean : AllByRecursion (IsCleanPatch no_block) patches) where
  -- The block has the home of the copy that has the same patches.
  pub copy_home : (shape : Shape) (blocks : List (List ℕ)) (copy : List ℕ) → AreBlocks shape blocks → no_block < shape_blocks shape → copy ≡ written_to no_block patches (block_of blocks no_block)
      → home_of (block_of (after_group number patches blocks) no_block) ≡ home_of copy
  copy_home shape blocks copy are there same =
      home_after shape blocks number no_block patches are there (all_so (IsCleanPatch no_block) StaysBehind patches (stays_behind no_block) clean) ∙ ap home_of (sym same)

  -- every other block stays
  pub others_stay : (blocks : List (List ℕ)) (other : ℕ) → other ≢ no_block → block_of (after_group number patches blocks) other ≡ block_of blocks other
  others_stay blocks other differ =
      group_others number other patches blocks (all_so (IsCleanPatch no_block) (λ (p : Patch). p.block ≢ other) patches (λ p is same. differ (sym same ∙ of_block no_block p is)) clean)

  -- no value gets too long
  pub lengths_stay : (shape : Shape) (blocks : List (List ℕ)) → AreBlocks shape blocks → no_block < shape_blocks shape → StaysShort (block_of blocks no_block) (block_of (after_group number patches blocks) no_block)
  lengths_stay shape blocks are there =
      let block = block_of blocks no_block in
      let now = block_of (after_group number patches blocks) no_block in
      let behind = one_block shape number no_block patches blocks are there (all_so (IsCleanPatch no_block) StaysBehind patches (stays_behind no_block) clean) in
      short_same block now (λ c. length_behind now (written_to no_block patches block) c behind ∙ length_cleaned no_block patches block c (block_long shape blocks no_block are there) clean)
