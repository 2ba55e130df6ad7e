-- What a patch, or a group of patches, leaves of the blocks of a file, and the blocks of a new file one by one.
use Rattle.std.proofs.Common.{◌≡◌, ◌≢◌, ℕ, zero, suc, ◌+◌, ◌<◌, ◌≤◌, List, [], ◌∷◌, ◌++◌, length, refl, arith, ap, sym, ◌∙◌, subst, inl, inr}
use Rattle.std.proofs.lemmas.Bool.{cases_lt}
use Rattle.std.proofs.lemmas.List.{length-set, set_past, get_or-set_same, get_or-set_other}
use Rattle.std.specs.List.{AllByRecursion}
use Rattle.rb_base.specs.declared.sizes.TheConstants.{UNIT}
use Rattle.byteorder.specs.Endian.{big_bytes}
use Rattle.rb_base.specs.Blocks.{shape_blocks, block_of, patched, after_patch, after_group, fresh_block, fresh_from, AreBlocks}
use Rattle.rb_base.specs.Fields.{overwritten}
use Rattle.rb_base.specs.Groups.{Patch, IsPatch}
use Rattle.rb_base.specs.declared.shape.Shape.{Shape}
use Rattle.rb_base.proofs.Each.{all_at, all_set}
use Rattle.rb_base.proofs.Overwriting.{length-overwritten}

abbrev IsUnit : List ℕ → Type 0
IsUnit block = length block ≡ UNIT

pub block_long : (shape : Shape) (blocks : List (List ℕ)) (which : ℕ) → AreBlocks shape blocks → which < shape_blocks shape → length (block_of blocks which) ≡ UNIT
block_long shape blocks which are lt = all_at IsUnit blocks which [] are.each (omega (arith, are.count, lt))

-- a patch within its block leaves it a unit
pub patched_long : (number : ℕ) (p : Patch) (block : List ℕ) → length block ≡ UNIT → p.at + length p.bytes ≤ UNIT → length (patched number p block) ≡ UNIT
patched_long number p block long within =
    let written = length-overwritten block p.at p.bytes (omega (arith, long, within)) in
    length-overwritten (overwritten block p.at p.bytes) 0 (big_bytes 8 number) (omega (arith, long, written)) ∙ written ∙ long

-- the block that a patch is of
pub patch_own : (number : ℕ) (p : Patch) (blocks : List (List ℕ)) → p.block < length blocks → block_of (after_patch number p blocks) p.block ≡ patched number p (block_of blocks p.block)
patch_own number p blocks lt = get_or-set_same blocks p.block (patched number p (block_of blocks p.block)) [] lt

-- every other block stays
pub patch_others : (number : ℕ) (p : Patch) (blocks : List (List ℕ)) (other : ℕ) → other ≢ p.block → block_of (after_patch number p blocks) other ≡ block_of blocks other
patch_others number p blocks other differ = get_or-set_other blocks p.block other (patched number p (block_of blocks p.block)) [] differ

-- and every block that no patch of a group is of
pub group_others : (number other : ℕ) (group : List Patch) (blocks : List (List ℕ)) → AllByRecursion (λ p. p.block ≢ other) group → block_of (after_group number group blocks) other ≡ block_of blocks other
group_others number other [] blocks apart = refl
group_others number other (p ∷ group) blocks apart = group_others number other group (after_patch number p blocks) apart.1 ∙ patch_others number p blocks other (λ same. apart.0 (sym same))

-- a patch leaves as many blocks, and so does a group, whatever it patches
pub patch_count : (number : ℕ) (p : Patch) (blocks : List (List ℕ)) → length (after_patch number p blocks) ≡ length blocks
patch_count number p blocks = length-set blocks p.block (patched number p (block_of blocks p.block))

pub group_count : (number : ℕ) (group : List Patch) (blocks : List (List ℕ)) → length (after_group number group blocks) ≡ length blocks
group_count number [] blocks = refl
group_count number (p ∷ group) blocks = group_count number group (after_patch number p blocks) ∙ patch_count number p blocks

-- where it is within its block, each block stays a unit
pub patch_keeps : (shape : Shape) (number : ℕ) (p : Patch) (blocks : List (List ℕ)) → AreBlocks shape blocks → p.at + length p.bytes ≤ UNIT → AreBlocks shape (after_patch number p blocks)
patch_keeps shape number p blocks are within =
    let now = patched number p (block_of blocks p.block) in
    record {
      count = patch_count number p blocks ∙ are.count;
      each = elim (cases_lt p.block (length blocks)) [
        | inl lt ↦ all_set IsUnit blocks p.block now are.each (patched_long number p (block_of blocks p.block) (all_at IsUnit blocks p.block [] are.each lt) within)
        | inr le ↦ subst (AllByRecursion IsUnit) (sym (set_past blocks p.block now le)) are.each
      ];
    }

pub group_keeps : (shape : Shape) (number : ℕ) (group : List Patch) (blocks : List (List ℕ)) → AreBlocks shape blocks → AllByRecursion IsPatch group → AreBlocks shape (after_group number group blocks)
group_keeps shape number [] blocks are valid = are
group_keeps shape number (p ∷ group) blocks are valid = group_keeps shape number group (after_patch number p blocks) (patch_keeps shape number p blocks are valid.0.within_block) valid.1

-- the patches of a group in two parts
pub group_append : (number : ℕ) (front rest : List Patch) (blocks : List (List ℕ)) → after_group number (front ++ rest) blocks ≡ after_group number rest (after_group number front blocks)
group_append number [] rest blocks = refl
group_append number (p ∷ front) rest blocks = group_append number front rest (after_patch number p blocks)

-- the blocks of a new file
pub fresh_count : (shape : Shape) (first count : ℕ) → length (fresh_from shape first count) ≡ count
fresh_count shape first zero = refl
fresh_count shape first (suc count) = let e = fresh_count shape (first + 1) count in omega (arith, e)

pub fresh_at : (shape : Shape) (first count i : ℕ) → i < count → block_of (fresh_from shape first count) i ≡ fresh_block shape (first + i)
fresh_at shape first zero i lt = absurd (omega arith)
fresh_at shape first (suc count) zero lt = ap (fresh_block shape) (omega arith)
fresh_at shape first (suc count) (suc i) lt = fresh_at shape (first + 1) count i (omega arith) ∙ ap (fresh_block shape) (omega arith)
