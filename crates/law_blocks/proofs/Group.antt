-- What one group of a kind leaves of the blocks of a file: their sizes, the blocks that it doesn't patch, and the log number.
use Rattle.std.proofs.Common.{◌≡◌, ◌⊎◌, inl, inr, ◌<◌, ◌≤◌, ◌+◌, ◌^◌, ℕ, List, [], ◌∷◌, length, refl, sym, ◌∙◌, ap, subst, arith}
use Rattle.std.proofs.lemmas.Bool.{cases_eq}
use Rattle.std.specs.List.{AllByRecursion}
use Rattle.rb_base.specs.Blocks.{block_of, after_patch, after_group, shape_blocks, AreBlocks}
use Rattle.rb_base.specs.Fields.{number_at}
use Rattle.rb_base.specs.Groups.{Patch}
use Rattle.rb_base.specs.declared.shape.Shape.{Shape}
use Rattle.law_blocks.specs.Groups.{GroupOn}
use Rattle.law_blocks.specs.Standing.{logged_of}
use Rattle.rb_base.proofs.Blocks.{patch_own, patch_others, patch_count, group_others, group_keeps}
use Rattle.rb_base.proofs.Each.{all_so}
use Rattle.rb_txntable.proofs.Greatest.{greatest-above, greatest-least}
use Rattle.rb_txntable.proofs.Patched.{number_patched}

-- the log number in front of a block
abbrev pub front_of : List (List ℕ) → ℕ → ℕ
front_of blocks b = number_at (block_of blocks b) 0 8

module _ (number : ℕ) (fits : number < 2 ^ 64) where
  patch_front : (p : Patch) (blocks : List (List ℕ)) (b : ℕ) → b < length blocks → (front_of (after_patch number p blocks) b ≡ number) ⊎ (front_of (after_patch number p blocks) b ≡ front_of blocks b)
  patch_front p blocks b b_in = elim (cases_eq b p.block) [
    | inl at ↦
        let own : front_of (after_patch number p blocks) p.block ≡ number = ap (λ (z : List ℕ). number_at z 0 8) (patch_own number p blocks (omega (arith, at, b_in))) ∙ number_patched (block_of blocks p.block) number p fits in
        inl (ap (front_of (after_patch number p blocks)) at ∙ own)
    | inr ne ↦ inr (ap (λ (z : List ℕ). number_at z 0 8) (patch_others number p blocks b ne))
  ]

  -- each block has the group's number in front, or what it had
  pub group_front : (ps : List Patch) (blocks : List (List ℕ)) (b : ℕ) → b < length blocks → (front_of (after_group number ps blocks) b ≡ number) ⊎ (front_of (after_group number ps blocks) b ≡ front_of blocks b)
  group_front [] blocks b b_in = inr refl
  group_front (p ∷ ps) blocks b b_in = elim (group_front ps (after_patch number p blocks) b (omega (arith, patch_count number p blocks, b_in))) [
    | inl is ↦ inl is
    | inr same ↦ elim (patch_front p blocks b b_in) [
      | inl is ↦ inl (same ∙ is)
      | inr still ↦ inr (same ∙ still)
    ]
  ]

  -- the first patched block has it
  first_front : (p : Patch) (ps : List Patch) (blocks : List (List ℕ)) → p.block < length blocks → front_of (after_group number (p ∷ ps) blocks) p.block ≡ number
  first_front p ps blocks there =
      let own : front_of (after_patch number p blocks) p.block ≡ number = ap (λ (z : List ℕ). number_at z 0 8) (patch_own number p blocks there) ∙ number_patched (block_of blocks p.block) number p fits in
      elim (group_front ps (after_patch number p blocks) p.block (omega (arith, patch_count number p blocks, there))) [
        | inl is ↦ is
        | inr same ↦ same ∙ own
      ]

  some_front : (ps : List Patch) (blocks : List (List ℕ)) → 1 ≤ length ps → AllByRecursion (λ p. p.block < length blocks) ps → (b : ℕ) × (b < length blocks) × (front_of (after_group number ps blocks) b ≡ number)
  some_front [] blocks some within = absurd (omega (arith, some))
  some_front (p ∷ ps) blocks some within = (p.block, within.0, first_front p ps blocks within.0)

module _ (shape : Shape) (Is : ℕ → Type 0) (before now : List (List ℕ)) (group : GroupOn shape Is before now) where
  -- a block that the group doesn't patch
  pub block_stays : (b : ℕ) → (Is b → ⊥) → block_of now b ≡ block_of before b
  block_stays b not =
      ap (λ (z : List (List ℕ)). block_of z b) group.made
      ∙ group_others (logged_of shape before + 1) b group.patches before (all_so (λ p. Is p.block) (λ p. p.block ≡ b → ⊥) group.patches (λ p is at. not (subst Is at is)) group.only)

  pub blocks_stay : AreBlocks shape before → AreBlocks shape now
  blocks_stay whole = subst (AreBlocks shape) (sym group.made) (group_keeps shape (logged_of shape before + 1) group.patches before whole group.each)

  abbrev After : List (List ℕ)
  After = after_group (logged_of shape before + 1) group.patches before

  module _ (whole : AreBlocks shape before) (within : (b : ℕ) → Is b → b < shape_blocks shape) (fits : logged_of shape before + 1 < 2 ^ 64) where
    low : logged_of shape After ≤ logged_of shape before + 1
    low = greatest-least (front_of After) (shape_blocks shape) (logged_of shape before + 1) (λ b b_in. elim (group_front (logged_of shape before + 1) fits group.patches before b (omega (arith, whole.count, b_in))) [
      | inl is ↦ omega (arith, is)
      | inr same ↦ let a = greatest-above (front_of before) (shape_blocks shape) b b_in in omega (arith, a, same)
    ])

    high : logged_of shape before + 1 ≤ logged_of shape After
    high =
        let there = all_so (λ p. Is p.block) (λ p. p.block < length before) group.patches (λ p is. let a = within p.block is in omega (arith, a, whole.count)) group.only in
        let some = some_front (logged_of shape before + 1) fits group.patches before group.some there in
        let a = greatest-above (front_of After) (shape_blocks shape) some.0 (omega (arith, some.1, whole.count)) in
        omega (arith, a, some.2)

    -- the group is the next one that is logged
    pub logged_next : logged_of shape now ≡ logged_of shape before + 1
    logged_next = ap (logged_of shape) group.made ∙ omega (arith, low, high)
