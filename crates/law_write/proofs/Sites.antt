-- The blocks in which keys have their places.
use Rattle.std.proofs.Common.{◌≡◌, ◌<◌, ◌≤◌, ◌+◌, ◌-◌, ◌*◌, ◌/◌, ◌%◌, ℕ, sym, ◌∙◌, ap, subst, arith}
use Rattle.std.proofs.Math.Nat.{mod-lt, mul-le-mul_right}
use Rattle.std.proofs.lemmas.Nat.{div-mul-add, mod-mul-add}
use Rattle.rb_base.specs.Blocks.{home_block, table_blocks}
use Rattle.rb_base.specs.declared.shape.Shape.{Shape}

-- the block of a key tells its table and its home
pub one_home : (shape : Shape) (t k u q : ℕ) → 1 ≤ shape.blocks → 1 ≤ t → 1 ≤ u → home_block shape t k ≡ home_block shape u q → (t ≡ u) × (k % shape.blocks ≡ q % shape.blocks)
one_home shape t k u q some first second same =
    let a = div-mul-add (t - 1) shape.blocks (k % shape.blocks) (mod-lt k some) in
    let b = div-mul-add (u - 1) shape.blocks (q % shape.blocks) (mod-lt q some) in
    let c = mod-mul-add (t - 1) shape.blocks (k % shape.blocks) (mod-lt k some) in
    let d = mod-mul-add (u - 1) shape.blocks (q % shape.blocks) (mod-lt q some) in
    let quotients : t - 1 ≡ u - 1 = sym a ∙ (ap (λ (n : ℕ). n / shape.blocks) same ∙ b) in
    (omega (arith, quotients, first, second), sym c ∙ (ap (λ (n : ℕ). n % shape.blocks) same ∙ d))

pub home_table : (shape : Shape) (t k : ℕ) → 1 ≤ shape.blocks → 1 ≤ t → home_block shape t k / shape.blocks + 1 ≡ t
home_table shape t k some first =
    let a = div-mul-add (t - 1) shape.blocks (k % shape.blocks) (mod-lt k some) in
    omega (arith, a, first)

pub home_mod : (shape : Shape) (t k : ℕ) → 1 ≤ shape.blocks → home_block shape t k % shape.blocks ≡ k % shape.blocks
home_mod shape t k some = mod-mul-add (t - 1) shape.blocks (k % shape.blocks) (mod-lt k some)

one_more : (n b : ℕ) → (n + 1) * b ≡ n * b + b
one_more n b = grind arith

-- a row's block is one of its table's
pub row_block : (shape : Shape) (table key : ℕ) → 1 ≤ shape.blocks → 1 ≤ table → table ≤ shape.tables → home_block shape table key < table_blocks shape
row_block shape table key some first few =
    let r = mod-lt key some in
    let up_to : (table - 1) * shape.blocks + shape.blocks ≤ table_blocks shape = subst (λ (n : ℕ). n ≤ shape.tables * shape.blocks) (one_more (table - 1) shape.blocks) (mul-le-mul_right {m = table - 1 + 1} shape.blocks (omega (arith, first, few))) in
    omega (arith, r, up_to)
