-- The home of a block that a store loaded, and what its segments say then.
use Rattle.std.proofs.Common.{◌≡◌, ◌∙◌, ℕ, List, ap, subst, sym}
use Rattle.rb_base.specs.Blocks.{block_of}
use Rattle.rb_base.specs.declared.shape.Shape.{Shape}
use Rattle.rb_cr.specs.declared.scratch.Scratch.{Scratch}
use Rattle.rb_cr.specs.Scratches.{scratch_home}
use Rattle.rb_cell.specs.declared.cell.Cell as cells
use Rattle.rb_heap.specs.Homes as heap
use Rattle.rb_itl.specs.declared.slots.Entry as entries
use Rattle.law_blocks.specs.Says.{walk_home}
use Rattle.law_blocks.specs.Standing.{env_of, homes_of}
use Rattle.law_home.specs.Walk.{Env, Home}

pub env_stays : (shape shape2 : Shape) (blocks blocks2 : List (List ℕ)) → shape2 ≡ shape → blocks2 ≡ blocks → env_of shape2 blocks2 ≡ env_of shape blocks
env_stays shape shape2 blocks blocks2 same kept = ap (λ (z : Shape). env_of z blocks2) same ∙ ap (env_of shape) kept

home_is : (n n2 : ℕ) (es es2 : List entries.Entry) (xs xs2 : List cells.Cell) (shape : Shape) → n ≡ n2 → es ≡ es2 → xs ≡ xs2
    → walk_home shape n (record { entries = es; cells = xs }) ≡ walk_home shape n2 (record { entries = es2; cells = xs2 })
home_is n n2 es es2 xs xs2 shape same e c = cc

pub home_stays : (s : Scratch) (shape shape2 : Shape) (block : List ℕ) (blocks blocks2 : List (List ℕ)) (which : ℕ)
    → s.block ≡ which → s.entries ≡ (heap.home_of block).entries → s.cells ≡ (heap.home_of block).cells → block ≡ block_of blocks2 which
    → shape2 ≡ shape → blocks2 ≡ blocks → scratch_home shape2 s ≡ homes_of shape blocks which
home_stays s shape shape2 block blocks blocks2 which number e c read same kept =
    home_is s.block which s.entries (heap.home_of block).entries s.cells (heap.home_of block).cells shape2 number e c
    ∙ ap (λ (z : Shape). walk_home z which (heap.home_of block)) same
    ∙ ap (λ (z : List ℕ). walk_home shape which (heap.home_of z)) (read ∙ ap (λ (z : List (List ℕ)). block_of z which) kept)

-- what holds of one home and what the segments say of it, of the same ones
pub both : (P : Env → Home → Type 0) (env env2 : Env) (b b2 : Home) → env2 ≡ env → b2 ≡ b → P env2 b2 → P env b
both P env env2 b b2 same is holds = subst (λ (z : Env). P z b) same (subst (P env2) is holds)

-- what holds of a file's blocks, of the same ones
pub carried : (P : Shape → List (List ℕ) → Type 0) (shape shape2 : Shape) (blocks blocks2 : List (List ℕ)) → shape2 ≡ shape → blocks2 ≡ blocks → P shape blocks → P shape2 blocks2
carried P shape shape2 blocks blocks2 same kept holds = subst (λ (z : Shape). P z blocks2) (sym same) (subst (P shape) (sym kept) holds)
