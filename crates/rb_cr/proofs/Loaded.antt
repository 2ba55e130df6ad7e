-- What a store reads once it has loaded a block.
use Rattle.std.proofs.Common.{◌≡◌, ◌≤◌, ℕ, List, ◌∙◌, ap, arith}
use Rattle.rb_base.specs.Blocks.{block_of}
use Rattle.rb_base.specs.declared.shape.Shape.{Shape}

pub loaded_is : (block : List ℕ) (blocks now : List (List ℕ)) (one which : ℕ) → block ≡ block_of now one → now ≡ blocks → one ≡ which → block ≡ block_of blocks which
loaded_is block blocks now one which is same at = is ∙ (ap (λ (z : List (List ℕ)). block_of z one) same ∙ ap (block_of blocks) at)

-- a segment that a file hasn't, by the shape that was read
pub behind_shape : (shape shape2 : Shape) (seg : ℕ) → shape ≡ shape2 → shape.segments ≤ seg → shape2.segments ≤ seg
behind_shape shape shape2 seg same behind = let e : shape.segments ≡ shape2.segments = ap (λ (z : Shape). z.segments) same in omega (arith, e, behind)
