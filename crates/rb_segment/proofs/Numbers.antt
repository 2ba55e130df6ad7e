-- The commit number of a file, the greatest of its table slots.
use Rattle.std.proofs.Common.{◌≡◌, ℕ, ◌<◌, ◌≤◌, List, ap, arith}
use Rattle.rb_base.specs.declared.sizes.TheConstants.{SLOTS}
use Rattle.rb_base.specs.declared.shape.Shape.{Shape}
use Rattle.rb_base.specs.Blocks.{block_of, header_block}
use Rattle.rb_txntable.specs.Slots.{slot_newest, header_newest}
use Rattle.rb_txntable.proofs.Greatest.{greatest-above, greatest-least, greatest-same}
use Rattle.rb_segment.specs.Segments.{commit_scn}

-- the commit number of a file, by all table slots of its headers
pub commit_above : (shape : Shape) (blocks : List (List ℕ)) (g i : ℕ) → g < shape.segments → i < SLOTS → slot_newest (block_of blocks (header_block shape g)) i ≤ commit_scn shape blocks
commit_above shape blocks g i there few =
    let header = block_of blocks (header_block shape g) in
    let in_header = greatest-above (slot_newest header) SLOTS i few in
    let in_file = greatest-above (λ (k : ℕ). header_newest (block_of blocks (header_block shape k))) shape.segments g there in
    omega (arith, in_header, in_file)

pub commit_least : (shape : Shape) (blocks : List (List ℕ)) (n : ℕ) → ((g i : ℕ) → g < shape.segments → i < SLOTS → slot_newest (block_of blocks (header_block shape g)) i ≤ n) → commit_scn shape blocks ≤ n
commit_least shape blocks n within =
    greatest-least (λ (k : ℕ). header_newest (block_of blocks (header_block shape k))) shape.segments n
    (λ g there. greatest-least (slot_newest (block_of blocks (header_block shape g))) SLOTS n (λ i few. within g i there few))

-- by the headers alone
pub commit_same : (shape : Shape) (now blocks : List (List ℕ)) → ((g : ℕ) → g < shape.segments → block_of now (header_block shape g) ≡ block_of blocks (header_block shape g)) → commit_scn shape now ≡ commit_scn shape blocks
commit_same shape now blocks same =
    greatest-same (λ (g : ℕ). header_newest (block_of now (header_block shape g))) (λ (g : ℕ). header_newest (block_of blocks (header_block shape g))) shape.segments (λ g there. ap header_newest (same g there))
