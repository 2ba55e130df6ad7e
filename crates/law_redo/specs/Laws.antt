-- The laws of rolling forward, for groups below number 2^63: the number in front of a block has eight bytes.
use Rattle.std.specs.Prelude.{◌≡◌, ℕ, ◌+◌, ◌^◌, ◌<◌, ◌≤◌, List, ◌++◌, length}
use Rattle.std.specs.List.{AllByRecursion}
use Rattle.rb_base.specs.Blocks.{block_of, after_group, after_groups, shape_blocks, StaysBehind, AreBlocks}
use Rattle.rb_base.specs.Fields.{part, number_at}
use Rattle.rb_base.specs.Groups.{Patch, IsGroup}
use Rattle.rb_base.specs.declared.shape.Shape.{Shape}
use Rattle.law_redo.specs.Rolled.{after_block, after_blocks, rolled}

-- twice is once,
abbrev pub RolledAgain : Type 0
RolledAgain = (which n : ℕ) (gs : List (List Patch)) (x : List ℕ) → n + length gs ≤ 2 ^ 63
    → rolled n gs which (rolled n gs which x) ≡ rolled n gs which x

-- groups may be rolled forward in two parts,
abbrev pub RolledJoined : Type 0
RolledJoined = (which n : ℕ) (gs more : List (List Patch)) (x : List ℕ)
    → rolled n (gs ++ more) which x ≡ rolled (n + length gs) more which (rolled n gs which x)

-- and a block that has the first of them comes to the same as one that has none.
abbrev pub RolledFront : Type 0
RolledFront = (which n : ℕ) (gs more : List (List Patch)) (x : List ℕ) → n + length gs ≤ 2 ^ 63
    → rolled n (gs ++ more) which (rolled n gs which x) ≡ rolled n (gs ++ more) which x

-- Over a block whose number is below theirs all are made,
abbrev pub RolledAbove : Type 0
RolledAbove = (which n : ℕ) (gs : List (List Patch)) (x : List ℕ) → n + length gs ≤ 2 ^ 63
    → number_at x 0 8 < n → rolled n gs which x ≡ after_blocks n gs which x

-- and then its number is below the next group's.
abbrev pub AfterBelow : Type 0
AfterBelow = (which n : ℕ) (gs : List (List Patch)) (x : List ℕ) → n + length gs ≤ 2 ^ 63
    → number_at x 0 8 < n → number_at (after_blocks n gs which x) 0 8 < n + length gs

-- A number doesn't fall,
abbrev pub RolledNoLower : Type 0
RolledNoLower = (which n : ℕ) (gs : List (List Patch)) (x : List ℕ) → n + length gs ≤ 2 ^ 63
    → number_at x 0 8 ≤ number_at (rolled n gs which x) 0 8

-- and rises no higher than the last group's, where it wasn't above it.
abbrev pub RolledNoHigher : Type 0
RolledNoHigher = (which n : ℕ) (gs : List (List Patch)) (x : List ℕ) (most : ℕ) → n + length gs ≤ 2 ^ 63
    → n + length gs ≤ most + 1 → number_at x 0 8 ≤ most → number_at (rolled n gs which x) 0 8 ≤ most

-- a block of all blocks after a group, and after groups
abbrev pub BlockAfter : Type 0
BlockAfter = (shape : Shape) (n which : ℕ) (g : List Patch) (blocks : List (List ℕ))
    → AreBlocks shape blocks → which < shape_blocks shape → AllByRecursion StaysBehind g
    → block_of (after_group n g blocks) which ≡ after_block n g which (block_of blocks which)

abbrev pub BlocksAfter : Type 0
BlocksAfter = (shape : Shape) (n which : ℕ) (gs : List (List Patch)) (blocks : List (List ℕ))
    → AreBlocks shape blocks → which < shape_blocks shape → AllByRecursion IsGroup gs
    → block_of (after_groups n gs blocks) which ≡ after_blocks n gs which (block_of blocks which)

-- a block of a unit, with another's bytes 8 to 31: its kind and its own number
pub record SameHead (x y : List ℕ) : Type 0 where
  pub long : length y ≡ 2048
  pub head : part y 8 24 ≡ part x 8 24

abbrev pub AfterKeepsHead : Type 0
AfterKeepsHead = (which n : ℕ) (gs : List (List Patch)) (x : List ℕ) → length x ≡ 2048
    → AllByRecursion IsGroup gs → SameHead x (after_blocks n gs which x)

abbrev pub RolledKeepsHead : Type 0
RolledKeepsHead = (which n : ℕ) (gs : List (List Patch)) (x : List ℕ) → length x ≡ 2048
    → AllByRecursion IsGroup gs → SameHead x (rolled n gs which x)
