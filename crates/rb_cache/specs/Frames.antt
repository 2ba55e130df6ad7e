-- Blocks that are held in frames, the most recently used first, and what is read through them.
use Rattle.std.specs.Prelude.{◌≡◌, ℕ, ◌-◌, ◌<◌, ◌≤◌, ◌==◌, Bool, true, false}
use Rattle.std.specs.Prelude.{if◌then◌else◌, List, [], ◌∷◌, length}
use Rattle.std.specs.Prelude.{◌++◌, take, map}
use Rattle.std.specs.List.{AllByRecursion}
use Rattle.rb_base.specs.declared.sizes.TheConstants.{UNIT}
use Rattle.rb_layout.specs.declared.layout.Layout.{Layout}
use Rattle.rb_twin.specs.Batches.{Image}
use Rattle.rb_twin.specs.Twins.{home}
use Rattle.rb_cache.specs.declared.frame.Frame.{Frame}

-- what a contract sees of a cache: how many frames there are, and those that hold a block
pub record CacheState : Type 0 where
  pub frames : ℕ
  pub held : List Frame

-- a block as it is read: in its frame, or else at home
abbrev pub seen : Layout → List ℕ → List Frame → ℕ → List ℕ
seen l file [] which = home l file which
seen l file (f ∷ held) which = if f.block == which then f.bytes else seen l file held which

abbrev pub numbers_of : List Frame → List ℕ
numbers_of held = map (λ f. f.block) held

abbrev pub has_number : ℕ → List ℕ → Bool
has_number which [] = false
has_number which (n ∷ ns) = if n == which then true else has_number which ns

-- the others, where the number comes once
abbrev pub without : ℕ → List ℕ → List ℕ
without which [] = []
without which (n ∷ ns) = if n == which then ns else n ∷ without which ns

-- The blocks that are held once a block was used: it goes to the front, and where it wasn't held and all frames hold
-- one, the last gives way.
abbrev pub brought : ℕ → ℕ → List ℕ → List ℕ
brought frames which ns =
    which ∷ (if has_number which ns then without which ns
    else if length ns == frames then take (frames - 1) ns else ns)

-- the frames once one of them is free
abbrev pub room_made : ℕ → List Frame → List Frame
room_made frames held = if length held == frames then take (frames - 1) held else held

-- the frame of a block, or else this one, and the others
abbrev pub frame_in : ℕ → Frame → List Frame → Frame
frame_in which f [] = f
frame_in which f (g ∷ held) = if g.block == which then g else frame_in which f held

abbrev pub others_of : ℕ → List Frame → List Frame
others_of which [] = []
others_of which (g ∷ held) = if g.block == which then held else g ∷ others_of which held

-- no two frames hold one block
abbrev pub AreDifferent : List Frame → Type 0
AreDifferent [] = Unit {0}
AreDifferent (f ∷ held) = (has_number f.block (numbers_of held) ≡ false) × AreDifferent held

-- each block that is held is one of so many
abbrev pub AreBelow : ℕ → List Frame → Type 0
AreBelow blocks held = AllByRecursion (λ f. f.block < blocks) held

-- a frame that isn't dirty is its home
abbrev pub AreClean : Layout → List ℕ → List Frame → Type 0
AreClean l file held = AllByRecursion (λ f. f.dirty ≡ false → f.bytes ≡ home l file f.block) held

abbrev pub NoneDirty : List Frame → Type 0
NoneDirty held = AllByRecursion (λ f. f.dirty ≡ false) held

-- what always holds of a cache
pub record IsCacheMemory (s : CacheState) : Type 0 where
  pub units : AllByRecursion (λ f. length f.bytes ≡ UNIT) s.held
  pub differ : AreDifferent s.held
  pub few : length s.held ≤ s.frames

-- the blocks of a batch
abbrev pub blocks_of : List Image → List ℕ
blocks_of batch = map (λ image. image.no) batch

-- the frames when those of these blocks count as clean
abbrev pub cleaned : List ℕ → List Frame → List Frame
cleaned names [] = []
cleaned names (f ∷ held) = (if has_number f.block names then record f { dirty = false } else f) ∷ cleaned names held

-- a batch has blocks as they are seen, whatever is at home
abbrev pub AreSeen : List Frame → List Image → Type 0
AreSeen held batch = AllByRecursion
    (λ image. (l : Layout) (file : List ℕ) → image.unit ≡ seen l file held image.no) batch

-- Up to eight frames were put into a batch, and count as clean since.
pub record Gathered (before held : List Frame) (batch : List Image) : Type 0 where
  pub held_is : held ≡ cleaned (blocks_of batch) before
  pub seen_are : AreSeen before batch
  pub few : length batch ≤ 8

-- A frame holds a block in front of others, clean as it was read.
pub record IsBrought (tells : Type 0) (no : ℕ) (unit : List ℕ) (others held : List Frame) : Type 0 where
  pub frame : Frame
  pub held_is : held ≡ frame ∷ others
  pub block : frame.block ≡ no
  pub clean : frame.dirty ≡ false
  pub bytes : tells → frame.bytes ≡ unit

-- where all frames hold a block, the last one is clean
abbrev pub IsLastClean : ℕ → List Frame → Type 0
IsLastClean frames held =
    (front : List Frame) (last : Frame) → held ≡ front ++ last ∷ [] → length held ≡ frames
    → last.dirty ≡ false
