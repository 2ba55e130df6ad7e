-- The frames of a cache by their numbers, and the order in which they were used.
use Rattle.std.specs.Prelude.{◌≡◌, ◌⊎◌, ℕ, zero, suc, ◌-◌, ◌<◌, ◌≤◌, ◌==◌, true}
use Rattle.std.specs.Prelude.{false, if◌then◌else◌, List, [], ◌∷◌, length}
use Rattle.std.specs.Prelude.{slice_index_or}
use Rattle.std.specs.List.{AllByRecursion}
use Rattle.rb_base.specs.Groups.{Patch}
use Rattle.rb_base.specs.declared.sizes.TheConstants.{UNIT}
use Rattle.law_redo.specs.Rolled.{step}
use Rattle.rb_layout.specs.Regions.{block_count}
use Rattle.rb_twin.specs.Batches.{Image}
use Rattle.rb_twin.specs.Twins.{TwinState}
use Rattle.rb_cache.specs.Frames.{AreBelow, CacheState, Gathered, has_number}
use Rattle.rb_cache.specs.declared.frame.Frame.{Frame}
use Rattle.rb_cache.specs.declared.frame.TheConstants.{BLOCKS, NO_BLOCK}

-- the frames, and their numbers, the most recently used first
pub record FramesState : Type 0 where
  pub slots : List Frame
  pub order : List ℕ

abbrev pub no_frame : Frame
no_frame = record { block = NO_BLOCK; bytes = []; dirty = false }

abbrev pub frame_at : List Frame → ℕ → Frame
frame_at slots k = slice_index_or slots k no_frame

abbrev pub IsUnused : List Frame → ℕ → Type 0
IsUnused slots k = (frame_at slots k).block ≡ NO_BLOCK

-- the frames of these numbers that hold a block
abbrev pub held_of : List Frame → List ℕ → List Frame
held_of slots [] = []
held_of slots (k ∷ ks) =
    if (frame_at slots k).block == NO_BLOCK then held_of slots ks else frame_at slots k ∷ held_of slots ks

abbrev pub held_in : FramesState → List Frame
held_in s = held_of s.slots s.order

abbrev pub cache_of : FramesState → CacheState
cache_of s = record { frames = length s.slots; held = held_in s }

-- each number comes once
abbrev pub AreOnce : List ℕ → Type 0
AreOnce [] = Unit {0}
AreOnce (k ∷ ks) = (has_number k ks ≡ false) × AreOnce ks

-- frames without a block stand behind all others
abbrev pub UnusedLast : List Frame → List ℕ → Type 0
UnusedLast slots [] = Unit {0}
UnusedLast slots (k ∷ ks) = (IsUnused slots k → AllByRecursion (IsUnused slots) ks) × UnusedLast slots ks

-- a frame holds none and is clean, or the place of its block leads to it
abbrev pub IsPlaced : List Frame → List ℕ → ℕ → Type 0
IsPlaced slots places k = (IsUnused slots k × ((frame_at slots k).dirty ≡ false))
    ⊎ (((frame_at slots k).block < BLOCKS) × (slice_index_or places (frame_at slots k).block 0 ≡ k))

-- What the frames have in memory. For each block number a place tells which frame may hold it: it does where the frame
-- says so too.
pub record AreFrames (slots : List Frame) (order places : List ℕ) : Type 0 where
  pub some : 1 ≤ length slots
  pub few : length slots ≤ 4096
  pub whole : length order ≡ length slots
  pub once : AreOnce order
  pub all : (k : ℕ) → k < length slots → has_number k order ≡ true
  pub below : AllByRecursion (λ k. k < length slots) order
  pub units : AllByRecursion (λ f. length f.bytes ≡ UNIT) slots
  pub placed : AllByRecursion (IsPlaced slots places) order
  pub behind : UnusedLast slots order
  pub table : length places ≡ BLOCKS
  pub leads : AllByRecursion (λ k. k < length slots) places

-- a frame as it is made
pub record IsEmptyFrame (f : Frame) : Type 0 where
  pub block : f.block ≡ NO_BLOCK
  pub clean : f.dirty ≡ false
  pub unit : length f.bytes ≡ UNIT

-- the numbers below one, the greatest first
abbrev pub numbers_below : ℕ → List ℕ
numbers_below zero = []
numbers_below (suc n) = n ∷ numbers_below n

-- the frame that was used longest ago
abbrev pub last_of : FramesState → Frame
last_of s = frame_at s.slots (slice_index_or s.order (length s.order - 1) 0)

-- the frames from one number to before another are clean
abbrev pub AreCleanFrom : ℕ → ℕ → List Frame → Type 0
AreCleanFrom from to slots = (k : ℕ) → from ≤ k → k < to → (frame_at slots k).dirty ≡ false

-- The first block was patched by the group of that number. Where it is clean it is as before.
pub record IsPatched (number : ℕ) (group : List Patch) (first : Frame) (others held : List Frame) : Type 0 where
  pub frame : Frame
  pub held_is : held ≡ frame ∷ others
  pub block : frame.block ≡ first.block
  pub bytes : frame.bytes ≡ step number group first.block first.bytes
  pub clean : frame.dirty ≡ false → frame ≡ first

-- After some of the frames were put into a batch: those count as clean, and the others are as they were.
pub record GatheredSoFar (before slots : List Frame) (order places : List ℕ) (batch : List Image) : Type 0 where
  pub frames : AreFrames slots order places
  pub gathered : Gathered (held_of before order) (held_of slots order) batch
  pub long : length slots ≡ length before
  pub cleaner : (k : ℕ) → (frame_at before k).dirty ≡ false → (frame_at slots k).dirty ≡ false

-- Frames are put into a batch one by one. Their blocks are those of the file.
pub record IsGathering (slots : List Frame) (order : List ℕ) (twin : TwinState) : Type 0 where
  pub before : List Frame
  pub places : List ℕ
  pub so_far : GatheredSoFar before slots order places twin.batch
  pub within : AreBelow (block_count twin.layout) (held_of before order)
