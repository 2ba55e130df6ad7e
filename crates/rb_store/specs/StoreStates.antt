-- A store over a cache, and what is stable in it.
use Rattle.std.specs.Prelude.{◌≡◌, ◌≢◌, ◌⊎◌, ℕ, ◌+◌, ◌-◌, ◌^◌, ◌++◌, ◌<◌}
use Rattle.std.specs.Prelude.{◌≤◌, Bool, List, length, Option, Some, map}
use Rattle.std.specs.List.{range_with_len}
use Rattle.rb_base.specs.Blocks.{after_groups}
use Rattle.rb_base.specs.Groups.{Patch}
use Rattle.rb_base.specs.Fields.{number_at}
use Rattle.rb_base.specs.Moments.{LeavesOnly}
use Rattle.rb_base.specs.Stores.{OpensToSome, Settles}
use Rattle.rb_disk.specs.DiskModel.{Only}
use Rattle.rb_disk.specs.declared.disk.Disk.{Ghosts}
use Rattle.rb_layout.specs.Regions.{block_count, file_length, shape_of}
use Rattle.rb_layout.specs.declared.layout.Head.{Head}
use Rattle.rb_layout.specs.declared.layout.Layout.{Layout}
use Rattle.rb_cache.specs.declared.frame.Frame.{Frame}
use Rattle.rb_cache.specs.Frames.{seen, AreClean}
use Rattle.rb_log.specs.Slots.{gate_of}
use Rattle.rb_twin.specs.Twins.{twin_gate}
use Rattle.rb_store.specs.Meaning.{Opens, OpensAt}

pub record StoreState (D : Type 0) : Type 0 where
  pub layout : Layout
  -- where the log begins, how many of its slots hold groups, and the groups that wait
  pub head : Head
  pub used : ℕ
  pub pending : List (List Patch)
  -- how many frames there are, and those that hold a block
  pub frames : ℕ
  pub held : List Frame
  -- the last log number given
  pub number : ℕ
  pub loaded : Option ℕ
  pub failed : Bool
  -- how often a load or a group had to make the groups that waited last, up to 2^64 - 1
  pub forced : ℕ
  pub disk : D

-- the blocks that are seen through frames, over homes
abbrev pub blocks_by : Layout → List ℕ → List Frame → List (List ℕ)
blocks_by l file held = map (seen l file held) (range_with_len 0 (block_count l))

-- the blocks as the store reads them
abbrev pub blocks_in : {D : Type 0} → Ghosts D → StoreState D → List (List ℕ)
blocks_in d s = blocks_by s.layout (d.content s.disk) s.held

-- What is so of the disk and of the frames over it, where the disk tells and no call has failed.
pub record IsQuietAt (l : Layout) (head : Head) (used number : ℕ) (held : List Frame) (file : List ℕ)
    (image : List ℕ → Type 0) : Type 0 where
  pub whole : length file ≡ file_length l
  pub only : Only file image
  pub shut : twin_gate l file ≢ 1
  -- so is the gate behind the groups of the log, where the next ones will stand
  pub next : gate_of l head file used ≢ 1
  pub clean : AreClean l file held
  -- no block has a number above the last one given
  pub low : (which : ℕ) → which < block_count l → number_at (seen l file held which) 0 8 ≤ number

-- The file and so each image opens to these blocks, with this last log number. The groups that wait are behind it,
-- and the store reads the blocks after all of them.
pub record IsStableAt (l : Layout) (head : Head) (used : ℕ) (pending : List (List Patch)) (number : ℕ)
    (read : List (List ℕ)) (file : List ℕ)
    (image : List ℕ → Type 0) (blocks : List (List ℕ)) (n : ℕ) : Type 0 where
  pub only : Only file image
  pub opens : OpensAt l file blocks n
  pub head_is : opens.means.head ≡ head
  pub used_is : length opens.means.groups ≡ used
  pub numbered : n + length pending ≡ number
  pub reads : read ≡ after_groups (n + 1) pending blocks

abbrev pub IsStable : {D : Type 0} → Ghosts D → StoreState D → List (List ℕ) → ℕ → Type 0
IsStable d s blocks n =
    IsStableAt s.layout s.head s.used s.pending s.number (blocks_in d s) (d.content s.disk) (d.image s.disk) blocks n

-- moments of a store are those of its disk
abbrev pub StoreLeaves : {D : Type 0} → Ghosts D → StoreState D → StoreState D → (List ℕ → Type 0)
    → Type 0
StoreLeaves {D} d old new P =
    LeavesOnly (λ (s : StoreState D). d.moment s.disk) (λ (s : StoreState D) t c. d.image_since s.disk t c) old new P

-- Each moment of a call that gives these groups, those that waited first: an image opens to blocks that were stable,
-- after some of them.
abbrev pub LeavesGiven : {D : Type 0} → Ghosts D → StoreState D → StoreState D → List (List Patch) → Type 0
LeavesGiven d old new given = (b : List (List ℕ)) (n : ℕ) → IsStable d old b n
    → StoreLeaves d old new (OpensToSome (Opens (shape_of old.layout) (Some old.layout.log)) n given b)

-- and behind it, where it answered Ok
abbrev pub SettlesGiven : {D : Type 0} → Ghosts D → StoreState D → StoreState D → List (List Patch) → Type 0
SettlesGiven d old new given = (b : List (List ℕ)) (n : ℕ) → IsStable d old b n
    → Settles n given b (IsStable d new) new.pending

-- What waited goes on to wait, and perhaps more behind it: but where the store itself had to make it last, to bring a
-- block home and another into its frame, or since the log was full. It never has to for a block while a frame is free,
-- and none comes free; and the head of the log moves over all groups that a full log has, and not before.
pub record HeldBack {D : Type 0} (old new : StoreState D) : Type 0 where
  pub no_fewer : old.forced ≤ new.forced
  pub waits : (new.forced ≡ old.forced) → old.forced < 2 ^ 64 - 1
      → (more : List (List Patch)) × (new.pending ≡ old.pending ++ more)
  pub cause : old.forced < new.forced
      → (new.frames ≤ length new.held) ⊎ (old.head.number < new.head.number)
  pub full : old.frames ≤ length old.held → new.frames ≤ length new.held
  pub no_back : old.head.number ≤ new.head.number
  pub moves : old.head.number < new.head.number → old.head.number + old.layout.log ≤ new.head.number + 1
  pub layout : new.layout ≡ old.layout
