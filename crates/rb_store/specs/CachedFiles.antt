-- What a contract sees of a cache with its log and its twin area, and what its calls leave.
use Rattle.std.specs.Prelude.{◌≡◌, ◌≢◌, ◌⊎◌, ℕ, ◌+◌, ◌^◌, ◌<◌, ◌≤◌, Bool, true}
use Rattle.std.specs.Prelude.{false, List, [], ◌∷◌, length, Option, None, Some}
use Rattle.std.specs.List.{AllByRecursion}
use Rattle.rb_base.specs.Groups.{Patch}
use Rattle.rb_disk.specs.DiskModel.{Only}
use Rattle.rb_disk.specs.Moments.{Leaves}
use Rattle.rb_disk.specs.declared.disk.Disk.{Ghosts}
use Rattle.rb_layout.specs.Regions.{block_count}
use Rattle.rb_layout.specs.declared.layout.Head.{Head}
use Rattle.rb_layout.specs.declared.layout.Layout.{Layout}
use Rattle.rb_log.specs.GroupSlots.{IsLoggable, LogState}
use Rattle.rb_log.specs.Slots.{gate_of}
use Rattle.rb_twin.specs.Batches.{Image}
use Rattle.rb_twin.specs.Twins.{TwinState}
use Rattle.law_redo.specs.Rolled.{rolled, step}
use Rattle.rb_cache.specs.declared.frame.Frame.{Frame}
use Rattle.rb_cache.specs.Frames.{seen, AreClean}
use Rattle.rb_cache.specs.OnDisk.{IsCalm, Later, OnDisk}
use Rattle.rb_log.specs.GroupSlots.{GroupsAre}

-- The layout of a file, where its log begins, how many of the slots hold groups, and the groups that wait.
pub record CachedState : Type 0 where
  pub layout : Layout
  pub head : Head
  pub used : ℕ
  pub pending : List (List Patch)
  -- how many frames there are, and those that hold a block
  pub frames : ℕ
  pub held : List Frame
  -- the batch of the twin area: empty but where a call has failed
  pub batch : List Image

-- What always holds of its memory.
pub record IsCachedMemory (s : CachedState) : Type 0 where
  pub in_log : s.head.slot < s.layout.log
  pub first : 1 ≤ s.head.number
  pub below : s.used + length s.pending < s.layout.log
  pub each : AllByRecursion (IsLoggable s.layout) s.pending
  pub units : AllByRecursion (λ f. length f.bytes ≡ 2048) s.held
  pub there : AllByRecursion (λ f. f.block < block_count s.layout) s.held

-- and of its parts
pub record IsCachedFile (l : Layout) (log : LogState) (twin : TwinState) (s : CachedState) : Type 0 where
  pub log_layout : log.layout ≡ l
  pub twin_layout : twin.layout ≡ l
  pub scanned : log.scanned ≡ true
  pub memory : IsCachedMemory s

-- the block that was used last
abbrev pub first_of : List Frame → Option ℕ
first_of [] = None
first_of (f ∷ held) = Some f.block

-- a block as it is seen at the start of a call
abbrev pub SeenAt : CachedState → List ℕ → ℕ → List ℕ → Type 0
SeenAt s file which x = x ≡ seen s.layout file s.held which

-- the same, or with a group
abbrev pub SeenOrPatched : CachedState → List ℕ → ℕ → List Patch → ℕ → List ℕ → Type 0
SeenOrPatched s file n g which x = (x ≡ seen s.layout file s.held which)
    ⊎ (x ≡ step n g which (seen s.layout file s.held which))

-- what an image has at any moment of a call, over a log that has these groups
abbrev pub Leaving : {D : Type 0} → Ghosts D → CachedState → D → D → List (List Patch)
    → (ℕ → List ℕ → Type 0) → Type 0
Leaving d s old new groups may =
    Leaves d old new (OnDisk (d.image old) s.layout s.head groups s.pending (d.content old) may)

-- A call that answered Ok, over a log that had these groups.
pub record Done {D : Type 0} (d : Ghosts D) (s t : CachedState) (old new : D) (groups : List (List Patch))
    (may : ℕ → List ℕ → Type 0) : Type 0 where
  pub groups1 : List (List Patch)
  pub used_is : length groups1 ≡ t.used
  pub log : GroupsAre s.layout s.head (d.content new) 0 groups1
  pub later : Later (d.image old) (d.image new) s.layout groups s.pending (d.content old) groups1 t.pending
      (d.content new) may

-- the gate behind the groups of the log is shut
abbrev pub IsShutBehind : CachedState → List ℕ → Type 0
IsShutBehind s file = gate_of s.layout s.head file s.used ≢ 1

-- Then all is calm again, clean frames are their homes, and where the content was the only image it is. The gate behind
-- the groups is shut, where it was.
pub record Settled {D : Type 0} (d : Ghosts D) (s t : CachedState) (old new : D) : Type 0 where
  pub calm : IsCalm (d.image new) s.layout (d.content new)
  pub clean : AreClean s.layout (d.content new) t.held
  pub only : Only (d.content old) (d.image old) → Only (d.content new) (d.image new)
  pub shut : IsShutBehind s (d.content old) → IsShutBehind t (d.content new)

-- the same layout and head
pub record Keeps (s t : CachedState) : Type 0 where
  pub layout : t.layout ≡ s.layout
  pub head : t.head ≡ s.head

-- the groups of the log and those that wait are as many as before
abbrev pub SameNumbers : CachedState → CachedState → Type 0
SameNumbers s t = t.used + length t.pending ≡ s.used + length s.pending

-- what waited goes on to wait, or nothing waits any more
abbrev pub StaysOrNone : CachedState → CachedState → Type 0
StaysOrNone s t = (t.pending ≡ s.pending) ⊎ (t.pending ≡ [])

-- the log has what it had, and so much waits
abbrev pub LeavesLog : CachedState → CachedState → Type 0
LeavesLog s t = (t.used ≡ s.used) × (t.pending ≡ s.pending)

-- A call that flushed its log of itself had no free frame, and none comes free.
pub record FlushesFull (s t : CachedState) : Type 0 where
  pub cause : t.used ≢ s.used → t.frames ≤ length t.held
  pub full : s.frames ≤ length s.held → t.frames ≤ length t.held

-- The memory of a store over a cache. Once a call has failed its numbers don't go together any more.
pub record IsStoreMemory (s : CachedState) (lsn : ℕ) (loaded : Option ℕ) (failed : Bool) : Type 0 where
  pub numbered : failed ≡ false → lsn + 1 ≡ s.head.number + s.used + length s.pending
  pub few : lsn ≤ 2 ^ 62
  pub cached : IsCachedMemory s
  pub empty : failed ≡ false → s.batch ≡ []
  pub front : (which : ℕ) → loaded ≡ Some which → first_of s.held ≡ Some which

-- what rolls to the same block as what was seen at the start
abbrev pub RollsTo : CachedState → List ℕ → ℕ → List (List Patch) → ℕ → List ℕ → Type 0
RollsTo s file n gs which x = rolled n gs which x ≡ rolled n gs which (seen s.layout file s.held which)
