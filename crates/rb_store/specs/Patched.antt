-- What a store's frames have after the first patches of a group.
use Rattle.std.specs.Prelude.{◌≡◌, ℕ, ◌<◌, if◌then◌else◌, List, [], length, take}
use Rattle.rb_base.specs.Groups.{Patch}
use Rattle.rb_disk.specs.declared.disk.Disk.{Ghosts}
use Rattle.rb_layout.specs.Regions.{block_count}
use Rattle.law_redo.specs.Rolled.{has_block, rolled, step}
use Rattle.rb_cache.specs.Frames.{seen}
use Rattle.rb_log.specs.GroupSlots.{GroupsAre}
use Rattle.rb_store.specs.CachedFiles.{CachedState, IsCachedMemory, Done, FlushesFull, Keeps, Leaving, RollsTo}
use Rattle.rb_store.specs.CachedFiles.{SameNumbers, SeenOrPatched, Settled, StaysOrNone}

-- After so many patches the blocks that these are of have the group.
pub record HasPatched {D : Type 0} (d : Ghosts D) (s t : CachedState) (old new : D) (n : ℕ) (g : List Patch)
    (i : ℕ) : Type 0 where
  pub seen : (k : ℕ) → k < block_count s.layout → seen s.layout (d.content new) t.held k
      ≡ (if has_block k (take i g) then step n g k (seen s.layout (d.content old) s.held k)
      else seen s.layout (d.content old) s.held k)
  pub settled : Settled d s t old new
  pub done : (groups : List (List Patch)) → length groups ≡ s.used
      → GroupsAre s.layout s.head (d.content old) 0 groups
      → Done d s t old new groups (SeenOrPatched s (d.content old) n g)
  pub any_moment : (groups : List (List Patch)) → length groups ≡ s.used
      → GroupsAre s.layout s.head (d.content old) 0 groups
      → Leaving d s old new groups (SeenOrPatched s (d.content old) n g)

-- The loop over the patches of a group, after so many.
pub record PatchedSoFar {D : Type 0} (d : Ghosts D) (tells : Type 0) (s t : CachedState) (old new : D) (n : ℕ)
    (g : List Patch) (i : ℕ) : Type 0 where
  pub memory : IsCachedMemory t
  pub batch : t.batch ≡ []
  pub keeps : Keeps s t
  pub numbers : SameNumbers s t
  pub waits : StaysOrNone s t
  pub fills : FlushesFull s t
  pub still : d.faults new ≡ d.faults old
  pub told : tells → HasPatched d s t old new n g i

-- After so many groups of the log each block has them.
pub record HasRolled {D : Type 0} (d : Ghosts D) (s t : CachedState) (old new : D) (n : ℕ) (gs : List (List Patch))
    (i : ℕ) : Type 0 where
  pub seen : (k : ℕ) → k < block_count s.layout → seen s.layout (d.content new) t.held k
      ≡ rolled n (take i gs) k (seen s.layout (d.content old) s.held k)
  pub settled : Settled d s t old new
  pub done : (groups : List (List Patch)) → length groups ≡ s.used
      → GroupsAre s.layout s.head (d.content old) 0 groups
      → Done d s t old new groups (RollsTo s (d.content old) n gs)
  pub any_moment : (groups : List (List Patch)) → length groups ≡ s.used
      → GroupsAre s.layout s.head (d.content old) 0 groups
      → Leaving d s old new groups (RollsTo s (d.content old) n gs)

pub record RolledSoFar {D : Type 0} (d : Ghosts D) (tells : Type 0) (s t : CachedState) (old new : D) (n : ℕ)
    (gs : List (List Patch)) (i : ℕ) : Type 0 where
  pub memory : IsCachedMemory t
  pub batch : t.batch ≡ []
  pub keeps : Keeps s t
  pub numbers : SameNumbers s t
  pub waits : StaysOrNone s t
  pub still : d.faults new ≡ d.faults old
  pub told : tells → HasRolled d s t old new n gs i
