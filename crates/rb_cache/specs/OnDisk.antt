-- What a crash leaves in the calls of a cache.
use Rattle.std.specs.Prelude.{◌≡◌, ◌≢◌, ◌⊎◌, ℕ, ◌<◌, ◌≤◌, List, [], ◌++◌}
use Rattle.std.specs.Prelude.{length, take}
use Rattle.rb_base.specs.Groups.{Patch}
use Rattle.rb_disk.specs.Ranges.{SamePart}
use Rattle.rb_layout.specs.Regions.{block_count, block_offset, file_length, log_offset}
use Rattle.rb_layout.specs.declared.layout.Head.{Head}
use Rattle.rb_layout.specs.declared.layout.Layout.{Layout}
use Rattle.rb_log.specs.GroupSlots.{GroupsAre}
use Rattle.rb_log.specs.Slots.{SameSlots}
use Rattle.rb_twin.specs.Twins.{home, kept, twin_gate, IsTwin}

-- The conditions of a call that may evict: each image has the file's log slots and blocks, and a twin gate that is
-- shut.
pub record IsCalm (image : List ℕ → Type 0) (l : Layout) (file : List ℕ) : Type 0 where
  pub whole : length file ≡ file_length l
  pub slots : (c : List ℕ) → image c → SameSlots l.log file c
  pub blocks : (c : List ℕ) → image c → SamePart (block_offset l 0) (file_length l) file c
  pub shut : (c : List ℕ) → image c → twin_gate l c ≢ 1

-- An image of calls of the cache that began with these groups in the log and these that waited. In front of the log
-- it is as an image of before. Some of the groups that waited are in the log, in order from the first. A block is kept
-- as it was at home, or, all of them being in the log, as it may come home.
pub record OnDisk (image : List ℕ → Type 0) (l : Layout) (head : Head) (groups pending : List (List Patch))
    (file : List ℕ) (may : ℕ → List ℕ → Type 0) (c : List ℕ) : Type 0 where
  pub whole : length c ≡ file_length l
  pub front : (d : List ℕ) × image d × (take (log_offset 0) c ≡ take (log_offset 0) d)
  pub count : ℕ
  pub few : count ≤ length pending
  pub log : GroupsAre l head c 0 (groups ++ take count pending)
  pub twin : IsTwin l c
  pub homes : (which : ℕ) → which < block_count l
      → (kept l c which ≡ home l file which) ⊎ ((count ≡ length pending) × may which (kept l c which))

-- A later moment of calls: its images are in front of the log as some of before. Either nothing was flushed, and the
-- homes are as they were, or all that waited is in the log, and each home is as it was or as it may come.
pub record Later (image image1 : List ℕ → Type 0) (l : Layout) (groups pending : List (List Patch))
    (file : List ℕ) (groups1 pending1 : List (List Patch)) (file1 : List ℕ) (may : ℕ → List ℕ → Type 0) :
    Type 0 where
  pub front : (d : List ℕ) → image1 d
      → (e : List ℕ) × image e × (take (log_offset 0) d ≡ take (log_offset 0) e)
  pub log : ((groups1 ≡ groups) × (pending1 ≡ pending)
      × ((which : ℕ) → which < block_count l → home l file1 which ≡ home l file which))
      ⊎ ((groups1 ≡ groups ++ pending) × (pending1 ≡ [])
      × ((which : ℕ) → which < block_count l
      → (home l file1 which ≡ home l file which) ⊎ may which (home l file1 which)))
