-- What is known of a raw file between two calls of its disk.
use Rattle.std.specs.Prelude.{◌≡◌, ℕ, ◌<◌, ◌≤◌, Bool, false, List, length, Option, Some, All}
use Rattle.rb_disk.specs.DiskModel.{Only}
use Rattle.rb_rawfile.specs.RawModel.{HasLength}
use Rattle.rb_filedisk.specs.Unsynced.{HasOne, ranges_of}
use Rattle.rb_rawfile.specs.declared.raw.RawFile.{Ghosts}
use Rattle.rb_filedisk.specs.declared.synced.SyncedFile.{SyncedFile}
use Rattle.rb_filedisk.specs.declared.unsynced.Range.{Range}

-- none of the places within the file is one of these
abbrev pub HasNone : List ℕ → (ℕ → Type 0) → Type 0
HasNone content places = (place : ℕ) → place < length content → places place → ⊥

-- After a sync that answered Ok, of a file that reads as this.
pub record IsSynced {F : Type 0} (f : Ghosts F) (content : List ℕ) (new : F) : Type 0 where
  pub only : Only content (f.image new)
  pub settled : HasNone content (f.unsettled new)
  pub none_lost : HasNone content (f.lost new)

-- What is known of a file by the ranges that may have been written since the last sync that succeeded.
pub record IsInStep {F : Type 0} (f : Ghosts F) (file : F) (synced : Option ℕ) (ranges : List Range) (stale : Bool)
    : Type 0 where
  -- each place that is unsettled is in one of them
  pub remembered : (place : ℕ) → place < length (f.content file) → f.unsettled file place → HasOne ranges place
  -- no place is lost, unless a sync failed
  pub whole : stale ≡ false → HasNone (f.content file) (f.lost file)
  -- where none ends past the length of the last sync of all, each image has that length
  pub long : (count : ℕ) → synced ≡ Some count → All (λ range. range.end ≤ count) ranges
      → HasLength count (f.image file)

-- the same of a file that knows its ranges
abbrev pub IsKept : {F : Type 0} → Ghosts F → SyncedFile F → Type 0
IsKept f s = IsInStep f s.file s.synced (ranges_of s.unsynced) s.stale

-- only the raw file has changed
pub record IsSameBesides {F : Type 0} (old new : SyncedFile F) : Type 0 where
  pub synced : new.synced ≡ old.synced
  pub unsynced : new.unsynced ≡ old.unsynced
  pub stale : new.stale ≡ old.stale
