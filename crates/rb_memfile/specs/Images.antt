-- What a crash may leave of a memory file, now and before each sync that succeeded.
use Rattle.std.specs.Prelude.{◌≡◌, ◌⊎◌, ◌↔◌, ℕ, ◌+◌, ◌<◌, ◌≤◌, List, length, take}
use Rattle.std.specs.Prelude.{drop, get_or}
use Rattle.rb_base.specs.Fields.{part, overwritten}
use Rattle.rb_memfile.specs.declared.place.Place.{Place}
use Rattle.rb_memfile.specs.declared.place.Place.TheVariants.{Settled}
use Rattle.rb_memfile.specs.declared.past.Snapshot.{Snapshot}
use Rattle.rb_memfile.specs.Places.{at_place, IsUnsettled, IsLost, IsMarked, after_sync, after_failure}

-- An image of a file that reads as `bytes`: as long as some length since the last one that was settled, and with the
-- byte that is read in each settled place.
pub record IsImage (bytes : List ℕ) (places : List Place) (shortest : ℕ) (c : List ℕ) : Type 0 where
  pub no_shorter : shortest ≤ length c
  pub no_longer : length c ≤ length bytes
  pub settled : (place : ℕ) → place < length c → at_place places place ≡ Settled
      → get_or c place 0 ≡ get_or bytes place 0

-- what was read before each sync that succeeded, one behind the other
pub record History : Type 0 where
  pub snapshots : List Snapshot
  pub bytes : List ℕ
  pub places : List Place

abbrev pub no_snapshot : Snapshot
no_snapshot = record { start = 0; len = 0; shortest = 0 }

-- the k-th of them
abbrev pub nth_snapshot : History → ℕ → Snapshot
nth_snapshot past k = get_or past.snapshots k no_snapshot

-- the images before the sync that was the k-th to succeed, from 0
abbrev pub LeftBefore : History → ℕ → List ℕ → Type 0
LeftBefore past k c = let s = nth_snapshot past k in
    IsImage (part past.bytes s.start s.len) (take s.len (drop s.start past.places)) s.shortest c

-- what bears on the images of a file
pub record Seen : Type 0 where
  pub bytes : List ℕ
  pub places : List Place
  pub shortest : ℕ
  pub past : History

-- the images that a crash now may leave
abbrev pub Leaves : Seen → List ℕ → Type 0
Leaves seen c = IsImage seen.bytes seen.places seen.shortest c

-- how many syncs have succeeded
abbrev pub syncs_in : Seen → ℕ
syncs_in seen = length seen.past.snapshots

-- The images that a crash may have left since so many syncs had succeeded. Between two of them a file only gets more
-- images, so those before each sync and those now are all.
abbrev pub LeftSince : Seen → ℕ → List ℕ → Type 0
LeftSince seen t c = ((k : ℕ) × (t ≤ k) × (k < syncs_in seen) × LeftBefore seen.past k c)
    ⊎ ((t ≤ syncs_in seen) × Leaves seen c)

-- a crash may leave any byte there
abbrev pub MayTear : Seen → ℕ → Type 0
MayTear seen place = IsUnsettled (at_place seen.places place)

-- no sync settles it before it is written again
abbrev pub HasLost : Seen → ℕ → Type 0
HasLost seen place = IsLost (at_place seen.places place)

-- These bytes were written at an offset, and no sync was made.
pub record IsStored (at : ℕ) (piece : List ℕ) (old new : Seen) : Type 0 where
  pub bytes : new.bytes ≡ overwritten old.bytes at piece
  pub marked : IsMarked at piece old.bytes old.places new.places
  pub shortest : new.shortest ≡ old.shortest
  pub past : new.past ≡ old.past

-- A first part of these bytes was, maybe none.
abbrev pub StoresPart : (at : ℕ) (bytes : List ℕ) (old new : Seen) → Type 0
StoresPart at bytes old new = (count : ℕ) × (count ≤ length bytes) × IsStored at (take count bytes) old new

-- A sync succeeded: what was dirty is settled, a crash leaves so many bytes at least, and the past has what was.
pub record IsSynced (shortest : ℕ) (old new : Seen) : Type 0 where
  pub bytes : new.bytes ≡ old.bytes
  pub places : (place : ℕ) → at_place new.places place ≡ after_sync (at_place old.places place)
  pub shortest_is : new.shortest ≡ shortest
  pub count : syncs_in new ≡ syncs_in old + 1
  pub earlier : (k : ℕ) (c : List ℕ) → k < syncs_in old → LeftBefore new.past k c ↔ LeftBefore old.past k c
  pub last : (c : List ℕ) → LeftBefore new.past (syncs_in old) c ↔ Leaves old c

-- A sync failed: what was dirty is lost.
pub record IsDropped (old new : Seen) : Type 0 where
  pub bytes : new.bytes ≡ old.bytes
  pub places : (place : ℕ) → at_place new.places place ≡ after_failure (at_place old.places place)
  pub shortest : new.shortest ≡ old.shortest
  pub past : new.past ≡ old.past
