-- Which extent takes the next turn of a ring.
use Rattle.std.specs.Prelude.{◌≡◌, ◌≢◌, ℕ, ◌+◌, ◌<◌, ◌≤◌, List, slice_index}
use Rattle.rb_base.specs.Addresses.{slot_place}
use Rattle.rb_base.specs.Fields.{number_at}
use Rattle.rb_base.specs.declared.sizes.TheConstants.{SLOTS, ACTIVE, TOUCHED_AT, FIRST_AT}
use Rattle.rb_ring.specs.Ring.{extent_ord, head_records}
use Rattle.rb_ring.specs.declared.extents.TheConstants.{EXTENTS, EXTENT_RECORDS}
use Rattle.rb_ring.specs.declared.turns.Turn.{Turn}
use Rattle.rb_ring.specs.declared.turns.Turn.TheVariants.{Same, Reuse, Grow, Full}

-- By a header's bytes the transaction of table slot i runs, and has made its first record in that turn.
pub record PinsAt (header : List ℕ) (turn i : ℕ) : Type 0 where
  pub state : slice_index header (slot_place i) ≡ ACTIVE
  pub begun : slice_index header (slot_place i + TOUCHED_AT) ≢ 0
  pub first : number_at header (slot_place i + FIRST_AT) 8 ≡ turn

-- Extent e is in the ring, and none there has a lower turn.
pub record IsOldest (ord : ℕ → ℕ) (e : ℕ) : Type 0 where
  pub within : e < EXTENTS
  pub kept : 1 ≤ ord e
  pub least : (f : ℕ) → f < EXTENTS → 1 ≤ ord f → ord e ≤ ord f

-- a slot pins that turn
abbrev pub IsPinned : (ℕ → ℕ → Type 0) → ℕ → Type 0
IsPinned Pins turn = (i : ℕ) × (i < SLOTS) × Pins turn i

-- Extent e may take the next turn, the head being full: it has the oldest turn, which no slot pins; or it is the lowest
-- outside of the ring, and the oldest turn is pinned.
pub record MayTurn (records : ℕ) (ord : ℕ → ℕ) (Pins : ℕ → ℕ → Type 0) (e : ℕ) : Type 0 where
  pub full : EXTENT_RECORDS ≤ records
  pub within : e < EXTENTS
  pub oldest : ord e ≢ 0 → IsOldest ord e
  pub free : ord e ≢ 0 → (i : ℕ) → i < SLOTS → ¬ (Pins (ord e) i)
  pub joins : ord e ≡ 0 → (f : ℕ) → f < e → 1 ≤ ord f
  pub forced : ord e ≡ 0 → (f : ℕ) → IsOldest ord f → IsPinned Pins (ord f)

-- The head is full, every extent is in the ring, and the oldest turn is pinned.
pub record NoneMayTurn (records : ℕ) (ord : ℕ → ℕ) (Pins : ℕ → ℕ → Type 0) : Type 0 where
  pub full : EXTENT_RECORDS ≤ records
  pub kept : (e : ℕ) → e < EXTENTS → 1 ≤ ord e
  pub pinned : (f : ℕ) → IsOldest ord f → IsPinned Pins (ord f)

-- Extent e is the lowest outside of the ring.
pub record IsOutside (ord : ℕ → ℕ) (e : ℕ) : Type 0 where
  pub within : e < EXTENTS
  pub out : ord e ≡ 0
  pub lowest : (f : ℕ) → f < e → 1 ≤ ord f

-- where the next record goes, by a header's bytes
abbrev pub TurnIs : List ℕ → Turn → Type 0
TurnIs header Same = head_records header < EXTENT_RECORDS
TurnIs header (Reuse e) =
    MayTurn (head_records header) (extent_ord header) (PinsAt header) e × (extent_ord header e ≢ 0)
TurnIs header (Grow e) =
    MayTurn (head_records header) (extent_ord header) (PinsAt header) e × (extent_ord header e ≡ 0)
TurnIs header Full = NoneMayTurn (head_records header) (extent_ord header) (PinsAt header)
