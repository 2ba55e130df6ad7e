-- What is known of the byte on the device at a place, and how calls change it.
use Rattle.std.specs.Prelude.{◌≡◌, ◌⊎◌, ℕ, ◌+◌, ◌-◌, ◌<◌, ◌≤◌, ◌==◌, Bool, true}
use Rattle.std.specs.Prelude.{false, List, length, max, get_or}
use Rattle.rb_memfile.specs.declared.place.Place.{Place}
use Rattle.rb_memfile.specs.declared.place.Place.TheVariants.{Settled, Dirty, Lost}

-- a crash may leave any byte there
abbrev pub IsUnsettled : Place → Type 0
IsUnsettled Settled = ⊥
IsUnsettled Dirty = Unit {0}
IsUnsettled Lost = Unit {0}

-- no sync settles it before it is written again
abbrev pub IsLost : Place → Type 0
IsLost Settled = ⊥
IsLost Dirty = ⊥
IsLost Lost = Unit {0}

-- After a write, where `same` is whether the byte is what is read there: one that changes is dirty, and one that was
-- lost is found.
abbrev pub after_write : Bool → Place → Place
after_write true Settled = Settled
after_write true Dirty = Dirty
after_write true Lost = Dirty
after_write false place = Dirty

-- after a sync that succeeded: what is lost stays lost
abbrev pub after_sync : Place → Place
after_sync Settled = Settled
after_sync Dirty = Settled
after_sync Lost = Lost

-- after one that failed: what was written is lost
abbrev pub after_failure : Place → Place
after_failure Settled = Settled
after_failure Dirty = Lost
after_failure Lost = Lost

-- the byte on the device after a sync that succeeded, of what is read there and what the device had
abbrev pub written_back : Place → ℕ → ℕ → ℕ
written_back Settled read was = read
written_back Dirty read was = read
written_back Lost read was = was

-- what is known of a place; past the end there is nothing to lose
abbrev pub at_place : List Place → ℕ → Place
at_place places place = get_or places place Settled

-- The places after these bytes were written at an offset, where `bytes` was read.
pub record IsMarked (at : ℕ) (piece bytes : List ℕ) (places now : List Place) : Type 0 where
  pub long : length now ≡ max (length places) (at + length piece)
  pub outside : (place : ℕ) → (place < at) ⊎ (at + length piece ≤ place) → at_place now place
      ≡ at_place places place
  pub over : (place : ℕ) → at ≤ place → place < at + length piece → place < length bytes
      → at_place now place ≡ after_write (get_or bytes place 0 == get_or piece (place - at) 0)
      (at_place places place)
  -- a new place
  pub past : (place : ℕ) → place < at + length piece → length bytes ≤ place → at_place now place ≡ Dirty

-- What the device has after a sync that succeeded.
pub record IsWrittenBack (bytes : List ℕ) (places : List Place) (device now : List ℕ) : Type 0 where
  pub long : length now ≡ length bytes
  pub each : (place : ℕ) → place < length bytes
      → get_or now place 0 ≡ written_back (at_place places place) (get_or bytes place 0) (get_or device place 0)
