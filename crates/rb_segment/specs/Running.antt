-- What the slot of a running transaction has in its segment.
use Rattle.std.specs.Prelude.{◌≡◌, ◌≢◌, ◌<◌, ◌≤◌, ◌+◌, ℕ, true, Option, Some, None}
use Rattle.rb_base.specs.declared.sizes.TheConstants.{ACTIVE, SLOTS}
use Rattle.rb_model.specs.Book.{turn_of}
use Rattle.rb_segment.specs.Header.{Header, Segment, slot_in, record_in, extent_with, has_bit}
use Rattle.rb_txntable.specs.declared.slots.TableSlot.{TableSlot}
use Rattle.rb_undoblock.specs.declared.record.UndoRecord.{UndoRecord}

-- the extent of a turn is named by the slot's bits
abbrev pub Touches : ℕ → Option ℕ → Type 0
Touches bits None = ⊥
Touches bits (Some e) = has_bit bits e ≡ true

-- The records of slot i's present transaction, also those that were put back, stand behind its start, where the slot
-- names their extents; and its first turn is in the ring.
pub record KeepsRecords (s : Segment) (i : ℕ) : Type 0 where
  pub first : (slot_in s.header i).first ≡ turn_of ((slot_in s.header i).start + 1)
  pub pinned : (e : ℕ) × (extent_with s.header.extents (slot_in s.header i).first ≡ Some e)
  pub touched : (k : ℕ) (r : UndoRecord) → record_in s k ≡ Some r → r.slot ≡ i → r.wrap
      ≡ (slot_in s.header i).wrap
      → ((slot_in s.header i).start < k)
      × Touches (slot_in s.header i).touched (extent_with s.header.extents (turn_of k))

-- What a slot of an engine that runs has more: a record, the number that it had when it was taken, and a wrap, which
-- each taking raises. A file may have an Active slot without these, which its opening ends.
pub record RunningSlot (h : Header) (slot : TableSlot) : Type 0 where
  pub started : slot.start < h.writes
  pub few : slot.start + slot.live ≤ h.writes
  pub begun : slot.touched ≢ 0
  pub before : slot.before ≡ slot.newest
  pub wrap : 1 ≤ slot.wrap

-- The first turns of the transactions that run: one that has made a record has its first in the ring, behind its start;
-- one that has made none was taken just now.
pub record FirstTurns (h : Header) : Type 0 where
  pub begun : (i : ℕ) → i < SLOTS → (slot_in h i).state ≡ ACTIVE → (slot_in h i).touched ≢ 0
      → ((slot_in h i).first ≡ turn_of ((slot_in h i).start + 1))
      × ((e : ℕ) × (extent_with h.extents (slot_in h i).first ≡ Some e))
  pub new : (i : ℕ) → i < SLOTS → (slot_in h i).state ≡ ACTIVE → (slot_in h i).touched ≡ 0
      → (slot_in h i).start ≡ h.writes
