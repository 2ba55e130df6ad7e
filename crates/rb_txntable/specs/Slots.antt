-- What the bytes of a segment's header say of its table slots, and what a table slot says of a transaction.
use Rattle.std.specs.Prelude.{◌≡◌, ◌≢◌, ◌==◌, ℕ, ◌+◌, ◌^◌, ◌<◌, ◌≤◌, List}
use Rattle.std.specs.Prelude.{◌∷◌, ◌++◌, length, replicate, slice_index}
use Rattle.std.specs.List.{count_by, range_with_len}
use Rattle.byteorder.specs.Endian.{big_bytes}
use Rattle.rb_base.specs.Addresses.{uba_at, uba_bytes, no_uba, IsUba, slot_place}
use Rattle.rb_base.specs.Blocks.{greatest}
use Rattle.rb_base.specs.Fields.{part, number_at, overwritten, AreApart}
use Rattle.rb_base.specs.Groups.{Patch, patch}
use Rattle.rb_base.specs.declared.ids.Uba.{Uba}
use Rattle.rb_base.specs.declared.sizes.TheConstants.{UNIT, SLOTS, SLOT_BYTES, ACTIVE, TOUCHED_AT, FIRST_AT}
use Rattle.rb_txntable.specs.declared.slots.TableSlot.{TableSlot}
use Rattle.rb_txntable.specs.declared.slots.TheConstants.{LIVE_AT, WRAP_AT, NEWEST_AT, BEFORE_AT, RECORD_AT, START_AT}
use Rattle.rb_txntable.specs.declared.slots.TheConstants.{ENDED}

-- the byte of a header at which the newest commit number of table slot i stands
abbrev pub newest_place : ℕ → ℕ
newest_place i = slot_place i + NEWEST_AT

-- what a header's bytes say of table slot i: the state, how often it had been taken, the greatest commit number given
-- in it, and the one before
unfoldable pub slot_state : List ℕ → ℕ → ℕ
slot_state header i = slice_index header (slot_place i)

unfoldable pub slot_wrap : List ℕ → ℕ → ℕ
slot_wrap header i = number_at header (slot_place i + WRAP_AT) 8

unfoldable pub slot_newest : List ℕ → ℕ → ℕ
slot_newest header i = number_at header (newest_place i) 8

unfoldable pub slot_before : List ℕ → ℕ → ℕ
slot_before header i = number_at header (slot_place i + BEFORE_AT) 8

-- and of the transaction that has it: the bits of the extents with its records, the number of its live records, the
-- address of the newest, the number of the first one's extent, and the records that there were as it began
unfoldable pub slot_touched : List ℕ → ℕ → ℕ
slot_touched header i = slice_index header (slot_place i + TOUCHED_AT)

unfoldable pub slot_live : List ℕ → ℕ → ℕ
slot_live header i = number_at header (slot_place i + LIVE_AT) 4

unfoldable pub slot_record : List ℕ → ℕ → Uba
slot_record header i = uba_at header (slot_place i + RECORD_AT)

unfoldable pub slot_first : List ℕ → ℕ → ℕ
slot_first header i = number_at header (slot_place i + FIRST_AT) 8

unfoldable pub slot_start : List ℕ → ℕ → ℕ
slot_start header i = number_at header (slot_place i + START_AT) 8

abbrev pub slot_at : List ℕ → ℕ → TableSlot
slot_at header i = record {
  state = slot_state header i;
  touched = slot_touched header i;
  live = slot_live header i;
  wrap = slot_wrap header i;
  newest = slot_newest header i;
  before = slot_before header i;
  newest_at = slot_record header i;
  first = slot_first header i;
  start = slot_start header i;
}

-- the 64 bytes of a table slot
abbrev pub slot_bytes : TableSlot → List ℕ
slot_bytes s = s.state ∷ s.touched ∷ replicate 2 0 ++ big_bytes 4 s.live ++ big_bytes 8 s.wrap
    ++ big_bytes 8 s.newest ++ big_bytes 8 s.before ++ uba_bytes s.newest_at ++ big_bytes 8 s.first
    ++ big_bytes 8 s.start

-- Each field is a number of its type.
pub record IsTableSlot (s : TableSlot) : Type 0 where
  pub state : s.state < 2 ^ 8
  pub touched : s.touched < 2 ^ 8
  pub live : s.live < 2 ^ 32
  pub wrap : s.wrap < 2 ^ 64
  pub newest : s.newest < 2 ^ 64
  pub before : s.before < 2 ^ 64
  pub newest_at : IsUba s.newest_at
  pub first : s.first < 2 ^ 64
  pub start : s.start < 2 ^ 64

-- the patch that puts a table slot into a header, and the header with it
abbrev pub slot_patch : ℕ → ℕ → TableSlot → Patch
slot_patch block i s = patch block (slot_place i) (slot_bytes s)

abbrev pub with_slot : List ℕ → ℕ → TableSlot → List ℕ
with_slot header i s = overwritten header (slot_place i) (slot_bytes s)

-- a table slot that was never taken
abbrev pub no_slot : TableSlot
no_slot = record {
  state = 0;
  touched = 0;
  live = 0;
  wrap = 0;
  newest = 0;
  before = 0;
  newest_at = no_uba;
  first = 0;
  start = 0;
}

-- table slot i has a state, and the commit number before its newest isn't above that
pub record IsSlot (header : List ℕ) (i : ℕ) : Type 0 where
  pub state : slot_state header i ≤ ENDED
  pub before : slot_before header i ≤ slot_newest header i

-- the greatest commit number that a header's table slots have
abbrev pub header_newest : List ℕ → ℕ
header_newest header = greatest (slot_newest header) SLOTS

-- Slot i is the one that a transaction takes: none has it, and of those that none has it has the least newest commit
-- number, and is the first of that number.
pub record IsChosen (slot : ℕ → TableSlot) (i : ℕ) : Type 0 where
  pub within : i < SLOTS
  pub idle : (slot i).state ≢ ACTIVE
  pub least : (j : ℕ) → j < SLOTS → (slot j).state ≢ ACTIVE → (slot i).newest ≤ (slot j).newest
  pub first : (j : ℕ) → j < i → (slot j).state ≢ ACTIVE → (slot j).newest ≢ (slot i).newest

-- how many table slots transactions have that run
abbrev pub active_count : List ℕ → ℕ
active_count header = count_by (λ i. slot_state header i == ACTIVE) (range_with_len 0 SLOTS)

-- a place with the bytes of a slot is read as the slot
abbrev pub SlotReadsBack : Type 0
SlotReadsBack = (header : List ℕ) (i : ℕ) (s : TableSlot) → IsTableSlot s
    → part header (slot_place i) SLOT_BYTES ≡ slot_bytes s → slot_at header i ≡ s

-- so is a slot that was written at its place
abbrev pub SlotReadsOwn : Type 0
SlotReadsOwn = (header : List ℕ) (i : ℕ) (s : TableSlot) → length header ≡ UNIT → i < SLOTS → IsTableSlot s
    → slot_at (with_slot header i s) i ≡ s

-- every other slot is read as before
abbrev pub SlotsKept : Type 0
SlotsKept = (header : List ℕ) (i j : ℕ) (s : TableSlot) → length header ≡ UNIT → i < SLOTS → j < SLOTS
    → j ≢ i → slot_at (with_slot header i s) j ≡ slot_at header j

-- every part of the header before the slot's 64 bytes or behind them is as it was
abbrev pub KeepsOutsideSlot : Type 0
KeepsOutsideSlot = (header : List ℕ) (i at count : ℕ) (s : TableSlot) → length header ≡ UNIT → i < SLOTS
    → AreApart at count (slot_place i) SLOT_BYTES → part (with_slot header i s) at count ≡ part header at count

-- and so is each number and each byte there
abbrev pub KeepsNumbersOutside : Type 0
KeepsNumbersOutside = (header : List ℕ) (i at count : ℕ) (s : TableSlot) → length header ≡ UNIT → i < SLOTS
    → AreApart at count (slot_place i) SLOT_BYTES
    → number_at (with_slot header i s) at count ≡ number_at header at count

abbrev pub KeepsBytesOutside : Type 0
KeepsBytesOutside = (header : List ℕ) (i at : ℕ) (s : TableSlot) → length header ≡ UNIT → i < SLOTS
    → AreApart at 1 (slot_place i) SLOT_BYTES → slice_index (with_slot header i s) at ≡ slice_index header at

abbrev pub SlotLengthKept : Type 0
SlotLengthKept = (header : List ℕ) (i : ℕ) (s : TableSlot) → length header ≡ UNIT → i < SLOTS
    → length (with_slot header i s) ≡ UNIT

abbrev pub IsNoSlotEmpty : Type 0
IsNoSlotEmpty = slot_bytes no_slot ≡ replicate SLOT_BYTES 0
