-- The bytes that may have been written since a sync, as ranges in the order of their writes.
use Rattle.std.specs.Prelude.{◌≡◌, ℕ, ◌+◌, ◌-◌, ◌^◌, ◌<◌, ◌≤◌, min, max, nat_le, ◌==◌}
use Rattle.std.specs.Prelude.{List, [], ◌∷◌, length}
use Rattle.std.specs.Prelude.{Bool, cond, ◌&&◌, ◌||◌, ◌⊎◌}
use Rattle.rb_filedisk.specs.declared.unsynced.Range.{Range}
use Rattle.rb_filedisk.specs.declared.unsynced.Unsynced.{Unsynced}

-- the ranges that are remembered
abbrev pub ranges_of : Unsynced → List Range
ranges_of unsynced = unsynced.ranges.items

-- so many bytes from an offset on. Offsets end at 2^64 - 1.
abbrev pub written : ℕ → ℕ → Range
written at count = record { start = at; end = min (at + count) (2 ^ 64 - 1) }

-- A byte is in a range, or in one of some ranges.
abbrev pub Has : Range → ℕ → Type 0
Has range byte = (range.start ≤ byte) × (byte < range.end)

abbrev pub HasOne : List Range → ℕ → Type 0
HasOne [] byte = ⊥
HasOne (range ∷ ranges) byte = Has range byte ⊎ HasOne ranges byte

-- whether two ranges overlap or follow each other, so that no byte lies between them
abbrev pub touches : Range → Range → Bool
touches a b = nat_le a.start b.end && nat_le b.start a.end

-- the shortest range that has the bytes of both
abbrev pub joined : Range → Range → Range
joined a b = record { start = min a.start b.start; end = max a.end b.end }

-- a list of ranges with one more, which is joined to the last one where it touches it, or where the list is full
unfoldable pub with_range : Bool → Range → List Range → List Range
with_range full new [] = new ∷ []
with_range full new (last ∷ []) = cond (full || touches last new) (joined last new ∷ []) (last ∷ new ∷ [])
with_range full new (first ∷ second ∷ rest) = first ∷ with_range full new (second ∷ rest)

-- No byte was written.
abbrev pub IsNothing : Unsynced → Type 0
IsNothing unsynced = ranges_of unsynced ≡ []

-- Every byte may have been: one range has them all.
abbrev pub IsWhole : Unsynced → Type 0
IsWhole unsynced = ranges_of unsynced ≡ record { start = 0; end = 2 ^ 64 - 1 } ∷ []

-- Of so many bytes from an offset on, written after those of before: up to 128 ranges are remembered.
abbrev pub IsWith : (at count : ℕ) (before now : Unsynced) → Type 0
IsWith at count before now =
    ranges_of now ≡ with_range (length (ranges_of before) == 128) (written at count) (ranges_of before)

-- every byte of them is remembered with those of before
abbrev pub RemembersAll : (at count : ℕ) (before now : Unsynced) → Type 0
RemembersAll at count before now =
    (byte : ℕ) → HasOne (written at count ∷ ranges_of before) byte → HasOne (ranges_of now) byte

-- where there is room for one more range, no other byte is
abbrev pub RemembersNoOther : (at count : ℕ) (before now : Unsynced) → Type 0
RemembersNoOther at count before now = length (ranges_of before) < 128
    → (byte : ℕ) → HasOne (ranges_of now) byte → HasOne (written at count ∷ ranges_of before) byte
