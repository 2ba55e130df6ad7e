-- Numbers in the bytes of a unit, the highest byte first.
use Rattle.std.specs.Prelude.{ℕ, ◌⊎◌, ◌+◌, ◌≤◌, List, ◌++◌, length, take, drop}
use Rattle.byteorder.specs.Endian.{big_number, big_bytes}

-- the bytes from `at` to before `at + count`
abbrev pub part : List ℕ → ℕ → ℕ → List ℕ
part bytes at count = take count (drop at bytes)

-- the number in `count` bytes from `at`
abbrev pub number_at : List ℕ → ℕ → ℕ → ℕ
number_at bytes at count = big_number count (drop at bytes)

-- the bytes with others written over those from `at`
abbrev pub overwritten : List ℕ → ℕ → List ℕ → List ℕ
overwritten old at bytes = take at old ++ bytes ++ drop (at + length bytes) old

-- the bytes with a number of `count` bytes written at `at`
abbrev pub with_number : List ℕ → ℕ → ℕ → ℕ → List ℕ
with_number old at count value = take at old ++ big_bytes count value ++ drop (at + count) old

-- a range and another one have no byte in common
abbrev pub AreApart : ℕ → ℕ → ℕ → ℕ → Type 0
AreApart at count other other_count = (at + count ≤ other) ⊎ (other + other_count ≤ at)
