-- What systems do with the bytes of a file. A place is the number of bytes before a byte.
use Rattle.std.specs.Prelude.{◌≡◌, ◌⊎◌, ℕ, ◌+◌, ◌<◌, ◌≤◌, List, length, take, get_or}
use Rattle.rb_base.specs.Fields.{overwritten}
use Rattle.rb_base.specs.Moments.{NoMore}

-- a place is one of so many from an offset on
abbrev pub IsOf : (at count place : ℕ) → Type 0
IsOf at count place = (at ≤ place) × (place < at + count)

-- some places, with so many from an offset on
abbrev pub with_range_of : (at count : ℕ) → (ℕ → Type 0) → ℕ → Type 0
with_range_of at count places place = places place ⊎ IsOf at count place

-- These bytes were written at an offset, and none of them is lost.
pub record Wrote (at : ℕ) (bytes content now : List ℕ) (lost lost_now : ℕ → Type 0) : Type 0 where
  pub read : now ≡ overwritten content at bytes
  pub no_more : NoMore lost lost_now
  pub found : (place : ℕ) → IsOf at (length bytes) place → lost_now place → ⊥

-- A first part of them was, maybe none.
abbrev pub Began : (at : ℕ) (bytes content now : List ℕ) (lost lost_now : ℕ → Type 0) → Type 0
Began at bytes content now lost lost_now = (count : ℕ) × (count ≤ length bytes)
    × Wrote at (take count bytes) content now lost lost_now

-- each image has the bytes that are read, but in the places that were lost and past the end of either
abbrev pub IsSettled : (ℕ → Type 0) → List ℕ → (List ℕ → Type 0) → Type 0
IsSettled lost content image = (c : List ℕ) → image c → (place : ℕ) → place < length content
    → place < length c → lost place ⊎ (get_or c place 0 ≡ get_or content place 0)

-- each image is this long
abbrev pub HasLength : ℕ → (List ℕ → Type 0) → Type 0
HasLength count image = (c : List ℕ) → image c → length c ≡ count
