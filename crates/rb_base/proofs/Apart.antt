-- What stands apart from bytes that were written over others, read as before: a part of them, a number and a byte.
use Rattle.std.proofs.Common.{◌≡◌, ◌≢◌, ℕ, ◌+◌, ◌*◌, ◌≤◌, List, length, arith, ap, sym, ◌∙◌, inl, inr, slice_index}
use Rattle.std.proofs.Math.Nat.{mul-le-mul_left}
use Rattle.std.proofs.lemmas.Bool.{cases_lt}
use Rattle.rb_base.specs.Fields.{number_at, overwritten, AreApart}
use Rattle.rb_base.proofs.Fronts.{number_of_part, byte_of_part}
use Rattle.rb_base.proofs.Overwriting.{part_apart}

module _ (old : List ℕ) (at : ℕ) (bytes : List ℕ) (size : ℕ) (within : at + length bytes ≤ length old) (long : length bytes ≡ size) where
  pub number_apart : (from count : ℕ) → AreApart from count at size → number_at (overwritten old at bytes) from count ≡ number_at old from count
  number_apart from count apart = sym (number_of_part (overwritten old at bytes) from count) ∙ ap (λ (l : List ℕ). number_at l 0 count) (part_apart old at bytes from count size within long apart) ∙ number_of_part old from count

  pub byte_apart : (from : ℕ) → AreApart from 1 at size → slice_index (overwritten old at bytes) from ≡ slice_index old from
  byte_apart from apart = sym (byte_of_part (overwritten old at bytes) from 1 (omega arith)) ∙ ap (λ (l : List ℕ). slice_index l 0) (part_apart old at bytes from 1 size within long apart) ∙ byte_of_part old from 1 (omega arith)

-- A place in a row of places of one size has no byte of another one.
in_front : (first size low high : ℕ) → low + 1 ≤ high → first + size * low + size ≤ first + size * high
in_front first size low high lt = let m = mul-le-mul_left size lt in omega (arith, m)

pub places_apart : (first size i j : ℕ) → j ≢ i → AreApart (first + size * j) size (first + size * i) size
places_apart first size i j other =
    elim (cases_lt j i) [
      | inl lt ↦ inl (in_front first size j i (omega arith))
      | inr le ↦ inr (in_front first size i j (omega (arith, other)))
    ]
