-- The spare bytes of a header are 0, and stay so.
use Rattle.std.proofs.Common.{◌≡◌, ℕ, ◌+◌, ◌*◌, ◌<◌, ◌≤◌, List, length, slice_index, sym, ◌∙◌, ap, arith}
use Rattle.rb_base.specs.Fields.{part}
use Rattle.rb_base.proofs.Fronts.{byte_of_part}
use Rattle.rb_base.specs.declared.sizes.TheConstants.{UNIT}
use Rattle.rb_twin.specs.Batches.{IsSpareZero, batch_in}
use Rattle.rb_twin.specs.TwinLaws.{same_part, batch_same}

-- a header of zeros
pub all_zero : (area : List ℕ) → ((k : ℕ) → k < UNIT → slice_index area k ≡ 0) → IsSpareZero area
all_zero area each = record { front = λ k low lt. each k (omega (arith, lt)); behind = λ k low lt. each k lt }

-- a byte, by the part that it is
pub byte_same : (a b : List ℕ) (k : ℕ) → part b k 1 ≡ part a k 1 → slice_index b k ≡ slice_index a k
byte_same a b k same = sym (byte_of_part b k 1 (omega arith)) ∙ ap (λ (h : List ℕ). slice_index h 0) same ∙ byte_of_part a k 1 (omega arith)

-- areas with the same header and images behind the gate
pub spare_same : (a b : List ℕ) (n : ℕ) → part a 1 n ≡ part b 1 n → length (batch_in a) ≤ 8 → UNIT * (length (batch_in a) + 1) ≤ 1 + n → IsSpareZero a → IsSpareZero b
spare_same a b n same few fits spare =
    let batch = ap length (batch_same a b n same few fits) in
    let byte : (k : ℕ) → 1 ≤ k → k < UNIT → slice_index b k ≡ slice_index a k = λ k low lt. byte_same a b k (sym (same_part a b n k 1 same low (omega (arith, lt, fits)))) in record {
      front = λ k low lt. byte k (omega (arith, low)) (omega (arith, lt)) ∙ spare.front k low lt;
      behind = λ k low lt. byte k (omega (arith, low)) lt ∙ spare.behind k (omega (arith, low, batch)) lt;
    }
