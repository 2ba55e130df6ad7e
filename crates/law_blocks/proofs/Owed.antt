-- What is owed changes by what the one slot owes.
use Rattle.std.proofs.Common.{◌≡◌, ◌≢◌, ◌<◌, ◌≤◌, ◌+◌, ◌*◌, inl, inr, ℕ, zero, suc, ◌∷◌, refl, ap, arith}
use Rattle.std.specs.List.{sum_by, range_with_len}
use Rattle.std.proofs.lemmas.Bool.{cases_eq}
use Rattle.std.proofs.lemmas.List.Sums.{sum_by-cons}
use Rattle.rb_base.specs.declared.sizes.TheConstants.{SLOTS}
use Rattle.rb_base.specs.declared.shape.Shape.{Shape}
use Rattle.rb_segment.specs.Header.{Segment, slot_owed}
use Rattle.law_blocks.specs.Values.{slot_of, owed}

sum_same : (f g : ℕ → ℕ) (a n : ℕ) → ((k : ℕ) → a ≤ k → g k ≡ f k) → sum_by g (range_with_len a n) ≡ sum_by f (range_with_len a n)
sum_same f g a zero same = refl
sum_same f g a (suc n) same =
    let here : g a ≡ f a = same a (omega arith) in
    let rest : sum_by g (range_with_len (a + 1) n) ≡ sum_by f (range_with_len (a + 1) n) = sum_same f g (a + 1) n (λ k le. same k (omega arith)) in
    let x : sum_by g (a ∷ range_with_len (a + 1) n) ≡ g a + sum_by g (range_with_len (a + 1) n) = sum_by-cons g a (range_with_len (a + 1) n) in
    let y : sum_by f (a ∷ range_with_len (a + 1) n) ≡ f a + sum_by f (range_with_len (a + 1) n) = sum_by-cons f a (range_with_len (a + 1) n) in
    omega (arith, here, rest, x, y)

-- of a sum over numbers one term changes
pub sum_one : (f g : ℕ → ℕ) (a n t : ℕ) → a ≤ t → t < a + n → ((k : ℕ) → k ≢ t → g k ≡ f k) → sum_by g (range_with_len a n) + f t ≡ sum_by f (range_with_len a n) + g t
sum_one f g a zero t le lt same = absurd (omega arith)
sum_one f g a (suc n) t le lt same =
    let x : sum_by g (a ∷ range_with_len (a + 1) n) ≡ g a + sum_by g (range_with_len (a + 1) n) = sum_by-cons g a (range_with_len (a + 1) n) in
    let y : sum_by f (a ∷ range_with_len (a + 1) n) ≡ f a + sum_by f (range_with_len (a + 1) n) = sum_by-cons f a (range_with_len (a + 1) n) in
    elim (cases_eq a t) [
      | inl at ↦
          let rest : sum_by g (range_with_len (a + 1) n) ≡ sum_by f (range_with_len (a + 1) n) = sum_same f g (a + 1) n (λ k up. same k (λ is. omega (arith, is, at, up))) in
          let ft : f a ≡ f t = ap f at in
          let gt : g a ≡ g t = ap g at in
          omega (arith, rest, x, y, ft, gt)
      | inr ne ↦
          let here : g a ≡ f a = same a ne in
          let rest : sum_by g (range_with_len (a + 1) n) + f t ≡ sum_by f (range_with_len (a + 1) n) + g t = sum_one f g (a + 1) n t (omega arith) (omega arith) same in
          omega (arith, rest, x, y, here)
    ]

pub owed_one : (shape : Shape) (segments after : ℕ → Segment) (t : ℕ) → t < SLOTS * shape.segments → ((v : ℕ) → v ≢ t → slot_owed (slot_of after v) ≡ slot_owed (slot_of segments v)) → owed shape after + slot_owed (slot_of segments t) ≡ owed shape segments + slot_owed (slot_of after t)
owed_one shape segments after t t_in same = sum_one (λ v. slot_owed (slot_of segments v)) (λ v. slot_owed (slot_of after v)) 0 (SLOTS * shape.segments) t (omega arith) (omega (arith, t_in)) same
