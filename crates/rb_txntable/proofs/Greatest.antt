-- The greatest of some numbers, one more at a time.
use Rattle.std.proofs.Common.{◌≡◌, ℕ, zero, suc, ◌+◌, ◌<◌, ◌≤◌, max, refl, add-one, arith, inl, inr}
use Rattle.std.proofs.lemmas.Bool.{cases_lt}
use Rattle.rb_base.specs.Blocks.{greatest}

pub greatest-zero : (f : ℕ → ℕ) → greatest f 0 ≡ 0
unfolding greatest
greatest-zero f = refl

pub greatest-one_more : (f : ℕ → ℕ) (n : ℕ) → greatest f (n + 1) ≡ max (greatest f n) (f n)
unfolding greatest
greatest-one_more f n = rw add-one

-- a step of a loop that keeps the greatest so far
pub greatest_next : (f : ℕ → ℕ) (n so_far next now : ℕ) → so_far ≡ greatest f n → next ≡ f n → now ≡ max so_far next → now ≡ greatest f (n + 1)
greatest_next f n so_far next now is next_is now_is = let one_more = greatest-one_more f n in cc

pub greatest-above : (f : ℕ → ℕ) (n k : ℕ) → k < n → f k ≤ greatest f n
unfolding greatest
greatest-above f zero k lt = absurd (omega arith)
greatest-above f (suc n) k lt =
    elim (cases_lt k n) [
      | inl below ↦ let so_far = greatest-above f n k below in omega arith
      | inr le ↦ let same : k ≡ n = omega arith in rw same (omega arith)
    ]

pub greatest-least : (f : ℕ → ℕ) (n bound : ℕ) → ((k : ℕ) → k < n → f k ≤ bound) → greatest f n ≤ bound
unfolding greatest
greatest-least f zero bound within = omega arith
greatest-least f (suc n) bound within = let before = greatest-least f n bound (λ k lt. within k (omega arith)) in let last = within n (omega arith) in omega arith

pub greatest-same : (f g : ℕ → ℕ) (n : ℕ) → ((k : ℕ) → k < n → f k ≡ g k) → greatest f n ≡ greatest g n
unfolding greatest
greatest-same f g zero same = refl
greatest-same f g (suc n) same = let before = greatest-same f g n (λ k lt. same k (omega arith)) in let last = same n (omega arith) in cc
