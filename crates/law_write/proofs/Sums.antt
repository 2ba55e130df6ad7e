-- Sums over lists.
use Rattle.std.proofs.Common.{◌≡◌, ◌≢◌, inl, inr, ◌<◌, ◌≤◌, ◌+◌, ℕ, zero, suc, List, [], ◌∷◌, refl, sym, ◌∙◌, ap, arith}
use Rattle.std.proofs.lemmas.Bool.{cases_eq}
use Rattle.std.proofs.lemmas.List.Sums.{sum_by-cons}
use Rattle.std.specs.List.{sum_by, range_with_len}

pub sum_same : (f g : ℕ → ℕ) (a n : ℕ) → ((i : ℕ) → a ≤ i → i < a + n → f i ≡ g i) → sum_by f (range_with_len a n) ≡ sum_by g (range_with_len a n)
sum_same f g a zero same = refl
sum_same f g a (suc n) same =
    let rest = sum_same f g (a + 1) n (λ i low high. same i (omega (arith, low)) (omega (arith, high))) in
    let here = same a (omega arith) (omega arith) in
    let x = sum_by-cons f a (range_with_len (a + 1) n) in
    let y = sum_by-cons g a (range_with_len (a + 1) n) in
    omega (arith, rest, here, x, y)

pub sum_zero : {X : Type 0} (xs : List X) → sum_by (λ x. 0) xs ≡ 0
sum_zero [] = refl
sum_zero (x ∷ xs) = let r = sum_zero xs in let c = sum_by-cons (λ x. 0) x xs in omega (arith, r, c)

pub sum_plus : {X : Type 0} (f g : X → ℕ) (xs : List X) → sum_by (λ x. f x + g x) xs ≡ sum_by f xs + sum_by g xs
sum_plus f g [] = refl
sum_plus f g (x ∷ xs) =
    let r = sum_plus f g xs in
    let a = sum_by-cons (λ x. f x + g x) x xs in
    let b = sum_by-cons f x xs in
    let c = sum_by-cons g x xs in
    omega (arith, r, a, b, c)

pub sum_swap : {X Y : Type 0} (f : X → Y → ℕ) (xs : List X) (ys : List Y) → sum_by (λ x. sum_by (f x) ys) xs ≡ sum_by (λ y. sum_by (λ x. f x y) xs) ys
sum_swap {X} {Y} f [] ys = sym (sum_zero ys)
sum_swap {X} {Y} f (x ∷ xs) ys =
    sum_by-cons (λ x. sum_by (f x) ys) x xs
    ∙ (ap (λ n. sum_by (f x) ys + n) (sum_swap f xs ys)
    ∙ (sym (sum_plus (f x) (λ y. sum_by (λ x. f x y) xs) ys) ∙ more ys))
  where
    more : (ys : List Y) → sum_by (λ y. f x y + sum_by (λ x. f x y) xs) ys ≡ sum_by (λ y. sum_by (λ x. f x y) (x ∷ xs)) ys
    more [] = refl
    more (y ∷ ys) =
        let r = more ys in
        let a = sum_by-cons (λ y. f x y + sum_by (λ x. f x y) xs) y ys in
        let b = sum_by-cons (λ y. sum_by (λ x. f x y) (x ∷ xs)) y ys in
        let c = sum_by-cons (λ x. f x y) x xs in
        omega (arith, r, a, b, c)

pub sum_none : (f : ℕ → ℕ) (a n : ℕ) → ((i : ℕ) → a ≤ i → i < a + n → f i ≡ 0) → sum_by f (range_with_len a n) ≡ 0
sum_none f a n none = sum_same f (λ i. 0) a n none ∙ sum_zero (range_with_len a n)

-- one of them alone counts
pub sum_one : (f : ℕ → ℕ) (a n i : ℕ) → a ≤ i → i < a + n → ((j : ℕ) → j ≢ i → f j ≡ 0) → sum_by f (range_with_len a n) ≡ f i
sum_one f a zero i low high alone = absurd (omega (arith, low, high))
sum_one f a (suc n) i low high alone = elim (cases_eq a i) [
  | inl here ↦
      let rest = sum_none f (a + 1) n (λ j from to. alone j (λ same. omega (arith, from, same, here))) in
      let c = sum_by-cons f a (range_with_len (a + 1) n) in
      let e : f a ≡ f i = ap f here in
      omega (arith, rest, c, e)
  | inr later ↦
      let rest = sum_one f (a + 1) n i (omega (arith, low, later)) (omega (arith, high)) alone in
      let c = sum_by-cons f a (range_with_len (a + 1) n) in
      let e = alone a later in
      omega (arith, rest, c, e)
]
