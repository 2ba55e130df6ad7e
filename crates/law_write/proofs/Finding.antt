-- Finding a number in a range, and counting by an injection.
use Rattle.std.proofs.Common.{◌≡◌, ◌≢◌, inl, inr, ⊎_elim, ◌<◌, ◌≤◌, ◌+◌, ◌==◌, nat_eq, ◌||◌, ℕ, zero, suc, Bool, true, false, List, [], ◌∷◌, length, filter, find, Some, refl, sym, ◌∙◌, ap, subst, arith}
use Rattle.std.proofs.lemmas.Bool.{cases_eq, cases_Bool, cond-true, cond-false, cond_both, eq-eqb, eqb-true, false≢true, or_cases}
use Rattle.std.proofs.lemmas.Bool.Decides.{nat_tests}
use Rattle.std.proofs.lemmas.Map.Keys.{IsDistinct-cons}
use Rattle.std.specs.List.{range_with_len, AllByRecursion, IsDistinct}
use Rattle.rb_model.specs.Full.{has_key}
use Rattle.rb_model.proofs.UsedKeys.{distinct_none, distinct_within}

-- the only number of a range that passes is found
pub find_only : (p : ℕ → Bool) (a n s : ℕ) → a ≤ s → s < a + n → p s ≡ true → ((u : ℕ) → a ≤ u → p u ≡ true → u ≡ s) → find p (range_with_len a n) ≡ Some s
find_only p a zero s low high is only = absurd (omega (arith, low, high))
find_only p a (suc n) s low high is only = elim (cases_Bool (p a)) [
  | inl here ↦ cond-true (p a) (Some a) (find p (range_with_len (a + 1) n)) here ∙ ap Some (only a (omega arith) here)
  | inr not_here ↦
      let later : a ≢ s = λ same. false≢true (sym not_here ∙ (ap p same ∙ is)) in
      cond-false (p a) (Some a) (find p (range_with_len (a + 1) n)) not_here ∙ find_only p (a + 1) n s (omega (arith, low, later)) (omega (arith, high)) is (λ u up passes. only u (omega (arith, up)) passes)
]

pub find_passes : (p : ℕ → Bool) (xs : List ℕ) (s : ℕ) → find p xs ≡ Some s → p s ≡ true
find_passes p [] s is = absurd cc
find_passes p (x ∷ xs) s is = elim (cases_Bool (p x)) [
  | inl here ↦ let same : Some x ≡ Some s = sym (cond-true (p x) (Some x) (find p xs) here) ∙ is in let e : x ≡ s = cc in ap p (sym e) ∙ here
  | inr not_here ↦ find_passes p xs s (sym (cond-false (p x) (Some x) (find p xs) not_here) ∙ is)
]

pub find_within : (p : ℕ → Bool) (a n s : ℕ) → find p (range_with_len a n) ≡ Some s → (a ≤ s) × (s < a + n)
find_within p a zero s is = absurd cc
find_within p a (suc n) s is = elim (cases_Bool (p a)) [
  | inl here ↦ let same : Some a ≡ Some s = sym (cond-true (p a) (Some a) (find p (range_with_len (a + 1) n)) here) ∙ is in let e : a ≡ s = cc in (omega (arith, e), omega (arith, e))
  | inr not_here ↦ let r = find_within p (a + 1) n s (sym (cond-false (p a) (Some a) (find p (range_with_len (a + 1) n)) not_here) ∙ is) in (omega (arith, r.0), omega (arith, r.1))
]

-- which numbers a range has

pub or_right : (a b : Bool) → b ≡ true → (a || b) ≡ true
or_right true b e = refl
or_right false b e = e

pub has_range : (a n s : ℕ) → a ≤ s → s < a + n → has_key s (range_with_len a n) ≡ true
has_range a zero s low high = absurd (omega (arith, low, high))
has_range a (suc n) s low high = elim (cases_eq a s) [
  | inl here ↦ ap (λ b. b || has_key s (range_with_len (a + 1) n)) (subst (λ z. (a == z) ≡ true) here (eq-eqb a a refl))
  | inr later ↦ or_right (a == s) (has_key s (range_with_len (a + 1) n)) (has_range (a + 1) n s (omega (arith, low, later)) (omega (arith, high)))
]

pub range_has : (a n s : ℕ) → has_key s (range_with_len a n) ≡ true → (a ≤ s) × (s < a + n)
range_has a zero s has = absurd (false≢true has)
range_has a (suc n) s has = ⊎_elim
    (λ here. let e : a ≡ s = eqb-true a s here in (omega (arith, e), omega (arith, e)))
    (λ later. let r = range_has (a + 1) n s later in (omega (arith, r.0), omega (arith, r.1)))
    (or_cases (a == s) (has_key s (range_with_len (a + 1) n)) has)

pub has_filter : (p : ℕ → Bool) (xs : List ℕ) (s : ℕ) → has_key s xs ≡ true → p s ≡ true → has_key s (filter p xs) ≡ true
has_filter p [] s has is = has
has_filter p (x ∷ xs) s has is = ⊎_elim
    (λ here. let e : x ≡ s = eqb-true x s here in
    ap (has_key s) (cond-true (p x) (x ∷ filter p xs) (filter p xs) (ap p e ∙ is)) ∙ ap (λ b. b || has_key s (filter p xs)) here)
    (λ later. let rest : has_key s (filter p xs) ≡ true = has_filter p xs s later is in
    cond_both (p x) (x ∷ filter p xs) (filter p xs) (λ (l : List ℕ). has_key s l ≡ true) (λ kept. or_right (x == s) (has_key s (filter p xs)) rest) (λ gone. rest))
    (or_cases (x == s) (has_key s xs) has)

pub filter_has : (p : ℕ → Bool) (xs : List ℕ) (s : ℕ) → has_key s (filter p xs) ≡ true → (has_key s xs ≡ true) × (p s ≡ true)
filter_has p [] s has = absurd (false≢true has)
filter_has p (x ∷ xs) s has = elim (cases_Bool (p x)) [
  | inl kept ↦
      let has2 : ((x == s) || has_key s (filter p xs)) ≡ true = sym (ap (has_key s) (cond-true (p x) (x ∷ filter p xs) (filter p xs) kept)) ∙ has in
      ⊎_elim
      (λ here. (ap (λ b. b || has_key s xs) here, ap p (sym (eqb-true x s here)) ∙ kept))
      (λ later. let deep = filter_has p xs s later in (or_right (x == s) (has_key s xs) deep.0, deep.1))
      (or_cases (x == s) (has_key s (filter p xs)) has2)
  | inr gone ↦ let deep = filter_has p xs s (sym (ap (has_key s) (cond-false (p x) (x ∷ filter p xs) (filter p xs) gone)) ∙ has) in (or_right (x == s) (has_key s xs) deep.0, deep.1)
]

-- a list without doubles

apart_from : (x : ℕ) (xs : List ℕ) → ((s : ℕ) → has_key s xs ≡ true → s ≢ x) → AllByRecursion (λ y. nat_eq x y ≡ false) xs
apart_from x [] other = tt
apart_from x (y ∷ ys) other = (
  let ne : y ≢ x = other y (ap (λ b. b || has_key y ys) (eq-eqb y y refl)) in grind (arith, nat_tests),
  apart_from x ys (λ s has. other s (or_right (y == s) (has_key s ys) has)),
)

pub distinct_cons : (x : ℕ) (xs : List ℕ) → ((s : ℕ) → has_key s xs ≡ true → s ≢ x) → IsDistinct nat_eq xs → IsDistinct nat_eq (x ∷ xs)
distinct_cons x xs other distinct = IsDistinct-cons nat_eq x xs (apart_from x xs other) distinct

pub distinct_range : (a n : ℕ) → IsDistinct nat_eq (range_with_len a n)
distinct_range a zero = distinct_none
distinct_range a (suc n) = distinct_cons a (range_with_len (a + 1) n) (λ s has same. let r = range_has (a + 1) n s has in omega (arith, r.0, same)) (distinct_range (a + 1) n)

distinct_head : (x : ℕ) (xs : List ℕ) → IsDistinct nat_eq (x ∷ xs) → (s : ℕ) → has_key s xs ≡ true → s ≢ x
unfolding IsDistinct
distinct_head x xs distinct s has same = go xs distinct.0 has
  where
    go : (ys : List ℕ) → AllByRecursion (λ y. nat_eq x y ≡ false) ys → has_key s ys ≡ true → ⊥
    go [] all has = false≢true has
    go (y ∷ ys) all has = ⊎_elim
        (λ here. let e : y ≡ s = eqb-true y s here in let ne : nat_eq x y ≡ false = all.0 in let is : x ≡ y = sym (e ∙ same) in false≢true (sym ne ∙ (subst (λ z. nat_eq x z ≡ true) is (same_nat x))))
        (λ later. go ys all.1 later)
        (or_cases (y == s) (has_key s ys) has)
      where
        same_nat : (z : ℕ) → nat_eq z z ≡ true
        same_nat z = grind (arith, nat_tests)

distinct_tail : (x : ℕ) (xs : List ℕ) → IsDistinct nat_eq (x ∷ xs) → IsDistinct nat_eq xs
unfolding IsDistinct
distinct_tail x xs distinct = distinct.1

pub distinct_filter : (p : ℕ → Bool) (xs : List ℕ) → IsDistinct nat_eq xs → IsDistinct nat_eq (filter p xs)
distinct_filter p [] distinct = distinct
distinct_filter p (x ∷ xs) distinct =
    let rest : IsDistinct nat_eq (filter p xs) = distinct_filter p xs (distinct_tail x xs distinct) in
    cond_both (p x) (x ∷ filter p xs) (filter p xs) (IsDistinct nat_eq)
    (λ kept. distinct_cons x (filter p xs) (λ s has. distinct_head x xs distinct s (filter_has p xs s has).0) rest)
    (λ gone. rest)

-- The numbers of one list go to numbers of another, no two to one: so there are no more of them.

pub record Sent (R : ℕ → ℕ → Type 0) (xs ys : List ℕ) : Type 0 where
  pub images : List ℕ
  pub many : length images ≡ length xs
  pub distinct : IsDistinct nat_eq images
  pub inside : (q : ℕ) → has_key q images ≡ true → has_key q ys ≡ true
  pub from : (q : ℕ) → has_key q images ≡ true → (x : ℕ) × (has_key x xs ≡ true) × R x q

module _ (R : ℕ → ℕ → Type 0) (apart : (x y q : ℕ) → R x q → R y q → x ≡ y) (ys : List ℕ) where
  pub sent : (xs : List ℕ) → IsDistinct nat_eq xs → ((x : ℕ) → has_key x xs ≡ true → (q : ℕ) × (has_key q ys ≡ true) × R x q) → Sent R xs ys
  sent [] distinct goes = record { images = []; many = refl; distinct = distinct_none; inside = λ q has. absurd (false≢true has); from = λ q has. absurd (false≢true has) }
  sent (x ∷ xs) distinct goes =
      let rest : Sent R xs ys = sent xs (distinct_tail x xs distinct) (λ z has. goes z (or_right (x == z) (has_key z xs) has)) in
      let this : (q : ℕ) × (has_key q ys ≡ true) × R x q = goes x (ap (λ b. b || has_key x xs) (eq-eqb x x refl)) in
      record {
        images = this.0 ∷ rest.images;
        many = let m = rest.many in omega (arith, m);
        distinct = distinct_cons this.0 rest.images (λ s has same. let f : (z : ℕ) × (has_key z xs ≡ true) × R z s = rest.from s has in distinct_head x xs distinct f.0 f.1 (apart f.0 x this.0 (subst (λ z. R f.0 z) same f.2) this.2)) rest.distinct;
        inside = λ q has. ⊎_elim (λ here. subst (λ z. has_key z ys ≡ true) (eqb-true this.0 q here) this.1) (λ later. rest.inside q later) (or_cases (this.0 == q) (has_key q rest.images) has);
        from = λ q has. ⊎_elim
            (λ here. (x, ap (λ b. b || has_key x xs) (eq-eqb x x refl), subst (λ z. R x z) (eqb-true this.0 q here) this.2))
            (λ later. let f : (z : ℕ) × (has_key z xs ≡ true) × R z q = rest.from q later in (f.0, or_right (x == f.0) (has_key f.0 xs) f.1, f.2))
            (or_cases (this.0 == q) (has_key q rest.images) has);
      }

  pub no_more : (xs : List ℕ) → IsDistinct nat_eq xs → ((x : ℕ) → has_key x xs ≡ true → (q : ℕ) × (has_key q ys ≡ true) × R x q) → length xs ≤ length ys
  no_more xs distinct goes =
      let s : Sent R xs ys = sent xs distinct goes in
      let le = distinct_within s.images ys s.distinct s.inside in
      let m = s.many in
      omega (arith, le, m)
