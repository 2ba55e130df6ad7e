-- Lists of homes with their keys: one key taken out, and the first of them.
use Rattle.std.proofs.Common.{◌≡◌, ◌+◌, ℕ, zero, suc, Bool, true, false, cond, List, [], ◌∷◌, length, take, Some, None, refl, ap, arith}
use Rattle.std.specs.List.{AllByRecursion, IsDistinct}
use Rattle.std.specs.Map.{keys_of, lookup, lookup_entry, remove_entry}
use Rattle.std.proofs.lemmas.Map.{NonePasses}

module _ {K X : Type 0} where
  abbrev Apart : (K → K → Bool) → K → List (K × X) → Type 0
  Apart eq k es = AllByRecursion (λ q. eq k q ≡ false) (keys_of es)

  pub apart_from_passes : (eq : K → K → Bool) (k : K) (es : List (K × X)) → NonePasses (eq k) es → Apart eq k es
  apart_from_passes eq k [] none = tt
  apart_from_passes eq k (e ∷ es) none = (none.0, apart_from_passes eq k es none.1)

  pub apart_take : (eq : K → K → Bool) (k : K) (n : ℕ) (es : List (K × X)) → Apart eq k es → Apart eq k (take n es)
  apart_take eq k zero es apart = tt
  apart_take eq k (suc n) [] apart = tt
  apart_take eq k (suc n) (e ∷ es) apart = (apart.0, apart_take eq k n es apart.1)

  pub distinct_take : (eq : K → K → Bool) (n : ℕ) (es : List (K × X)) → IsDistinct eq (keys_of es)
      → IsDistinct eq (keys_of (take n es))
  unfolding IsDistinct
  distinct_take eq zero es once = tt
  distinct_take eq (suc n) [] once = tt
  distinct_take eq (suc n) (e ∷ es) once = (apart_take eq e.0 n es once.0, distinct_take eq n es once.1)

  pub apart_removed : (eq : K → K → Bool) (test : K → Bool) (k : K) (es : List (K × X)) → Apart eq k es
      → Apart eq k (remove_entry test es)
  apart_removed eq test k [] apart = tt
  apart_removed eq test k (e ∷ es) apart = elim (test e.0) as (λ y. Apart eq k (cond y es (e ∷ remove_entry test es))) [
    | true ↦ apart.1
    | false ↦ (apart.0, apart_removed eq test k es apart.1)
  ]

  pub distinct_removed : (eq : K → K → Bool) (test : K → Bool) (es : List (K × X)) → IsDistinct eq (keys_of es)
      → IsDistinct eq (keys_of (remove_entry test es))
  unfolding IsDistinct
  distinct_removed eq test [] once = tt
  distinct_removed eq test (e ∷ es) once =
      elim (test e.0) as (λ y. IsDistinct eq (keys_of (cond y es (e ∷ remove_entry test es)))) [
        | true ↦ once.1
        | false ↦ (apart_removed eq test e.0 es once.0, distinct_removed eq test es once.1)
      ]

  pub length_removed : (test : K → Bool) (es : List (K × X)) (e : K × X) → lookup_entry test es ≡ Some e
      → length (remove_entry test es) + 1 ≡ length es
  length_removed test [] e found = cc
  length_removed test (f ∷ es) e found = (elim (test f.0) as (λ y. test f.0 ≡ y → length (remove_entry test (f ∷ es)) + 1 ≡ length (f ∷ es)) [
    | true ↦ λ is. rw is (omega arith)
    | false ↦ λ is. rw is (let on = length_removed test es e (rw is at found) in omega arith)
  ]) refl

  pub none_removed : (test : K → Bool) (es : List (K × X)) → lookup_entry test es ≡ None → remove_entry test es ≡ es
  none_removed test [] none = refl
  none_removed test (f ∷ es) none = (elim (test f.0) as (λ y. test f.0 ≡ y → remove_entry test (f ∷ es) ≡ f ∷ es) [
    | true ↦ λ is. let no = rw is at none in cc
    | false ↦ λ is. rw is (ap (λ l. f ∷ l) (none_removed test es (rw is at none)))
  ]) refl

  -- what the first of a list have under a key, the list has
  pub lookup_take : (test : K → Bool) (n : ℕ) (es : List (K × X)) (v : X) → lookup test (take n es) ≡ Some v → lookup test es ≡ Some v
  lookup_take test zero es v found = cc
  lookup_take test (suc n) [] v found = found
  lookup_take test (suc n) (f ∷ es) v found = (elim (test f.0) as (λ y. test f.0 ≡ y → lookup test (f ∷ es) ≡ Some v) [
    | true ↦ λ is. rw is (rw is at found)
    | false ↦ λ is. rw is (lookup_take test n es v (rw is at found))
  ]) refl

  -- to take out what passes one test leaves what passes another one
  pub lookup_others : (test other : K → Bool) → ((k : K) → test k ≡ true → other k ≡ false) → (es : List (K × X))
      → lookup other (remove_entry test es) ≡ lookup other es
  lookup_others test other apart [] = refl
  lookup_others test other apart (e ∷ es) = (elim (test e.0) as (λ y. test e.0 ≡ y → lookup other (remove_entry test (e ∷ es)) ≡ lookup other (e ∷ es)) [
    | true ↦ λ is. rw (is, apart e.0 is)
    | false ↦ λ is. rw is (ap (λ l. cond (other e.0) (Some e.1) l) (lookup_others test other apart es))
  ]) refl
