-- The first place at which a test passes, as a search of a name tells it, and what passes a test, as a view sees it.
use Rattle.std.proofs.Common.{◌≡◌, ◌∙◌, ℕ, zero, suc, ◌<◌, ◌≤◌, Bool, true, false, cond, List, [], ◌∷◌, length, map, filter, get_or, Option, Some, None, refl, sym, ap, arith}
use Rattle.std.proofs.lemmas.List.Quantifiers.{position-Some}
use Rattle.std.proofs.lemmas.List.Sums.{fails_before_first}
use Rattle.std.proofs.lemmas.Grind.{common_steps}
use Rattle.std.specs.List.{position, position_or_len}
use Rattle.std.specs.Str.{bytes_eq}
use Rattle.rb_sessions.specs.declared.named.Named.{Named}

-- the first place at which a test passes
abbrev pub IsPlace : {X : Type 0} → (X → Bool) → List X → ℕ → Type 0
IsPlace p [] i = ⊥
IsPlace p (x ∷ xs) zero = p x ≡ true
IsPlace p (x ∷ xs) (suc i) = (p x ≡ false) × IsPlace p xs i

-- none passes a test
abbrev pub IsNowhere : {X : Type 0} → (X → Bool) → List X → Type 0
IsNowhere p [] = Unit {0}
IsNowhere p (x ∷ xs) = (p x ≡ false) × IsNowhere p xs

module _ {X : Type 0} (p : X → Bool) where
  place_from : (xs : List X) (i : ℕ) (d : X) → i < length xs → p (get_or xs i d) ≡ true → ((k : ℕ) → k < i → p (get_or xs k d) ≡ false) → IsPlace p xs i
  place_from [] i d within here before = absurd (omega arith)
  place_from (x ∷ xs) zero d within here before = here
  place_from (x ∷ xs) (suc i) d within here before = (before 0 (omega arith), place_from xs i d (omega arith) here (λ k h. before (suc k) (omega arith)))

  pub place_of : (xs : List X) (i : ℕ) → position p xs ≡ Some i → IsPlace p xs i
  place_of [] i is = cc
  place_of (x ∷ xs) i is = let at = position-Some p (x ∷ xs) i x is in place_from (x ∷ xs) i x at.0 at.1 at.2

  nowhere_from : (xs : List X) (d : X) → ((k : ℕ) → k < length xs → p (get_or xs k d) ≡ false) → IsNowhere p xs
  nowhere_from [] d none = tt
  nowhere_from (x ∷ xs) d none = (none 0 (omega arith), nowhere_from xs d (λ k h. none (suc k) (omega arith)))

  pub nowhere_of : (xs : List X) → position p xs ≡ None → IsNowhere p xs
  nowhere_of [] is = tt
  nowhere_of (x ∷ xs) is =
      let all : length (x ∷ xs) ≤ position_or_len p (x ∷ xs) = grind (arith, common_steps) in
      nowhere_from (x ∷ xs) x (λ k h. fails_before_first p (x ∷ xs) k x (omega arith))

-- the value has that name
abbrev pub has_name : {T : Type 0} → List ℕ → Named T → Bool
has_name name n = bytes_eq n.name.items name

-- what a search of the bytes of a name tells
pub search_is : {T : Type 0} (r : Option ℕ) (read values : List (Named T)) (bytes name : List ℕ) (at : Option ℕ) → r ≡ position (has_name bytes) read → read ≡ values → bytes ≡ name → r ≡ at → position (has_name name) values ≡ at
search_is r read values bytes name at says is text found = ap (λ n. position (has_name n) values) (sym text) ∙ ap (position (has_name bytes)) (sym is) ∙ sym says ∙ found

-- what passes a test of the view, as the view sees it
pub filter_viewed : {X Y : Type 0} (view : X → Y) (p : Y → Bool) (xs : List X) → map view (filter (λ x. p (view x)) xs) ≡ filter p (map view xs)
filter_viewed view p [] = refl
filter_viewed {X} {Y} view p (x ∷ xs) =
    map-cond (p (view x)) _ _ ∙ ap (λ ys. cond (p (view x)) (view x ∷ ys) ys) (filter_viewed view p xs)
  where
    map-cond : (is : Bool) (ys zs : List X) → map view (cond is ys zs) ≡ cond is (map view ys) (map view zs)
    map-cond true ys zs = refl
    map-cond false ys zs = refl
