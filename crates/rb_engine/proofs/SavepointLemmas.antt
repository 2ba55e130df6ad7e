-- Savepoints by their names.
use Rattle.std.proofs.Common.{◌≡◌, ◌<◌, ◌≤◌, ℕ, not, List, [], ◌∷◌, length, Option, Some, None, refl, ap, arith}
use Rattle.std.proofs.lemmas.Bool.{cond_both}
use Rattle.std.specs.Str.{bytes_eq}
use Rattle.rb_model.specs.Calls.{without_savepoint}
use Rattle.rb_model.specs.State.{Savepoint, savepoint_named}
use Rattle.rb_sessions.specs.Kept.{kept_by}

-- what is told of a savepoint tells whether there is one

pub kept_none : (o : Option Savepoint) → kept_by o ≡ None → o ≡ None
kept_none None is = refl
kept_none (Some p) is = let clash : Some p.kept ≡ None = is in absurd cc

pub kept_some : (o : Option Savepoint) (n : ℕ) → kept_by o ≡ Some n → (p : Savepoint) × (o ≡ Some p) × (p.kept ≡ n)
kept_some None n is = let clash : None ≡ Some n = is in absurd cc
kept_some (Some p) n is = (p, refl, (let same : Some p.kept ≡ Some n = is in cc))

-- how many savepoints have other names

pub others_all : (name : List ℕ) (l : List Savepoint) → savepoint_named name l ≡ None → without_savepoint name l ≡ l
others_all name [] none = refl
others_all name (p ∷ l) none =
    cond_both (bytes_eq p.name name) (Some p) (savepoint_named name l) (λ (o : Option Savepoint). o ≡ None → without_savepoint name (p ∷ l) ≡ p ∷ l)
    (λ yes is. (let clash : Some p ≡ None = is in absurd cc))
    (λ no is. rw no (ap (λ (z : List Savepoint). p ∷ z) (others_all name l is))) none

pub others_few : (name : List ℕ) (l : List Savepoint) → length (without_savepoint name l) ≤ length l
others_few name [] = omega arith
others_few name (p ∷ l) =
    let rest = others_few name l in
    cond_both (not (bytes_eq p.name name)) (p ∷ without_savepoint name l) (without_savepoint name l) (λ (z : List Savepoint). length z ≤ length (p ∷ l)) (λ yes. omega (arith, rest)) (λ no. omega (arith, rest))

pub others_fewer : (name : List ℕ) (l : List Savepoint) (p : Savepoint) → savepoint_named name l ≡ Some p → length (without_savepoint name l) < length l
others_fewer name [] p is = let clash : None ≡ Some p = is in absurd cc
others_fewer name (x ∷ l) p is =
    cond_both (bytes_eq x.name name) (Some x) (savepoint_named name l) (λ (o : Option Savepoint). o ≡ Some p → length (without_savepoint name (x ∷ l)) < length (x ∷ l))
    (λ yes _. (let few = others_few name l in rw yes (omega (arith, few))))
    (λ no found. (let few = others_fewer name l p found in rw no (omega (arith, few)))) is
