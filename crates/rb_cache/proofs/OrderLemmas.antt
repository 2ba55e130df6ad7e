-- The keys of the map that keeps the order of use.
use Rattle.std.proofs.Common.{◌≡◌, ℕ, zero, suc, ◌-◌, ◌<◌, ◌≤◌, ◌==◌, true, false, List, [], ◌∷◌, length, Some, None, arith, ap, sym, ◌∙◌, refl, inl, inr}
use Rattle.std.proofs.lemmas.Bool.{cases_eq, eq-eqb, ne_eqb}
use Rattle.std.proofs.lemmas.List.{take_all}
use Rattle.std.specs.List.{AllByRecursion}
use Rattle.std.specs.Map.{keys_of, lookup_entry, remove_entry}
use Rattle.lru.specs.LruCache.{LruCache, promoted, put_entries}
use Rattle.rb_cache.specs.Frames.{has_number, without}
use Rattle.rb_cache.specs.Slots.{AreOnce, numbers_below}

module _ {V : Type 0} where
  pub length-keys : (es : List (ℕ × V)) → length (keys_of es) ≡ length es
  length-keys [] = refl
  length-keys (e ∷ es) = let rest = length-keys es in omega (arith, rest)

  pub keys-remove : (p : ℕ) (es : List (ℕ × V)) → keys_of (remove_entry (λ k. p == k) es) ≡ without p (keys_of es)
  keys-remove p [] = refl
  keys-remove p (e ∷ es) = elim (cases_eq e.0 p) [
    | inl is ↦
        let one : (p == e.0) ≡ true = eq-eqb p e.0 (sym is) in
        let two : (e.0 == p) ≡ true = eq-eqb e.0 p is in
        rw one (rw two refl)
    | inr differ ↦
        let one : (p == e.0) ≡ false = ne_eqb p e.0 (λ is. differ (sym is)) in
        let two : (e.0 == p) ≡ false = ne_eqb e.0 p differ in
        rw one (rw two (ap (λ (ks : List ℕ). e.0 ∷ ks) (keys-remove p es)))
  ]

  pub keys-promoted : (p : ℕ) (es : List (ℕ × V)) → has_number p (keys_of es) ≡ true → keys_of (promoted (λ k. p == k) es) ≡ p ∷ without p (keys_of es)
  keys-promoted p es has = let found = entry p es has in rw found.1 (ap (λ (k : ℕ). k ∷ keys_of (remove_entry (λ k. p == k) es)) found.2 ∙ ap (λ (ks : List ℕ). p ∷ ks) (keys-remove p es))
    where
      entry : (p : ℕ) (es : List (ℕ × V)) → has_number p (keys_of es) ≡ true → (e : ℕ × V) × (lookup_entry (λ k. p == k) es ≡ Some e) × (e.0 ≡ p)
      entry p [] has = cc
      entry p (e ∷ es) has = elim (cases_eq e.0 p) [
        | inl is ↦ let one : (p == e.0) ≡ true = eq-eqb p e.0 (sym is) in (e, rw one refl, is)
        | inr differ ↦
            let one : (p == e.0) ≡ false = ne_eqb p e.0 (λ is. differ (sym is)) in
            let two : (e.0 == p) ≡ false = ne_eqb e.0 p differ in
            let more : has_number p (keys_of es) ≡ true = rw two at has in
            let rest = entry p es more in
            (rest.0, rw one rest.1, rest.2)
      ]

  -- a key that is new
  pub keys-put : (c : LruCache ℕ V) (k : ℕ) (v : V) → has_number k (keys_of c.entries) ≡ false → length c.entries < c.cap → keys_of (put_entries (λ a b. a == b) c k v) ≡ k ∷ keys_of c.entries
  keys-put c k v none room = rw (missing k c.entries none) (ap (λ (es : List (ℕ × V)). k ∷ keys_of es) (take_all (c.cap - 1) c.entries (omega (arith, room))))
    where
      missing : (k : ℕ) (es : List (ℕ × V)) → has_number k (keys_of es) ≡ false → lookup_entry (λ j. k == j) es ≡ None
      missing k [] none = refl
      missing k (e ∷ es) none = elim (cases_eq e.0 k) [
        | inl is ↦ let two : (e.0 == k) ≡ true = eq-eqb e.0 k is in let wrong : true ≡ false = rw two at none in cc
        | inr differ ↦
            let one : (k == e.0) ≡ false = ne_eqb k e.0 (λ is. differ (sym is)) in
            let two : (e.0 == k) ≡ false = ne_eqb e.0 k differ in
            let more : has_number k (keys_of es) ≡ false = rw two at none in
            rw one (missing k es more)
      ]

-- the numbers below one
pub below_lacks : (n k : ℕ) → n ≤ k → has_number k (numbers_below n) ≡ false
below_lacks zero k le = refl
below_lacks (suc n) k le = let test : (n == k) ≡ false = ne_eqb n k (λ is. absurd (omega (arith, is, le))) in rw test (below_lacks n k (omega (arith, le)))

pub below_has : (n k : ℕ) → k < n → has_number k (numbers_below n) ≡ true
below_has zero k lt = absurd (omega (arith, lt))
below_has (suc n) k lt = elim (cases_eq n k) [
  | inl is ↦ let test : (n == k) ≡ true = eq-eqb n k is in rw test refl
  | inr differ ↦ let test : (n == k) ≡ false = ne_eqb n k differ in rw test (below_has n k (omega (arith, lt, differ)))
]

pub below_once : (n : ℕ) → AreOnce (numbers_below n)
below_once zero = tt
below_once (suc n) = (below_lacks n n (omega arith), below_once n)

pub below_all : (n m : ℕ) → n ≤ m → AllByRecursion (λ k. k < m) (numbers_below n)
below_all zero m le = tt
below_all (suc n) m le = (omega (arith, le), below_all n m (omega (arith, le)))

pub length-below : (n : ℕ) → length (numbers_below n) ≡ n
length-below zero = refl
length-below (suc n) = let rest = length-below n in omega (arith, rest)
