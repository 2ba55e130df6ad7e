-- Lists of numbers of which one goes to the front.
use Rattle.std.proofs.Common.{◌≡◌, ◌≢◌, inl, inr, ℕ, ◌+◌, ◌-◌, ◌≤◌, ◌==◌, Bool, true, false, if◌then◌else◌, List, [], ◌∷◌, ◌++◌, length, take, get_or, arith, ap, sym, ◌∙◌, subst, refl}
use Rattle.std.proofs.lemmas.Bool.{cases_eq, eqb-true, eqb-false, eq-eqb, ne_eqb}
use Rattle.std.proofs.lemmas.List.{take_all, take_more}
use Rattle.std.specs.List.{AllByRecursion}
use Rattle.rb_cache.specs.Frames.{has_number, without}
use Rattle.rb_cache.specs.Slots.{AreOnce}

-- a test that is false, or true, in one of two ways
pub behind_of : (b c : Bool) → (if b then true else c) ≡ false → c ≡ false
behind_of true c is = cc
behind_of false c is = is

pub front_of : (b c : Bool) → (if b then true else c) ≡ false → b ≡ false
front_of true c is = cc
front_of false c is = refl

-- what all numbers have one of them has
pub all_has : (P : ℕ → Type 0) (ns : List ℕ) (k : ℕ) → AllByRecursion P ns → has_number k ns ≡ true → P k
all_has P [] k all has = cc
all_has P (n ∷ ns) k all has = by (n == k) refl has (λ more. all_has P ns k all.1 more)
  where
    by : (b : Bool) → (n == k) ≡ b → (if b then true else has_number k ns) ≡ true → (has_number k ns ≡ true → P k) → P k
    by true is more rest = subst P (eqb-true n k is) all.0
    by false is more rest = rest more

pub all_without : (P : ℕ → Type 0) (p : ℕ) (ns : List ℕ) → AllByRecursion P ns → AllByRecursion P (without p ns)
all_without P p [] all = tt
all_without P p (n ∷ ns) all = by (n == p) (all_without P p ns all.1)
  where
    by : (b : Bool) → AllByRecursion P (without p ns) → AllByRecursion P (if b then ns else n ∷ without p ns)
    by true rest = all.1
    by false rest = (all.0, rest)

-- another number is among them as before
pub has_other : (p k : ℕ) (ns : List ℕ) → p ≢ k → has_number k (without p ns) ≡ has_number k ns
has_other p k [] differ = refl
has_other p k (n ∷ ns) differ = by (n == p) refl (has_other p k ns differ)
  where
    by : (b : Bool) → (n == p) ≡ b → has_number k (without p ns) ≡ has_number k ns
        → has_number k (if b then ns else n ∷ without p ns) ≡ has_number k (n ∷ ns)
    by true is rest = let test : (n == k) ≡ false = ne_eqb n k (λ e. differ (sym (eqb-true n p is) ∙ e)) in rw test refl
    by false is rest = ap (λ (b : Bool). if n == k then true else b) rest

pub has_moved : (p k : ℕ) (ns : List ℕ) → has_number k ns ≡ true → has_number k (p ∷ without p ns) ≡ true
has_moved p k ns has = elim (cases_eq p k) [
  | inl is ↦ let test : (p == k) ≡ true = eq-eqb p k is in rw test refl
  | inr differ ↦ let test : (p == k) ≡ false = ne_eqb p k differ in rw test (has_other p k ns differ ∙ has)
]

pub gone : (p : ℕ) (ns : List ℕ) → AreOnce ns → has_number p (without p ns) ≡ false
gone p [] once = refl
gone p (n ∷ ns) once = by (n == p) refl (gone p ns once.1)
  where
    by : (b : Bool) → (n == p) ≡ b → has_number p (without p ns) ≡ false → has_number p (if b then ns else n ∷ without p ns) ≡ false
    by true is rest = subst (λ (k : ℕ). has_number k ns ≡ false) (eqb-true n p is) once.0
    by false is rest = rw is rest

none_without : (p k : ℕ) (ns : List ℕ) → has_number k ns ≡ false → has_number k (without p ns) ≡ false
none_without p k [] none = refl
none_without p k (n ∷ ns) none = by (n == p) (none_without p k ns (behind_of (n == k) (has_number k ns) none))
  where
    by : (b : Bool) → has_number k (without p ns) ≡ false → has_number k (if b then ns else n ∷ without p ns) ≡ false
    by true rest = behind_of (n == k) (has_number k ns) none
    by false rest = let test : (n == k) ≡ false = front_of (n == k) (has_number k ns) none in rw test rest

pub once_without : (p : ℕ) (ns : List ℕ) → AreOnce ns → AreOnce (without p ns)
once_without p [] once = tt
once_without p (n ∷ ns) once = by (n == p) (once_without p ns once.1)
  where
    by : (b : Bool) → AreOnce (without p ns) → AreOnce (if b then ns else n ∷ without p ns)
    by true rest = once.1
    by false rest = (none_without p n ns once.0, rest)

pub length-without : (p : ℕ) (ns : List ℕ) → has_number p ns ≡ true → length (without p ns) + 1 ≡ length ns
length-without p [] has = cc
length-without p (n ∷ ns) has = by (n == p) has (λ more. length-without p ns more)
  where
    by : (b : Bool) → (if b then true else has_number p ns) ≡ true → (has_number p ns ≡ true → length (without p ns) + 1 ≡ length ns)
        → length (if b then ns else n ∷ without p ns) + 1 ≡ length (n ∷ ns)
    by true more rest = omega arith
    by false more rest = let e = rest more in omega (arith, e)

-- the first number, and the last
pub first_split : (ns : List ℕ) (d : ℕ) → 1 ≤ length ns → (rest : List ℕ) × (ns ≡ get_or ns 0 d ∷ rest)
first_split [] d some = absurd (omega (arith, some))
first_split (n ∷ ns) d some = (ns, refl)

pub last_split : (ns : List ℕ) (d : ℕ) → 1 ≤ length ns → ns ≡ take (length ns - 1) ns ++ get_or ns (length ns - 1) d ∷ []
last_split ns d some =
    sym (take_all (length ns) ns (omega arith)) ∙ ap (λ (k : ℕ). take k ns) (omega (arith, some)) ∙ take_more ns (length ns - 1) d (omega (arith, some))

pub without_first : (p : ℕ) (ns : List ℕ) → without p (p ∷ ns) ≡ ns
without_first p ns = let test : (p == p) ≡ true = eq-eqb p p refl in rw test refl

-- the last one, which comes once, is behind the others
pub front_lacks : (v : ℕ) (front : List ℕ) → AreOnce (front ++ v ∷ []) → has_number v front ≡ false
front_lacks v [] once = refl
front_lacks v (n ∷ front) once = rw (apart n front once.0) (front_lacks v front once.1)
  where
    apart : (n : ℕ) (front : List ℕ) → has_number n (front ++ v ∷ []) ≡ false → (n == v) ≡ false
    apart n [] none = ne_eqb n v (λ e. eqb-false v n (front_of (v == n) false none) (sym e))
    apart n (m ∷ front) none = apart n front (behind_of (m == n) (has_number n (front ++ v ∷ [])) none)

pub without_last : (v : ℕ) (front : List ℕ) → has_number v front ≡ false → without v (front ++ v ∷ []) ≡ front
without_last v [] none = let test : (v == v) ≡ true = eq-eqb v v refl in rw test refl
without_last v (n ∷ front) none =
    let test : (n == v) ≡ false = front_of (n == v) (has_number v front) none in
    rw test (ap (λ (l : List ℕ). n ∷ l) (without_last v front (behind_of (n == v) (has_number v front) none)))

pub has_last : (v : ℕ) (front : List ℕ) → has_number v (front ++ v ∷ []) ≡ true
has_last v [] = let test : (v == v) ≡ true = eq-eqb v v refl in rw test refl
has_last v (n ∷ front) = by (n == v) (has_last v front)
  where
    by : (b : Bool) → has_number v (front ++ v ∷ []) ≡ true → (if b then true else has_number v (front ++ v ∷ [])) ≡ true
    by true rest = refl
    by false rest = rest

pub all_front : (P : ℕ → Type 0) (v : ℕ) (front : List ℕ) → AllByRecursion P (front ++ v ∷ []) → AllByRecursion P front
all_front P v [] all = tt
all_front P v (n ∷ front) all = (all.0, all_front P v front all.1)
