-- How many sessions a queue can have, where each stands there once.
use Rattle.std.proofs.Common.{◌≡◌, ⊎_elim, ℕ, ◌<◌, ◌≤◌, ◌==◌, nat_eq, true, false, List, [], ◌∷◌, length, map, sym, arith}
use Rattle.std.proofs.lemmas.Bool.{eqb-false, eqb-true, false≢true, ne_eqb, or_cases, or_parts}
use Rattle.std.proofs.lemmas.List.{length-map}
use Rattle.std.proofs.lemmas.Map.Steps.{length-le_from_distinct_below}
use Rattle.std.specs.List.{AllByRecursion, IsDistinct, list_any}
use Rattle.rb_model.specs.Queue.{Waiter, is_queued}
use Rattle.rb_model.specs.State.{session_count}
use Rattle.rb_waits.specs.Room.{AreQueuedOnce}

abbrev sessions : List Waiter → List ℕ
sessions queue = map (λ w. w.session) queue

-- one that isn't in the queue is none of its sessions
apart : (s : ℕ) (queue : List Waiter) → is_queued s queue ≡ false → AllByRecursion (λ y. nat_eq s y ≡ false) (sessions queue)
apart s [] none = tt
apart s (w ∷ queue) none =
    let parts = or_parts (w.session == s) (is_queued s queue) none in
    (ne_eqb s w.session (λ same. eqb-false w.session s parts.0 (sym same)), apart s queue parts.1)

none_is_zero : (queue : List Waiter) → AreQueuedOnce queue → AllByRecursion (λ y. nat_eq 0 y ≡ false) (sessions queue)
none_is_zero [] once = tt
none_is_zero (w ∷ queue) once = (ne_eqb 0 w.session (λ same. omega (arith, same, once.0)), none_is_zero queue once.3)

distinct : (queue : List Waiter) → AreQueuedOnce queue → IsDistinct nat_eq (sessions queue)
unfolding IsDistinct
distinct [] once = tt
distinct (w ∷ queue) once = (apart w.session queue once.2, distinct queue once.3)

below : (queue : List Waiter) → AreQueuedOnce queue → (q : ℕ) → list_any (nat_eq q) (sessions queue) ≡ true → q ≤ session_count
below [] once q has = absurd (false≢true has)
below (w ∷ queue) once q has = ⊎_elim
    (λ (same : nat_eq q w.session ≡ true). let is = eqb-true q w.session same in omega (arith, is, once.1))
    (λ (later : list_any (nat_eq q) (sessions queue) ≡ true). below queue once.3 q later)
    (or_cases (nat_eq q w.session) (list_any (nat_eq q) (sessions queue)) has)

with_zero : (queue : List Waiter) → AreQueuedOnce queue → IsDistinct nat_eq (0 ∷ sessions queue)
unfolding IsDistinct
with_zero queue once = (none_is_zero queue once, distinct queue once)

with_another : (s : ℕ) (queue : List Waiter) → AreQueuedOnce queue → 1 ≤ s → is_queued s queue ≡ false → IsDistinct nat_eq (0 ∷ s ∷ sessions queue)
unfolding IsDistinct
with_another s queue once low none =
    ((ne_eqb 0 s (λ same. omega (arith, same, low)), none_is_zero queue once), (apart s queue none, distinct queue once))

-- No number is above sixteen, and none of the queue is 0.
pub few : (queue : List Waiter) → AreQueuedOnce queue → length queue ≤ session_count
few queue once =
    let count = length-le_from_distinct_below (0 ∷ sessions queue) 17 (with_zero queue once) (λ q has. ⊎_elim
    (λ (zero : nat_eq q 0 ≡ true). let is = eqb-true q 0 zero in omega (arith, is))
    (λ (one : list_any (nat_eq q) (sessions queue) ≡ true). let within = below queue once q one in omega (arith, within))
    (or_cases (nat_eq q 0) (list_any (nat_eq q) (sessions queue)) has)) in
    let long = length-map queue (λ (w : Waiter). w.session) in
    omega (arith, count, long)

pub room : (queue : List Waiter) → AreQueuedOnce queue → (s : ℕ) → 1 ≤ s → s ≤ session_count → is_queued s queue ≡ false → length queue < session_count
room queue once s low high none =
    let count = length-le_from_distinct_below (0 ∷ s ∷ sessions queue) 17 (with_another s queue once low none) (λ q has. ⊎_elim
    (λ (zero : nat_eq q 0 ≡ true). let is = eqb-true q 0 zero in omega (arith, is))
    (λ (more : list_any (nat_eq q) (s ∷ sessions queue) ≡ true). ⊎_elim
    (λ (same : nat_eq q s ≡ true). let is = eqb-true q s same in omega (arith, is, high))
    (λ (one : list_any (nat_eq q) (sessions queue) ≡ true). let within = below queue once q one in omega (arith, within))
    (or_cases (nat_eq q s) (list_any (nat_eq q) (sessions queue)) more))
    (or_cases (nat_eq q 0) (list_any (nat_eq q) (s ∷ sessions queue)) has)) in
    let long = length-map queue (λ (w : Waiter). w.session) in
    omega (arith, count, long)
