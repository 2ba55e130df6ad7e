-- Who stands in a queue, and how many are ready, after one of its calls.
use Rattle.std.proofs.Common.{◌≡◌, ◌≢◌, ⊎_elim, inl, inr, ℕ, ◌+◌, ◌<◌, ◌≤◌, ◌==◌, ◌||◌, Bool, true, false, cond, not, List, [], ◌∷◌, length, Some, None, refl, sym, ◌∙◌, ap, subst, arith}
use Rattle.std.proofs.lemmas.Bool.{cases_Bool, cases_eq, cond-false, cond-true, eq-eqb, eqb-false, eqb-true, ne_eqb, or_from, or_parts, or_right}
use Rattle.std.proofs.lemmas.List.Folds.{list_any-append}
use Rattle.std.proofs.lemmas.List.Sums.{count_by-le-length, sum_by-cons}
use Rattle.std.specs.Option.{is_none}
use Rattle.rb_model.specs.Queue.{Waiter, first_ready, freed_by, is_queued, is_some_that, left_by, ready_count, waiting}
use Rattle.rb_model.specs.State.{session_count}
use Rattle.rb_waits.specs.Room.{AreQueuedOnce}

or_nothing : (a : Bool) → a || false ≡ a
or_nothing true = refl
or_nothing false = refl

pub wait_adds : (s on u : ℕ) (queue : List Waiter) → is_queued u (waiting s on queue) ≡ (is_queued u queue || (s == u))
wait_adds s on u queue =
    list_any-append (λ (w : Waiter). w.session == u) queue (record { session = s; on = Some on } ∷ [])
    ∙ ap (λ (b : Bool). is_queued u queue || b) (or_nothing (s == u))

pub wait_keeps : (s u : ℕ) (queue : List Waiter) → AreQueuedOnce queue → 1 ≤ s → s ≤ session_count → is_queued s queue ≡ false → AreQueuedOnce (waiting s u queue)
wait_keeps s u [] once low high none = (low, high, refl, tt)
wait_keeps s u (w ∷ queue) once low high none =
    let parts = or_parts (w.session == s) (is_queued s queue) none in
    let other : (s == w.session) ≡ false = ne_eqb s w.session (λ same. eqb-false w.session s parts.0 (sym same)) in
    (once.0, once.1, wait_adds s u w.session queue ∙ or_from _ _ once.2 other, wait_keeps s u queue once.3 low high parts.1)

pub left_is_out : (s : ℕ) (queue : List Waiter) → is_queued s (left_by s queue) ≡ false
left_is_out s [] = refl
left_is_out s (w ∷ queue) = ⊎_elim
    (λ (yes : (w.session == s) ≡ true). rw yes (left_is_out s queue))
    (λ (no : (w.session == s) ≡ false). rw (no, no) (left_is_out s queue))
    (cases_Bool (w.session == s))

pub others_stay : (s u : ℕ) (queue : List Waiter) → u ≢ s → is_queued u (left_by s queue) ≡ is_queued u queue
others_stay s u [] ne = refl
others_stay s u (w ∷ queue) ne = ⊎_elim
    (λ (yes : (w.session == s) ≡ true).
    let other : (w.session == u) ≡ false = ne_eqb w.session u (λ same. ne (sym same ∙ eqb-true w.session s yes)) in
    rw (yes, other) (others_stay s u queue ne))
    (λ (no : (w.session == s) ≡ false). rw no (ap (λ (b : Bool). (w.session == u) || b) (others_stay s u queue ne)))
    (cases_Bool (w.session == s))

-- who isn't there isn't there once another one has left
none_comes : (s u : ℕ) (queue : List Waiter) → is_queued u queue ≡ false → is_queued u (left_by s queue) ≡ false
none_comes s u queue none = elim (cases_eq u s) [
  | inl same ↦ subst (λ (v : ℕ). is_queued v (left_by s queue) ≡ false) (sym same) (left_is_out s queue)
  | inr other ↦ others_stay s u queue other ∙ none
]

pub leave_keeps : (s : ℕ) (queue : List Waiter) → AreQueuedOnce queue → AreQueuedOnce (left_by s queue)
leave_keeps s [] once = tt
leave_keeps s (w ∷ queue) once = ⊎_elim
    (λ (yes : (w.session == s) ≡ true). rw yes (leave_keeps s queue once.3))
    (λ (no : (w.session == s) ≡ false). rw no (once.0, once.1, none_comes s w.session queue once.2, leave_keeps s queue once.3))
    (cases_Bool (w.session == s))

pub freed_stay : (u s : ℕ) (queue : List Waiter) → is_queued s (freed_by u queue) ≡ is_queued s queue
freed_stay u s [] = refl
freed_stay u s (w ∷ queue) = ⊎_elim
    (λ (yes : is_some_that (λ v. v == u) w.on ≡ true). rw yes (ap (λ (b : Bool). (w.session == s) || b) (freed_stay u s queue)))
    (λ (no : is_some_that (λ v. v == u) w.on ≡ false). rw no (ap (λ (b : Bool). (w.session == s) || b) (freed_stay u s queue)))
    (cases_Bool (is_some_that (λ v. v == u) w.on))

pub free_keeps : (u : ℕ) (queue : List Waiter) → AreQueuedOnce queue → AreQueuedOnce (freed_by u queue)
free_keeps u [] once = tt
free_keeps u (w ∷ queue) once = ⊎_elim
    (λ (yes : is_some_that (λ v. v == u) w.on ≡ true). rw yes (once.0, once.1, freed_stay u w.session queue ∙ once.2, free_keeps u queue once.3))
    (λ (no : is_some_that (λ v. v == u) w.on ≡ false). rw no (once.0, once.1, freed_stay u w.session queue ∙ once.2, free_keeps u queue once.3))
    (cases_Bool (is_some_that (λ v. v == u) w.on))

-- the first one, where it is ready, and where it isn't

first_is : (s : ℕ) (w : Waiter) (queue : List Waiter) → is_none w.on ≡ true → first_ready (w ∷ queue) ≡ Some s → w.session ≡ s
first_is s w queue ready is =
    let next : Some w.session ≡ Some s = sym (cond-true (is_none w.on) (Some w.session) (first_ready queue) ready) ∙ is in cc

later_is : (s : ℕ) (w : Waiter) (queue : List Waiter) → is_none w.on ≡ false → first_ready (w ∷ queue) ≡ Some s → first_ready queue ≡ Some s
later_is s w queue waits is = sym (cond-false (is_none w.on) (Some w.session) (first_ready queue) waits) ∙ is

one_more : (w : Waiter) (queue : List Waiter) → is_none w.on ≡ true → ready_count (w ∷ queue) ≡ 1 + ready_count queue
one_more w queue ready = sum_by-cons (λ (x : Waiter). cond (is_none x.on) 1 0) w queue ∙ ap (λ (b : Bool). cond b 1 0 + ready_count queue) ready

no_more : (w : Waiter) (queue : List Waiter) → is_none w.on ≡ false → ready_count (w ∷ queue) ≡ ready_count queue
no_more w queue waits = sum_by-cons (λ (x : Waiter). cond (is_none x.on) 1 0) w queue ∙ ap (λ (b : Bool). cond b 1 0 + ready_count queue) waits ∙ omega arith

-- and where it leaves, and where it stays

first_leaves : (s : ℕ) (w : Waiter) (queue : List Waiter) → (w.session == s) ≡ true → left_by s (w ∷ queue) ≡ left_by s queue
first_leaves s w queue same = cond-false (not (w.session == s)) (w ∷ left_by s queue) (left_by s queue) (ap not same)

first_stays : (s : ℕ) (w : Waiter) (queue : List Waiter) → (w.session == s) ≡ false → left_by s (w ∷ queue) ≡ w ∷ left_by s queue
first_stays s w queue other = cond-true (not (w.session == s)) (w ∷ left_by s queue) (left_by s queue) (ap not other)

pub ready_is_there : (s : ℕ) (queue : List Waiter) → AreQueuedOnce queue → first_ready queue ≡ Some s → (1 ≤ s) × (s ≤ session_count) × (is_queued s queue ≡ true)
ready_is_there s [] once is = let clash : None ≡ Some s = is in absurd cc
ready_is_there s (w ∷ queue) once is = ⊎_elim
    (λ (ready : is_none w.on ≡ true).
    subst (λ (z : ℕ). (1 ≤ z) × (z ≤ session_count) × (is_queued z (w ∷ queue) ≡ true)) (first_is s w queue ready is)
    (once.0, once.1, rw (eq-eqb w.session w.session refl) refl))
    (λ (waits : is_none w.on ≡ false).
    let rest = ready_is_there s queue once.3 (later_is s w queue waits is) in
    (rest.0, rest.1, or_right (w.session == s) (is_queued s queue) rest.2))
    (cases_Bool (is_none w.on))

pub few_ready : (queue : List Waiter) → ready_count queue ≤ length queue
few_ready queue = count_by-le-length (λ (w : Waiter). is_none w.on) queue

pub none_ready : (queue : List Waiter) → ready_count queue ≡ 0 → first_ready queue ≡ None
none_ready [] none = refl
none_ready (w ∷ queue) none = ⊎_elim
    (λ (ready : is_none w.on ≡ true). let more = one_more w queue ready in absurd (omega (arith, more, none)))
    (λ (waits : is_none w.on ≡ false).
    cond-false (is_none w.on) (Some w.session) (first_ready queue) waits ∙ none_ready queue (sym (no_more w queue waits) ∙ none))
    (cases_Bool (is_none w.on))

pub wait_not_ready : (s u : ℕ) (queue : List Waiter) → ready_count (waiting s u queue) ≡ ready_count queue
wait_not_ready s u [] = refl
wait_not_ready s u (w ∷ queue) =
    let count : Waiter → ℕ = λ x. cond (is_none x.on) 1 0 in
    sum_by-cons count w (waiting s u queue) ∙ ap (λ (n : ℕ). count w + n) (wait_not_ready s u queue) ∙ sym (sum_by-cons count w queue)

-- no more are ready once one has left
pub left_no_more : (s : ℕ) (queue : List Waiter) → ready_count (left_by s queue) ≤ ready_count queue
left_no_more s [] = omega arith
left_no_more s (w ∷ queue) =
    let count : Waiter → ℕ = λ x. cond (is_none x.on) 1 0 in
    let rest = left_no_more s queue in
    let all = sum_by-cons count w queue in
    ⊎_elim
    (λ (same : (w.session == s) ≡ true). rw (first_leaves s w queue same) (omega (arith, rest, all)))
    (λ (other : (w.session == s) ≡ false).
    let left = sum_by-cons count w (left_by s queue) in rw (first_stays s w queue other) (omega (arith, rest, all, left)))
    (cases_Bool (w.session == s))

pub ready_leaves : (s : ℕ) (queue : List Waiter) → first_ready queue ≡ Some s → AreQueuedOnce queue → ready_count (left_by s queue) < ready_count queue
ready_leaves s [] is once = let clash : None ≡ Some s = is in absurd cc
ready_leaves s (w ∷ queue) is once = ⊎_elim
    (λ (ready : is_none w.on ≡ true).
    let rest = left_no_more s queue in
    let all = one_more w queue ready in
    rw (first_leaves s w queue (eq-eqb w.session s (first_is s w queue ready is))) (omega (arith, rest, all)))
    (λ (waits : is_none w.on ≡ false).
    let rest = ready_leaves s queue (later_is s w queue waits is) once.3 in
    let all = no_more w queue waits in
    ⊎_elim
    (λ (same : (w.session == s) ≡ true). rw (first_leaves s w queue same) (omega (arith, rest, all)))
    (λ (other : (w.session == s) ≡ false).
    let left = no_more w (left_by s queue) waits in rw (first_stays s w queue other) (omega (arith, rest, all, left)))
    (cases_Bool (w.session == s)))
    (cases_Bool (is_none w.on))
