-- The queue as its view sees it: what a search of it finds, and what is left of it.
use Rattle.std.proofs.Common.{◌≡◌, ⊎_elim, ℕ, ◌<◌, ◌+◌, ◌==◌, ◌||◌, nat_eq, Bool, true, false, not, if◌then◌else◌, List, [], ◌∷◌, ◌++◌, length, map, filter, take, drop, get_or, set, Option, Some, None, refl, sym, ◌∙◌, ap, arith}
use Rattle.std.proofs.lemmas.Bool.{cases_Bool, cond-false, cond-true}
use Rattle.std.proofs.lemmas.List.{get_or_default}
use Rattle.std.proofs.lemmas.List.Edits.{map_over_more}
use Rattle.std.specs.List.{find, list_any}
use Rattle.std.specs.Option.{is_none, option_eq, option_map}
use denote.Ref.{Bor}
use Rattle.rb_model.specs.Queue.{Waiter, first_ready, freed_by, is_queued, is_some_that, left_by, place_of, waits_for}
use Rattle.rb_waits.specs.declared.waits.Waiter as code
use Rattle.rb_waits.specs.Waiters.{waiter_view}

-- for whom waits the one that was found
abbrev on_of : Option code.Waiter → Option ℕ
on_of None = None
on_of (Some w) = w.on

-- which one that is
abbrev session_of : Option code.Waiter → Option ℕ
session_of None = None
session_of (Some w) = Some w.session

-- its place in the queue
abbrev pub place_by : Option code.Waiter → Option (Option ℕ)
place_by None = None
place_by (Some w) = Some w.on

place_first : (s : ℕ) (waiters : List code.Waiter) → place_by (find (λ w. w.session == s) waiters) ≡ place_of s (map waiter_view waiters)
place_first s [] = refl
place_first s (w ∷ waiters) = ⊎_elim
    (λ (yes : (w.session == s) ≡ true). rw yes refl)
    (λ (no : (w.session == s) ≡ false). rw no (place_first s waiters))
    (cases_Bool (w.session == s))

waits_first : (s : ℕ) (waiters : List code.Waiter) → on_of (find (λ w. w.session == s) waiters) ≡ waits_for s (map waiter_view waiters)
waits_first s [] = refl
waits_first s (w ∷ waiters) = ⊎_elim
    (λ (yes : (w.session == s) ≡ true). rw yes refl)
    (λ (no : (w.session == s) ≡ false). rw no (waits_first s waiters))
    (cases_Bool (w.session == s))

ready_first : (waiters : List code.Waiter) → session_of (find (λ w. is_none w.on) waiters) ≡ first_ready (map waiter_view waiters)
ready_first [] = refl
ready_first (w ∷ waiters) = ⊎_elim
    (λ (yes : is_none w.on ≡ true). rw yes refl)
    (λ (no : is_none w.on ≡ false). rw no (ready_first waiters))
    (cases_Bool (is_none w.on))

-- what a search of the queue found, as a view tells it
pub waits_found : (s : ℕ) (waiters : List code.Waiter) (r o : Option (Bor code.Waiter)) → option_map (λ w. w.now) r ≡ find (λ w. w.session == s) waiters → r ≡ o
    → on_of (option_map (λ w. w.now) o) ≡ waits_for s (map waiter_view waiters)
waits_found s waiters r o found is = ap (λ (x : Option (Bor code.Waiter)). on_of (option_map (λ w. w.now) x)) (sym is) ∙ ap on_of found ∙ waits_first s waiters

pub place_found : (s : ℕ) (waiters : List code.Waiter) (r o : Option (Bor code.Waiter)) → option_map (λ w. w.now) r ≡ find (λ w. w.session == s) waiters → r ≡ o
    → place_by (option_map (λ w. w.now) o) ≡ place_of s (map waiter_view waiters)
place_found s waiters r o found is = ap (λ (x : Option (Bor code.Waiter)). place_by (option_map (λ w. w.now) x)) (sym is) ∙ ap place_by found ∙ place_first s waiters

pub ready_found : (waiters : List code.Waiter) (r o : Option (Bor code.Waiter)) → option_map (λ w. w.now) r ≡ find (λ w. is_none w.on) waiters → r ≡ o
    → session_of (option_map (λ w. w.now) o) ≡ first_ready (map waiter_view waiters)
ready_found waiters r o found is = ap (λ (x : Option (Bor code.Waiter)). session_of (option_map (λ w. w.now) x)) (sym is) ∙ ap session_of found ∙ ready_first waiters

pub queued : (s : ℕ) (waiters : List code.Waiter) → list_any (λ w. w.session == s) waiters ≡ is_queued s (map waiter_view waiters)
queued s [] = refl
queued s (w ∷ waiters) = ap (λ (b : Bool). (w.session == s) || b) (queued s waiters)

pub left : (s : ℕ) (waiters : List code.Waiter) → map waiter_view (filter (λ w. not (w.session == s)) waiters) ≡ left_by s (map waiter_view waiters)
left s [] = refl
left s (w ∷ waiters) = ⊎_elim
    (λ (yes : (w.session == s) ≡ true). rw yes (left s waiters))
    (λ (no : (w.session == s) ≡ false). rw no (ap (λ (ws : List Waiter). waiter_view w ∷ ws) (left s waiters)))
    (cases_Bool (w.session == s))

-- one that waited for u is ready
abbrev pub freed : ℕ → code.Waiter → code.Waiter
freed u w = if is_some_that (λ v. v == u) w.on then record { session = w.session; on = None } else w

same_test : (u : ℕ) (o : Option ℕ) → is_some_that (λ v. v == u) o ≡ option_eq nat_eq o (Some u)
same_test u None = refl
same_test u (Some v) = refl

-- a turn of the loop that frees, where one waits for u, and where it doesn't

pub one_freed : (u : ℕ) (xs ys : List code.Waiter) (i : ℕ) (d : code.Waiter) (b : Bool) → i < length xs → length ys ≡ length xs → ys ≡ map (freed u) (take i xs) ++ drop i xs
    → b ≡ option_eq nat_eq (get_or ys i d).on (Some u) → b ≡ true
    → set ys i (record { session = (get_or ys i d).session; on = None }) ≡ map (freed u) (take (i + 1) xs) ++ drop (i + 1) xs
one_freed u xs ys i d b within long so_far says is =
    let w : code.Waiter = get_or ys i d in
    let becomes : freed u w ≡ record { session = w.session; on = None } = cond-true _ _ _ (same_test u w.on ∙ sym says ∙ is) in
    ap (set ys i) (sym becomes)
    ∙ map_over_more (freed u) xs ys i w within so_far (get_or_default ys i d w (omega (arith, within, long)))

pub one_stays : (u : ℕ) (xs ys : List code.Waiter) (i : ℕ) (d : code.Waiter) (b : Bool) → i < length xs → length ys ≡ length xs → ys ≡ map (freed u) (take i xs) ++ drop i xs
    → b ≡ option_eq nat_eq (get_or ys i d).on (Some u) → b ≡ false
    → set ys i (get_or ys i d) ≡ map (freed u) (take (i + 1) xs) ++ drop (i + 1) xs
one_stays u xs ys i d b within long so_far says is =
    let w : code.Waiter = get_or ys i d in
    let stays : freed u w ≡ w = cond-false _ _ _ (same_test u w.on ∙ sym says ∙ is) in
    ap (set ys i) (sym stays)
    ∙ map_over_more (freed u) xs ys i w within so_far (get_or_default ys i d w (omega (arith, within, long)))

-- and what all of it leaves, as the view sees it
pub all_freed : (u : ℕ) (waiters : List code.Waiter) → map waiter_view (map (freed u) waiters) ≡ freed_by u (map waiter_view waiters)
all_freed u [] = refl
all_freed u (w ∷ waiters) = ⊎_elim
    (λ (yes : is_some_that (λ v. v == u) w.on ≡ true). rw yes (ap (λ (ws : List Waiter). record { session = w.session; on = None } ∷ ws) (all_freed u waiters)))
    (λ (no : is_some_that (λ v. v == u) w.on ≡ false). rw no (ap (λ (ws : List Waiter). waiter_view w ∷ ws) (all_freed u waiters)))
    (cases_Bool (is_some_that (λ v. v == u) w.on))
