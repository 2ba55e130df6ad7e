-- Where following "waits for" leads: to a session exactly where it does so in as many steps as the queue has sessions. And
-- what the search for it knows, step by step.
use Rattle.std.proofs.Common.{◌≡◌, ◌⊎◌, inl, inr, ⊎_elim, ◌<◌, ◌≤◌, ◌+◌, ◌-◌, ℕ, zero, suc, ◌==◌, ◌||◌, Bool, true, false, not, if◌then◌else◌, IsTrue, ◌↔◌, List, [], ◌∷◌, length, Option, Some, None, refl, sym, ◌∙◌, ap, subst, arith}
use Rattle.std.proofs.lemmas.Bool.{cases_Bool, cases_eq, cond_both, cond-false, eq-eqb, eqb-true, or_cases, or_right, false≢true, ne_eqb}
use Rattle.rb_model.specs.Queue.{Reaches, Waiter, closes, is_some_that, leads, left_by, waits_for}
use Rattle.rb_model.specs.Queue.Reaches.{here, further}

-- without a session in the queue the others wait for whom they waited for
others_wait : (u v : ℕ) (queue : List Waiter) → (v ≡ u → ⊥) → waits_for v (left_by u queue) ≡ waits_for v queue
others_wait u v [] ne = refl
others_wait u v (w ∷ queue) ne = ⊎_elim
    (λ (yes : (w.session == u) ≡ true).
    let other : (w.session == v) ≡ false = ⊎_elim (λ (e : (w.session == v) ≡ true). absurd (ne (sym (eqb-true w.session v e) ∙ eqb-true w.session u yes))) (λ e. e) (cases_Bool (w.session == v)) in
    rw (yes, other) (others_wait u v queue ne))
    (λ (no : (w.session == u) ≡ false). rw no (cond_both (w.session == v) w.on (waits_for v queue) (λ (o : Option ℕ). (if w.session == v then w.on else waits_for v (left_by u queue)) ≡ o) (λ yes. rw yes refl) (λ e. rw e (others_wait u v queue ne))))
    (cases_Bool (w.session == u))

itself_waits : (u : ℕ) (queue : List Waiter) → waits_for u (left_by u queue) ≡ None
itself_waits u [] = refl
itself_waits u (w ∷ queue) = ⊎_elim
    (λ (yes : (w.session == u) ≡ true). rw yes (itself_waits u queue))
    (λ (no : (w.session == u) ≡ false). rw (no, no) (itself_waits u queue))
    (cases_Bool (w.session == u))

no_more : (u : ℕ) (queue : List Waiter) → length (left_by u queue) ≤ length queue
no_more u [] = omega arith
no_more u (w ∷ queue) =
    let rest = no_more u queue in
    cond_both (not (w.session == u)) (w ∷ left_by u queue) (left_by u queue) (λ (l : List Waiter). length l ≤ length (w ∷ queue)) (λ yes. omega (arith, rest)) (λ no. omega (arith, rest))

fewer : (u v : ℕ) (queue : List Waiter) → waits_for u queue ≡ Some v → length (left_by u queue) < length queue
fewer u v [] is = let clash : None ≡ Some v = is in absurd cc
fewer u v (w ∷ queue) is = ⊎_elim
    (λ (yes : (w.session == u) ≡ true). let rest = no_more u queue in rw yes (omega (arith, rest)))
    (λ (no : (w.session == u) ≡ false). let rest = fewer u v queue (sym (cond-false (w.session == u) w.on (waits_for u queue) no) ∙ is) in rw no (omega (arith, rest)))
    (cases_Bool (w.session == u))

-- what passes a test that is looser passes
that_looser : (p q : ℕ → Bool) (o : Option ℕ) → ((v : ℕ) → o ≡ Some v → p v ≡ true → q v ≡ true) → is_some_that p o ≡ true → is_some_that q o ≡ true
that_looser p q None more is = absurd (false≢true is)
that_looser p q (Some v) more is = more v refl is

either : (a b c : Bool) → (b ≡ true → c ≡ true) → a || b ≡ true → a || c ≡ true
either true b c more is = refl
either false b c more is = more is

-- more steps lead as far
leads_more : (n : ℕ) (queue : List Waiter) (s u : ℕ) → leads n queue s u ≡ true → leads (suc n) queue s u ≡ true
leads_more zero queue s u is = rw is refl
leads_more (suc n) queue s u is = either (u == s) _ _ (that_looser (leads n queue s) (leads (suc n) queue s) (waits_for u queue) (λ v at. leads_more n queue s v)) is

leads_up : (n m : ℕ) (queue : List Waiter) (s u : ℕ) → n ≤ m → leads n queue s u ≡ true → leads m queue s u ≡ true
leads_up n zero queue s u le is = let none : n ≡ 0 = omega (arith, le) in subst (λ (k : ℕ). leads k queue s u ≡ true) none is
leads_up n (suc m) queue s u le is = elim (cases_eq n (suc m)) [
  | inl same ↦ subst (λ (k : ℕ). leads k queue s u ≡ true) same is
  | inr other ↦ leads_more m queue s u (leads_up n m queue s u (omega (arith, le, other)) is)
]

-- and so they do with another session in the queue
leads_with : (n : ℕ) (queue : List Waiter) (s u w : ℕ) → leads n (left_by u queue) s w ≡ true → leads n queue s w ≡ true
leads_with zero queue s u w is = is
leads_with (suc n) queue s u w is = elim (cases_eq w u) [
  | inl same ↦
      let none : waits_for w (left_by u queue) ≡ None = ap (λ (z : ℕ). waits_for z (left_by u queue)) same ∙ itself_waits u queue in
      either (w == s) _ _ (λ (some : is_some_that (leads n (left_by u queue) s) (waits_for w (left_by u queue)) ≡ true). absurd (false≢true (ap (is_some_that (leads n (left_by u queue) s)) (sym none) ∙ some))) is
  | inr other ↦
      let same : waits_for w (left_by u queue) ≡ waits_for w queue = others_wait u w queue other in
      either (w == s) _ _ (λ (some : is_some_that (leads n (left_by u queue) s) (waits_for w (left_by u queue)) ≡ true).
      that_looser (leads n (left_by u queue) s) (leads n queue s) (waits_for w queue) (λ v at. leads_with n queue s u v) (ap (is_some_that (leads n (left_by u queue) s)) (sym same) ∙ some)) is
]

-- A way that leads there, or what is left of it behind u, doesn't come by u, which waits for v.
avoids : (queue : List Waiter) (s u v w : ℕ) → waits_for u queue ≡ Some v → Reaches queue s w → Reaches (left_by u queue) s w ⊎ Reaches (left_by u queue) s v
avoids queue s u v w is here = inl here
avoids queue s u v w is (further _ x at rest) = ⊎_elim
    (λ (p : Reaches (left_by u queue) s x). elim (cases_eq w u) [
      | inl same ↦ (let next : Some x ≡ Some v = sym at ∙ (ap (λ (z : ℕ). waits_for z queue) same ∙ is) in let to : x ≡ v = cc in inr (subst (Reaches (left_by u queue) s) to p))
      | inr other ↦ inl (further w x (others_wait u w queue other ∙ at) p)
    ])
    (λ p. inr p)
    (avoids queue s u v x is rest)

at_once : (n : ℕ) (queue : List Waiter) (s : ℕ) → leads n queue s s ≡ true
at_once zero queue s = eq-eqb s s refl
at_once (suc n) queue s = rw (eq-eqb s s refl) refl

step : (n : ℕ) (queue : List Waiter) (s u v : ℕ) → waits_for u queue ≡ Some v → leads n queue s v ≡ true → leads (suc n) queue s u ≡ true
step n queue s u v at on = or_right (u == s) _ (ap (is_some_that (leads n queue s)) at ∙ on)

leads_there : (most : ℕ) (queue : List Waiter) (s u : ℕ) → length queue ≤ most → Reaches queue s u → leads (length queue) queue s u ≡ true
leads_there most queue s u few here = at_once (length queue) queue s
leads_there zero queue s u few (further _ v at rest) = let less = fewer u v queue at in absurd (omega (arith, few, less))
leads_there (suc most) queue s u few (further _ v at rest) =
    let less = fewer u v queue at in
    let left = left_by u queue in
    let way : Reaches left s v = ⊎_elim (λ p. p) (λ p. p) (avoids queue s u v v at rest) in
    let there : leads (length left) left s v ≡ true = leads_there most left s v (omega (arith, few, less)) way in
    let up = leads_up (length left) (length queue - 1) queue s v (omega (arith, less)) (leads_with (length left) queue s u v there) in
    let count : suc (length queue - 1) ≡ length queue = omega (arith, less) in
    subst (λ (n : ℕ). leads n queue s u ≡ true) count (step (length queue - 1) queue s u v at up)

-- and a way that is found is one
some_of : (p : ℕ → Bool) (o : Option ℕ) → is_some_that p o ≡ true → (v : ℕ) × (o ≡ Some v) × (p v ≡ true)
some_of p None is = absurd (false≢true is)
some_of p (Some v) is = (v, refl, is)

found_way : (n : ℕ) (queue : List Waiter) (s u : ℕ) → leads n queue s u ≡ true → Reaches queue s u
found_way zero queue s u is = subst (Reaches queue s) (sym (eqb-true u s is)) here
found_way (suc n) queue s u is = ⊎_elim
    (λ (same : (u == s) ≡ true). subst (Reaches queue s) (sym (eqb-true u s same)) here)
    (λ (on : is_some_that (leads n queue s) (waits_for u queue) ≡ true).
    let next = some_of (leads n queue s) (waits_for u queue) on in
    further u next.0 next.1 (found_way n queue s next.0 next.2))
    (or_cases (u == s) _ is)

-- A ring is closed exactly where following "waits for" from u reaches s.
pub ring_closes : (queue : List Waiter) (s u : ℕ) → (closes queue s u ≡ true → Reaches queue s u) × (Reaches queue s u → closes queue s u ≡ true)
ring_closes queue s u = (found_way (length queue) queue s u, leads_there (length queue) queue s u (omega arith))

-- which is what an answer of that value says
pub ring_answer : (b : Bool) (queue : List Waiter) (s u : ℕ) → b ≡ closes queue s u → IsTrue b ↔ Reaches queue s u
ring_answer b queue s u is = (λ yes. (ring_closes queue s u).0 (sym is ∙ yes), λ way. is ∙ (ring_closes queue s u).1 way)

-- The search behind i of n steps: b is what it is to answer.

pub is_there : (b : Bool) (n i : ℕ) (queue : List Waiter) (s at : ℕ) → b ≡ leads (n - i) queue s at → at ≡ s → true ≡ b
is_there b n i queue s at is same = sym (is ∙ ap (leads (n - i) queue s) same ∙ at_once (n - i) queue s)

one_step : (n i : ℕ) (queue : List Waiter) (s at : ℕ) → i < n → (at ≡ s → ⊥) → leads (n - i) queue s at ≡ is_some_that (leads (n - (i + 1)) queue s) (waits_for at queue)
one_step n i queue s at within other =
    let count : n - i ≡ suc (n - (i + 1)) = omega (arith, within) in
    ap (λ (k : ℕ). leads k queue s at) count
    ∙ ap (λ (b : Bool). b || is_some_that (leads (n - (i + 1)) queue s) (waits_for at queue)) (ne_eqb at s other)

pub waits_for_nobody : (b : Bool) (n i : ℕ) (queue : List Waiter) (s at : ℕ) → b ≡ leads (n - i) queue s at → i < n → (at ≡ s → ⊥) → waits_for at queue ≡ None → false ≡ b
waits_for_nobody b n i queue s at is within other none =
    sym (is ∙ one_step n i queue s at within other ∙ ap (is_some_that (leads (n - (i + 1)) queue s)) none)

pub goes_on : (b : Bool) (n i : ℕ) (queue : List Waiter) (s at on : ℕ) → b ≡ leads (n - i) queue s at → i < n → (at ≡ s → ⊥) → waits_for at queue ≡ Some on → b ≡ leads (n - (i + 1)) queue s on
goes_on b n i queue s at on is within other next =
    is ∙ one_step n i queue s at within other ∙ ap (is_some_that (leads (n - (i + 1)) queue s)) next

pub at_the_end : (b : Bool) (n i : ℕ) (queue : List Waiter) (s at : ℕ) → b ≡ leads (n - i) queue s at → n ≤ i → (at == s) ≡ b
at_the_end b n i queue s at is past =
    let count : n - i ≡ 0 = omega (arith, past) in
    sym (is ∙ ap (λ (k : ℕ). leads k queue s at) count)
