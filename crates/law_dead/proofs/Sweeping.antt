-- How many changes a sweep takes.
use Rattle.std.proofs.Common.{◌≡◌, ◌≢◌, inl, inr, ◌<◌, ◌+◌, ◌-◌, ◌*◌, ◌==◌, min, ℕ, zero, suc, List, [], ◌∷◌, length, take, Option, Some, None, refl, sym, ◌∙◌, ap, subst, arith}
use Rattle.std.proofs.lemmas.Bool.{cases_Bool, cond-true, cond-false}
use Rattle.std.proofs.lemmas.List.{get_or-set_other, length-set}
use Rattle.std.specs.List.{range_with_len}
use Rattle.rb_model.specs.Change.{Change}
use Rattle.rb_model.specs.State.{Session, State, no_session, session_own, with_changes}
use Rattle.rb_model.specs.NextState.{with_own}
use Rattle.law_dead.proofs.Cleared.{apart, dead_on, one_on}
use Rattle.law_dead.proofs.Going.{own_else}
use Rattle.rb_model.specs.Dead.{all_slots, dead_at, dead_changes, dead_changes_at, swept, swept_at, swept_count, swept_from, without}
use Rattle.law_dead.specs.Laws.{OwnsOne}

-- what a sweep of slot u leaves of the slots that it hasn't come to
record Leaves (u : ℕ) (h h2 : State) : Type 0 where
  one : OwnsOne h2
  dead : (t : ℕ) → t ≢ u → dead_at h2 t ≡ dead_at h t
  own : (t d : ℕ) → t ≢ u → dead_at h t ≡ Some d → length (session_own h2 d) ≡ length (session_own h d)
  commits : h2.commits ≡ h.commits

module _ (h : State) (one : OwnsOne h) (u k : ℕ) where
  leaves_none : Leaves u h h
  leaves_none = record { one = one; dead = λ t ne. refl; own = λ t d ne is. refl; commits = refl }

  leaves_whole : (e : ℕ) → dead_at h u ≡ Some e → Leaves u h (without u e h)
  leaves_whole e at = record {
    one = one_on 0 0 h one u e at;
    dead = dead_on 0 0 h one u e at;
    own = λ t d ne is. ap (λ (l : List Change). length l) (own_else h u e d (apart 0 0 h one t u d e ne is at));
    commits = refl;
  }

  leaves_part : (e : ℕ) (a : List Change) → dead_at h u ≡ Some e → Leaves u h (with_own h e a)
  leaves_part e a at = record {
    one = record {
      there = λ s t owns. let w = one.there s t (record { owner = owns.owner; at = owns.at; session = owns.session }) in let n = length-set h.sessions (e - 1) (with_changes h e a) in (w.0, omega (arith, w.1, n));
      one_slot = λ s t v x y. one.one_slot s t v (record { owner = x.owner; at = x.at; session = x.session }) (record { owner = y.owner; at = y.at; session = y.session });
    };
    dead = λ t ne. refl;
    own = λ t d ne is. ap (λ (z : Session). length z.own) (get_or-set_other h.sessions (e - 1) (d - 1) (with_changes h e a) no_session (apart 0 0 h one t u d e ne is at));
    commits = refl;
  }

  leaves : Leaves u h (swept_at k u (dead_at h u) h)
  leaves = by (dead_at h u) refl
    where
      by : (o : Option ℕ) → dead_at h u ≡ o → Leaves u h (swept_at k u o h)
      by None at = leaves_none
      by (Some e) at = elim (cases_Bool (length (session_own h e) - min k (length (session_own h e)) == 0)) [
        | inl none ↦ subst (Leaves u h) (sym (cond-true (length (session_own h e) - min k (length (session_own h e)) == 0) (without u e h) (with_own h e (take (length (session_own h e) - min k (length (session_own h e))) (session_own h e))) none)) (leaves_whole e at)
        | inr some ↦ subst (Leaves u h) (sym (cond-false (length (session_own h e) - min k (length (session_own h e)) == 0) (without u e h) (with_own h e (take (length (session_own h e) - min k (length (session_own h e))) (session_own h e))) some)) (leaves_part e (take (length (session_own h e) - min k (length (session_own h e))) (session_own h e)) at)
      ]

-- the slots behind have what they had
changes_left : (u a n : ℕ) (h h2 : State) → Leaves u h h2 → u < a → dead_changes (range_with_len a n) h2 ≡ dead_changes (range_with_len a n) h
changes_left u a zero h h2 left lt = refl
changes_left u a (suc n) h h2 left lt =
    let ne : a ≢ u = λ is. omega (arith, is, lt) in
    let rest = changes_left u (a + 1) n h h2 left (omega (arith, lt)) in
    let here = ap (dead_changes_at h2) (left.dead a ne) ∙ by (dead_at h a) refl ne in
    omega (arith, rest, here)
  where
    by : (o : Option ℕ) → dead_at h a ≡ o → a ≢ u → dead_changes_at h2 o ≡ dead_changes_at h o
    by None at ne = refl
    by (Some d) at ne = left.own a d ne at

from_is : (k : ℕ) (h : State) (o : Option ℕ) → swept_from k h o ≡ min k (dead_changes_at h o)
from_is k h None = omega arith
from_is k h (Some d) = refl

counts : (a n k : ℕ) (h : State) → OwnsOne h → swept_count k (range_with_len a n) h ≡ min k (dead_changes (range_with_len a n) h)
counts a zero k h one = omega arith
counts a (suc n) k h one =
    let left = leaves h one a k in
    let rest = counts (a + 1) n (k - swept_from k h (dead_at h a)) (swept_at k a (dead_at h a) h) left.one in
    let same = changes_left a (a + 1) n h (swept_at k a (dead_at h a) h) left (omega arith) in
    let here = from_is k h (dead_at h a) in
    omega (arith, rest, same, here)

pub swept_counts : (h : State) (k : ℕ) → OwnsOne h → swept_count k (all_slots h) h ≡ min k (dead_changes (all_slots h) h)
swept_counts h k one = counts 0 (16 * h.shape.segments) k h one

rows : (slots : List ℕ) (k : ℕ) (h : State) → (swept k slots h).commits ≡ h.commits
rows [] k h = refl
rows (t ∷ slots) k h = rows slots (k - swept_from k h (dead_at h t)) (swept_at k t (dead_at h t) h) ∙ by (dead_at h t)
  where
    by : (o : Option ℕ) → (swept_at k t o h).commits ≡ h.commits
    by None = refl
    by (Some e) = elim (cases_Bool (length (session_own h e) - min k (length (session_own h e)) == 0)) [
      | inl none ↦ ap (λ (z : State). z.commits) (cond-true (length (session_own h e) - min k (length (session_own h e)) == 0) (without t e h) (with_own h e (take (length (session_own h e) - min k (length (session_own h e))) (session_own h e))) none)
      | inr some ↦ ap (λ (z : State). z.commits) (cond-false (length (session_own h e) - min k (length (session_own h e)) == 0) (without t e h) (with_own h e (take (length (session_own h e) - min k (length (session_own h e))) (session_own h e))) some)
    ]

pub swept_rows : (h : State) (k : ℕ) → (swept k (all_slots h) h).commits ≡ h.commits
swept_rows h k = rows (all_slots h) k h
