-- A home that is cleared of the dead.
use Rattle.std.proofs.Common.{◌≡◌, ◌≢◌, inl, inr, ◌<◌, ◌≤◌, ◌+◌, ◌-◌, ◌*◌, ◌%◌, ◌==◌, ℕ, zero, suc, Bool, true, false, List, [], ◌∷◌, find, Option, Some, None, refl, sym, ◌∙◌, ap, subst, arith}
use Rattle.std.proofs.lemmas.Bool.{cases_eq, cases_lt, cases_Bool, cond-true, cond-false, and_parts, and_from, eq-eqb, eqb-true, false≢true}
use Rattle.std.proofs.lemmas.Bool.Decides.{nat_tests}
use Rattle.std.proofs.lemmas.List.{length-set}
use Rattle.std.specs.List.{list_any, range_with_len}
use Rattle.rb_model.specs.Change.{Change}
use Rattle.rb_model.specs.State.{Session, State, no_session, owner_at, session_count, session_own}
use Rattle.rb_model.specs.Tests.{holder, holds, is_change, is_in_home, session_numbers}
use Rattle.law_blocks.specs.States.{Owns}
use Rattle.law_dead.proofs.Going.{comm, owner_else, owner_gone, own_else}
use Rattle.rb_model.proofs.DeadLemmas.{dead_owned}
use Rattle.rb_model.specs.Dead.{all_gone, all_slots, dead_at, dead_owner, gone, home_cleared, is_dead, without, works_at}
use Rattle.law_dead.specs.Laws.{OwnsOne}

pub dead_owns : (h : State) (t d : ℕ) → dead_at h t ≡ Some d → Owns h d t × (session_count < d)
dead_owns h t d is = let o = dead_owned (owner_at h t) d is in (record { owner = o.0; at = o.1; session = o.2 }, o.3)

module _ (table key : ℕ) where
  abbrev goes : State → ℕ → Bool
  goes = works_at table key

  -- the dead of two slots are two
  pub apart : (h : State) → OwnsOne h → (t u d e : ℕ) → t ≢ u → dead_at h t ≡ Some d → dead_at h u ≡ Some e → d - 1 ≢ e - 1
  apart h one t u d e ne first second is =
      let a = dead_owns h t d first in
      let b = dead_owns h u e second in
      let same : d ≡ e = omega (arith, is, a.1, b.1) in
      ne (one.one_slot e t u (subst (λ (z : ℕ). Owns h z t) same a.0) b.0)

  module _ (h : State) (one : OwnsOne h) (u e : ℕ) (dead : dead_at h u ≡ Some e) where
    was : (s t : ℕ) → Owns (without u e h) s t → Owns h s t
    was s t owns = elim (cases_eq t u) [
      | inl at ↦ let none : owner_at (without u e h) t ≡ None = ap (owner_at (without u e h)) at ∙ owner_gone h u e in let some : owner_at (without u e h) t ≡ Some owns.owner = owns.at in absurd cc
      | inr ne ↦ record { owner = owns.owner; at = sym (owner_else h u e t ne) ∙ owns.at; session = owns.session }
    ]

    pub one_on : OwnsOne (without u e h)
    one_on = record {
      there = λ s t owns. let a = one.there s t (was s t owns) in let n = length-set h.sessions (e - 1) (let z : Session = record no_session { cursors = [] } in z) in (a.0, omega (arith, a.1, n));
      one_slot = λ s t v a b. one.one_slot s t v (was s t a) (was s v b);
    }

    pub dead_on : (t : ℕ) → t ≢ u → dead_at (without u e h) t ≡ dead_at h t
    dead_on t ne = ap dead_owner (owner_else h u e t ne)

    works_on : (t d : ℕ) → t ≢ u → dead_at h t ≡ Some d → goes (without u e h) d ≡ goes h d
    works_on t d ne is = ap (λ (l : List Change). list_any (is_in_home h.shape table key) l) (own_else h u e d (apart h one t u d e ne is dead))

  -- the dead of a slot that goes, put back before the others
  first_gone : (a n : ℕ) (h : State) → OwnsOne h → (t d : ℕ) → a ≤ t → t < a + n → dead_at h t ≡ Some d → goes h d ≡ true → all_gone goes (range_with_len a n) (without t d h) ≡ all_gone goes (range_with_len a n) h
  first_gone a zero h one t d low high dead is = absurd (omega (arith, low, high))
  first_gone a (suc n) h one t d low high dead is = elim (cases_eq a t) [
    | inl at ↦
        let here : dead_at h a ≡ Some d = ap (dead_at h) at ∙ dead in
        let none : dead_at (without t d h) a ≡ None = ap (dead_at (without t d h)) at ∙ ap dead_owner (owner_gone h t d) in
        ap (λ (o : Option ℕ). all_gone goes (range_with_len (a + 1) n) (gone goes a o (without t d h))) none
        ∙ sym (ap (λ (o : Option ℕ). all_gone goes (range_with_len (a + 1) n) (gone goes a o h)) here
        ∙ (ap (all_gone goes (range_with_len (a + 1) n)) (cond-true (goes h d) (without a d h) h is)
        ∙ ap (λ (z : ℕ). all_gone goes (range_with_len (a + 1) n) (without z d h)) at))
    | inr ne ↦
        ap (λ (o : Option ℕ). all_gone goes (range_with_len (a + 1) n) (gone goes a o (without t d h))) (dead_on h one t d dead a ne)
        ∙ by (dead_at h a) refl ne (λ k ok there goes_k. first_gone (a + 1) n k ok t d (omega (arith, low, ne)) (omega (arith, high)) there goes_k)
  ]
    where
      by : (o : Option ℕ) → dead_at h a ≡ o → a ≢ t → ((k : State) → OwnsOne k → dead_at k t ≡ Some d → goes k d ≡ true → all_gone goes (range_with_len (a + 1) n) (without t d k) ≡ all_gone goes (range_with_len (a + 1) n) k) → all_gone goes (range_with_len (a + 1) n) (gone goes a o (without t d h)) ≡ all_gone goes (range_with_len (a + 1) n) (gone goes a (dead_at h a) h)
      by None at ne again = again h one dead is ∙ sym (ap (λ (o : Option ℕ). all_gone goes (range_with_len (a + 1) n) (gone goes a o h)) at)
      by (Some e) at ne again =
          let works : goes (without t d h) e ≡ goes h e = works_on h one t d dead a e ne at in
          sym (ap (λ (o : Option ℕ). all_gone goes (range_with_len (a + 1) n) (gone goes a o h)) at
          ∙ elim (cases_Bool (goes h e)) [
            | inl it_goes ↦
                ap (all_gone goes (range_with_len (a + 1) n)) (cond-true (goes h e) (without a e h) h it_goes)
                ∙ (sym (again (without a e h) (one_on h one a e at) (dead_on h one a e at t (λ same. ne (sym same)) ∙ dead) (works_on h one a e at t d (λ same. ne (sym same)) dead ∙ is))
                ∙ (ap (all_gone goes (range_with_len (a + 1) n)) (comm h t d a e (λ same. ne (sym same)) (apart h one t a d e (λ same. ne (sym same)) dead at))
                ∙ sym (ap (all_gone goes (range_with_len (a + 1) n)) (cond-true (goes (without t d h) e) (without a e (without t d h)) (without t d h) (works ∙ it_goes)))))
            | inr it_stays ↦
                ap (all_gone goes (range_with_len (a + 1) n)) (cond-false (goes h e) (without a e h) h it_stays)
                ∙ (sym (again h one dead is)
                ∙ sym (ap (all_gone goes (range_with_len (a + 1) n)) (cond-false (goes (without t d h) e) (without a e (without t d h)) (without t d h) (works ∙ it_stays))))
          ])

  -- where none goes
  none_gone : (a n : ℕ) (h : State) → ((t d : ℕ) → a ≤ t → t < a + n → dead_at h t ≡ Some d → goes h d ≡ false) → all_gone goes (range_with_len a n) h ≡ h
  none_gone a zero h none = refl
  none_gone a (suc n) h none = ap (all_gone goes (range_with_len (a + 1) n)) (by (dead_at h a) refl) ∙ none_gone (a + 1) n h (λ t d low high. none t d (omega (arith, low)) (omega (arith, high)))
    where
      by : (o : Option ℕ) → dead_at h a ≡ o → gone goes a o h ≡ h
      by None at = refl
      by (Some d) at = cond-false (goes h d) (without a d h) h (none a d (omega arith) (omega arith) at)

  -- behind them none is left
  clear : (a n : ℕ) (h : State) → OwnsOne h → ((u d : ℕ) → u < a → dead_at h u ≡ Some d → goes h d ≡ false) → (t d : ℕ) → t < a + n → dead_at (all_gone goes (range_with_len a n) h) t ≡ Some d → goes (all_gone goes (range_with_len a n) h) d ≡ false
  clear a zero h one before t d high dead = before t d (omega (arith, high)) dead
  clear a (suc n) h one before t d high dead = by (dead_at h a) refl (λ k ok early there. clear (a + 1) n k ok early t d (omega (arith, high)) there)
    where
      by : (o : Option ℕ) → dead_at h a ≡ o
          → ((k : State) → OwnsOne k → ((u e : ℕ) → u < a + 1 → dead_at k u ≡ Some e → goes k e ≡ false) → dead_at (all_gone goes (range_with_len (a + 1) n) k) t ≡ Some d → goes (all_gone goes (range_with_len (a + 1) n) k) d ≡ false)
          → goes (all_gone goes (range_with_len a (suc n)) h) d ≡ false
      by None at again =
          let same : all_gone goes (range_with_len a (suc n)) h ≡ all_gone goes (range_with_len (a + 1) n) h = ap (λ (o : Option ℕ). all_gone goes (range_with_len (a + 1) n) (gone goes a o h)) at in
          ap (λ (z : State). goes z d) same ∙ again h one (λ u e lt is. elim (cases_eq u a) [
            | inl here ↦ let never : None ≡ Some e = sym at ∙ (ap (dead_at h) (sym here) ∙ is) in absurd cc
            | inr ne ↦ before u e (omega (arith, lt, ne)) is
          ]) (ap (λ (z : State). dead_at z t) (sym same) ∙ dead)
      by (Some e) at again = elim (cases_Bool (goes h e)) [
        | inl it_goes ↦
            let same : all_gone goes (range_with_len a (suc n)) h ≡ all_gone goes (range_with_len (a + 1) n) (without a e h) = ap (λ (o : Option ℕ). all_gone goes (range_with_len (a + 1) n) (gone goes a o h)) at ∙ ap (all_gone goes (range_with_len (a + 1) n)) (cond-true (goes h e) (without a e h) h it_goes) in
            ap (λ (z : State). goes z d) same ∙ again (without a e h) (one_on h one a e at) (λ u f lt is. elim (cases_eq u a) [
              | inl here ↦ let never : None ≡ Some f = sym (ap (dead_at (without a e h)) here ∙ ap dead_owner (owner_gone h a e)) ∙ is in absurd cc
              | inr ne ↦ let was : dead_at h u ≡ Some f = sym (dead_on h one a e at u ne) ∙ is in works_on h one a e at u f ne was ∙ before u f (omega (arith, lt, ne)) was
            ]) (ap (λ (z : State). dead_at z t) (sym same) ∙ dead)
        | inr it_stays ↦
            let same : all_gone goes (range_with_len a (suc n)) h ≡ all_gone goes (range_with_len (a + 1) n) h = ap (λ (o : Option ℕ). all_gone goes (range_with_len (a + 1) n) (gone goes a o h)) at ∙ ap (all_gone goes (range_with_len (a + 1) n)) (cond-false (goes h e) (without a e h) h it_stays) in
            ap (λ (z : State). goes z d) same ∙ again h one (λ u f lt is. elim (cases_eq u a) [
              | inl here ↦
                  let both : Some e ≡ Some f = sym at ∙ (ap (dead_at h) (sym here) ∙ is) in
                  let e_f : e ≡ f = cc in
                  ap (goes h) (sym e_f) ∙ it_stays
              | inr ne ↦ before u f (omega (arith, lt, ne)) is
            ]) (ap (λ (z : State). dead_at z t) (sym same) ∙ dead)
      ]

  same_commits : (slots : List ℕ) (h : State) → (all_gone goes slots h).commits ≡ h.commits
  same_commits [] h = refl
  same_commits (t ∷ slots) h = same_commits slots (gone goes t (dead_at h t) h) ∙ by (dead_at h t)
    where
      by : (o : Option ℕ) → (gone goes t o h).commits ≡ h.commits
      by None = refl
      by (Some d) = elim (cases_Bool (goes h d)) [
        | inl it_goes ↦ ap (λ (z : State). z.commits) (cond-true (goes h d) (without t d h) h it_goes)
        | inr it_stays ↦ ap (λ (z : State). z.commits) (cond-false (goes h d) (without t d h) h it_stays)
      ]

  pub goes_first : (h : State) (t d : ℕ) → OwnsOne h → t < 16 * h.shape.segments → dead_at h t ≡ Some d → goes h d ≡ true → home_cleared table key (without t d h) ≡ home_cleared table key h
  goes_first h t d one t_in dead is = first_gone 0 (16 * h.shape.segments) h one t d (omega arith) (omega (arith, t_in)) dead is

  pub none_is_left : (h : State) → ((t d : ℕ) → t < 16 * h.shape.segments → dead_at h t ≡ Some d → goes h d ≡ false) → home_cleared table key h ≡ h
  none_is_left h none = none_gone 0 (16 * h.shape.segments) h (λ t d low high. none t d (omega (arith, high)))

  pub cleared_is_clear : (h : State) (t d : ℕ) → OwnsOne h → t < 16 * h.shape.segments → dead_at (home_cleared table key h) t ≡ Some d → goes (home_cleared table key h) d ≡ false
  cleared_is_clear h t d one t_in dead = clear 0 (16 * h.shape.segments) h one (λ u e lt. absurd (omega (arith, lt))) t d (omega (arith, t_in)) dead

  pub keeps_rows : (h : State) → (home_cleared table key h).commits ≡ h.commits
  keeps_rows h = same_commits (all_slots h) h

find_passes : (p : ℕ → Bool) (xs : List ℕ) (s : ℕ) → find p xs ≡ Some s → p s ≡ true
find_passes p [] s is = absurd cc
find_passes p (x ∷ xs) s is = elim (cases_Bool (p x)) [
  | inl here ↦ let same : Some x ≡ Some s = sym (cond-true (p x) (Some x) (find p xs) here) ∙ is in let e : x ≡ s = cc in ap p (sym e) ∙ here
  | inr not_here ↦ find_passes p xs s (sym (cond-false (p x) (Some x) (find p xs) not_here) ∙ is)
]

-- who holds a key works in its home
pub works_where : (h : State) (table key : ℕ) (l : List Change) → list_any (is_change table key) l ≡ true → list_any (is_in_home h.shape table key) l ≡ true
works_where h table key [] is = absurd (false≢true is)
works_where h table key (c ∷ l) is = elim (cases_Bool (is_change table key c)) [
  | inl here ↦
      let parts = and_parts (c.table == table) (c.key == key) here in
      let k : c.key ≡ key = eqb-true c.key key parts.1 in
      let there : is_in_home h.shape table key c ≡ true = and_from (c.table == table) ((c.key % h.shape.blocks) == (key % h.shape.blocks)) parts.0 (eq-eqb (c.key % h.shape.blocks) (key % h.shape.blocks) (ap (λ (z : ℕ). z % h.shape.blocks) k)) in
      rw there refl
  | inr else_where ↦
      let later : list_any (is_change table key) l ≡ true = rw else_where at is in
      elim (cases_Bool (is_in_home h.shape table key c)) [
        | inl there ↦ rw there refl
        | inr away ↦ rw away (works_where h table key l later)
      ]
]

pub alive_holds : (h : State) (table key u : ℕ)
    → ((t d : ℕ) → t < 16 * h.shape.segments → dead_at h t ≡ Some d → works_at table key h d ≡ false)
    → ((s : ℕ) → 1 ≤ s → works_at table key h s ≡ true → (t : ℕ) × (t < 16 * h.shape.segments) × Owns h s t)
    → holder h table key ≡ Some u → u ≤ session_count
alive_holds h table key u none has_slot is = elim (cases_lt session_count u) [
  | inr few ↦ few
  | inl dead ↦
      let held : holds h u table key ≡ true = find_passes (λ s. holds h s table key) (session_numbers h) u is in
      let works : works_at table key h u ≡ true = works_where h table key (session_own h u) held in
      let slot : (t : ℕ) × (t < 16 * h.shape.segments) × Owns h u t = has_slot u (omega (arith, dead)) works in
      let owns : Owns h u slot.0 = slot.2 in
      let number : is_dead owns.owner.session ≡ true = (let n = owns.session in let more : session_count < owns.owner.session = omega (arith, dead, n) in grind (arith, nat_tests, more)) in
      let at : dead_at h slot.0 ≡ Some u = ap dead_owner owns.at ∙ (cond-true (is_dead owns.owner.session) (Some owns.owner.session) None number ∙ ap Some owns.session) in
      absurd (false≢true (sym (none slot.0 u slot.1 at) ∙ works))
]
