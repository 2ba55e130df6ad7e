-- The dead of a segment, or all, as they go: no slot of theirs is owned by a dead one then, and where none was nothing
-- changes.
use Rattle.std.proofs.Common.{◌≡◌, inl, inr, ◌<◌, ◌≤◌, ◌+◌, ◌-◌, ◌*◌, ◌/◌, ◌%◌, ℕ, zero, suc, Bool, true, false, List, [], ◌∷◌, length, get_or, Option, Some, None, refl, sym, ◌∙◌, ap, arith}
use Rattle.std.proofs.lemmas.Bool.{cases_Bool, cases_eq, cases_lt, cond-true, cond_both}
use Rattle.std.proofs.lemmas.Bool.Decides.{nat_tests}
use Rattle.std.proofs.lemmas.List.{get_or-set_other, get_or-set_same, set_past}
use Rattle.std.specs.List.{list_any, range_with_len}
use Rattle.rb_model.proofs.DeadLemmas.{segment_rest}
use Rattle.rb_model.specs.Book.{Owner, book_at, slot_owner}
use Rattle.rb_model.specs.Calls.{Action, key_tests}
use Rattle.rb_model.specs.Dead.{all_gone, dead_at, dead_owner, gone, is_dead, segment_cleared, without, works_at}
use Rattle.rb_model.specs.State.{Session, State, no_session, owner_at, session_count}
use Rattle.rb_model.specs.Tests.{holder, is_in_home}
use Rattle.law_blocks.specs.States.{Owns}
use Rattle.law_dead.proofs.Going.{owner_else, owner_gone}
use Rattle.law_dead.proofs.KeyTests.{holder_as, none_works, tests_as}

-- a slot of no dead one stays so
without_none : (h : State) (u e t : ℕ) → dead_at h t ≡ None → dead_at (without u e h) t ≡ None
without_none h u e t none = elim (cases_eq t u) [
  | inl at ↦ ap (dead_at (without u e h)) at ∙ ap dead_owner (owner_gone h u e)
  | inr ne ↦ ap dead_owner (owner_else h u e t ne) ∙ none
]

gone_none : (goes : State → ℕ → Bool) (h : State) (u t : ℕ) (o : Option ℕ) → dead_at h t ≡ None → dead_at (gone goes u o h) t ≡ None
gone_none goes h u t None none = none
gone_none goes h u t (Some e) none = cond_both (goes h e) (without u e h) h (λ (z : State). dead_at z t ≡ None) (λ yes. without_none h u e t none) (λ no. none)

pub stays_none : (goes : State → ℕ → Bool) (slots : List ℕ) (h : State) (t : ℕ) → dead_at h t ≡ None → dead_at (all_gone goes slots h) t ≡ None
stays_none goes [] h t none = none
stays_none goes (u ∷ slots) h t none = stays_none goes slots (gone goes u (dead_at h u) h) t (gone_none goes h u t (dead_at h u) none)

-- and one of which the dead goes is no dead one's
abbrev All : State → ℕ → Bool
All h d = true

here_none : (h : State) (t : ℕ) (o : Option ℕ) → dead_at h t ≡ o → dead_at (gone All t o h) t ≡ None
here_none h t None at = at
here_none h t (Some d) at = ap dead_owner (owner_gone h t d)

range_none : (a n : ℕ) (h : State) (t : ℕ) → a ≤ t → t < a + n → dead_at (all_gone All (range_with_len a n) h) t ≡ None
range_none a zero h t low high = absurd (omega (arith, low, high))
range_none a (suc n) h t low high = elim (cases_eq t a) [
  | inl at ↦ stays_none All (range_with_len (a + 1) n) (gone All a (dead_at h a) h) t (ap (dead_at (gone All a (dead_at h a) h)) at ∙ here_none h a (dead_at h a) refl)
  | inr ne ↦ range_none (a + 1) n (gone All a (dead_at h a) h) t (omega (arith, low, ne)) (omega (arith, high))
]

-- behind a segment that is cleared none of its slots is a dead one's
pub cleared_none : (h : State) (g i : ℕ) → i < 16 → dead_at (segment_cleared g h) (16 * g + i) ≡ None
cleared_none h g i within = range_none (16 * g) 16 h (16 * g + i) (omega arith) (omega (arith, within))

pub none_living : (o : Owner) → dead_owner (Some o) ≡ None → o.session ≤ session_count
none_living o none = elim (cases_Bool (is_dead o.session)) [
  | inr alive ↦ grind (arith, nat_tests, alive)
  | inl dead ↦ let never : Some o.session ≡ None = sym (cond-true (is_dead o.session) (Some o.session) None dead) ∙ none in absurd cc
]

pub cleared_living : (h : State) (g i : ℕ) (o : Owner) → i < 16 → slot_owner (book_at (segment_cleared g h).books g) i ≡ Some o → o.session ≤ session_count
cleared_living h g i o within at =
    let seg : (16 * g + i) / 16 ≡ g = omega (arith, within) in
    let slot : (16 * g + i) % 16 ≡ i = omega (arith, within) in
    let here : owner_at (segment_cleared g h) (16 * g + i) ≡ Some o =
    ap (λ (z : ℕ). slot_owner (book_at (segment_cleared g h).books z) ((16 * g + i) % 16)) seg ∙ (ap (slot_owner (book_at (segment_cleared g h).books g)) slot ∙ at) in
    none_living o (sym (ap dead_owner here) ∙ cleared_none h g i within)

-- where no slot is a dead one's none goes
pub none_goes : (goes : State → ℕ → Bool) (a n : ℕ) (h : State) → ((t : ℕ) → a ≤ t → t < a + n → dead_at h t ≡ None) → all_gone goes (range_with_len a n) h ≡ h
none_goes goes a zero h none = refl
none_goes goes a (suc n) h none =
    ap (λ (o : Option ℕ). all_gone goes (range_with_len (a + 1) n) (gone goes a o h)) (none a (omega arith) (omega arith))
    ∙ none_goes goes (a + 1) n h (λ t low high. none t (omega (arith, low)) (omega (arith, high)))

pub cleared_keeps : (h : State) (g : ℕ) → ((i : ℕ) → i < 16 → dead_at h (16 * g + i) ≡ None) → segment_cleared g h ≡ h
cleared_keeps h g none = none_goes All (16 * g) 16 h (λ t low high.
    let at : 16 * g + (t - 16 * g) ≡ t = omega (arith, low) in
    sym (ap (dead_at h) at) ∙ none (t - 16 * g) (omega (arith, high, low)))

-- No session works in a home that did not before.
works_less : (table key : ℕ) (h : State) (t d u : ℕ) → works_at table key h u ≡ false → works_at table key (without t d h) u ≡ false
works_less table key h t d u none = elim (cases_eq (u - 1) (d - 1)) [
  | inr ne ↦ ap (λ (z : Session). list_any (is_in_home h.shape table key) z.own) (get_or-set_other h.sessions (d - 1) (u - 1) (record no_session { cursors = [] }) no_session ne) ∙ none
  | inl at ↦ elim (cases_lt (d - 1) (length h.sessions)) [
    | inl there ↦
        ap (λ (z : ℕ). list_any (is_in_home h.shape table key) (get_or (without t d h).sessions z no_session).own) at
        ∙ ap (λ (z : Session). list_any (is_in_home h.shape table key) z.own) (get_or-set_same h.sessions (d - 1) (record no_session { cursors = [] }) no_session there)
    | inr past ↦ ap (λ (l : List Session). list_any (is_in_home h.shape table key) (get_or l (u - 1) no_session).own) (set_past h.sessions (d - 1) (record no_session { cursors = [] }) past) ∙ none
  ]
]

all_less : (table key : ℕ) (goes : State → ℕ → Bool) (slots : List ℕ) (h : State) (u : ℕ) → works_at table key h u ≡ false → works_at table key (all_gone goes slots h) u ≡ false
all_less table key goes [] h u none = none
all_less table key goes (t ∷ slots) h u none = all_less table key goes slots (gone goes t (dead_at h t) h) u (by (dead_at h t))
  where
    by : (o : Option ℕ) → works_at table key (gone goes t o h) u ≡ false
    by None = none
    by (Some d) = cond_both (goes h d) (without t d h) h (λ (z : State). works_at table key z u ≡ false) (λ yes. works_less table key h t d u none) (λ no. none)

-- What a write's tests ask of its key stays as the dead of a segment go that have no change in its home.
pub key_tests_stay : (h : State) (g s table key : ℕ) (action : Action) → 1 ≤ s → s ≤ session_count
    → ((t d : ℕ) → t < 16 * h.shape.segments → dead_at h t ≡ Some d → works_at table key h d ≡ false)
    → ((u : ℕ) → 1 ≤ u → works_at table key h u ≡ true → (t : ℕ) × (t < 16 * h.shape.segments) × Owns h u t)
    → key_tests (segment_cleared g h) s table key action ≡ key_tests h s table key action
key_tests_stay h g s table key action low high none has_slot =
    let no_work = none_works h table key none has_slot in
    tests_as h (segment_cleared g h) table key (segment_rest g h) no_work
    (λ u dead. all_less table key All (range_with_len (16 * g) 16) h u (no_work u dead)) s action low high

-- So does who holds the key.
pub holder_stays : (h : State) (g table key : ℕ)
    → ((t d : ℕ) → t < 16 * h.shape.segments → dead_at h t ≡ Some d → works_at table key h d ≡ false)
    → ((u : ℕ) → 1 ≤ u → works_at table key h u ≡ true → (t : ℕ) × (t < 16 * h.shape.segments) × Owns h u t)
    → holder (segment_cleared g h) table key ≡ holder h table key
holder_stays h g table key none has_slot =
    let no_work = none_works h table key none has_slot in
    holder_as h (segment_cleared g h) table key (segment_rest g h) no_work
    (λ u dead. all_less table key All (range_with_len (16 * g) 16) h u (no_work u dead))
