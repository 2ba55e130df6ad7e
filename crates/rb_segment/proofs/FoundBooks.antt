-- Each of the latest turns is in the ring, so every header in order tells a book.
use Rattle.std.proofs.Common.{◌≡◌, ◌≢◌, ◌⊎◌, inl, inr, ◌<◌, ◌≤◌, ◌+◌, ◌-◌, nat_lt, ℕ, zero, suc, true, false, if◌then◌else◌, length, get_or, None, refl, sym, ◌∙◌, ap, subst, arith}
use Rattle.std.proofs.lemmas.Bool.{cases_eq, cases_lt}
use Rattle.std.proofs.lemmas.Bool.Decides.{nat_tests}
use Rattle.std.proofs.lemmas.List.{length-map, get_or-map}
use Rattle.std.proofs.lemmas.List.FromFn.{length-map-range_with_len, get_or-map-range_with_len}
use Rattle.rb_base.specs.declared.sizes.TheConstants.{SLOTS}
use Rattle.rb_model.specs.Book.{BookSlot, free_slot}
use Rattle.rb_ring.specs.Ring.{IsRing}
use Rattle.rb_segment.specs.Books.{idle_slot, IsBook, IsOwned, IsKeptTurn, turn_number, oldest_in, book_of}
use Rattle.rb_segment.specs.Header.{Header, slot_in, ord_in, head_turn, extent_with, HeaderInOrder}
use Rattle.rb_txntable.specs.Slots.{no_slot}
use Rattle.rb_segment.proofs.Records.{finds}
use Rattle.rb_segment.proofs.Rings.{apart_in}

-- the first place with a value, or none
search_for : (k t : ℕ) (f : ℕ → ℕ) → ((e : ℕ) × (e < k) × (f e ≡ t)) ⊎ ((e : ℕ) → e < k → f e ≢ t)
search_for zero t f = inr (λ e lt. absurd (omega arith))
search_for (suc k) t f = elim (cases_eq (f k) t) [
  | inl is ↦ inl (k, omega arith, is)
  | inr ne ↦ elim (search_for k t f) [
    | inl found ↦ inl (found.0, omega (arith, found.1), found.2)
    | inr none ↦ inr (λ e lt. elim (cases_eq e k) [ inl at ↦ λ is. ne (ap f (sym at) ∙ is) | inr no_k ↦ none e (omega (arith, lt, no_k)) ])
  ]
]

-- the numbers without t, one step down from there on
abbrev without : ℕ → ℕ → ℕ
without t x = if nat_lt t x then x - 1 else x

without_apart : (t x y : ℕ) → x ≢ t → y ≢ t → x ≢ y → without t x ≢ without t y
without_apart t x y xt yt ne same = elim (cases_lt t x) [
  | inl x_up ↦
      let a : nat_lt t x ≡ true = grind (arith, nat_tests) in
      elim (cases_lt t y) [
        | inl y_up ↦ let b : nat_lt t y ≡ true = grind (arith, nat_tests) in let is : x - 1 ≡ y - 1 = rw (a, b) at same in omega (arith, is, ne, x_up, y_up)
        | inr y_low ↦ let b : nat_lt t y ≡ false = grind (arith, nat_tests) in let is : x - 1 ≡ y = rw (a, b) at same in omega (arith, is, x_up, y_low, yt)
      ]
  | inr x_low ↦
      let a : nat_lt t x ≡ false = grind (arith, nat_tests) in
      elim (cases_lt t y) [
        | inl y_up ↦ let b : nat_lt t y ≡ true = grind (arith, nat_tests) in let is : x ≡ y - 1 = rw (a, b) at same in omega (arith, is, y_up, x_low, xt)
        | inr y_low ↦ let b : nat_lt t y ≡ false = grind (arith, nat_tests) in let is : x ≡ y = rw (a, b) at same in ne is
      ]
]

without_range : (lo k t x : ℕ) → lo ≤ t → t < lo + suc k → x ≢ t → lo ≤ x → x < lo + suc k → (lo ≤ without t x) × (without t x < lo + k)
without_range lo k t x low high xt x_low x_high = elim (cases_lt t x) [
  | inl up ↦ let a : nat_lt t x ≡ true = grind (arith, nat_tests) in rw a (omega arith, omega arith)
  | inr down ↦ let a : nat_lt t x ≡ false = grind (arith, nat_tests) in rw a (omega arith, omega (arith, down, xt))
]

-- different numbers, as many as there is room for, leave none out
pub onto : (k lo : ℕ) (f : ℕ → ℕ) → ((e : ℕ) → e < k → (lo ≤ f e) × (f e < lo + k)) → ((e : ℕ) → e < k → (lower : ℕ) → lower < e → f lower ≢ f e) → (t : ℕ) → lo ≤ t → t < lo + k → (e : ℕ) × (e < k) × (f e ≡ t)
onto zero lo f range apart t low high = absurd (omega arith)
onto (suc k) lo f range apart t low high = elim (search_for (suc k) t f) [
  | inl found ↦ found
  | inr none ↦
      let last_range : (lo ≤ f k) × (f k < lo + suc k) = range k (omega arith) in
      let last : (lo ≤ without t (f k)) × (without t (f k) < lo + k) = without_range lo k t (f k) low high (none k (omega arith)) last_range.0 last_range.1 in
      let again : (e : ℕ) × (e < k) × (without t (f e) ≡ without t (f k)) = onto k lo (λ e. without t (f e)) (λ e lt. let r = range e (omega arith) in without_range lo k t (f e) low high (none e (omega arith)) r.0 r.1) (λ e lt lower below. without_apart t (f lower) (f e) (none lower (omega arith)) (none e (omega arith)) (apart e (omega arith) lower below)) (without t (f k)) last.0 last.1 in
      absurd (without_apart t (f again.0) (f k) (none again.0 (omega (arith, again.1))) (none k (omega arith)) (apart k (omega arith) again.0 again.1) again.2)
]

module _ (h : Header) (commit : ℕ) (order : HeaderInOrder commit h) where
  abbrev K : ℕ
  K = order.ring.0

  ring : IsRing (ord_in h) h.head K
  ring = order.ring.1

  -- there are no more extents in the ring than turns
  pub ring_few : K ≤ head_turn h
  ring_few = elim (cases_lt (head_turn h) K) [
    | inr le ↦ le
    | inl more ↦
        let at : (e : ℕ) × (e < K) × (ord_in h e ≡ K) = onto K 1 (ord_in h) (λ e lt. let a = ring.positive e lt in let n = (ring.near e lt).up_to in (a, omega (arith, n, more))) (λ e lt lower below. ring.apart e lt lower below) K (omega (arith, more)) (omega arith) in
        let n = (ring.near at.0 at.1).up_to in
        absurd (omega (arith, at.2, n, more))
  ]

  -- each turn of the latest is one extent's
  pub turn_kept : (turn : ℕ) → oldest_in h K ≤ turn → turn ≤ head_turn h → IsKeptTurn h turn
  turn_kept turn low high =
      let few = ring_few in
      let at : (e : ℕ) × (e < K) × (ord_in h e ≡ turn) = onto K (oldest_in h K) (ord_in h) (λ e lt. let n = ring.near e lt in (omega (arith, n.near, few), omega (arith, n.up_to, few))) (λ e lt lower below. ring.apart e lt lower below) turn low (omega (arith, high, few)) in
      (at.0, finds h.extents turn at.0 (omega (arith, at.1, ring.few, order.extents_counted)) at.2 (λ f lt is. sym (apart_in h K order.extents_counted ring at.0 f (omega (arith, at.2, low, few)) (at.2 ∙ sym is))))

  pub found_is_book : ((i : ℕ) → i < SLOTS → (slot_in h i).state ≢ 1) → IsBook h (book_of h K)
  found_is_book idle = record {
    writes = refl;
    lost = refl;
    slots = length-map h.slots idle_slot ∙ order.slots_counted;
    newest = λ i few. ap (λ (z : BookSlot). z.newest) (slot_there i few);
    owners = λ i few. subst (λ (z : BookSlot). IsOwned h (slot_in h i) z.owner) (sym (slot_there i few)) (idle i few);
    ring = subst (λ (z : ℕ). IsRing (ord_in h) h.head z) (sym many) ring;
    kept = omega (arith, many, ring_few);
    turns = λ k lt. let few = ring_few in subst (λ (z : ℕ). IsKeptTurn h (oldest_in h z + k) × (get_or (book_of h K).turns k 0 ≡ turn_number h (extent_with h.extents (oldest_in h z + k)))) (sym many) (turn_kept (oldest_in h K + k) (omega arith) (omega (arith, lt, many, few)), get_or-map-range_with_len (λ (j : ℕ). turn_number h (extent_with h.extents (oldest_in h K + j))) 0 K k k 0 (omega (arith, lt, many)) (omega arith));
  }
    where
      many : length (book_of h K).turns ≡ K
      many = length-map-range_with_len (λ (j : ℕ). turn_number h (extent_with h.extents (oldest_in h K + j))) 0 K

      slot_there : (i : ℕ) → i < SLOTS → get_or (book_of h K).slots i free_slot ≡ record { newest = (slot_in h i).newest; owner = None }
      slot_there i few = get_or-map idle_slot h.slots i no_slot free_slot (omega (arith, few, order.slots_counted))
