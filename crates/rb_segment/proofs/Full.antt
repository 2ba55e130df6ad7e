-- A book is full exactly where no extent may take the next turn.
use Rattle.std.proofs.Common.{◌≡◌, ◌≢◌, inl, inr, ◌<◌, ◌≤◌, ◌==◌, ◌&&◌, ◌||◌, ◌+◌, ◌-◌, ◌/◌, nat_le, not, ℕ, zero, suc, Bool, true, false, List, [], ◌∷◌, length, filter, get_or, Option, Some, None, refl, sym, ◌∙◌, ap, subst, arith}
use Rattle.std.specs.List.{list_any}
use Rattle.std.proofs.lemmas.Bool.{cases_eq, cases_lt, cases_Bool, and_parts, leb-true, le-leb}
use Rattle.std.proofs.lemmas.Bool.Decides.{nat_tests}
use Rattle.std.proofs.lemmas.List.Folds.{list_any_at}
use Rattle.std.proofs.Math.Nat.{div-add-mod}
use Rattle.rb_base.specs.declared.sizes.TheConstants.{SLOTS}
use Rattle.rb_ring.specs.declared.extents.TheConstants.{EXTENTS, EXTENT_RECORDS}
use Rattle.rb_model.specs.Book.{Owner, Book, free_slot, first_turn, is_pinned, is_pinned_by, needs_turn, is_full}
use Rattle.rb_ring.specs.Turns.{IsOldest, IsPinned}
use Rattle.rb_ring.specs.declared.extents.Extent.{Extent}
use Rattle.rb_segment.specs.Books.{IsOwned, oldest_in, ring_count, least_turn, is_first_in, next_is_full}
use Rattle.rb_segment.specs.Header.{Header, no_extent, slot_in, ord_in, extent_with}
use Rattle.rb_segment.specs.MoveLaws.{TellsBook}
use Rattle.rb_segment.specs.Moves.{NoneMayTurn, Pins}
use Rattle.rb_segment.specs.Running.{FirstTurns}
use Rattle.rb_segment.proofs.Books.{oldest_is, needs_is, oldest_extent, oldest_least}
use Rattle.rb_txntable.specs.Slots.{no_slot}
use Rattle.rb_txntable.specs.declared.slots.TableSlot.{TableSlot}

-- two lists alike in what tests say
any_same : {A B : Type 0} (p : A → Bool) (q : B → Bool) (xs : List A) (ys : List B) (d : A) (e : B) → length xs ≡ length ys → ((i : ℕ) → i < length xs → p (get_or xs i d) ≡ q (get_or ys i e)) → list_any p xs ≡ list_any q ys
any_same p q [] [] d e count same = refl
any_same p q [] (y ∷ ys) d e count same = absurd (omega (arith, count))
any_same p q (x ∷ xs) [] d e count same = absurd (omega (arith, count))
any_same p q (x ∷ xs) (y ∷ ys) d e count same =
    ap (λ b. b || list_any p xs) (same 0 (omega arith)) ∙ ap (λ b. q y || b) (any_same p q xs ys d e (omega (arith, count)) (λ i lt. same (suc i) (omega (arith, lt))))

-- the place of one that passes
any_at : {A : Type 0} (p : A → Bool) (d : A) (xs : List A) → list_any p xs ≡ true → (i : ℕ) × (i < length xs) × (p (get_or xs i d) ≡ true)
any_at p d [] is = absurd (let wrong : false ≡ true = is in cc)
any_at p d (x ∷ xs) is = elim (cases_Bool (p x)) [
  | inl here ↦ (0, omega arith, here)
  | inr lacks ↦ let deeper : (i : ℕ) × (i < length xs) × (p (get_or xs i d) ≡ true) = any_at p d xs (rw lacks at is) in (suc deeper.0, omega (arith, deeper.1), deeper.2)
]

-- a slot whose first turn that is
pub pins_is : (slot : TableSlot) (turn : ℕ) → slot.state ≡ 1 → slot.touched ≢ 0 → slot.first ≡ turn → is_first_in turn slot ≡ true
pins_is slot turn state touched first =
    let a : (slot.state == 1) ≡ true = grind (arith, nat_tests) in
    let b : (slot.touched == 0) ≡ false = grind (arith, nat_tests) in
    let c : (slot.first == turn) ≡ true = grind (arith, nat_tests) in
    rw (a, b, c) refl

pub is_pins : (slot : TableSlot) (turn : ℕ) → is_first_in turn slot ≡ true → (slot.state ≡ 1) × (slot.touched ≢ 0) × (slot.first ≡ turn)
is_pins slot turn is =
    let a = and_parts (slot.state == 1) (not (slot.touched == 0) && (slot.first == turn)) is in
    let b = and_parts (not (slot.touched == 0)) (slot.first == turn) a.1 in
    (by_state a.0, by_touched b.0, by_first b.1)
  where
    by_state : (slot.state == 1) ≡ true → slot.state ≡ 1
    by_state test = grind (arith, nat_tests)

    by_touched : not (slot.touched == 0) ≡ true → slot.touched ≢ 0
    by_touched test none = let same : (slot.touched == 0) ≡ true = grind (arith, nat_tests) in let wrong : false ≡ true = rw same at test in cc

    by_first : (slot.first == turn) ≡ true → slot.first ≡ turn
    by_first test = grind (arith, nat_tests)

-- the first k have a turn, and the others none
pub counted : (xs : List Extent) (k : ℕ) → k ≤ length xs → ((e : ℕ) → e < k → 1 ≤ (get_or xs e no_extent).ord) → ((e : ℕ) → k ≤ e → e < length xs → (get_or xs e no_extent).ord ≡ 0) → length (filter (λ (x : Extent). nat_le 1 x.ord) xs) ≡ k
counted [] zero le some none = refl
counted [] (suc k) le some none = absurd (omega (arith, le))
counted (x ∷ xs) zero le some none =
    let z = none 0 (omega arith) (omega arith) in
    let test : nat_le 1 x.ord ≡ false = grind (arith, nat_tests) in
    let rest : length (filter (λ (x : Extent). nat_le 1 x.ord) xs) ≡ 0 = counted xs zero (omega arith) (λ e lt. absurd (omega (arith, lt))) (λ e low high. none (suc e) (omega arith) (omega (arith, high))) in
    rw (test, rest) refl
counted (x ∷ xs) (suc k) le some none =
    let z = some 0 (omega arith) in
    let test : nat_le 1 x.ord ≡ true = grind (arith, nat_tests) in
    let rest : length (filter (λ (x : Extent). nat_le 1 x.ord) xs) ≡ k = counted xs k (omega (arith, le)) (λ e lt. some (suc e) (omega (arith, lt))) (λ e low high. none (suc e) (omega (arith, low)) (omega (arith, high))) in
    rw test (ap suc rest)

module _ (commit : ℕ) (h : Header) (b : Book) (tells : TellsBook commit h b) (turns : FirstTurns h) where
  abbrev Kept : ℕ
  Kept = length b.turns

  abbrev Oldest : ℕ
  Oldest = oldest_in h Kept

  needs : needs_turn b ≡ (h.records == EXTENT_RECORDS)
  needs = needs_is h b tells.book commit tells.order tells.count tells.begun

  -- a slot pins the oldest turn exactly where its owner does
  slot_pins : (j : ℕ) → j < SLOTS → is_first_in Oldest (slot_in h j) ≡ is_pinned_by Oldest (get_or b.slots j free_slot).owner
  slot_pins j few = by (get_or b.slots j free_slot).owner (tells.book.owners j few)
    where
      by : (o : Option Owner) → IsOwned h (slot_in h j) o → is_first_in Oldest (slot_in h j) ≡ is_pinned_by Oldest o
      by None idle = let test : ((slot_in h j).state == 1) ≡ false = grind (arith, nat_tests) in rw test refl
      by (Some o) owned =
          let active : (slot_in h j).state ≡ 1 = owned.state in
          let test : ((slot_in h j).state == 1) ≡ true = grind (arith, nat_tests) in
          let back : o.start ≡ (slot_in h j).start + 1 - 1 = let a = owned.start in omega (arith, a) in
          elim (cases_eq (slot_in h j).touched 0) [
            | inl fresh ↦
                let none : ((slot_in h j).touched == 0) ≡ true = grind (arith, nat_tests) in
                let start : o.start ≡ h.writes = sym owned.start ∙ turns.new j few active fresh in
                let a = div-add-mod o.start EXTENT_RECORDS in
                let two = tells.book.ring.few.0 in
                let few_records = tells.order.records in
                let count = tells.count in
                let ne : first_turn o ≢ Oldest = λ is. omega (arith, a, start, count, two, is) in
                let other : (first_turn o == Oldest) ≡ false = grind (arith, nat_tests) in
                rw (test, none, other) refl
            | inr some ↦
                let begun : ((slot_in h j).touched == 0) ≡ false = grind (arith, nat_tests) in
                let first : (slot_in h j).first ≡ first_turn o = (turns.begun j few active some).0 ∙ ap (λ (z : ℕ). 2 + z / EXTENT_RECORDS) (sym back) in
                rw (test, begun) (ap (λ (z : ℕ). z == Oldest) first)
          ]

  slots_pin : list_any (is_first_in Oldest) h.slots ≡ is_pinned b
  slots_pin =
      any_same (is_first_in Oldest) (λ s. is_pinned_by Oldest s.owner) h.slots b.slots no_slot free_slot (tells.order.slots_counted ∙ sym tells.book.slots) (λ i lt. slot_pins i (let s = tells.order.slots_counted in omega (arith, s, lt)))
      ∙ ap (λ (z : ℕ). list_any (λ s. is_pinned_by z s.owner) b.slots) (sym (oldest_is h b tells.book commit tells.order tells.count tells.begun))

  oldest_at : (e : ℕ) × (extent_with h.extents Oldest ≡ Some e) × (e < Kept) × (ord_in h e ≡ Oldest)
  oldest_at = oldest_extent h b tells.book commit tells.order tells.count tells.begun

  least : (f : ℕ) → 1 ≤ ord_in h f → Oldest ≤ ord_in h f
  least = oldest_least h b tells.book commit tells.order tells.count tells.begun

  is_oldest : IsOldest (ord_in h) oldest_at.0
  is_oldest = let few = tells.book.ring.few.1 in let kept = tells.book.kept in record {
    within = omega (arith, oldest_at.2, few);
    kept = omega (arith, oldest_at.3, kept);
    least = λ f f_few some. let a = least f some in omega (arith, a, oldest_at.3);
  }

  pub none_then_full : NoneMayTurn h → is_full b ≡ true
  none_then_full none =
      let low = none.full in
      let high = tells.order.records in
      let full : h.records ≡ EXTENT_RECORDS = omega (arith, low, high) in
      let head : needs_turn b ≡ true = needs ∙ (let test : (h.records == EXTENT_RECORDS) ≡ true = grind (arith, nat_tests) in test) in
      let pin : IsPinned (Pins h) Oldest = subst (λ (z : ℕ). IsPinned (Pins h) z) oldest_at.3 (none.pinned oldest_at.0 is_oldest) in
      let counted = tells.order.slots_counted in
      let pinned : is_pinned b ≡ true = sym slots_pin ∙ list_any_at (is_first_in Oldest) h.slots pin.0 no_slot (omega (arith, pin.1, counted)) (pins_is (slot_in h pin.0) Oldest pin.2.state pin.2.begun pin.2.first) in
      let eight : nat_le EXTENTS Kept ≡ true = elim (cases_lt Kept EXTENTS) [
        | inl few ↦ let out : ord_in h Kept ≡ 0 = tells.book.ring.others Kept (omega arith) few in let some = none.kept Kept few in absurd (omega (arith, out, some))
        | inr many ↦ le-leb EXTENTS Kept many
      ] in
      rw (head, pinned, eight) refl

  pub full_then_none : is_full b ≡ true → NoneMayTurn h
  full_then_none is =
      let a = and_parts (needs_turn b) (is_pinned b && nat_le EXTENTS Kept) is in
      let c = and_parts (is_pinned b) (nat_le EXTENTS Kept) a.1 in
      let eight : EXTENTS ≤ Kept = leb-true EXTENTS Kept c.1 in
      let test : (h.records == EXTENT_RECORDS) ≡ true = sym needs ∙ a.0 in
      let full : h.records ≡ EXTENT_RECORDS = grind (arith, nat_tests) in
      let some : (i : ℕ) × (i < length h.slots) × (is_first_in Oldest (slot_in h i) ≡ true) = any_at (is_first_in Oldest) no_slot h.slots (slots_pin ∙ c.0) in
      let p = is_pins (slot_in h some.0) Oldest some.2 in
      let counted = tells.order.slots_counted in
      let pin : IsPinned (Pins h) Oldest = (some.0, omega (arith, some.1, counted), record { state = p.0; begun = p.1; first = p.2 }) in
      record {
        full = omega (arith, full);
        kept = λ e few. tells.book.ring.positive e (omega (arith, few, eight));
        pinned = λ f oldest.
            let low = least f oldest.kept in
            let high = oldest.least oldest_at.0 is_oldest.within is_oldest.kept in
            let at : Oldest ≡ ord_in h f = omega (arith, low, high, oldest_at.3) in
            subst (λ (z : ℕ). IsPinned (Pins h) z) at pin;
      }

  -- there are as many extents in the ring as turns are kept
  ring_is : ring_count h ≡ Kept
  ring_is = let few = tells.book.ring.few.1 in let e = tells.order.extents_counted in counted h.extents Kept (omega (arith, few, e)) (λ e lt. tells.book.ring.positive e lt) (λ f low high. tells.book.ring.others f low (omega (arith, high, e)))

  pub next_full_is : next_is_full h ≡ is_full b
  next_full_is =
      let least_is : least_turn h ≡ Oldest = ap (oldest_in h) ring_is in
      let pinned : list_any (is_first_in (least_turn h)) h.slots ≡ is_pinned b = ap (λ (z : ℕ). list_any (is_first_in z) h.slots) least_is ∙ slots_pin in
      ap (λ (z : Bool). z && (list_any (is_first_in (least_turn h)) h.slots && (ring_count h == EXTENTS))) (sym needs)
      ∙ (ap (λ (z : Bool). needs_turn b && (z && (ring_count h == EXTENTS))) pinned ∙ ap (λ (z : Bool). needs_turn b && (is_pinned b && z)) (ap (λ (z : ℕ). z == EXTENTS) ring_is ∙ eight))
    where
      below : (n : ℕ) → n < EXTENTS → nat_le EXTENTS n ≡ false
      below n lt = grind (arith, nat_tests)

      eight : (Kept == EXTENTS) ≡ nat_le EXTENTS Kept
      eight = let few = tells.book.ring.few.1 in elim (cases_eq Kept EXTENTS) [
        | inl is ↦ let x : (Kept == EXTENTS) ≡ true = grind (arith, nat_tests) in x ∙ sym (le-leb EXTENTS Kept (omega (arith, is)))
        | inr ne ↦ let x : (Kept == EXTENTS) ≡ false = grind (arith, nat_tests) in x ∙ sym (below Kept (omega (arith, ne, few)))
      ]
