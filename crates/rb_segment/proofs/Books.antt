-- A header goes on telling the book of its segment: the moves of one are those of the other.
use Rattle.std.proofs.Common.{◌≡◌, ◌≢◌, ◌⊎◌, inl, inr, ⊎_elim, ◌<◌, ◌≤◌, ◌==◌, ◌&&◌, ◌+◌, ◌-◌, ◌*◌, ◌/◌, ◌%◌, ◌++◌, ℕ, zero, suc, Bool, true, false, nat_le, List, [], ◌∷◌, length, get_or, Option, Some, None, refl, sym, ◌∙◌, ap, subst, arith, add-one}
use Rattle.std.specs.List.{list_any, AllByRecursion}
use Rattle.std.proofs.lemmas.Bool.{cases_eq}
use Rattle.std.proofs.lemmas.List.Folds.{list_any_at}
use Rattle.std.proofs.lemmas.Bool.Decides.{nat_tests}
use Rattle.std.proofs.Math.Nat.{div-add-mod, mod-lt}
use Rattle.rb_base.specs.declared.sizes.TheConstants.{SLOTS}
use Rattle.rb_ring.specs.declared.extents.TheConstants.{EXTENT_RECORDS}
use Rattle.rb_model.specs.Book.{Owner, Book, free_slot, last_turn, oldest_turn, first_turn, is_pinned, is_pinned_by, needs_turn, oldest_number, later_numbers, turn_of}
use Rattle.rb_ring.specs.Turns.{IsPinned}
use Rattle.rb_segment.specs.Books.{IsOwner, IsOwned, IsKeptTurn, oldest_in, IsBook}
use Rattle.rb_segment.specs.Header.{Header, slot_in, ord_in, head_turn, extent_with, HeaderInOrder}
use Rattle.rb_segment.specs.Moves.{Ring, Pins}
use Rattle.rb_segment.proofs.Records.{found}
use Rattle.rb_segment.proofs.Rings.{ring_of, within_ring}

-- what holds of each
any_false : {A : Type 0} (p : A → Bool) (d : A) (xs : List A) → ((j : ℕ) → j < length xs → p (get_or xs j d) ≡ false) → list_any p xs ≡ false
any_false p d [] all = refl
any_false p d (x ∷ xs) all = let here : p x ≡ false = all 0 (omega arith) in let deeper : list_any p xs ≡ false = any_false p d xs (λ j lt. all (suc j) (omega arith)) in rw (here, deeper) refl

-- turns in a range don't name one out of it
pub none_out : (lo hi turn : ℕ) (ts : List ℕ) → AllByRecursion (λ t. (lo ≤ t) × (t ≤ hi)) ts → (turn < lo) ⊎ (hi < turn) → list_any (λ t. t == turn) ts ≡ false
none_out lo hi turn [] all out = refl
none_out lo hi turn (t ∷ ts) all out =
    let ne : t ≢ turn = λ is. ⊎_elim (λ low. omega (arith, low, all.0.0, is)) (λ high. omega (arith, high, all.0.1, is)) out in
    let test : (t == turn) ≡ false = grind (arith, nat_tests) in
    let deeper : list_any (λ t. t == turn) ts ≡ false = none_out lo hi turn ts all.1 out in
    rw (test, deeper) refl

pub wider : (lo hi hi2 : ℕ) (ts : List ℕ) → hi ≤ hi2 → AllByRecursion (λ t. (lo ≤ t) × (t ≤ hi)) ts → AllByRecursion (λ t. (lo ≤ t) × (t ≤ hi2)) ts
wider lo hi hi2 [] le all = tt
wider lo hi hi2 (t ∷ ts) le all = ((all.0.0, omega (arith, all.0.1)), wider lo hi hi2 ts le all.1)

-- a number that takes its place behind the others but the first
pub get_back : (ts : List ℕ) (k : ℕ) → get_or (later_numbers ts) k 0 ≡ get_or ts (k + 1) 0
get_back [] k = refl
get_back (t ∷ ts) k = rw (add-one) refl

pub length_back : (ts : List ℕ) → length (later_numbers ts) ≡ length ts - 1
length_back [] = refl
length_back (t ∷ ts) = omega arith

pub get_front : (ts : List ℕ) → oldest_number ts ≡ get_or ts 0 0
get_front [] = refl
get_front (t ∷ ts) = refl

pub get_end : (ts : List ℕ) (k : ℕ) → get_or (ts ++ 0 ∷ []) k 0 ≡ get_or ts k 0
get_end [] zero = refl
get_end [] (suc k) = refl
get_end (t ∷ ts) zero = refl
get_end (t ∷ ts) (suc k) = get_end ts k

module _ (h : Header) (b : Book) (book : IsBook h b) (commit : ℕ) (order : HeaderInOrder commit h) (count : h.writes + 2 * EXTENT_RECORDS ≡ EXTENT_RECORDS * head_turn h + h.records) (begun : h.records ≡ 0 → h.writes ≡ 0) where
  abbrev Kept : ℕ
  Kept = length b.turns

  ring_is : Ring h
  ring_is = ring_of h Kept order.extents_counted book.ring order.records count

  -- the head has the turn of the last record
  pub last_is : last_turn b ≡ head_turn h
  last_is =
      let few = order.records in
      let two = ring_is.second in
      let a = div-add-mod (b.writes - 1) EXTENT_RECORDS in
      let c = mod-lt (b.writes - 1) (positive) in
      elim (cases_eq h.records 0) [
        | inl none ↦ let w : h.writes ≡ 0 = begun none in omega (arith, book.writes, w, count, none)
        | inr some ↦ omega (arith, a, c, book.writes, count, few, some)
      ]
    where
      positive : 0 < EXTENT_RECORDS
      positive = omega arith

  pub oldest_is : oldest_turn b ≡ oldest_in h Kept
  oldest_is = ap (λ (z : ℕ). z + 1 - Kept) last_is

  -- a turn is needed exactly where the head is full
  pub needs_is : needs_turn b ≡ (h.records == EXTENT_RECORDS)
  needs_is = elim (cases_eq h.records EXTENT_RECORDS) [
    | inl full ↦
        let test : (h.records == EXTENT_RECORDS) ≡ true = grind (arith, nat_tests) in
        let w : b.writes ≡ EXTENT_RECORDS * (head_turn h - 1) = omega (arith, book.writes, count, full) in
        let some : nat_le 1 b.writes ≡ true = let two = ring_is.second in let le : 1 ≤ b.writes = omega (arith, w, two) in grind (arith, nat_tests) in
        let rest : b.writes % EXTENT_RECORDS ≡ 0 = let a = div-add-mod b.writes EXTENT_RECORDS in let c = mod-lt b.writes (positive) in omega (arith, a, c, w) in
        let last : (b.writes % EXTENT_RECORDS == 0) ≡ true = grind (arith, nat_tests) in
        rw (test, some, last) refl
    | inr room ↦
        let test : (h.records == EXTENT_RECORDS) ≡ false = grind (arith, nat_tests) in
        elim (cases_eq h.records 0) [
          | inl none ↦ let w : b.writes ≡ 0 = book.writes ∙ begun none in let no : nat_le 1 b.writes ≡ false = grind (arith, nat_tests) in rw (test, no) refl
          | inr some ↦
              let few = order.records in
              let rest : b.writes % EXTENT_RECORDS ≢ 0 = λ is. let a = div-add-mod b.writes EXTENT_RECORDS in omega (arith, a, is, book.writes, count, few, room, some) in
              let no : (b.writes % EXTENT_RECORDS == 0) ≡ false = grind (arith, nat_tests) in
              rw (test, no) (and_false (nat_le 1 b.writes))
        ]
  ]
    where
      positive : 0 < EXTENT_RECORDS
      positive = omega arith

      and_false : (a : Bool) → (a && false) ≡ false
      and_false true = refl
      and_false false = refl

  abbrev Oldest : ℕ
  Oldest = oldest_in h Kept

  -- the oldest kept turn is in an extent of the ring, and no turn of the ring is older
  pub oldest_extent : (e : ℕ) × (extent_with h.extents Oldest ≡ Some e) × (e < Kept) × (ord_in h e ≡ Oldest)
  oldest_extent =
      let kept : IsKeptTurn h (Oldest + 0) = (book.turns 0 (omega (arith, book.ring.few.0))).0 in
      let same : Oldest + 0 ≡ Oldest = omega arith in
      let there : extent_with h.extents Oldest ≡ Some kept.0 = subst (λ (z : ℕ). extent_with h.extents z ≡ Some kept.0) same kept.1 in
      let f : (kept.0 < length h.extents) × (ord_in h kept.0 ≡ Oldest) = found h.extents Oldest kept.0 there in
      (kept.0, there, within_ring h Kept order.extents_counted book.ring kept.0 (omega (arith, f.1, book.kept)), f.1)

  pub oldest_least : (f : ℕ) → 1 ≤ ord_in h f → Oldest ≤ ord_in h f
  oldest_least f some = let n = book.ring.near f (within_ring h Kept order.extents_counted book.ring f some) in omega (arith, n.near)

  -- a slot that began in a turn of the ring pins the oldest exactly where that is its first
  owner_at : (j : ℕ) → j < SLOTS → (slot_in h j).state ≡ 1 → (o : Owner) × ((get_or b.slots j free_slot).owner ≡ Some o) × IsOwner h (slot_in h j) o
  owner_at j few active = by (get_or b.slots j free_slot).owner refl (book.owners j few)
    where
      by : (o : Option Owner) → (get_or b.slots j free_slot).owner ≡ o → IsOwned h (slot_in h j) o → (o : Owner) × ((get_or b.slots j free_slot).owner ≡ Some o) × IsOwner h (slot_in h j) o
      by None is owned = absurd (owned active)
      by (Some o) is owned = (o, is, owned)

  pinned_by : (j : ℕ) → j < SLOTS → (slot_in h j).state ≡ 1 → turn_of ((slot_in h j).start + 1) ≡ Oldest → is_pinned_by Oldest (get_or b.slots j free_slot).owner ≡ true
  pinned_by j few active first =
      let o : (o : Owner) × ((get_or b.slots j free_slot).owner ≡ Some o) × IsOwner h (slot_in h j) o = owner_at j few active in
      let same : o.0.start + 1 - 1 ≡ (slot_in h j).start + 1 - 1 = let a = o.2.start in omega (arith, a) in
      let turn : first_turn o.0 ≡ Oldest = let a = o.2.start in let back : o.0.start ≡ (slot_in h j).start + 1 - 1 = omega (arith, a) in ap (λ (z : ℕ). 2 + z / EXTENT_RECORDS) back ∙ first in
      let test : (first_turn o.0 == Oldest) ≡ true = grind (arith, nat_tests) in
      ap (is_pinned_by Oldest) o.1 ∙ test

  -- the book is pinned where the header is
  pub pinned_is : (keeps : (j : ℕ) → j < SLOTS → (slot_in h j).state ≡ 1 → (slot_in h j).touched ≢ 0 → (slot_in h j).first ≡ turn_of ((slot_in h j).start + 1)) → IsPinned (Pins h) Oldest → is_pinned b ≡ true
  pinned_is keeps pin = ap (λ (z : ℕ). list_any (λ s. is_pinned_by z s.owner) b.slots) oldest_is ∙ list_any_at (λ s. is_pinned_by Oldest s.owner) b.slots pin.0 free_slot (omega (arith, pin.1, book.slots)) (pinned_by pin.0 pin.1 pin.2.state (sym (keeps pin.0 pin.1 pin.2.state pin.2.begun) ∙ pin.2.first))

  -- and isn't where that isn't; a transaction that has no record yet began in the turn that comes
  pub free_is : (full : h.records ≡ EXTENT_RECORDS) → (keeps : (j : ℕ) → j < SLOTS → (slot_in h j).state ≡ 1 → (slot_in h j).touched ≢ 0 → (slot_in h j).first ≡ turn_of ((slot_in h j).start + 1)) → (new : (j : ℕ) → j < SLOTS → (slot_in h j).state ≡ 1 → (slot_in h j).touched ≡ 0 → (slot_in h j).start ≡ h.writes) → ((j : ℕ) → (slot_in h j).state ≡ 1 → (slot_in h j).touched ≢ 0 → (slot_in h j).first ≢ Oldest) → is_pinned b ≡ false
  free_is full keeps new free = ap (λ (z : ℕ). list_any (λ s. is_pinned_by z s.owner) b.slots) oldest_is ∙ any_false (λ s. is_pinned_by Oldest s.owner) free_slot b.slots (λ j lt. none j (omega (arith, lt, book.slots)) (get_or b.slots j free_slot).owner (book.owners j (omega (arith, lt, book.slots))))
    where
      none : (j : ℕ) → j < SLOTS → (o : Option Owner) → IsOwned h (slot_in h j) o → is_pinned_by Oldest o ≡ false
      none j few None owned = refl
      none j few (Some o) owned =
          let back : o.start ≡ (slot_in h j).start + 1 - 1 = let a = owned.start in omega (arith, a) in
          let turn : first_turn o ≡ turn_of ((slot_in h j).start + 1) = ap (λ (z : ℕ). 2 + z / EXTENT_RECORDS) back in
          let ne : first_turn o ≢ Oldest = elim (cases_eq (slot_in h j).touched 0) [
            | inl fresh ↦ λ is.
                let s = new j few owned.state fresh in
                let w : o.start ≡ h.writes = sym owned.start ∙ s in
                let a = div-add-mod o.start EXTENT_RECORDS in
                omega (arith, a, w, count, full, is, book.ring.few)
            | inr some ↦ λ is. free j owned.state some (keeps j few owned.state some ∙ (sym turn ∙ is))
          ] in
          let test : (first_turn o == Oldest) ≡ false = grind (arith, nat_tests) in
          test
