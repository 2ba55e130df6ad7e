-- The transaction of a slot ends without a number: its segment ages, and stays in order.
use Rattle.std.proofs.Common.{◌≡◌, ◌≢◌, inl, inr, ◌<◌, ◌≤◌, ◌==◌, ◌+◌, ℕ, true, false, nat_lt, length, Option, Some, None, refl, sym, ◌∙◌, ap, subst, arith}
use Rattle.std.proofs.lemmas.Bool.{cases_eq, cases_lt}
use Rattle.std.proofs.lemmas.Bool.Decides.{nat_tests}
use Rattle.std.proofs.lemmas.List.{get_or-set_same, get_or-set_other, length-set}
use Rattle.rb_base.specs.declared.sizes.TheConstants.{SLOTS}
use Rattle.rb_model.specs.Book.{turn_of}
use Rattle.rb_segment.specs.Header.{Segment, SlotInOrder, SlotNumbers, SegmentInOrder, slot_in, extent_with, limit_by}
use Rattle.rb_segment.specs.Moves.{ended, with_header, SegmentAges}
use Rattle.rb_segment.proofs.Moments.{look_is}
use Rattle.rb_segment.proofs.SegmentWritten.{slots_set}
use Rattle.rb_txntable.specs.Looks.{slot_look, LookAges}
use Rattle.rb_txntable.specs.Slots.{no_slot}
use Rattle.rb_txntable.specs.declared.looks.Look.TheVariants.{Active, Before}
use Rattle.rb_txntable.specs.declared.slots.TableSlot.{TableSlot}

module _ (s : Segment) (i : ℕ) (within : i < length s.header.slots) (active : (slot_in s.header i).state ≡ 1) where
  abbrev Ended : Segment
  Ended = with_header (ended i s.header) s

  pub ended_slot : slot_in Ended.header i ≡ (let x = slot_in s.header i in record x { state = 3 })
  ended_slot = get_or-set_same s.header.slots i (let x = slot_in s.header i in record x { state = 3 }) no_slot within

  pub ended_other : (j : ℕ) → j ≢ i → slot_in Ended.header j ≡ slot_in s.header j
  ended_other j ne = get_or-set_other s.header.slots i j (let x = slot_in s.header i in record x { state = 3 }) no_slot ne

  pub ended_wrap : (j : ℕ) → (slot_in Ended.header j).wrap ≡ (slot_in s.header j).wrap
  ended_wrap j = elim (cases_eq j i) [
    | inl at ↦ subst (λ (z : ℕ). (slot_in Ended.header z).wrap ≡ (slot_in s.header z).wrap) (sym at) (ap (λ (z : TableSlot). z.wrap) ended_slot)
    | inr ne ↦ ap (λ (z : TableSlot). z.wrap) (ended_other j ne)
  ]

  pub ended_done : (slot_in Ended.header i).state ≢ 1
  ended_done is = let three : (slot_in Ended.header i).state ≡ 3 = ap (λ (z : TableSlot). z.state) ended_slot in omega (arith, is, three)

  -- the looks of its own wrap end, and the others are what they were
  ended_look : (wrap : ℕ) → LookAges s.header.lost s.header.lost (slot_look (slot_in s.header i) wrap) (slot_look (slot_in Ended.header i) wrap)
  ended_look wrap = subst (λ (z : TableSlot). LookAges s.header.lost s.header.lost (slot_look (slot_in s.header i) wrap) (slot_look z wrap)) (sym ended_slot) (elim (cases_lt (slot_in s.header i).wrap wrap) [
    | inl above ↦ let test : nat_lt (slot_in s.header i).wrap wrap ≡ true = grind (arith, nat_tests) in rw test tt
    | inr upto ↦
        let test : nat_lt (slot_in s.header i).wrap wrap ≡ false = grind (arith, nat_tests) in
        let one : ((slot_in s.header i).state == 1) ≡ true = grind (arith, nat_tests) in
        let two : ((slot_in s.header i).state == 2) ≡ false = grind (arith, nat_tests) in
        elim (cases_eq (slot_in s.header i).wrap wrap) [
          | inl own_wrap ↦ let at : ((slot_in s.header i).wrap == wrap) ≡ true = grind (arith, nat_tests) in rw (test, at, one) tt
          | inr older ↦ let at : ((slot_in s.header i).wrap == wrap) ≡ false = grind (arith, nat_tests) in rw (test, at, two) (omega arith, λ is. omega arith)
        ]
  ])

  ended_active : (wrap : ℕ) → slot_look (slot_in Ended.header i) wrap ≡ Active → slot_look (slot_in s.header i) wrap ≡ Active
  ended_active wrap is = elim (cases_lt (slot_in s.header i).wrap wrap) [
    | inl above ↦ let test : nat_lt (slot_in s.header i).wrap wrap ≡ true = grind (arith, nat_tests) in rw test refl
    | inr upto ↦
        let test : nat_lt (slot_in s.header i).wrap wrap ≡ false = grind (arith, nat_tests) in
        let one : ((slot_in s.header i).state == 1) ≡ true = grind (arith, nat_tests) in
        elim (cases_eq (slot_in s.header i).wrap wrap) [
          | inl own_wrap ↦ let at : ((slot_in s.header i).wrap == wrap) ≡ true = grind (arith, nat_tests) in rw (test, at, one) refl
          | inr older ↦
              let at : ((slot_in s.header i).wrap == wrap) ≡ false = grind (arith, nat_tests) in
              let now : slot_look (slot_in Ended.header i) wrap ≡ Before (slot_in s.header i).newest = ap (λ (z : TableSlot). slot_look z wrap) ended_slot ∙ rw (test, at) refl in
              absurd (cc)
        ]
  ]

  limit_ended : (o : Option ℕ) → limit_by s.header o ≤ limit_by Ended.header o
  limit_ended None = omega arith
  limit_ended (Some e) = omega arith

  pub end_ages : SegmentAges (λ j. j ≢ i) s Ended
  end_ages = record {
    lost = omega arith;
    writes = omega arith;
    looks = λ j wrap. elim (cases_eq j i) [
      | inl at ↦ subst (λ (z : ℕ). LookAges s.header.lost s.header.lost (slot_look (slot_in s.header z) wrap) (slot_look (slot_in Ended.header z) wrap)) (sym at) (ended_look wrap)
      | inr ne ↦ look_is s.header.lost s.header.lost (slot_look (slot_in s.header j) wrap) (slot_look (slot_in Ended.header j) wrap) (omega arith) (ap (λ (z : TableSlot). slot_look z wrap) (ended_other j ne))
    ];
    active = λ j wrap is. elim (cases_eq j i) [
      | inl at ↦ subst (λ (z : ℕ). slot_look (slot_in s.header z) wrap ≡ Active) (sym at) (ended_active wrap (subst (λ (z : ℕ). slot_look (slot_in Ended.header z) wrap ≡ Active) at is))
      | inr ne ↦ ap (λ (z : TableSlot). slot_look z wrap) (sym (ended_other j ne)) ∙ is
    ];
    records = λ k r le is. is;
    limit = λ k le. limit_ended (extent_with s.header.extents (turn_of k));
    wrap = λ j ne. ended_wrap j;
    goes_on = λ j ne is. ap (λ (z : TableSlot). slot_look z (slot_in s.header j).wrap) (ended_other j ne) ∙ is;
    kept = λ j k r ne slot wrap is. is;
  }

  module _ (commit logged : ℕ) (few_i : i < SLOTS) (order : SegmentInOrder commit logged s) where
    pub end_order : SegmentInOrder commit (logged + 1) Ended
    end_order = let o = order.header.slots i few_i in let n = order.numbers.slots i few_i in record {
      header = record {
        slots_counted = simp length-set order.header.slots_counted;
        extents_counted = order.header.extents_counted;
        ring = order.header.ring;
        records = order.header.records;
        slots = slots_set (SlotInOrder commit) s.header.slots i (let x = slot_in s.header i in record x { state = 3 }) within (record { state = omega arith; before = o.before; newest = o.newest }) (λ j few ne. order.header.slots j few);
        lost = order.header.lost;
        newest = order.header.newest;
      };
      undo_counted = order.undo_counted;
      numbers = record {
        writes = omega (arith, order.numbers.writes);
        records = λ k r is. let a = order.numbers.records k r is in let b = ended_wrap r.slot in omega (arith, a, b);
        count = order.numbers.count;
        begun = order.numbers.begun;
        slots = slots_set (SlotNumbers (logged + 1) s.header.lost) s.header.slots i (let x = slot_in s.header i in record x { state = 3 }) within (record { wrap = omega (arith, n.wrap); newest = omega (arith, n.newest); before = n.before; not_lost = λ is. n.not_lost (λ two. let one : (slot_in s.header i).state ≡ 1 = active in omega (arith, one, two)) }) (λ j few ne. let k = order.numbers.slots j few in record { wrap = omega (arith, k.wrap); newest = omega (arith, k.newest); before = k.before; not_lost = k.not_lost });
      };
    }
