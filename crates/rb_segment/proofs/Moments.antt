-- Each move of a write only ages what its segment says.
use Rattle.std.proofs.Common.{◌*◌, ◌≡◌, ◌≢◌, inl, inr, ◌<◌, ◌≤◌, ◌==◌, ◌+◌, ◌/◌, ◌%◌, ◌^◌, ℕ, true, false, nat_lt, if◌then◌else◌, length, Option, Some, None, refl, sym, ◌∙◌, ap, subst, arith}
use Rattle.std.proofs.lemmas.Bool.{cases_eq, cases_lt}
use Rattle.std.proofs.lemmas.Bool.Decides.{nat_tests}
use Rattle.std.proofs.lemmas.List.{get_or-set_same, get_or-set_other, set_past}
use Rattle.std.proofs.lemmas.Nat.{pow_pos, div_below}
use Rattle.rb_base.specs.declared.sizes.TheConstants.{SLOTS}
use Rattle.rb_ring.specs.declared.extents.TheConstants.{EXTENTS, EXTENT_RECORDS}
use Rattle.rb_base.specs.declared.ids.Uba.{Uba}
use Rattle.rb_model.specs.Book.{turn_of}
use Rattle.rb_ring.specs.declared.extents.Extent.{Extent}
use Rattle.rb_segment.proofs.MayTurns.{may_oldest, may_free}
use Rattle.rb_segment.specs.Header.{Header, Segment, no_extent, slot_in, extent_in, ord_in, head_turn, record_in, limit_in, limit_by, extent_with, has_bit}
use Rattle.rb_segment.specs.Moves.{claimed_slot, added_slot, claimed, turned, with_header, with_record, Ring, MayTurn, SegmentAges}
use Rattle.rb_segment.specs.Running.{KeepsRecords, Touches}
use Rattle.rb_txntable.specs.Looks.{slot_look, LookAges}
use Rattle.rb_txntable.specs.Slots.{no_slot}
use Rattle.rb_txntable.specs.declared.looks.Look.{Look}
use Rattle.rb_txntable.specs.declared.looks.Look.TheVariants.{Active, At, Before}
use Rattle.rb_txntable.specs.declared.slots.TableSlot.{TableSlot}
use Rattle.rb_undoblock.specs.declared.record.UndoRecord.{UndoRecord}
use Rattle.rb_segment.proofs.Records.{some_cases, found, made_of, turn_up_to, turned_others, turned_gone, turned_records, added_others}

pub look_same : (lost lost2 : ℕ) (look : Look) → lost ≤ lost2 → LookAges lost lost2 look look
look_same lost lost2 Active le = tt
look_same lost lost2 (At c) le = refl
look_same lost lost2 (Before b) le = (omega arith, λ is. omega arith)

-- a look that is the same in other words
pub look_is : (lost lost2 : ℕ) (look look2 : Look) → lost ≤ lost2 → look2 ≡ look → LookAges lost lost2 look look2
look_is lost lost2 look look2 le is = subst (λ (z : Look). LookAges lost lost2 look z) (sym is) (look_same lost lost2 look le)

look_joined : (l1 l2 l3 : ℕ) (a b c : Look) → l1 ≤ l2 → l2 ≤ l3 → (b ≡ Active → a ≡ Active) → LookAges l1 l2 a b → LookAges l2 l3 b c → LookAges l1 l3 a c
look_joined l1 l2 l3 Active b c le le2 active one two = tt
look_joined l1 l2 l3 (At n) Active c le le2 active one two = absurd one
look_joined l1 l2 l3 (At n) (At k) Active le le2 active one two = absurd two
look_joined l1 l2 l3 (At n) (At k) (At j) le le2 active one two = one ∙ two
look_joined l1 l2 l3 (At n) (At k) (Before b) le le2 active one two = (omega (arith, one, two.0), two.1)
look_joined l1 l2 l3 (At n) (Before k) Active le le2 active one two = absurd two
look_joined l1 l2 l3 (At n) (Before k) (At j) le le2 active one two = absurd two
look_joined l1 l2 l3 (At n) (Before k) (Before b) le le2 active one two = (omega (arith, one.0, two.0), two.1 one.1)
look_joined l1 l2 l3 (Before n) Active c le le2 active one two = absurd one
look_joined l1 l2 l3 (Before n) (At k) c le le2 active one two = absurd one
look_joined l1 l2 l3 (Before n) (Before k) Active le le2 active one two = absurd two
look_joined l1 l2 l3 (Before n) (Before k) (At j) le le2 active one two = absurd two
look_joined l1 l2 l3 (Before n) (Before k) (Before b) le le2 active one two = (omega (arith, one.0, two.0), λ is. two.1 (one.1 is))

pub ages_same : (goes : ℕ → Type 0) (s : Segment) → SegmentAges goes s s
ages_same goes s = record {
  lost = omega arith;
  writes = omega arith;
  looks = λ i wrap. look_same s.header.lost s.header.lost (slot_look (slot_in s.header i) wrap) (omega arith);
  active = λ i wrap is. is;
  records = λ i r le is. is;
  limit = λ i le. omega arith;
  wrap = λ i goes. refl;
  goes_on = λ i goes is. is;
  kept = λ i k r goes slot wrap is. is;
}

pub ages_joined : (goes : ℕ → Type 0) (s t u : Segment) → SegmentAges goes s t → SegmentAges goes t u → SegmentAges goes s u
ages_joined goes s t u one two = record {
  lost = omega (arith, one.lost, two.lost);
  writes = omega (arith, one.writes, two.writes);
  looks = λ i wrap. look_joined s.header.lost t.header.lost u.header.lost (slot_look (slot_in s.header i) wrap) (slot_look (slot_in t.header i) wrap) (slot_look (slot_in u.header i) wrap) one.lost two.lost (one.active i wrap) (one.looks i wrap) (two.looks i wrap);
  active = λ i wrap is. one.active i wrap (two.active i wrap is);
  records = λ i r le is. one.records i r le (two.records i r (omega (arith, le, one.writes)) is);
  limit = λ i le. let a = one.limit i le in let b = two.limit i (omega (arith, le, one.writes)) in omega (arith, a, b);
  wrap = λ i g. two.wrap i g ∙ one.wrap i g;
  goes_on = λ i g is.
      let same : (slot_in t.header i).wrap ≡ (slot_in s.header i).wrap = one.wrap i g in
      subst (λ (z : ℕ). slot_look (slot_in u.header i) z ≡ Active) same (two.goes_on i g (subst (λ (z : ℕ). slot_look (slot_in t.header i) z ≡ Active) (sym same) (one.goes_on i g is)));
  kept = λ i k r g slot wrap is. two.kept i k r g slot (wrap ∙ sym (one.wrap i g)) (one.kept i k r g slot wrap is);
}

-- of fewer slots that go on
pub ages_fewer : (goes goes2 : ℕ → Type 0) (s s2 : Segment) → ((i : ℕ) → goes2 i → goes i) → SegmentAges goes s s2 → SegmentAges goes2 s s2
ages_fewer goes goes2 s s2 of ages = record {
  lost = ages.lost;
  writes = ages.writes;
  looks = ages.looks;
  active = ages.active;
  records = ages.records;
  limit = ages.limit;
  wrap = λ i g. ages.wrap i (of i g);
  goes_on = λ i g is. ages.goes_on i (of i g) is;
  kept = λ i k r g slot wrap is. ages.kept i k r (of i g) slot wrap is;
}

limit_rises : (h : Header) (lost : ℕ) (o : Option ℕ) → h.lost ≤ lost → limit_by h o ≤ limit_by (record h { lost = lost }) o
limit_rises h lost None le = le
limit_rises h lost (Some e) le = omega arith

-- a slot that isn't Active is taken
module _ (goes : ℕ → Type 0) (s : Segment) (i : ℕ) (within : i < length s.header.slots) (idle : (slot_in s.header i).state ≢ 1) (in_order : (slot_in s.header i).before ≤ (slot_in s.header i).newest) (gone : (j : ℕ) → goes j → j ≢ i) where
  abbrev After : Segment
  After = with_header (claimed i s.header) s

  taken_at : (wrap : ℕ) → slot_look (slot_in After.header i) wrap ≡ (if nat_lt ((slot_in s.header i).wrap + 1) wrap then Active else if ((slot_in s.header i).wrap + 1) == wrap then Active else Before (slot_in s.header i).newest)
  taken_at wrap = ap (λ (z : TableSlot). slot_look z wrap) (get_or-set_same s.header.slots i (claimed_slot s.header (slot_in s.header i)) no_slot within)

  other_at : (j : ℕ) → j ≢ i → slot_in After.header j ≡ slot_in s.header j
  other_at j ne = get_or-set_other s.header.slots i j (claimed_slot s.header (slot_in s.header i)) no_slot ne

  abbrev Slot : TableSlot
  Slot = slot_in s.header i

  -- the looks of its earlier transactions become bounds
  look_claimed : (wrap : ℕ) → LookAges s.header.lost After.header.lost (slot_look Slot wrap) (slot_look (slot_in After.header i) wrap)
  look_claimed wrap = elim (cases_lt Slot.wrap wrap) [
    | inl above ↦ let test : nat_lt Slot.wrap wrap ≡ true = grind (arith, nat_tests) in rw test tt
    | inr upto ↦
        let test : nat_lt Slot.wrap wrap ≡ false = grind (arith, nat_tests) in
        let test2 : nat_lt (Slot.wrap + 1) wrap ≡ false = grind (arith, nat_tests) in
        let test3 : ((Slot.wrap + 1) == wrap) ≡ false = grind (arith, nat_tests) in
        let now : slot_look (slot_in After.header i) wrap ≡ Before Slot.newest = taken_at wrap ∙ rw (test2, test3) refl in
        subst (λ (z : Look). LookAges s.header.lost After.header.lost (slot_look Slot wrap) z) (sym now) (rw test (elim (cases_eq Slot.wrap wrap) [
          | inl own ↦ let own_test : (Slot.wrap == wrap) ≡ true = grind (arith, nat_tests) in let not_active : (Slot.state == 1) ≡ false = grind (arith, nat_tests) in rw (own_test, not_active) (elim (cases_eq Slot.state 2) [
            | inl done ↦ let d : (Slot.state == 2) ≡ true = grind (arith, nat_tests) in rw d (omega arith, omega arith)
            | inr not ↦ let d : (Slot.state == 2) ≡ false = grind (arith, nat_tests) in rw d (omega arith, λ is. omega arith)
          ])
          | inr older ↦ let own_test : (Slot.wrap == wrap) ≡ false = grind (arith, nat_tests) in rw own_test (elim (cases_eq Slot.state 2) [
            | inl done ↦ let d : (Slot.state == 2) ≡ true = grind (arith, nat_tests) in rw d (in_order, λ is. omega arith)
            | inr not ↦ let d : (Slot.state == 2) ≡ false = grind (arith, nat_tests) in rw d (omega arith, λ is. omega arith)
          ])
        ]))
  ]

  active_claimed : (wrap : ℕ) → slot_look (slot_in After.header i) wrap ≡ Active → slot_look Slot wrap ≡ Active
  active_claimed wrap is = elim (cases_lt Slot.wrap wrap) [
    | inl above ↦ let test : nat_lt Slot.wrap wrap ≡ true = grind (arith, nat_tests) in rw test refl
    | inr upto ↦
        let test2 : nat_lt (Slot.wrap + 1) wrap ≡ false = grind (arith, nat_tests) in
        let test3 : ((Slot.wrap + 1) == wrap) ≡ false = grind (arith, nat_tests) in
        let now : slot_look (slot_in After.header i) wrap ≡ Before Slot.newest = taken_at wrap ∙ rw (test2, test3) refl in
        absurd (cc)
  ]

  pub claim_ages : SegmentAges goes s After
  claim_ages = record {
    lost = omega arith;
    writes = omega arith;
    looks = λ j wrap. elim (cases_eq j i) [
      | inl at ↦ rw at (look_claimed wrap)
      | inr ne ↦ look_is s.header.lost After.header.lost (slot_look (slot_in s.header j) wrap) (slot_look (slot_in After.header j) wrap) (omega arith) (ap (λ (z : TableSlot). slot_look z wrap) (other_at j ne))
    ];
    active = λ j wrap is. elim (cases_eq j i) [
      | inl at ↦ subst (λ (z : ℕ). slot_look (slot_in s.header z) wrap ≡ Active) (sym at) (active_claimed wrap (subst (λ (z : ℕ). slot_look (slot_in After.header z) wrap ≡ Active) at is))
      | inr ne ↦ ap (λ (z : TableSlot). slot_look z wrap) (sym (other_at j ne)) ∙ is
    ];
    records = λ k r le is. is;
    limit = λ k le. limit_rises s.header After.header.lost (extent_with s.header.extents (turn_of k)) (omega arith);
    wrap = λ j g. ap (λ (z : TableSlot). z.wrap) (other_at j (gone j g));
    goes_on = λ j g is. ap (λ (z : TableSlot). slot_look z (slot_in s.header j).wrap) (other_at j (gone j g)) ∙ is;
    kept = λ j k r g slot wrap is. is;
  }

pub has_none : (e : ℕ) → has_bit 0 e ≢ true
has_none e is =
    let some : 0 < 2 ^ e = pow_pos e in
    let few : 0 / 2 ^ e < 1 = div_below 0 (2 ^ e) 1 some (omega arith) in
    let zero_is : 0 / 2 ^ e ≡ 0 = omega arith in
    let wrong : (0 % 2 == 1) ≡ true = subst (λ (z : ℕ). (z % 2 == 1) ≡ true) zero_is is in
    cc

-- a slot with a record has a bit
pub touched_some : (bits : ℕ) (o : Option ℕ) → Touches bits o → bits ≢ 0
touched_some bits None touches = absurd touches
touched_some bits (Some e) touches = λ is. has_none e (subst (λ (z : ℕ). has_bit z e ≡ true) is touches)

-- an extent takes the next turn
module _ (goes : ℕ → Type 0) (s : Segment) (e : ℕ) (ring : Ring s.header) (slots : length s.header.slots ≡ SLOTS) (may : MayTurn s.header e) (keeps : (i : ℕ) → goes i → ((slot_in s.header i).state ≡ 1) × KeepsRecords s i) where
  abbrev Turned : Segment
  Turned = with_header (turned e s.header) s

  lost_rises : s.header.lost ≤ Turned.header.lost
  lost_rises = elim (cases_eq (ord_in s.header e) 0) [
    | inl out ↦ let test : (ord_in s.header e == 0) ≡ true = grind (arith, nat_tests) in rw test (omega arith)
    | inr in_ring ↦ let test : (ord_in s.header e == 0) ≡ false = grind (arith, nat_tests) in rw test (omega arith)
  ]

  lost_has : ord_in s.header e ≢ 0 → (extent_in s.header e).newest ≤ Turned.header.lost
  lost_has in_ring = let test : (ord_in s.header e == 0) ≡ false = grind (arith, nat_tests) in rw test (omega arith)

  limit_other : (o : Option ℕ) → o ≢ Some e → limit_by s.header o ≤ limit_by Turned.header o
  limit_other None ne = lost_rises
  limit_other (Some f) ne = let same : limit_by Turned.header (Some f) ≡ limit_by s.header (Some f) = ap (λ (z : Extent). z.newest) (get_or-set_other s.header.extents e f (record { ord = head_turn s.header + 1; newest = 0 }) no_extent (λ is. ne (ap Some is))) in omega (arith, same)

  turn_limit : (k : ℕ) → k ≤ s.header.writes → limit_in s.header k ≤ limit_in Turned.header k
  turn_limit k le = elim (some_cases (extent_with s.header.extents (turn_of k)) e) [
    | inl was ↦
        let at : (e < length s.header.extents) × (ord_in s.header e ≡ turn_of k) = found s.header.extents (turn_of k) e was in
        let a : limit_in s.header k ≡ (extent_in s.header e).newest = ap (limit_by s.header) was in
        let b : limit_in Turned.header k ≡ Turned.header.lost = ap (limit_by Turned.header) (turned_gone e s.header ring may (turn_of k) (omega arith) up_to was) in
        let c = lost_has (λ none. omega (arith, at.1, none)) in
        omega (arith, a, b, c)
    | inr ne ↦
        let b : limit_in Turned.header k ≡ limit_by Turned.header (extent_with s.header.extents (turn_of k)) = ap (limit_by Turned.header) (turned_others e s.header ring may (turn_of k) (omega arith) up_to (extent_with s.header.extents (turn_of k)) refl ne) in
        let c = limit_other (extent_with s.header.extents (turn_of k)) ne in
        omega (arith, b, c)
  ]
    where
      up_to : turn_of k ≤ head_turn s.header
      up_to = elim (cases_lt 0 k) [
        | inl some ↦ turn_up_to s.header.writes (head_turn s.header) s.header.records k ring.count ring.few le (omega arith)
        | inr none ↦ omega (arith, ring.second)
      ]

  -- the turns of a transaction that goes on stay
  turn_keeps : (i k : ℕ) (r : UndoRecord) → goes i → r.slot ≡ i → r.wrap ≡ (slot_in s.header i).wrap → record_in s k ≡ Some r → extent_with s.header.extents (turn_of k) ≢ Some e
  turn_keeps i k r g slot wrap is was =
      let kept : ((slot_in s.header i).state ≡ 1) × KeepsRecords s i = keeps i g in
      let t : ((slot_in s.header i).start < k) × Touches (slot_in s.header i).touched (extent_with s.header.extents (turn_of k)) = kept.1.touched k r is slot wrap in
      let some : (slot_in s.header i).touched ≢ 0 = touched_some (slot_in s.header i).touched (extent_with s.header.extents (turn_of k)) t.1 in
      let at : (e < length s.header.extents) × (ord_in s.header e ≡ turn_of k) = found s.header.extents (turn_of k) e was in
      let first_at : (kept.1.pinned.0 < length s.header.extents) × (ord_in s.header kept.1.pinned.0 ≡ (slot_in s.header i).first) = found s.header.extents (slot_in s.header i).first kept.1.pinned.0 kept.1.pinned.1 in
      let in_ring : ord_in s.header e ≢ 0 = λ none. omega (arith, at.1, none) in
      let first_is : (slot_in s.header i).first ≡ turn_of ((slot_in s.header i).start + 1) = kept.1.first in
      let le : ord_in s.header e ≤ ord_in s.header kept.1.pinned.0 = may_oldest s.header e may ring.extents in_ring kept.1.pinned.0 (omega (arith, first_at.1, first_is)) in
      may_free s.header e may slots in_ring i kept.0 some (omega (arith, le, first_at.1, at.1, first_is, t.0))

  pub turn_ages : SegmentAges goes s Turned
  turn_ages = record {
    lost = lost_rises;
    writes = omega arith;
    looks = λ i wrap. look_same s.header.lost Turned.header.lost (slot_look (slot_in s.header i) wrap) lost_rises;
    active = λ i wrap is. is;
    records = λ k r le is. elim (turned_records e s ring may k le) [ inl same ↦ sym same ∙ is | inr gone ↦ let none : record_in Turned k ≡ None = gone.1 in absurd (cc) ];
    limit = turn_limit;
    wrap = λ i g. refl;
    goes_on = λ i g is. is;
    kept = λ i k r g slot wrap is. elim (turned_records e s ring may k (made_of s k r is).1) [ inl same ↦ same ∙ is | inr gone ↦ absurd (turn_keeps i k r g slot wrap is gone.0) ];
  }

-- a record is added to the head
module _ (goes : ℕ → Type 0) (i : ℕ) (address : Uba) (touched : ℕ) (r : UndoRecord) (s : Segment) (ring : Ring s.header) (few : s.header.records < EXTENT_RECORDS) (room : length s.undo ≡ (EXTENTS * EXTENT_RECORDS)) where
  abbrev Added : Segment
  Added = with_record i address touched r s

  slot_same : (j wrap : ℕ) → (slot_look (slot_in Added.header j) wrap ≡ slot_look (slot_in s.header j) wrap) × ((slot_in Added.header j).wrap ≡ (slot_in s.header j).wrap)
  slot_same j wrap = elim (cases_eq j i) [
    | inr ne ↦ let same : slot_in Added.header j ≡ slot_in s.header j = get_or-set_other s.header.slots i j (added_slot (head_turn s.header) address touched (slot_in s.header i)) no_slot ne in (ap (λ (z : TableSlot). slot_look z wrap) same, ap (λ (z : TableSlot). z.wrap) same)
    | inl at ↦ elim (cases_lt i (length s.header.slots)) [
      | inl within ↦
          let same : slot_in Added.header i ≡ (added_slot (head_turn s.header) address touched (slot_in s.header i)) = get_or-set_same s.header.slots i (added_slot (head_turn s.header) address touched (slot_in s.header i)) no_slot within in
          rw at (ap (λ (z : TableSlot). slot_look z wrap) same, ap (λ (z : TableSlot). z.wrap) same)
      | inr outside ↦ rw (set_past s.header.slots i (added_slot (head_turn s.header) address touched (slot_in s.header i)) outside) (refl, refl)
    ]
  ]

  limit_stays : (o : Option ℕ) → limit_by Added.header o ≡ limit_by s.header o
  limit_stays None = refl
  limit_stays (Some e) = refl

  pub add_ages : SegmentAges goes s Added
  add_ages = record {
    lost = omega arith;
    writes = omega arith;
    looks = λ j wrap. look_is s.header.lost s.header.lost (slot_look (slot_in s.header j) wrap) (slot_look (slot_in Added.header j) wrap) (omega arith) (slot_same j wrap).0;
    active = λ j wrap is. sym (slot_same j wrap).0 ∙ is;
    records = λ k q le is. sym (added_others i address touched r s ring few room k le) ∙ is;
    limit = λ k le. let same : limit_in Added.header k ≡ limit_in s.header k = limit_stays (extent_with s.header.extents (turn_of k)) in omega (arith, same);
    wrap = λ j g. (slot_same j 0).1;
    goes_on = λ j g is. (slot_same j (slot_in s.header j).wrap).0 ∙ is;
    kept = λ j k q g slot wrap is. added_others i address touched r s ring few room k (made_of s k q is).1 ∙ is;
  }
