-- A commit in its segment.
use Rattle.std.proofs.Common.{◌≡◌, ◌≢◌, ◌<◌, ◌≤◌, ◌==◌, ◌+◌, inl, inr, ℕ, zero, suc, Bool, true, false, nat_lt, List, [], ◌∷◌, length, get_or, Option, Some, None, refl, sym, ◌∙◌, ap, subst, arith, if◌then◌else◌}
use Rattle.std.proofs.lemmas.Bool.{cases_eq, cases_lt, cases_Bool}
use Rattle.std.proofs.lemmas.Bool.Decides.{nat_tests}
use Rattle.std.proofs.lemmas.List.{get_or-set_same, get_or-set_other}
use Rattle.rb_model.specs.Book.{turn_of}
use Rattle.rb_ring.specs.declared.extents.Extent.{Extent}
use Rattle.rb_segment.specs.Header.{Segment, no_extent, next_option, slot_in, extent_in, extent_with, record_in, limit_in, limit_by, has_bit}
use Rattle.rb_segment.specs.Moves.{SegmentCommits, stamped, committed, with_header}
use Rattle.rb_segment.specs.Running.{KeepsRecords, Touches}
use Rattle.rb_txntable.specs.Looks.{slot_look, LookAges}
use Rattle.rb_txntable.specs.Slots.{no_slot}
use Rattle.rb_txntable.specs.declared.looks.Look.{Look}
use Rattle.rb_txntable.specs.declared.looks.Look.TheVariants.{Active, Before}
use Rattle.rb_txntable.specs.declared.slots.TableSlot.{TableSlot}
use Rattle.rb_undoblock.specs.declared.record.UndoRecord.{UndoRecord}
use Rattle.rb_segment.proofs.Moments.{look_is}
use Rattle.rb_segment.proofs.Records.{found}

-- a number given to some extents leaves their turns
pub stamped_turns : (n bits e : ℕ) (xs : List Extent) (turn : ℕ) → extent_with (stamped n bits e xs) turn ≡ extent_with xs turn
stamped_turns n bits e [] turn = refl
stamped_turns n bits e (x ∷ xs) turn = let deeper : extent_with (stamped n bits (suc e) xs) turn ≡ extent_with xs turn = stamped_turns n bits (suc e) xs turn in ap (λ (z : Option ℕ). if x.ord == turn then Some 0 else next_option z) deeper

pub stamped_at : (n bits e : ℕ) (xs : List Extent) (k : ℕ) → k < length xs → get_or (stamped n bits e xs) k no_extent ≡ (let x = get_or xs k no_extent in record x { newest = if has_bit bits (e + k) then n else x.newest })
stamped_at n bits e [] k within = absurd (omega arith)
stamped_at n bits e (x ∷ xs) zero within = let same : e + 0 ≡ e = omega arith in rw same refl
stamped_at n bits e (x ∷ xs) (suc k) within = let deeper : get_or (stamped n bits (suc e) xs) k no_extent ≡ (let x = get_or xs k no_extent in record x { newest = if has_bit bits (suc e + k) then n else x.newest }) = stamped_at n bits (suc e) xs k (omega arith) in let same : e + suc k ≡ suc e + k = omega arith in rw same deeper

pub commit_leaves_records : (s : Segment) (i c k : ℕ) → record_in (with_header (committed c i s.header) s) k ≡ record_in s k
commit_leaves_records s i c k = let same = stamped_turns c (slot_in s.header i).touched 0 s.header.extents (turn_of k) in rw same refl

pub length_stamped : (n bits e : ℕ) (xs : List Extent) → length (stamped n bits e xs) ≡ length xs
length_stamped n bits e [] = refl
length_stamped n bits e (x ∷ xs) = let h : length (stamped n bits (suc e) xs) ≡ length xs = length_stamped n bits (suc e) xs in omega arith

pub ord_stamped : (n bits e : ℕ) (xs : List Extent) (k : ℕ) → (get_or (stamped n bits e xs) k no_extent).ord ≡ (get_or xs k no_extent).ord
ord_stamped n bits e [] k = refl
ord_stamped n bits e (x ∷ xs) zero = refl
ord_stamped n bits e (x ∷ xs) (suc k) = ord_stamped n bits (suc e) xs k

pub newest_stamped : (n bits e : ℕ) (xs : List Extent) (k : ℕ) → ((j : ℕ) → (get_or xs j no_extent).newest ≤ n) → (get_or (stamped n bits e xs) k no_extent).newest ≤ n
newest_stamped n bits e [] k all = omega arith
newest_stamped n bits e (x ∷ xs) zero all = stamp (has_bit bits e)
  where
    stamp : (b : Bool) → (if b then n else x.newest) ≤ n
    stamp true = omega arith
    stamp false = all 0
newest_stamped n bits e (x ∷ xs) (suc k) all = newest_stamped n bits (suc e) xs k (λ j. all (suc j))

-- the slot that commits was Active with the number that it had when it was taken, and no extent has a number above the new one
module _ (s : Segment) (i c : ℕ) (within : i < length s.header.slots) (active : (slot_in s.header i).state ≡ 1) (before : (slot_in s.header i).before ≡ (slot_in s.header i).newest) (keeps : KeepsRecords s i) (later : (e : ℕ) → e < length s.header.extents → (extent_in s.header e).newest ≤ c) where
  abbrev Slot : TableSlot
  Slot = slot_in s.header i

  abbrev Done : Segment
  Done = with_header (committed c i s.header) s

  done_at : slot_in Done.header i ≡ (let x = slot_in s.header i in record x { state = 2; newest = c })
  done_at = get_or-set_same s.header.slots i (let x = slot_in s.header i in record x { state = 2; newest = c }) no_slot within

  others_at : (j : ℕ) → j ≢ i → slot_in Done.header j ≡ slot_in s.header j
  others_at j ne = get_or-set_other s.header.slots i j (let x = slot_in s.header i in record x { state = 2; newest = c }) no_slot ne

  pub turns_same : (turn : ℕ) → extent_with Done.header.extents turn ≡ extent_with s.header.extents turn
  turns_same turn = stamped_turns c Slot.touched 0 s.header.extents turn

  pub done_records : (k : ℕ) → record_in Done k ≡ record_in s k
  done_records k = rw (turns_same (turn_of k)) refl

  stamp : (e : ℕ) → e < length s.header.extents → (extent_in Done.header e).newest ≡ (if has_bit Slot.touched e then c else (extent_in s.header e).newest)
  stamp e e_in = ap (λ (z : Extent). z.newest) (stamped_at c Slot.touched 0 s.header.extents e e_in) ∙ (let same : 0 + e ≡ e = omega arith in rw same refl)

  limit_up : (o : Option ℕ) (turn : ℕ) → extent_with s.header.extents turn ≡ o → limit_by s.header o ≤ limit_by Done.header o
  limit_up None turn is = omega arith
  limit_up (Some e) turn is =
      let f : (e < length s.header.extents) × ((extent_in s.header e).ord ≡ turn) = found s.header.extents turn e is in
      let a = later e f.0 in
      let b = stamp e f.0 in
      elim (cases_Bool (has_bit Slot.touched e)) [
        | inl has ↦ let d : (extent_in Done.header e).newest ≡ c = b ∙ rw has refl in omega (arith, a, d)
        | inr lacks ↦ let d : (extent_in Done.header e).newest ≡ (extent_in s.header e).newest = b ∙ rw lacks refl in omega (arith, d)
      ]

  done_limit : (k : ℕ) → limit_in s.header k ≤ limit_in Done.header k
  done_limit k = let up = limit_up (extent_with s.header.extents (turn_of k)) (turn_of k) refl in let same : limit_in Done.header k ≡ limit_by Done.header (extent_with s.header.extents (turn_of k)) = ap (limit_by Done.header) (turns_same (turn_of k)) in omega (arith, up, same)

  own_limit : (k : ℕ) (r : UndoRecord) → record_in s k ≡ Some r → r.slot ≡ i → r.wrap ≡ Slot.wrap → c ≤ limit_in Done.header k
  own_limit k r is slot wrap = by (extent_with s.header.extents (turn_of k)) refl (keeps.touched k r is slot wrap).1
    where
      by : (o : Option ℕ) → extent_with s.header.extents (turn_of k) ≡ o → Touches Slot.touched o → c ≤ limit_in Done.header k
      by None at touches = absurd touches
      by (Some e) at touches =
          let f : (e < length s.header.extents) × ((extent_in s.header e).ord ≡ turn_of k) = found s.header.extents (turn_of k) e at in
          let now : limit_in Done.header k ≡ (extent_in Done.header e).newest = ap (limit_by Done.header) (turns_same (turn_of k) ∙ at) in
          let is_c : (extent_in Done.header e).newest ≡ c = stamp e f.0 ∙ rw touches refl in
          omega (arith, now, is_c)

  look_done : (wrap : ℕ) → LookAges s.header.lost Done.header.lost (slot_look Slot wrap) (slot_look (slot_in Done.header i) wrap)
  look_done wrap = elim (cases_lt Slot.wrap wrap) [
    | inl above ↦ let test : nat_lt Slot.wrap wrap ≡ true = grind (arith, nat_tests) in rw test tt
    | inr upto ↦
        let test : nat_lt Slot.wrap wrap ≡ false = grind (arith, nat_tests) in
        elim (cases_eq Slot.wrap wrap) [
          | inl own ↦ let t : (Slot.wrap == wrap) ≡ true = grind (arith, nat_tests) in let a : (Slot.state == 1) ≡ true = grind (arith, nat_tests) in rw (test, t, a) tt
          | inr older ↦
              let t : (Slot.wrap == wrap) ≡ false = grind (arith, nat_tests) in
              let a : (Slot.state == 2) ≡ false = grind (arith, nat_tests) in
              let now : slot_look (slot_in Done.header i) wrap ≡ Before Slot.before = ap (λ (z : TableSlot). slot_look z wrap) done_at ∙ rw (test, t) refl in
              subst (λ (z : Look). LookAges s.header.lost Done.header.lost (slot_look Slot wrap) z) (sym now) (rw (test, t, a) (omega arith, λ is. omega arith))
        ]
  ]

  active_done : (wrap : ℕ) → slot_look (slot_in Done.header i) wrap ≡ Active → slot_look Slot wrap ≡ Active
  active_done wrap is = elim (cases_lt Slot.wrap wrap) [
    | inl above ↦ let test : nat_lt Slot.wrap wrap ≡ true = grind (arith, nat_tests) in rw test refl
    | inr upto ↦
        let test : nat_lt Slot.wrap wrap ≡ false = grind (arith, nat_tests) in
        elim (cases_eq Slot.wrap wrap) [
          | inl own ↦ let t : (Slot.wrap == wrap) ≡ true = grind (arith, nat_tests) in let a : (Slot.state == 1) ≡ true = grind (arith, nat_tests) in rw (test, t, a) refl
          | inr older ↦
              let t : (Slot.wrap == wrap) ≡ false = grind (arith, nat_tests) in
              let now : slot_look (slot_in Done.header i) wrap ≡ Before Slot.before = ap (λ (z : TableSlot). slot_look z wrap) done_at ∙ rw (test, t) refl in
              absurd (cc)
        ]
  ]

  pub commit_segment : SegmentCommits s Done i c
  commit_segment = record {
    ages = record {
      lost = omega arith;
      writes = omega arith;
      looks = λ j wrap. elim (cases_eq j i) [
        | inl at ↦ rw at (look_done wrap)
        | inr ne ↦ look_is s.header.lost Done.header.lost (slot_look (slot_in s.header j) wrap) (slot_look (slot_in Done.header j) wrap) (omega arith) (ap (λ (z : TableSlot). slot_look z wrap) (others_at j ne))
      ];
      active = λ j wrap is. elim (cases_eq j i) [
        | inl at ↦ subst (λ (z : ℕ). slot_look (slot_in s.header z) wrap ≡ Active) (sym at) (active_done wrap (subst (λ (z : ℕ). slot_look (slot_in Done.header z) wrap ≡ Active) at is))
        | inr ne ↦ ap (λ (z : TableSlot). slot_look z wrap) (sym (others_at j ne)) ∙ is
      ];
      records = λ k r le is. sym (done_records k) ∙ is;
      limit = λ k le. done_limit k;
      wrap = λ j ne. ap (λ (z : TableSlot). z.wrap) (others_at j ne);
      goes_on = λ j ne is. ap (λ (z : TableSlot). slot_look z (slot_in s.header j).wrap) (others_at j ne) ∙ is;
      kept = λ j k r ne slot wrap is. done_records k ∙ is;
    };
    records = done_records;
    at = ap (λ (z : TableSlot). slot_look z Slot.wrap) done_at ∙ (let test : nat_lt Slot.wrap Slot.wrap ≡ false = grind (arith, nat_tests) in let t : (Slot.wrap == Slot.wrap) ≡ true = grind (arith, nat_tests) in rw (test, t) refl);
    wrap = λ j. elim (cases_eq j i) [
      | inl at ↦ rw at (ap (λ (z : TableSlot). z.wrap) done_at)
      | inr ne ↦ ap (λ (z : TableSlot). z.wrap) (others_at j ne)
    ];
    limit = own_limit;
  }
