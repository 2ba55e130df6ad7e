-- What an Active slot has in its segment stays through a write of its own transaction and of others.
use Rattle.std.proofs.Common.{◌*◌, ◌≡◌, ◌≢◌, ◌⊎◌, inl, inr, ◌<◌, ◌≤◌, ◌==◌, ◌+◌, ℕ, true, false, if◌then◌else◌, length, Option, Some, None, refl, sym, ◌∙◌, ap, subst, arith}
use Rattle.std.proofs.lemmas.Bool.{cases_eq, cases_lt}
use Rattle.std.proofs.lemmas.Bool.Decides.{nat_tests}
use Rattle.std.proofs.lemmas.List.{get_or-set_same, get_or-set_other}
use Rattle.rb_base.specs.declared.sizes.TheConstants.{SLOTS}
use Rattle.rb_ring.specs.declared.extents.TheConstants.{EXTENTS, EXTENT_RECORDS}
use Rattle.rb_base.specs.declared.ids.Uba.{Uba}
use Rattle.rb_model.specs.Book.{turn_of}
use Rattle.rb_segment.proofs.MayTurns.{may_free}
use Rattle.rb_segment.specs.Header.{Segment, slot_in, ord_in, head_turn, extent_with, undo_in, record_in, position_of}
use Rattle.rb_segment.specs.Moves.{added_slot, turned, with_header, with_record, Ring, MayTurn, Also}
use Rattle.rb_segment.specs.Running.{RunningSlot, FirstTurns, KeepsRecords, Touches}
use Rattle.rb_txntable.specs.Slots.{no_slot}
use Rattle.rb_txntable.specs.declared.slots.TableSlot.{TableSlot}
use Rattle.rb_undoblock.specs.declared.record.UndoRecord.{UndoRecord}
use Rattle.rb_segment.proofs.Records.{found, finds, made_of, turn_up_to, turned_others, turned_gone, turned_records, added_found, added_others, next_turn, some_cases}

-- an extent takes the next turn
module _ (s : Segment) (e : ℕ) (ring : Ring s.header) (slots : length s.header.slots ≡ SLOTS) (may : MayTurn s.header e) (j : ℕ) where
  -- a record that is left stands in the extent that it stood in
  extent_same : (k : ℕ) (r : UndoRecord) → record_in (with_header (turned e s.header) s) k ≡ Some r → extent_with (turned e s.header).extents (turn_of k) ≡ extent_with s.header.extents (turn_of k)
  extent_same k r is =
      let m : (1 ≤ k) × (k ≤ s.header.writes) × (undo_in s.undo (position_of k) (extent_with (turned e s.header).extents (turn_of k)) ≡ Some r) = made_of (with_header (turned e s.header) s) k r is in
      let up_to : turn_of k ≤ head_turn s.header = turn_up_to s.header.writes (head_turn s.header) s.header.records k ring.count ring.few m.1 m.0 in
      elim (some_cases (extent_with s.header.extents (turn_of k)) e) [
        | inl was ↦
            let none : extent_with (turned e s.header).extents (turn_of k) ≡ None = turned_gone e s.header ring may (turn_of k) (omega arith) up_to was in
            let wrong : None ≡ Some r = sym (ap (undo_in s.undo (position_of k)) none) ∙ m.2 in
            absurd (cc)
        | inr ne ↦ turned_others e s.header ring may (turn_of k) (omega arith) up_to (extent_with s.header.extents (turn_of k)) refl ne
      ]

  was_record : (k : ℕ) (r : UndoRecord) → record_in (with_header (turned e s.header) s) k ≡ Some r → record_in s k ≡ Some r
  was_record k r is = elim (turned_records e s ring may k (made_of (with_header (turned e s.header) s) k r is).1) [
    | inl same ↦ sym same ∙ is
    | inr gone ↦ let none : record_in (with_header (turned e s.header) s) k ≡ None = gone.1 in absurd (cc)
  ]

  pub keeps_turned : (slot_in s.header j).state ≡ 1 → (slot_in s.header j).touched ≢ 0 → KeepsRecords s j → KeepsRecords (with_header (turned e s.header) s) j
  keeps_turned active some keeps = record {
    first = keeps.first;
    pinned = (keeps.pinned.0, turned_others e s.header ring may (slot_in s.header j).first (omega (arith, first_is)) (omega (arith, at.1, up)) (Some keeps.pinned.0) keeps.pinned.1 (λ is. dropped is));
    touched = λ k r is of wrap.
        let t : ((slot_in s.header j).start < k) × Touches (slot_in s.header j).touched (extent_with s.header.extents (turn_of k)) = keeps.touched k r (was_record k r is) of wrap in
        (t.0, subst (λ (z : Option ℕ). Touches (slot_in s.header j).touched z) (sym (extent_same k r is)) (t.1));
  }
    where
      first_is : (slot_in s.header j).first ≡ turn_of ((slot_in s.header j).start + 1)
      first_is = keeps.first

      at : (keeps.pinned.0 < length s.header.extents) × (ord_in s.header keeps.pinned.0 ≡ (slot_in s.header j).first)
      at = found s.header.extents (slot_in s.header j).first keeps.pinned.0 keeps.pinned.1

      up : ord_in s.header keeps.pinned.0 ≤ head_turn s.header
      up = ring.highest keeps.pinned.0

      dropped : Some keeps.pinned.0 ≡ Some e → ⊥
      dropped is =
          let same : keeps.pinned.0 ≡ e = cc in
          let ord : ord_in s.header e ≡ (slot_in s.header j).first = ap (ord_in s.header) (sym same) ∙ at.1 in
          may_free s.header e may slots (λ none. omega (arith, none, ord, first_is)) j active some (sym ord)

  -- a transaction without a record has none after either
  pub fresh_turned : (wrap : ℕ) → ((k : ℕ) (r : UndoRecord) → record_in s k ≡ Some r → r.slot ≡ j → r.wrap ≡ wrap → ⊥) → (k : ℕ) (r : UndoRecord) → record_in (with_header (turned e s.header) s) k ≡ Some r → r.slot ≡ j → r.wrap ≡ wrap → ⊥
  fresh_turned wrap none k r is of same = none k r (was_record k r is) of same

-- a record is added to the head
module _ (i : ℕ) (address : Uba) (touched : ℕ) (r : UndoRecord) (s : Segment) (ring : Ring s.header) (few : s.header.records < EXTENT_RECORDS) (room : length s.undo ≡ (EXTENTS * EXTENT_RECORDS)) (within : i < length s.header.slots) (bits : Also (slot_in s.header i).touched s.header.head touched) where
  abbrev Added : Segment
  Added = with_record i address touched r s

  -- a record of the segment is the new one or one of before
  pub record_cases : (k : ℕ) (q : UndoRecord) → record_in Added k ≡ Some q → ((k ≡ s.header.writes + 1) × (q ≡ r)) ⊎ ((k ≤ s.header.writes) × (record_in s k ≡ Some q))
  record_cases k q is = elim (cases_lt s.header.writes k) [
    | inl above ↦
        let m : (1 ≤ k) × (k ≤ s.header.writes + 1) × (undo_in Added.undo (position_of k) (extent_with s.header.extents (turn_of k)) ≡ Some q) = made_of Added k q is in
        let at : k ≡ s.header.writes + 1 = omega (arith, m.1) in
        let new : record_in Added k ≡ Some r = ap (record_in Added) at ∙ added_found i address touched r s ring few room in
        let same : Some q ≡ Some r = sym is ∙ new in
        inl (at, cc)
    | inr le ↦ inr (le, sym (added_others i address touched r s ring few room k le) ∙ is)
  ]

  slot_at : slot_in Added.header i ≡ (added_slot (head_turn s.header) address touched (slot_in s.header i))
  slot_at = get_or-set_same s.header.slots i (added_slot (head_turn s.header) address touched (slot_in s.header i)) no_slot within

  pub other_slot : (j : ℕ) → j ≢ i → slot_in Added.header j ≡ slot_in s.header j
  other_slot j ne = get_or-set_other s.header.slots i j (added_slot (head_turn s.header) address touched (slot_in s.header i)) no_slot ne

  pub keeps_added_other : (j : ℕ) → j ≢ i → r.slot ≡ i → KeepsRecords s j → KeepsRecords Added j
  keeps_added_other j ne of keeps = record {
    first = ap (λ (z : TableSlot). z.first) (other_slot j ne) ∙ (keeps.first ∙ ap (λ (z : TableSlot). turn_of (z.start + 1)) (sym (other_slot j ne)));
    pinned = (keeps.pinned.0, ap (λ (z : TableSlot). extent_with s.header.extents z.first) (other_slot j ne) ∙ keeps.pinned.1);
    touched = λ k q is slot wrap. elim (record_cases k q is) [
      | inl new ↦ absurd (ne (sym slot ∙ (ap (λ (z : UndoRecord). z.slot) new.1 ∙ of)))
      | inr old ↦
          let t : ((slot_in s.header j).start < k) × Touches (slot_in s.header j).touched (extent_with s.header.extents (turn_of k)) = keeps.touched k q old.1 slot (wrap ∙ ap (λ (z : TableSlot). z.wrap) (other_slot j ne)) in
          subst (λ (z : TableSlot). (z.start < k) × Touches z.touched (extent_with s.header.extents (turn_of k))) (sym (other_slot j ne)) (t.0, t.1)
    ];
  }

  more_bits : (o : Option ℕ) → Touches (slot_in s.header i).touched o → Touches touched o
  more_bits None t = t
  more_bits (Some f) t = elim (cases_eq f s.header.head) [ inl at ↦ rw at bits.this | inr ne ↦ bits.others f ne ∙ t ]

  head_is : extent_with s.header.extents (turn_of (s.header.writes + 1)) ≡ Some s.header.head
  head_is = ap (extent_with s.header.extents) (next_turn s.header.writes (head_turn s.header) s.header.records ring.count few) ∙ finds s.header.extents (head_turn s.header) s.header.head (omega (arith, ring.head_in, ring.extents)) refl (λ f lt is. sym (ring.apart s.header.head f (omega (arith, ring.second)) (sym is)))

  new_touches : (k : ℕ) → k ≡ s.header.writes + 1 → Touches touched (extent_with s.header.extents (turn_of k))
  new_touches k at = subst (λ (z : Option ℕ). Touches touched z) (sym (ap (λ (z : ℕ). extent_with s.header.extents (turn_of z)) at ∙ head_is)) bits.this

  -- of a transaction that has records
  pub keeps_added_own : (slot_in s.header i).touched ≢ 0 → (slot_in s.header i).start < s.header.writes → KeepsRecords s i → KeepsRecords Added i
  keeps_added_own some started keeps = record {
    first = ap (λ (z : TableSlot). z.first) slot_at ∙ (first_is ∙ (keeps.first ∙ ap (λ (z : TableSlot). turn_of (z.start + 1)) (sym slot_at)));
    pinned = (keeps.pinned.0, ap (λ (z : TableSlot). extent_with s.header.extents z.first) slot_at ∙ (ap (extent_with s.header.extents) first_is ∙ keeps.pinned.1));
    touched = λ k q is slot wrap. subst (λ (z : TableSlot). (z.start < k) × Touches z.touched (extent_with s.header.extents (turn_of k))) (sym slot_at) (elim (record_cases k q is) [
      | inl new ↦ (omega (arith, new.0, started), new_touches k new.0)
      | inr old ↦
          let t : ((slot_in s.header i).start < k) × Touches (slot_in s.header i).touched (extent_with s.header.extents (turn_of k)) = keeps.touched k q old.1 slot (wrap ∙ ap (λ (z : TableSlot). z.wrap) slot_at) in
          (t.0, more_bits (extent_with s.header.extents (turn_of k)) t.1)
    ]);
  }
    where
      first_is : (if (slot_in s.header i).touched == 0 then head_turn s.header else (slot_in s.header i).first) ≡ (slot_in s.header i).first
      first_is = let test : ((slot_in s.header i).touched == 0) ≡ false = grind (arith, nat_tests) in rw test refl

  -- of one that has none yet
  pub keeps_added_first : (slot_in s.header i).touched ≡ 0 → (slot_in s.header i).start ≡ s.header.writes → ((k : ℕ) (q : UndoRecord) → record_in s k ≡ Some q → q.slot ≡ i → q.wrap ≡ (slot_in s.header i).wrap → ⊥) → KeepsRecords Added i
  keeps_added_first none started fresh = record {
    first = ap (λ (z : TableSlot). z.first) slot_at ∙ (first_is ∙ (sym (next_turn s.header.writes (head_turn s.header) s.header.records ring.count few) ∙ (ap (λ (z : ℕ). turn_of (z + 1)) (sym started) ∙ ap (λ (z : TableSlot). turn_of (z.start + 1)) (sym slot_at))));
    pinned = (s.header.head, ap (λ (z : TableSlot). extent_with s.header.extents z.first) slot_at ∙ (ap (extent_with s.header.extents) (first_is ∙ sym (next_turn s.header.writes (head_turn s.header) s.header.records ring.count few)) ∙ head_is));
    touched = λ k q is slot wrap. subst (λ (z : TableSlot). (z.start < k) × Touches z.touched (extent_with s.header.extents (turn_of k))) (sym slot_at) (elim (record_cases k q is) [
      | inl new ↦ (omega (arith, new.0, started), new_touches k new.0)
      | inr old ↦ absurd (fresh k q old.1 slot (wrap ∙ ap (λ (z : TableSlot). z.wrap) slot_at))
    ]);
  }
    where
      first_is : (if (slot_in s.header i).touched == 0 then head_turn s.header else (slot_in s.header i).first) ≡ head_turn s.header
      first_is = let test : ((slot_in s.header i).touched == 0) ≡ true = grind (arith, nat_tests) in rw test refl

-- slots that keep their records and are those of an engine that runs have their first turns in order
pub first_turns : (s : Segment) → ((j : ℕ) → (slot_in s.header j).state ≡ 1 → KeepsRecords s j) → ((j : ℕ) → (slot_in s.header j).state ≡ 1 → RunningSlot s.header (slot_in s.header j)) → FirstTurns s.header
first_turns s keeps running = record {
  begun = λ j few active some. let k = keeps j active in (k.first, k.pinned);
  new = λ j few active none. absurd ((running j active).begun none);
}
