-- The newest live record of a slot is put back: its segment ages, and stays in order.
use Rattle.std.proofs.Common.{◌≡◌, ◌≢◌, inl, inr, ◌<◌, ◌≤◌, ◌+◌, ◌-◌, ℕ, length, Option, Some, None, refl, sym, ◌∙◌, ap, subst, arith}
use Rattle.std.proofs.lemmas.Bool.{cases_eq}
use Rattle.std.proofs.lemmas.List.{get_or-set_same, get_or-set_other, length-set}
use Rattle.rb_base.specs.declared.ids.Uba.{Uba}
use Rattle.rb_model.specs.Book.{turn_of}
use Rattle.rb_segment.specs.Header.{Segment, SlotInOrder, SlotNumbers, SegmentInOrder, slot_in, extent_with, record_in, limit_by}
use Rattle.rb_segment.specs.Moves.{taken_back, with_header, SegmentAges}
use Rattle.rb_segment.specs.Running.{KeepsRecords, Touches, RunningSlot}
use Rattle.rb_segment.proofs.Moments.{look_is}
use Rattle.rb_txntable.specs.Looks.{slot_look}
use Rattle.rb_txntable.specs.Slots.{no_slot}
use Rattle.rb_txntable.specs.declared.slots.TableSlot.{TableSlot}

-- a slot keeps its records where what tells them is the same
pub keeps_like : (s s2 : Segment) (j : ℕ) → (slot_in s2.header j).first ≡ (slot_in s.header j).first → (slot_in s2.header j).start ≡ (slot_in s.header j).start → (slot_in s2.header j).touched ≡ (slot_in s.header j).touched → (slot_in s2.header j).wrap ≡ (slot_in s.header j).wrap
    → ((turn : ℕ) → extent_with s2.header.extents turn ≡ extent_with s.header.extents turn) → ((k : ℕ) → record_in s2 k ≡ record_in s k) → KeepsRecords s j → KeepsRecords s2 j
keeps_like s s2 j first start touched wrap turns records keeps = record {
  first = first ∙ (keeps.first ∙ ap (λ (z : ℕ). turn_of (z + 1)) (sym start));
  pinned = (keeps.pinned.0, turns (slot_in s2.header j).first ∙ (ap (extent_with s.header.extents) first ∙ keeps.pinned.1));
  touched = λ k r is of same.
      let t : ((slot_in s.header j).start < k) × Touches (slot_in s.header j).touched (extent_with s.header.extents (turn_of k)) = keeps.touched k r (sym (records k) ∙ is) of (same ∙ wrap) in
      (omega (arith, t.0, start), subst (λ (z : Option ℕ). Touches (slot_in s2.header j).touched z) (sym (turns (turn_of k))) (subst (λ (z : ℕ). Touches z (extent_with s.header.extents (turn_of k))) (sym touched) (t.1)));
}

module _ (s : Segment) (i : ℕ) (previous : Uba) where
  abbrev Back : Segment
  Back = with_header (taken_back i previous s.header) s

  pub back_other : (j : ℕ) → j ≢ i → slot_in Back.header j ≡ slot_in s.header j
  back_other j ne = get_or-set_other s.header.slots i j (let x = slot_in s.header i in record x { live = x.live - 1; newest_at = previous }) no_slot ne

  module _ (within : i < length s.header.slots) where
    pub back_own : slot_in Back.header i ≡ (let x = slot_in s.header i in record x { live = x.live - 1; newest_at = previous })
    back_own = get_or-set_same s.header.slots i (let x = slot_in s.header i in record x { live = x.live - 1; newest_at = previous }) no_slot within

    -- what the records and looks hang on stays
    pub back_like : (P : TableSlot → TableSlot → Type 0) → ((x : TableSlot) → P x x) → ((x : TableSlot) (live : ℕ) (at : Uba) → P (record x { live = live; newest_at = at }) x) → (j : ℕ) → P (slot_in Back.header j) (slot_in s.header j)
    back_like P same like j = elim (cases_eq j i) [
      | inl at ↦ subst (λ (z : ℕ). P (slot_in Back.header z) (slot_in s.header z)) (sym at) (subst (λ (z : TableSlot). P z (slot_in s.header i)) (sym back_own) (like (slot_in s.header i) ((slot_in s.header i).live - 1) previous))
      | inr ne ↦ subst (λ (z : TableSlot). P z (slot_in s.header j)) (sym (back_other j ne)) (same (slot_in s.header j))
    ]

    back_look : (j wrap : ℕ) → slot_look (slot_in Back.header j) wrap ≡ slot_look (slot_in s.header j) wrap
    back_look j wrap = back_like (λ x y. slot_look x wrap ≡ slot_look y wrap) (λ x. refl) (λ x live at. refl) j

    back_limit : (o : Option ℕ) → limit_by s.header o ≤ limit_by Back.header o
    back_limit None = omega arith
    back_limit (Some e) = omega arith

    pub back_ages : (goes : ℕ → Type 0) → SegmentAges goes s Back
    back_ages goes = record {
      lost = omega arith;
      writes = omega arith;
      looks = λ j wrap. look_is s.header.lost s.header.lost (slot_look (slot_in s.header j) wrap) (slot_look (slot_in Back.header j) wrap) (omega arith) (back_look j wrap);
      active = λ j wrap is. sym (back_look j wrap) ∙ is;
      records = λ k r le is. is;
      limit = λ k le. back_limit (extent_with s.header.extents (turn_of k));
      wrap = λ j g. back_like (λ x y. x.wrap ≡ y.wrap) (λ x. refl) (λ x live at. refl) j;
      goes_on = λ j g is. back_look j (slot_in s.header j).wrap ∙ is;
      kept = λ j k r g slot wrap is. is;
    }

    pub back_keeps : (j : ℕ) → KeepsRecords s j → KeepsRecords Back j
    back_keeps j keeps = keeps_like s Back j (back_like (λ x y. x.first ≡ y.first) (λ x. refl) (λ x live at. refl) j) (back_like (λ x y. x.start ≡ y.start) (λ x. refl) (λ x live at. refl) j) (back_like (λ x y. x.touched ≡ y.touched) (λ x. refl) (λ x live at. refl) j) (back_like (λ x y. x.wrap ≡ y.wrap) (λ x. refl) (λ x live at. refl) j) (λ turn. refl) (λ k. refl) keeps

    pub back_running : (j : ℕ) → RunningSlot s.header (slot_in s.header j) → RunningSlot Back.header (slot_in Back.header j)
    back_running j runs = elim (cases_eq j i) [
      | inl at ↦ subst (λ (z : ℕ). RunningSlot Back.header (slot_in Back.header z)) (sym at) (subst (λ (z : TableSlot). RunningSlot Back.header z) (sym back_own) (let mine : RunningSlot s.header (slot_in s.header i) = subst (λ (z : ℕ). RunningSlot s.header (slot_in s.header z)) at runs in record { started = mine.started; few = omega (arith, mine.few); begun = mine.begun; before = mine.before; wrap = mine.wrap }))
      | inr ne ↦ subst (λ (z : TableSlot). RunningSlot Back.header z) (sym (back_other j ne)) (record { started = runs.started; few = runs.few; begun = runs.begun; before = runs.before; wrap = runs.wrap })
    ]

    pub back_order : (commit logged : ℕ) → SegmentInOrder commit logged s → SegmentInOrder commit (logged + 1) Back
    back_order commit logged order = record {
      header = record {
        slots_counted = simp length-set order.header.slots_counted;
        extents_counted = order.header.extents_counted;
        ring = order.header.ring;
        records = order.header.records;
        slots = λ j few. back_like (λ x y. SlotInOrder commit y → SlotInOrder commit x) (λ x o. o) (λ x live at o. record { state = o.state; before = o.before; newest = o.newest }) j (order.header.slots j few);
        lost = order.header.lost;
        newest = order.header.newest;
      };
      undo_counted = order.undo_counted;
      numbers = record {
        writes = omega (arith, order.numbers.writes);
        records = λ k r is. let a = order.numbers.records k r is in let b : (slot_in Back.header r.slot).wrap ≡ (slot_in s.header r.slot).wrap = back_like (λ x y. x.wrap ≡ y.wrap) (λ x. refl) (λ x live at. refl) r.slot in omega (arith, a, b);
        count = order.numbers.count;
        begun = order.numbers.begun;
        slots = λ j few. back_like (λ x y. SlotNumbers logged s.header.lost y → SlotNumbers (logged + 1) s.header.lost x) (λ x n. record { wrap = omega (arith, n.wrap); newest = omega (arith, n.newest); before = n.before; not_lost = n.not_lost }) (λ x live at n. record { wrap = omega (arith, n.wrap); newest = omega (arith, n.newest); before = n.before; not_lost = n.not_lost }) j (order.numbers.slots j few);
      };
    }
