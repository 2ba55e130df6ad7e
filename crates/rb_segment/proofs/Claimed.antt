-- A slot that is taken pins no turn until it has a record, so which extent may take the next turn stays.
use Rattle.std.proofs.Common.{◌≡◌, ◌≢◌, inl, inr, ◌<◌, ◌+◌, ℕ, length, sym, ◌∙◌, ap, subst, arith}
use Rattle.std.proofs.lemmas.Bool.{cases_eq}
use Rattle.std.proofs.lemmas.List.{get_or-set_same}
use Rattle.rb_base.specs.declared.sizes.TheConstants.{SLOTS}
use Rattle.rb_model.specs.Book as model
use Rattle.rb_model.specs.Book.{Book, turn_of}
use Rattle.rb_segment.specs.Header.{Header, slot_in, extent_with}
use Rattle.rb_segment.specs.MoveLaws.{TellsBook}
use Rattle.rb_segment.specs.Moves.{claimed, claimed_slot, Pins, MayTurn, NoneMayTurn}
use Rattle.rb_segment.specs.Running.{FirstTurns}
use Rattle.rb_segment.proofs.BookMoves.{book_taken}
use Rattle.rb_segment.proofs.Recording.{claimed_other}
use Rattle.rb_segment.proofs.SegmentWritten.{claimed_order}
use Rattle.rb_txntable.specs.Slots.{no_slot}
use Rattle.rb_txntable.specs.declared.slots.TableSlot.{TableSlot}

module _ (h : Header) (i : ℕ) (slots : length h.slots ≡ SLOTS) (few : i < SLOTS) (idle : (slot_in h i).state ≢ 1) where
  here : slot_in (claimed i h) i ≡ claimed_slot h (slot_in h i)
  here = get_or-set_same h.slots i (claimed_slot h (slot_in h i)) no_slot (omega (arith, few, slots))

  pub pins_stay : (turn j : ℕ) → Pins h turn j → Pins (claimed i h) turn j
  pins_stay turn j pins = elim (cases_eq j i) [
    | inl at ↦ absurd (idle (subst (λ (z : ℕ). (slot_in h z).state ≡ 1) at pins.state))
    | inr ne ↦ let same = claimed_other h i j ne in record {
      state = ap (λ (z : TableSlot). z.state) same ∙ pins.state;
      begun = λ none. pins.begun (ap (λ (z : TableSlot). z.touched) (sym same) ∙ none);
      first = ap (λ (z : TableSlot). z.first) same ∙ pins.first;
    }
  ]

  pub pins_were : (turn j : ℕ) → Pins (claimed i h) turn j → Pins h turn j
  pins_were turn j pins = elim (cases_eq j i) [
    | inl at ↦ absurd (pins.begun (ap (λ (z : ℕ). (slot_in (claimed i h) z).touched) at ∙ ap (λ (z : TableSlot). z.touched) here))
    | inr ne ↦ let same = claimed_other h i j ne in record {
      state = ap (λ (z : TableSlot). z.state) (sym same) ∙ pins.state;
      begun = λ none. pins.begun (ap (λ (z : TableSlot). z.touched) same ∙ none);
      first = ap (λ (z : TableSlot). z.first) (sym same) ∙ pins.first;
    }
  ]

  pub may_stays : (e : ℕ) → MayTurn h e → MayTurn (claimed i h) e
  may_stays e may = record {
    full = may.full;
    within = may.within;
    oldest = may.oldest;
    free = λ in_ring j j_few pins. may.free in_ring j j_few (pins_were _ j pins);
    joins = may.joins;
    forced = λ out f oldest. let p = may.forced out f oldest in (p.0, p.1, pins_stay _ p.0 p.2);
  }

  pub may_was : (e : ℕ) → MayTurn (claimed i h) e → MayTurn h e
  may_was e may = record {
    full = may.full;
    within = may.within;
    oldest = may.oldest;
    free = λ in_ring j j_few pins. may.free in_ring j j_few (pins_stay _ j pins);
    joins = may.joins;
    forced = λ out f oldest. let p = may.forced out f oldest in (p.0, p.1, pins_were _ p.0 p.2);
  }

  pub none_stays : NoneMayTurn h → NoneMayTurn (claimed i h)
  none_stays none = record { full = none.full; kept = none.kept; pinned = λ f oldest. let p = none.pinned f oldest in (p.0, p.1, pins_stay _ p.0 p.2) }

  pub none_was : NoneMayTurn (claimed i h) → NoneMayTurn h
  none_was none = record { full = none.full; kept = none.kept; pinned = λ f oldest. let p = none.pinned f oldest in (p.0, p.1, pins_were _ p.0 p.2) }

  -- it began now, and the others are what they were
  pub claimed_turns : FirstTurns h → FirstTurns (claimed i h)
  claimed_turns turns = record {
    begun = λ j j_few active some. elim (cases_eq j i) [
      | inl at ↦ absurd (some (ap (λ (z : ℕ). (slot_in (claimed i h) z).touched) at ∙ ap (λ (z : TableSlot). z.touched) here))
      | inr ne ↦
          let same = claimed_other h i j ne in
          let was = turns.begun j j_few (ap (λ (z : TableSlot). z.state) (sym same) ∙ active) (λ none. some (ap (λ (z : TableSlot). z.touched) same ∙ none)) in
          let first = ap (λ (z : TableSlot). z.first) same in
          (first ∙ (was.0 ∙ ap (λ (z : TableSlot). turn_of (z.start + 1)) (sym same)), (was.1.0, ap (extent_with h.extents) first ∙ was.1.1))
    ];
    new = λ j j_few active none. elim (cases_eq j i) [
      | inl at ↦ ap (λ (z : ℕ). (slot_in (claimed i h) z).start) at ∙ ap (λ (z : TableSlot). z.start) here
      | inr ne ↦
          let same = claimed_other h i j ne in
          ap (λ (z : TableSlot). z.start) same ∙ turns.new j j_few (ap (λ (z : TableSlot). z.state) (sym same) ∙ active) (ap (λ (z : TableSlot). z.touched) (sym same) ∙ none)
    ];
  }

  pub claimed_tells : (commit : ℕ) (b : Book) (session : ℕ) → TellsBook commit h b → TellsBook commit (claimed i h) (model.taken session i b)
  claimed_tells commit b session tells = record {
    book = book_taken h b tells.book slots session i few idle;
    order = claimed_order commit i h few tells.order;
    count = tells.count;
    begun = tells.begun;
  }
