-- Which extent takes the next turn, as the bytes of a header say it and as the header does.
use Rattle.std.proofs.Common.{◌≡◌, ◌<◌, ◌≤◌, ◌+◌, ℕ, zero, suc, inl, inr, List, slice_index, refl, sym, ◌∙◌, ap, subst, arith}
use Rattle.std.proofs.lemmas.Bool.{cases_lt}
use Rattle.rb_base.specs.declared.sizes.TheConstants.{SLOTS}
use Rattle.rb_ring.specs.declared.extents.TheConstants.{EXTENTS}
use Rattle.rb_base.specs.Addresses.{slot_place}
use Rattle.rb_base.specs.Fields.{number_at}
use Rattle.rb_ring.specs.Ring.{extent_ord, head_records}
use Rattle.rb_ring.specs.Turns as ring
use Rattle.rb_ring.specs.Turns.{PinsAt, IsOldest}
use Rattle.rb_ring.specs.declared.extents.Extent.{Extent}
use Rattle.rb_segment.proofs.Parts.{slot_read, extent_read, ring_read}
use Rattle.rb_segment.specs.Header.{Header, header_of, slot_in, ord_in}
use Rattle.rb_segment.specs.Moves.{Pins, MayTurn, NoneMayTurn}
use Rattle.rb_txntable.specs.Slots.{slot_state, slot_touched, slot_first}
use Rattle.rb_txntable.specs.declared.slots.TableSlot.{TableSlot}

-- one of the first n has the least number
least_of : (ord : ℕ → ℕ) (n : ℕ) → (f : ℕ) × (f < suc n) × ((g : ℕ) → g < suc n → ord f ≤ ord g)
least_of ord zero = (0, omega arith, λ g few. let z : g ≡ 0 = omega (arith, few) in rw z (omega arith))
least_of ord (suc n) = let l = least_of ord n in elim (cases_lt (ord (suc n)) (ord l.0)) [
  | inl lt ↦ (
    suc n,
    omega arith,
    λ g few. elim (cases_lt g (suc n)) [
      | inl less ↦ let b = l.2 g less in omega (arith, b, lt)
      | inr ge ↦ let z : g ≡ suc n = omega (arith, few, ge) in rw z (omega arith)
    ],
  )
  | inr le ↦ (
    l.0,
    omega (arith, l.1),
    λ g few. elim (cases_lt g (suc n)) [
      | inl less ↦ l.2 g less
      | inr ge ↦ let z : g ≡ suc n = omega (arith, few, ge) in rw z le
    ],
  )
]

-- where none may take the next turn, a transaction runs
pub one_runs : (h : Header) → NoneMayTurn h → (i : ℕ) × (i < SLOTS) × ((slot_in h i).state ≡ 1)
one_runs h none =
    let l = least_of (ord_in h) 7 in
    let p = none.pinned l.0 (record { within = l.1; kept = none.kept l.0 l.1; least = λ f few kept. l.2 f few }) in
    (p.0, p.1, p.2.state)

module _ (header : List ℕ) where
  ord_read : (e : ℕ) → e < EXTENTS → ord_in (header_of header) e ≡ extent_ord header e
  ord_read e few = ap (λ (x : Extent). x.ord) (extent_read header e few)

  -- a slot's parts, as the ring reads them
  state_there : (i : ℕ) → slot_state header i ≡ slice_index header (slot_place i)
  unfolding slot_state
  state_there i = refl

  touched_there : (i : ℕ) → slot_touched header i ≡ slice_index header (slot_place i + 1)
  unfolding slot_touched
  touched_there i = refl

  first_there : (i : ℕ) → slot_first header i ≡ number_at header (slot_place i + 48) 8
  unfolding slot_first
  first_there i = refl

  pins_read : (turn i : ℕ) → i < SLOTS → PinsAt header turn i → Pins (header_of header) turn i
  pins_read turn i few pins = let at = slot_read header i few in record {
    state = ap (λ (s : TableSlot). s.state) at ∙ state_there i ∙ pins.state;
    begun = λ none. pins.begun (sym (touched_there i) ∙ ap (λ (s : TableSlot). s.touched) (sym at) ∙ none);
    first = ap (λ (s : TableSlot). s.first) at ∙ first_there i ∙ pins.first;
  }

  pins_bytes : (turn i : ℕ) → i < SLOTS → Pins (header_of header) turn i → PinsAt header turn i
  pins_bytes turn i few pins = let at = slot_read header i few in record {
    state = sym (state_there i) ∙ ap (λ (s : TableSlot). s.state) (sym at) ∙ pins.state;
    begun = λ none. pins.begun (ap (λ (s : TableSlot). s.touched) at ∙ touched_there i ∙ none);
    first = sym (first_there i) ∙ ap (λ (s : TableSlot). s.first) (sym at) ∙ pins.first;
  }

  oldest_read : (e : ℕ) → IsOldest (extent_ord header) e → IsOldest (ord_in (header_of header)) e
  oldest_read e oldest = record {
    within = oldest.within;
    kept = let a = ord_read e oldest.within in let k = oldest.kept in omega (arith, a, k);
    least = λ f few kept. let a = ord_read e oldest.within in let b = ord_read f few in let l = oldest.least f few (omega (arith, b, kept)) in omega (arith, a, b, l);
  }

  oldest_bytes : (e : ℕ) → IsOldest (ord_in (header_of header)) e → IsOldest (extent_ord header) e
  oldest_bytes e oldest = record {
    within = oldest.within;
    kept = let a = ord_read e oldest.within in let k = oldest.kept in omega (arith, a, k);
    least = λ f few kept. let a = ord_read e oldest.within in let b = ord_read f few in let l = oldest.least f few (omega (arith, b, kept)) in omega (arith, a, b, l);
  }

  pinned_read : (f : ℕ) → IsOldest (ord_in (header_of header)) f → ring.IsPinned (PinsAt header) (extent_ord header f) → ring.IsPinned (Pins (header_of header)) (ord_in (header_of header) f)
  pinned_read f oldest p = (p.0, p.1, subst (λ (turn : ℕ). Pins (header_of header) turn p.0) (sym (ord_read f oldest.within)) (pins_read (extent_ord header f) p.0 p.1 p.2))

  pub may_read : (e : ℕ) → ring.MayTurn (head_records header) (extent_ord header) (PinsAt header) e → MayTurn (header_of header) e
  may_read e may = let at = ord_read e may.within in record {
    full = let r = (ring_read header).1 in let m = may.full in omega (arith, r, m);
    within = may.within;
    oldest = λ in_ring. oldest_read e (may.oldest (λ out. in_ring (at ∙ out)));
    free = λ in_ring i few pins. may.free (λ out. in_ring (at ∙ out)) i few (subst (λ (turn : ℕ). PinsAt header turn i) at (pins_bytes (ord_in (header_of header) e) i few pins));
    joins = λ out f lower. let b = ord_read f (omega (arith, lower, may.within)) in let j = may.joins (sym at ∙ out) f lower in omega (arith, b, j);
    forced = λ out f oldest. pinned_read f oldest (may.forced (sym at ∙ out) f (oldest_bytes f oldest));
  }

  pub none_read : ring.NoneMayTurn (head_records header) (extent_ord header) (PinsAt header) → NoneMayTurn (header_of header)
  none_read none = record {
    full = let r = (ring_read header).1 in let m = none.full in omega (arith, r, m);
    kept = λ e few. let a = ord_read e few in let k = none.kept e few in omega (arith, a, k);
    pinned = λ f oldest. pinned_read f oldest (none.pinned f (oldest_bytes f oldest));
  }
