-- An extent that may take the next turn, said of all extents and slots that one may name: those behind the lists' ends have no turn and run no transaction.
use Rattle.std.proofs.Common.{◌≡◌, ◌≢◌, inl, inr, ◌<◌, ◌≤◌, ℕ, length, ap, arith}
use Rattle.std.proofs.lemmas.Bool.{cases_lt}
use Rattle.std.proofs.lemmas.List.{get_or_past}
use Rattle.rb_base.specs.declared.sizes.TheConstants.{SLOTS}
use Rattle.rb_ring.specs.declared.extents.TheConstants.{EXTENTS, EXTENT_RECORDS}
use Rattle.rb_ring.specs.Turns.{IsPinned}
use Rattle.rb_ring.specs.declared.extents.Extent.{Extent}
use Rattle.rb_segment.specs.Header.{Header, no_extent, slot_in, ord_in}
use Rattle.rb_segment.specs.Moves.{MayTurn, Pins}
use Rattle.rb_txntable.specs.Slots.{no_slot}
use Rattle.rb_txntable.specs.declared.slots.TableSlot.{TableSlot}

-- an extent with a turn is one of the eight
pub extent_few : (h : Header) → length h.extents ≡ EXTENTS → (e : ℕ) → 1 ≤ ord_in h e → e < EXTENTS
extent_few h counted e some = elim (cases_lt e EXTENTS) [
  | inl few ↦ few
  | inr past ↦ let none : ord_in h e ≡ 0 = ap (λ (z : Extent). z.ord) (get_or_past h.extents e no_extent (omega (arith, past, counted))) in absurd (omega (arith, none, some))
]

-- an Active slot is one of the sixteen
pub slot_few : (h : Header) → length h.slots ≡ SLOTS → (i : ℕ) → (slot_in h i).state ≡ 1 → i < SLOTS
slot_few h counted i active = elim (cases_lt i SLOTS) [
  | inl few ↦ few
  | inr past ↦ let none : (slot_in h i).state ≡ 0 = ap (λ (z : TableSlot). z.state) (get_or_past h.slots i no_slot (omega (arith, past, counted))) in absurd (omega (arith, none, active))
]

module _ (h : Header) (e : ℕ) (may : MayTurn h e) where
  pub may_full : h.records ≤ EXTENT_RECORDS → h.records ≡ EXTENT_RECORDS
  may_full few = let full = may.full in omega (arith, few, full)

  pub may_oldest : length h.extents ≡ EXTENTS → ord_in h e ≢ 0 → (f : ℕ) → 1 ≤ ord_in h f → ord_in h e ≤ ord_in h f
  may_oldest counted in_ring f some = (may.oldest in_ring).least f (extent_few h counted f some) some

  pub may_free : length h.slots ≡ SLOTS → ord_in h e ≢ 0 → (i : ℕ) → (slot_in h i).state ≡ 1 → (slot_in h i).touched ≢ 0 → (slot_in h i).first ≢ ord_in h e
  may_free counted in_ring i active begun first = may.free in_ring i (slot_few h counted i active) (record { state = active; begun = begun; first = first })

  pub may_forced : length h.extents ≡ EXTENTS → ord_in h e ≡ 0 → (f : ℕ) → 1 ≤ ord_in h f → ((g : ℕ) → 1 ≤ ord_in h g → ord_in h f ≤ ord_in h g) → IsPinned (Pins h) (ord_in h f)
  may_forced counted out f some least = may.forced out f (record { within = extent_few h counted f some; kept = some; least = λ g few some_g. least g some_g })
