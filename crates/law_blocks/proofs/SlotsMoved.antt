-- One slot of one segment changes: what that leaves of the other slots, of the wraps and of the newest numbers.
use Rattle.std.proofs.Common.{◌≡◌, ◌≢◌, inl, inr, ◌<◌, ◌/◌, ◌%◌, ℕ, length, sym, ◌∙◌, ap}
use Rattle.std.proofs.lemmas.Bool.{cases_eq}
use Rattle.std.proofs.lemmas.List.{get_or-set_same, get_or-set_other}
use Rattle.rb_base.specs.declared.sizes.TheConstants.{SLOTS}
use Rattle.rb_segment.specs.Header.{Segment, slot_in}
use Rattle.rb_segment.specs.Moves.{with_segment, committed}
use Rattle.law_blocks.specs.Values.{slot_of, wraps_of}
use Rattle.rb_txntable.specs.Slots.{no_slot}
use Rattle.rb_txntable.specs.declared.slots.TableSlot.{TableSlot}
use Rattle.rb_segment.proofs.WithSegment.{at_segment, off_segment}
use Rattle.law_blocks.proofs.Seen.{one_slot}

module _ (segments after : ℕ → Segment) (t : ℕ) (s2 : Segment) (at : (g : ℕ) → after g ≡ with_segment (t / SLOTS) s2 segments g) where
  moved_at : after (t / SLOTS) ≡ s2
  moved_at = at (t / SLOTS) ∙ at_segment (t / SLOTS) s2 segments

  moved_off : (g : ℕ) → g ≢ t / SLOTS → after g ≡ segments g
  moved_off g off = at g ∙ off_segment (t / SLOTS) g s2 segments off

  pub slot_after : slot_of after t ≡ slot_in s2.header (t % SLOTS)
  slot_after = ap (λ (z : Segment). slot_in z.header (t % SLOTS)) moved_at

  module _ (same : (j : ℕ) → j ≢ t % SLOTS → slot_in s2.header j ≡ slot_in (segments (t / SLOTS)).header j) where
    pub slot_other : (v : ℕ) → v ≢ t → slot_of after v ≡ slot_of segments v
    slot_other v ne = elim (cases_eq (v / SLOTS) (t / SLOTS)) [
      | inl seg ↦
          ap (λ (z : ℕ). slot_in (after z).header (v % SLOTS)) seg
          ∙ (ap (λ (z : Segment). slot_in z.header (v % SLOTS)) moved_at
          ∙ (same (v % SLOTS) (λ is. ne (one_slot v t seg is)) ∙ ap (λ (z : ℕ). slot_in (segments z).header (v % SLOTS)) (sym seg)))
      | inr off ↦ ap (λ (z : Segment). slot_in z.header (v % SLOTS)) (moved_off (v / SLOTS) off)
    ]

    -- where the slot keeps its newest number, all do
    pub newest_same : (slot_in s2.header (t % SLOTS)).newest ≡ (slot_of segments t).newest → (v : ℕ) → (slot_of after v).newest ≡ (slot_of segments v).newest
    newest_same own v = elim (cases_eq v t) [
      | inl is ↦ ap (λ (z : ℕ). (slot_of after z).newest) is ∙ (ap (λ (z : TableSlot). z.newest) slot_after ∙ (own ∙ ap (λ (z : ℕ). (slot_of segments z).newest) (sym is)))
      | inr ne ↦ ap (λ (z : TableSlot). z.newest) (slot_other v ne)
    ]

    -- and its wrap
    pub wraps_same : (slot_in s2.header (t % SLOTS)).wrap ≡ (slot_of segments t).wrap → (g i : ℕ) → wraps_of after g i ≡ wraps_of segments g i
    wraps_same own g i = elim (cases_eq g (t / SLOTS)) [
      | inl seg ↦
          ap (λ (z : ℕ). wraps_of after z i) seg
          ∙ (ap (λ (z : Segment). (slot_in z.header i).wrap) moved_at
          ∙ (elim (cases_eq i (t % SLOTS)) [
            | inl is ↦ ap (λ (z : ℕ). (slot_in s2.header z).wrap) is ∙ (own ∙ ap (wraps_of segments (t / SLOTS)) (sym is))
            | inr ne ↦ ap (λ (z : TableSlot). z.wrap) (same i ne)
          ] ∙ ap (λ (z : ℕ). wraps_of segments z i) (sym seg)))
      | inr off ↦ ap (λ (z : Segment). (slot_in z.header i).wrap) (moved_off g off)
    ]

-- the slots of a segment of which one commits
module _ (s : Segment) (i c : ℕ) where
  abbrev Now : TableSlot
  Now = record (slot_in s.header i) { state = 2; newest = c }

  pub committed_own : i < length s.header.slots → slot_in (committed c i s.header) i ≡ Now
  committed_own within = get_or-set_same s.header.slots i Now no_slot within

  pub committed_other : (j : ℕ) → j ≢ i → slot_in (committed c i s.header) j ≡ slot_in s.header j
  committed_other j ne = get_or-set_other s.header.slots i j Now no_slot ne
