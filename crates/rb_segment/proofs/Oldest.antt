-- The least start of the slots that are Active, one slot more at a time.
use Rattle.std.proofs.Common.{◌≡◌, ◌≢◌, ◌⊎◌, inl, inr, ℕ, ◌+◌, ◌-◌, ◌<◌, ◌≤◌, List, min, refl, arith, ap, sym, ◌∙◌}
use Rattle.std.proofs.lemmas.Bool.{cases_lt}
use Rattle.rb_base.proofs.Fronts.{IsBytes, IsBytes-drop}
use Rattle.rb_base.specs.Addresses.{slot_place}
use Rattle.rb_base.specs.declared.sizes.TheConstants.{ACTIVE, SLOTS}
use Rattle.rb_ring.specs.Ring.{record_count}
use Rattle.rb_segment.proofs.Parts.{slot_read, ring_read}
use Rattle.rb_segment.specs.Calls.{IsSince}
use Rattle.rb_segment.specs.Header.{header_of, slot_in}
use Rattle.rb_txntable.specs.Slots.{slot_at, slot_start}
use Rattle.rb_txntable.specs.declared.slots.TableSlot.{TableSlot}

-- of the first n slots: a number that no start of an Active one is below, and one of these starts unless none is Active
pub record IsOldest (slot : ℕ → TableSlot) (n oldest : ℕ) : Type 0 where
  pub least : (k : ℕ) → k < n → (slot k).state ≡ ACTIVE → oldest ≤ (slot k).start
  pub found : ((oldest ≡ 18446744073709551615) × ((k : ℕ) → k < n → (slot k).state ≢ ACTIVE))
      ⊎ ((i : ℕ) × (i < n) × ((slot i).state ≡ ACTIVE) × ((slot i).start ≡ oldest))

pub none_yet : (slot : ℕ → TableSlot) → IsOldest slot 0 18446744073709551615
none_yet slot = record {
  least = λ k lt active. absurd (omega arith);
  found = inl (refl, λ k lt. absurd (omega arith));
}

pub passed : (slot : ℕ → TableSlot) (n oldest : ℕ) → IsOldest slot n oldest → (slot n).state ≢ ACTIVE → IsOldest slot (n + 1) oldest
passed slot n oldest so_far idle = record {
  least = λ k lt active. elim (cases_lt k n) [
    | inl before ↦ so_far.least k before active
    | inr last ↦ let same : k ≡ n = omega arith in absurd (idle (ap (λ (i : ℕ). (slot i).state) (sym same) ∙ active))
  ];
  found = elim so_far.found [
    | inl none ↦ inl (
      none.0,
      λ k lt active. elim (cases_lt k n) [
        | inl before ↦ none.1 k before active
        | inr last ↦ let same : k ≡ n = omega arith in idle (ap (λ (i : ℕ). (slot i).state) (sym same) ∙ active)
      ],
    )
    | inr one ↦ inr (one.0, omega (arith, one.1), one.2, one.3)
  ];
}

pub joined : (slot : ℕ → TableSlot) (n oldest : ℕ) → IsOldest slot n oldest → (slot n).state ≡ ACTIVE → (slot n).start ≤ 18446744073709551615 → IsOldest slot (n + 1) (min oldest (slot n).start)
joined slot n oldest so_far active fits = record {
  least = λ k lt other. elim (cases_lt k n) [
    | inl before ↦ omega (arith, so_far.least k before other)
    | inr last ↦ let same : k ≡ n = omega arith in let starts : (slot k).start ≡ (slot n).start = ap (λ (i : ℕ). (slot i).start) same in omega (arith, starts)
  ];
  found = elim so_far.found [
    | inl none ↦ inr (n, omega arith, active, omega (arith, none.0, fits))
    | inr one ↦ elim (cases_lt (slot n).start oldest) [
      | inl younger ↦ inr (n, omega arith, active, omega (arith, younger))
      | inr older ↦ inr (one.0, omega (arith, one.1), one.2, omega (arith, one.3, older))
    ]
  ];
}

pub start_fits : (header : List ℕ) (i : ℕ) → IsBytes header → (slot_at header i).start ≤ 18446744073709551615
unfolding slot_start
start_fits header i bytes =
    let part = IsBytes-drop (slot_place i + 56) header bytes in
    omega (arith, part 0, part 1, part 2, part 3, part 4, part 5, part 6, part 7)

pub since_oldest : (header : List ℕ) (oldest since : ℕ) → IsOldest (slot_at header) SLOTS oldest → since ≡ record_count header - oldest
    → (i : ℕ) → i < SLOTS → (slot_in (header_of header) i).state ≡ ACTIVE → IsSince (header_of header) since
since_oldest header oldest since all count i few active =
    elim all.found [
      | inl none ↦ absurd (none.1 i few (ap (λ (s : TableSlot). s.state) (sym (slot_read header i few)) ∙ active))
      | inr one ↦
          let read : slot_in (header_of header) one.0 ≡ slot_at header one.0 = slot_read header one.0 one.1 in
          record {
            slot = one.0;
            within = one.1;
            active = ap (λ (s : TableSlot). s.state) read ∙ one.2;
            least = λ k lt other.
                let there = slot_read header k lt in
                let low = all.least k lt (ap (λ (s : TableSlot). s.state) (sym there) ∙ other) in
                omega (arith, low, ap (λ (s : TableSlot). s.start) there, ap (λ (s : TableSlot). s.start) read, one.3);
            count = count ∙ ap (λ (n : ℕ). record_count header - n) (sym (ap (λ (s : TableSlot). s.start) read ∙ one.3)) ∙ ap (λ (n : ℕ). n - (slot_in (header_of header) one.0).start) (sym (ring_read header).2);
          }
    ]
