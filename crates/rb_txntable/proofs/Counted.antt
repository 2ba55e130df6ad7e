-- How many table slots of the first few transactions have, one slot more at a time.
use Rattle.std.proofs.Common.{◌≡◌, ◌≢◌, ◌==◌, ℕ, ◌+◌, ◌<◌, ◌≤◌, List, take, arith, ap, ◌∙◌, get_or}
use Rattle.std.specs.List.{count_by, range_with_len}
use Rattle.std.proofs.lemmas.Bool.{ne_eqb}
use Rattle.std.proofs.lemmas.List.{length-take}
use Rattle.std.proofs.lemmas.List.FromFn.{get_or-range_with_len}
use Rattle.std.proofs.lemmas.List.Sums.{count_by_more_no, count_by_more_yes, count_by-le-length}
use Rattle.rb_base.specs.declared.sizes.TheConstants.{SLOTS}
use Rattle.rb_txntable.specs.Slots.{slot_state}

-- of the first n
abbrev pub active_before : List ℕ → ℕ → ℕ
active_before header n = count_by (λ i. slot_state header i == 1) (take n (range_with_len 0 SLOTS))

pub active_before-few : (header : List ℕ) (n : ℕ) → active_before header n ≤ n
active_before-few header n =
    omega (arith, count_by-le-length (λ (i : ℕ). slot_state header i == 1) (take n (range_with_len 0 SLOTS)), length-take n (range_with_len 0 SLOTS))

zero_more : (i : ℕ) → 0 + i ≡ i
zero_more i = omega arith

-- which slot stands at place i of all
there : (header : List ℕ) (i : ℕ) → i < SLOTS → (slot_state header (get_or (range_with_len 0 SLOTS) i 0) == 1) ≡ (slot_state header i == 1)
there header i lt = ap (λ (k : ℕ). slot_state header k == 1) (get_or-range_with_len 0 SLOTS i 0 lt ∙ zero_more i)

pub one_more : (header : List ℕ) (i : ℕ) → i < SLOTS → slot_state header i ≡ 1 → active_before header (i + 1) ≡ active_before header i + 1
one_more header i lt is =
    count_by_more_yes (λ (k : ℕ). slot_state header k == 1) (range_with_len 0 SLOTS) i 0 lt (there header i lt ∙ ap (λ (n : ℕ). n == 1) is)

pub none_more : (header : List ℕ) (i : ℕ) → i < SLOTS → slot_state header i ≢ 1 → active_before header (i + 1) ≡ active_before header i
none_more header i lt is_not =
    count_by_more_no (λ (k : ℕ). slot_state header k == 1) (range_with_len 0 SLOTS) i 0 lt (there header i lt ∙ ne_eqb (slot_state header i) 1 is_not)
