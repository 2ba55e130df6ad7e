-- What a write to the log leaves of its places, round the end of the file's slots.
use Rattle.std.proofs.Common.{◌≡◌, ◌⊎◌, inl, inr, ⊎_elim, ℕ, ◌+◌, ◌-◌, ◌*◌, ◌≤◌, ◌<◌, List, ◌∷◌, length, take, drop, slice_index, refl, sym, ◌∙◌, ap, subst, arith}
use Rattle.std.proofs.lemmas.Bool.{cases_lt, cases_eq}
use Rattle.std.proofs.lemmas.List.{drop-drop, drop-take, length-take-le, length-drop, drop_more}
use Rattle.rb_base.specs.declared.sizes.TheConstants.{UNIT}
use Rattle.rb_base.specs.Fields.{part}
use Rattle.rb_disk.specs.DiskModel.{Torn}
use Rattle.rb_disk.specs.Writes.{torn_stays}
use Rattle.rb_layout.specs.Regions.{log_offset, file_length}
use Rattle.rb_layout.specs.declared.layout.Head.{Head}
use Rattle.rb_layout.specs.declared.layout.Layout.{Layout}
use Rattle.rb_log.specs.GroupLaws.{slot_low, slot_high, slot_below, slot_on, slot_round}
use Rattle.rb_log.specs.GroupSlots.{SameButGate, SameButGroups}
use Rattle.rb_log.specs.Slots.{slot_at, slot_of, log_unit, gate_of, SameOutside}
use Rattle.rb_log.proofs.Writes.{part_below, part_beyond, gate_at, torn_outside}

-- a unit's body as bytes of the file
pub body_part : (f : List ℕ) (slot : ℕ) → drop 1 (slot_at f slot) ≡ part f (log_offset slot + 1) (UNIT - 1)
body_part f slot = drop-take 1 (UNIT - 1) (drop (log_offset slot) f) ∙ ap (take (UNIT - 1)) (drop-drop 1 (log_offset slot) f ∙ ap (λ (i : ℕ). drop i f) (omega arith))

-- a unit is its gate and its body
pub unit_parts : (f : List ℕ) (slot : ℕ) (body : List ℕ) (gate : ℕ) → log_offset slot + UNIT ≤ length f → slice_index (slot_at f slot) 0 ≡ gate → drop 1 (slot_at f slot) ≡ body → slot_at f slot ≡ gate ∷ body
unit_parts f slot body gate fits opened is =
    let unit = slot_at f slot in
    let long : length unit ≡ UNIT = length-take-le UNIT (drop (log_offset slot) f) (omega (arith, length-drop (log_offset slot) f, fits)) in
    drop_more unit 0 0 (omega (arith, long)) ∙ ap (λ (g : ℕ). g ∷ drop 1 unit) opened ∙ ap (λ (b : List ℕ). gate ∷ b) is

pub outside_both : (slots : ℕ) (f g h : List ℕ) → SameOutside slots f g → SameOutside slots g h → SameOutside slots f h
outside_both slots f g h one two = record { long = two.long ∙ one.long; before = two.before ∙ one.before; behind = two.behind ∙ one.behind }

pub outside_all : (slots : ℕ) (f : List ℕ) → SameOutside slots f f
outside_all slots f = record { long = refl; before = refl; behind = refl }

module _ (l : Layout) (head : Head) (slot : head.slot < l.log) where
  -- the slots of places in front of some, or behind them, lie in front of theirs or behind them
  apart : (at count k : ℕ) → at + count < l.log → k < l.log → (k < at) ⊎ (at + count < k) → slot_of l head at + count < l.log → (slot_of l head k < slot_of l head at) ⊎ (slot_of l head at + count < slot_of l head k)
  apart at count k room lt away line = elim (cases_lt (head.slot + at) l.log) [
    | inl low ↦ elim (cases_lt (head.slot + k) l.log) [
      | inl also ↦ ⊎_elim (λ before. inl (omega (arith, slot_low l head at low, slot_low l head k also, before))) (λ behind. inr (omega (arith, slot_low l head at low, slot_low l head k also, behind))) away
      | inr high ↦ ⊎_elim (λ before. absurd (omega (arith, low, high, before))) (λ behind. inl (omega (arith, slot_low l head at low, slot_high l head k high, high, lt))) away
    ]
    | inr high ↦ elim (cases_lt (head.slot + k) l.log) [
      | inl low ↦ ⊎_elim (λ before. inr (omega (arith, slot_high l head at high, slot_low l head k low, high, room))) (λ behind. absurd (omega (arith, low, high, behind))) away
      | inr also ↦ ⊎_elim (λ before. inl (omega (arith, slot_high l head at high, slot_high l head k also, before, also, high))) (λ behind. inr (omega (arith, slot_high l head at high, slot_high l head k also, behind, high))) away
    ]
  ]

  -- the same where they reach the end
  apart_end : (at count k : ℕ) → at + count < l.log → k < l.log → (k < at) ⊎ (at + count < k) → slot_of l head at + count ≡ l.log → (0 < slot_of l head k) × (slot_of l head k < slot_of l head at)
  apart_end at count k room lt away full = elim (cases_lt (head.slot + at) l.log) [
    | inl low ↦
        let here = slot_low l head at low in
        elim (cases_lt (head.slot + k) l.log) [
          | inl also ↦ let there = slot_low l head k also in ⊎_elim (λ before. (omega (arith, here, there, full, room, before), omega (arith, here, there, before))) (λ behind. absurd (omega (arith, here, full, also, behind))) away
          | inr high ↦ let there = slot_high l head k high in ⊎_elim (λ before. absurd (omega (arith, low, high, before))) (λ behind. (omega (arith, here, there, full, behind, high), omega (arith, here, there, full, high, lt))) away
        ]
    | inr high ↦ let here = slot_high l head at high in absurd (omega (arith, here, full, high, slot, room))
  ]

  -- a torn write from behind a gate to the gate some places further
  pub torn_run : (at count : ℕ) (d c : List ℕ) → at + count < l.log → slot_of l head at + count < l.log → length d ≡ file_length l → Torn (log_offset (slot_of l head at) + 1) (UNIT * count) d c → SameButGroups l head at count d c
  torn_run at count d c room line whole torn =
      let a = slot_of l head at in
      let there : slot_of l head (at + count) ≡ a + count = slot_on l head at count slot line in record {
        outside = torn_outside l.log d c (log_offset a + 1) (UNIT * count) (omega arith) (omega (arith, line)) (omega (arith, whole)) torn;
        units = λ k lt away. ⊎_elim (λ before. part_below c d (log_offset a + 1) (log_offset (slot_of l head k)) UNIT torn.before (omega (arith, before)))
            (λ behind. part_beyond c d (log_offset a + 1 + UNIT * count) (log_offset (slot_of l head k)) UNIT torn.behind (omega (arith, behind))) (apart at count k room lt away line);
        behind = body_part c (slot_of l head (at + count)) ∙ part_beyond c d (log_offset a + 1 + UNIT * count) (log_offset (slot_of l head (at + count)) + 1) (UNIT - 1) torn.behind (omega (arith, there)) ∙ sym (body_part d (slot_of l head (at + count)));
        gate = gate_at c a ∙ torn_stays (log_offset a) (log_offset a + 1) (UNIT * count) d c (inl (omega arith)) torn ∙ sym (gate_at d a);
      }

  -- One up to the end of the log's last slot, and one of the gate of the first slot.
  pub torn_round : (at count : ℕ) (d e c : List ℕ) → 0 < count → at + count < l.log → slot_of l head at + count ≡ l.log → length d ≡ file_length l → Torn (log_offset (slot_of l head at) + 1) (UNIT * count - 1) d e → Torn (log_offset 0) 1 e c
      → SameButGroups l head at count d c
  torn_round at count d e c some room full whole one two =
      let a = slot_of l head at in
      let there : slot_of l head (at + count) ≡ 0 = slot_round l head at count slot room full in
      let long : length e ≡ length d = omega (arith, one.no_shorter, one.no_longer, whole, full, some) in record {
        outside = outside_both l.log d e c (torn_outside l.log d e (log_offset a + 1) (UNIT * count - 1) (omega arith) (omega (arith, full, some)) (omega (arith, whole)) one)
            (torn_outside l.log e c (log_offset 0) 1 (omega arith) (omega (arith, full, some)) (omega (arith, whole, long)) two);
        units = λ k lt away.
            let away_from = apart_end at count k room lt away full in
            part_beyond c e (log_offset 0 + 1) (log_offset (slot_of l head k)) UNIT two.behind (omega (arith, away_from.0)) ∙ part_below e d (log_offset a + 1) (log_offset (slot_of l head k)) UNIT one.before (omega (arith, away_from.1));
        behind =
            body_part c (slot_of l head (at + count)) ∙ ap (λ (s : ℕ). part c (log_offset s + 1) (UNIT - 1)) there ∙ part_beyond c e (log_offset 0 + 1) (log_offset 0 + 1) (UNIT - 1) two.behind (omega arith) ∙ part_below e d (log_offset a + 1) (log_offset 0 + 1) (UNIT - 1) one.before (omega (arith, room, full))
            ∙ ap (λ (s : ℕ). part d (log_offset s + 1) (UNIT - 1)) (sym there) ∙ sym (body_part d (slot_of l head (at + count)));
        gate =
            gate_at c a ∙ torn_stays (log_offset a) (log_offset 0) 1 e c (inr (omega (arith, room, full))) two ∙ torn_stays (log_offset a) (log_offset a + 1) (UNIT * count - 1) d e (inl (omega arith)) one
            ∙ sym (gate_at d a);
      }

  -- what is so of a few places is so of more
  pub groups_wider : (end count at few : ℕ) (f c : List ℕ) → end ≤ at → at + few ≤ end + count → end + count < l.log → SameButGroups l head at few f c → SameButGroups l head end count f c
  groups_wider end count at few f c low high room same = record {
    outside = same.outside;
    units = λ k lt away. same.units k lt (⊎_elim (λ before. inl (omega (arith, before, low))) (λ behind. inr (omega (arith, behind, high))) away);
    behind = elim (cases_eq (at + few) (end + count)) [
      | inl is ↦ subst (λ (k : ℕ). drop 1 (log_unit l head c k) ≡ drop 1 (log_unit l head f k)) is same.behind
      | inr differ ↦ ap (drop 1) (same.units (end + count) room (inr (omega (arith, high, differ))))
    ];
    gate = elim (cases_eq at end) [
      | inl is ↦ subst (λ (k : ℕ). gate_of l head c k ≡ gate_of l head f k) is same.gate
      | inr differ ↦ ap (λ (u : List ℕ). slice_index u 0) (same.units end (omega (arith, room)) (inl (omega (arith, low, differ))))
    ];
  }

  pub groups_both : (end count : ℕ) (f g h : List ℕ) → SameButGroups l head end count f g → SameButGroups l head end count g h → SameButGroups l head end count f h
  groups_both end count f g h one two = record {
    outside = outside_both l.log f g h one.outside two.outside;
    units = λ k lt away. two.units k lt away ∙ one.units k lt away;
    behind = two.behind ∙ one.behind;
    gate = two.gate ∙ one.gate;
  }

  pub groups_all : (end count : ℕ) (f : List ℕ) → SameButGroups l head end count f f
  groups_all end count f = record { outside = outside_all l.log f; units = λ k lt away. refl; behind = refl; gate = refl }

  -- what a torn gate leaves
  pub torn_gate : (at : ℕ) (d c : List ℕ) → at < l.log → length d ≡ file_length l → Torn (log_offset (slot_of l head at)) 1 d c → SameButGate l head at d c
  torn_gate at d c room whole torn =
      let a = slot_of l head at in
      let line : a < l.log = slot_below l head at slot (omega (arith, room)) in record {
        outside = torn_outside l.log d c (log_offset a) 1 (omega arith) (omega (arith, line)) (omega (arith, whole)) torn;
        units = λ k lt other.
            let away : (k < at) ⊎ (at + 0 < k) = elim (cases_lt k at) [
              | inl before ↦ inl before
              | inr behind ↦ inr (omega (arith, behind, other))
            ] in
            let two = apart at 0 k (omega (arith, room)) lt away (omega (arith, line)) in
            ⊎_elim (λ before. part_below c d (log_offset a) (log_offset (slot_of l head k)) UNIT torn.before (omega (arith, before))) (λ behind. part_beyond c d (log_offset a + 1) (log_offset (slot_of l head k)) UNIT torn.behind (omega (arith, behind))) two;
        body = body_part c a ∙ part_beyond c d (log_offset a + 1) (log_offset a + 1) (UNIT - 1) torn.behind (omega arith) ∙ sym (body_part d a);
      }
