-- A flush of groups: what a crash in it may leave, and what it leaves at its end.
use Rattle.std.proofs.Common.{◌≡◌, inl, inr, ⊎_elim, ℕ, ◌+◌, ◌-◌, ◌^◌, ◌≤◌, ◌<◌, min, List, [], ◌++◌, length, drop, get_or, slice_index, sym, ◌∙◌, ap, subst, arith, refl}
use Rattle.std.proofs.lemmas.Bool.{cases_eq}
use Rattle.std.proofs.lemmas.List.{length-map}
use Rattle.std.specs.List.{AllByRecursion}
use Rattle.rb_base.specs.Groups.{Patch}
use Rattle.rb_layout.specs.Regions.{file_length}
use Rattle.rb_layout.specs.declared.layout.Head.{Head}
use Rattle.rb_layout.specs.declared.layout.Layout.{Layout}
use Rattle.rb_log.specs.GroupLaws.{slot_below, same_group_log, kept_log}
use Rattle.rb_log.specs.GroupSlots.{IsLoggable, GroupsAre, FlushedOrNot, SameButGate, SameButUnits, StagedFrom, group_unit}
use Rattle.rb_log.specs.Slots.{slot_of, log_unit, gate_of, SameSlots}
use Rattle.rb_log.specs.WaitingUnits.{body_of, bodies_of, gate_after, group_of_body, groups_in, AreSpelled, UnitsWritten}
use Rattle.rb_log.proofs.LogLemmas.{groups_on, groups_stand}
use Rattle.rb_log.proofs.TornPlaces.{unit_parts, outside_all, outside_both}
use Rattle.rb_log.proofs.WaitingLemmas.{as_many, get_or-map}

-- a crash where nothing is written
pub nothing_flushed : (l : Layout) (head : Head) (f : List ℕ) (image : List ℕ → Type 0) (before pending : List (List Patch)) → head.slot < l.log → ((c : List ℕ) → image c → SameSlots l.log f c) → GroupsAre l head f 0 before
    → (c : List ℕ) → image c → FlushedOrNot image l head before pending c
nothing_flushed l head f image before pending slot synced log c here =
    record { outside = (c, here, outside_all l.log c); log = inl (same_group_log l head f c before slot (synced c here) log) }

-- where a flush writes
pub record FlushPlan (l : Layout) (head : Head) (end : ℕ) (groups : List (List Patch)) (f : List ℕ) : Type 0 where
  pub slot : head.slot < l.log
  pub room : end + length groups < l.log
  pub small : head.number + (end + length groups) ≤ 2 ^ 63
  pub some : 0 < length groups
  pub each : AllByRecursion (IsLoggable l) groups
  pub whole : length f ≡ file_length l

-- Groups are written to the places of a file from `end` on: each body, the gates between them open, and the gate behind
-- the last one closed. The gate of place `end` has any byte, all else stays.
pub record AreStaged (l : Layout) (head : Head) (end : ℕ) (groups : List (List Patch)) (f c : List ℕ) : Type 0 where
  pub others : SameButUnits l head end (length groups) f c
  pub bodies : (k : ℕ) (d : List Patch) → k < length groups → drop 1 (log_unit l head c (end + k)) ≡ drop 1 (group_unit 0 (head.number + (end + k)) (get_or groups k d))
  pub within : (k : ℕ) → 0 < k → k < length groups → gate_of l head c (end + k) ≡ 1
  pub after : gate_of l head c (end + length groups) ≡ 0

-- the units of a flush, once they are written
pub units_staged : (l : Layout) (head : Head) (end : ℕ) (old units : List (List ℕ)) (f c : List ℕ) → bodies_of units ≡ bodies_of old → length units ≡ length old → 0 < length old → AreSpelled (head.number + end) (bodies_of old)
    → ((k : ℕ) → k < length old → gate_after (get_or units k []) ≡ min 1 (length old - (k + 1))) → UnitsWritten l head end units f c → AreStaged l head end (groups_in old) f c
units_staged l head end old units f c same size some spelled gates wrote =
    let n = as_many old in
    let long : length units ≡ length (groups_in old) = omega (arith, n, size) in
    let others : SameButUnits l head end (length (groups_in old)) f c = subst (λ (k : ℕ). SameButUnits l head end k f c) long (record { outside = wrote.others.outside; units = wrote.others.units; behind = wrote.others.behind }) in
    let gate : (k j : ℕ) → k + 1 ≡ j → j ≤ length (groups_in old) → gate_of l head c (end + j) ≡ min 1 (length old - j) = λ k j is le.
    ap (λ (i : ℕ). gate_of l head c (end + i)) (sym is) ∙ wrote.gates k (omega (arith, is, le, long)) ∙ gates k (omega (arith, is, le, n)) ∙ ap (λ (i : ℕ). min 1 (length old - i)) is in
    record {
      others = others;
      bodies = λ k d lt.
          let here : k < length (bodies_of old) = omega (arith, lt, length-bodies old) in
          wrote.bodies k (omega (arith, lt, long)) ∙ sym (get_or-map body_of units k [] [] (omega (arith, lt, long))) ∙ ap (λ (bodies : List (List ℕ)). get_or bodies k []) same ∙ spelled k d here
          ∙ ap (λ (i : ℕ). drop 1 (group_unit 0 i (get_or (groups_in old) k d))) (omega arith);
      within = λ k more lt. gate (k - 1) k (omega (arith, more)) (omega (arith, lt)) ∙ omega (arith, lt, n);
      after = gate (length (groups_in old) - 1) (length (groups_in old)) (omega (arith, some, n)) (omega arith) ∙ omega (arith, n);
    }
  where
    length-bodies : (us : List (List ℕ)) → length (bodies_of us) ≡ length (groups_in us)
    length-bodies us = sym (length-map (bodies_of us) group_of_body)

module _ (l : Layout) (head : Head) (end : ℕ) (groups : List (List Patch)) (f : List ℕ) (plan : FlushPlan l head end groups f) where
  -- whatever the first gate is
  pub gate_staged : (m c : List ℕ) → AreStaged l head end groups f m → SameButGate l head end m c → AreStaged l head end groups f c
  gate_staged m c was torn =
      let n = length groups in
      let same : (k : ℕ) → 0 < k → k ≤ n → log_unit l head c (end + k) ≡ log_unit l head m (end + k) = λ k more le. torn.units (end + k) (omega (arith, plan.room, le)) (λ is. omega (arith, is, more)) in
      record {
        others = record {
          outside = outside_both l.log f m c was.others.outside torn.outside;
          units = λ k below away. torn.units k below (λ is. ⊎_elim (λ before. omega (arith, is, before)) (λ behind. omega (arith, is, behind)) away) ∙ was.others.units k below away;
          behind = ap (drop 1) (same n plan.some (omega arith)) ∙ was.others.behind;
        };
        bodies = λ k d below. elim (cases_eq k 0) [
          | inl is ↦ subst (λ (i : ℕ). drop 1 (log_unit l head c i) ≡ drop 1 (log_unit l head m i)) (omega (arith, is)) torn.body ∙ was.bodies k d below
          | inr differ ↦ ap (drop 1) (same k (omega (arith, differ)) (omega (arith, below))) ∙ was.bodies k d below
        ];
        within = λ k more below. ap (λ (u : List ℕ). slice_index u 0) (same k more (omega (arith, below))) ∙ was.within k more below;
        after = ap (λ (u : List ℕ). slice_index u 0) (same n plan.some (omega arith)) ∙ was.after;
      }

  -- with the first gate all are open
  gates_open : (c : List ℕ) → AreStaged l head end groups f c → gate_of l head c end ≡ 1 → (k : ℕ) → k < length groups → gate_of l head c (end + k) ≡ 1
  gates_open c was opened k below = elim (cases_eq k 0) [
    | inl is ↦ ap (gate_of l head c) (omega (arith, is)) ∙ opened
    | inr differ ↦ was.within k (omega (arith, differ)) below
  ]

  pub flushed_units : (c : List ℕ) → AreStaged l head end groups f c → gate_of l head c end ≡ 1 → (k : ℕ) (d : List Patch) → k < length groups → log_unit l head c (end + k) ≡ group_unit 1 (head.number + (end + k)) (get_or groups k d)
  flushed_units c was opened k d below =
      let line = slot_below l head (end + k) plan.slot (omega (arith, plan.room, below)) in
      unit_parts c (slot_of l head (end + k)) (drop 1 (group_unit 0 (head.number + (end + k)) (get_or groups k d))) 1 (omega (arith, was.others.outside.long, plan.whole, line)) (gates_open c was opened k below) (was.bodies k d below)

  module _ (before : List (List Patch)) (counts : length before ≡ end) (log : GroupsAre l head f 0 before) where
    -- the log, once the first gate is open
    pub flushed_log : (c : List ℕ) → AreStaged l head end groups f c → gate_of l head c end ≡ 1 → GroupsAre l head c 0 (before ++ groups)
    flushed_log c was opened =
        groups_on l head f c 0 end before groups (omega (arith, counts)) (λ k lt. was.others.units k (omega (arith, lt, plan.room)) (inl lt)) log
        (groups_stand l head c end (end + length groups) groups refl plan.room plan.small plan.each (flushed_units c was opened) (λ is. omega (arith, is, was.after)))

    -- a crash in step one
    pub one_interrupted : (image : List ℕ → Type 0) → ((c : List ℕ) → image c → SameSlots l.log f c) → (c : List ℕ) → StagedFrom l head end (length groups) image c → FlushedOrNot image l head before groups c
    one_interrupted image synced c from =
        let same = from.2 in
        let was = same_group_log l head f from.0 before plan.slot (synced from.0 from.1) log in
        record {
          outside = (from.0, from.1, same.outside);
          log = inl (kept_log l head from.0 c 0 end before (omega (arith, counts)) (λ k lt. same.units k (omega (arith, lt, plan.room)) (inl lt)) (λ shut is. shut (sym same.gate ∙ is)) was);
        }

    -- A crash in step two: the first gate is open or isn't.
    pub two_interrupted : (image : List ℕ → Type 0) → image f → (c : List ℕ) → AreStaged l head end groups f c → FlushedOrNot image l head before groups c
    two_interrupted image here c was = record {
      outside = (f, here, was.others.outside);
      log = elim (cases_eq (gate_of l head c end) 1) [
        | inl opened ↦ inr (flushed_log c was opened)
        | inr shut ↦ inl (kept_log l head f c 0 end before (omega (arith, counts)) (λ k lt. was.others.units k (omega (arith, lt, plan.room)) (inl lt)) (λ was_shut. shut) log)
      ];
    }
