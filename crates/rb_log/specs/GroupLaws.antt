-- What follows from the definitions on groups in log slots, for the crates above.
use Rattle.std.specs.Prelude.{◌≡◌, ◌≢◌, ℕ, ◌+◌, ◌-◌, ◌*◌}
use Rattle.std.specs.Prelude.{◌<◌, ◌≤◌, List, [], nat_lt, true, false}
use Rattle.std.specs.Prelude.{◌∷◌, ◌++◌, length, take, drop, slice_index}
use Rattle.std.proofs.Common.{zero, suc, inl, inr, ⊎_elim, sym, ◌∙◌, ap, subst, refl, arith}
use Rattle.std.proofs.lemmas.Bool.{cases_lt}
use Rattle.std.proofs.lemmas.Bool.Decides.{nat_tests}
use Rattle.std.proofs.lemmas.List.{append-nil, drop-drop, drop-take, take-take}
use Rattle.rb_base.specs.Fields.{part}
use Rattle.rb_base.specs.Groups.{Patch}
use Rattle.rb_group.proofs.Spelling.{group_same}
use Rattle.rb_layout.specs.Regions.{log_offset}
use Rattle.rb_layout.specs.declared.layout.Head.{Head}
use Rattle.rb_layout.specs.declared.layout.Layout.{Layout}
use Rattle.rb_log.specs.Slots.{slot_at, slot_of, log_unit, gate_of, head_at, SameSlots}
use Rattle.rb_log.specs.GroupSlots.{HasGroup, HoldsGroup, GroupsAre, BeginsWithGroups, IsFaultyGroup}

-- the slot of a place before the end of the file's slots, and of one behind it
pub slot_low : (l : Layout) (head : Head) (k : ℕ) → head.slot + k < l.log → slot_of l head k ≡ head.slot + k
unfolding slot_of
slot_low l head k lt = let test : nat_lt (head.slot + k) l.log ≡ true = grind (arith, nat_tests) in rw test refl

pub slot_high : (l : Layout) (head : Head) (k : ℕ) → l.log ≤ head.slot + k
    → slot_of l head k ≡ head.slot + k - l.log
unfolding slot_of
slot_high l head k ge = let test : nat_lt (head.slot + k) l.log ≡ false = grind (arith, nat_tests) in rw test refl

pub slot_below : (l : Layout) (head : Head) (k : ℕ) → head.slot < l.log → k ≤ l.log → slot_of l head k < l.log
slot_below l head k lt le = elim (cases_lt (head.slot + k) l.log) [
  | inl low ↦ omega (arith, slot_low l head k low, low)
  | inr high ↦ omega (arith, slot_high l head k high, high, lt, le)
]

-- two places of one lap have two slots
pub slots_differ : (l : Layout) (head : Head) (j k : ℕ) → head.slot < l.log → j < k → k < l.log
    → slot_of l head j ≢ slot_of l head k
slots_differ l head j k lt less le same = elim (cases_lt (head.slot + k) l.log) [
  | inl low ↦ absurd (omega (arith, slot_low l head k low, slot_low l head j (omega (arith, low, less)), same, less))
  | inr high ↦
      elim (cases_lt (head.slot + j) l.log) [
        | inl low ↦ absurd (omega (arith, slot_high l head k high, slot_low l head j low, same, less, le, high))
        | inr also ↦ absurd (omega (arith, slot_high l head k high, slot_high l head j also, same, less, high, also))
      ]
]

-- places behind one whose slots don't pass the end stand side by side, and slot 0 follows the last one
pub slot_on : (l : Layout) (head : Head) (at i : ℕ) → head.slot < l.log → slot_of l head at + i < l.log
    → slot_of l head (at + i) ≡ slot_of l head at + i
slot_on l head at i lt room = elim (cases_lt (head.slot + at) l.log) [
  | inl low ↦
      let here = slot_low l head at low in
      omega (arith, slot_low l head (at + i) (omega (arith, here, room)), here)
  | inr high ↦
      let here = slot_high l head at high in
      omega (arith, slot_high l head (at + i) (omega (arith, high)), here, high)
]

pub slot_round : (l : Layout) (head : Head) (at i : ℕ) → head.slot < l.log → at + i < l.log
    → slot_of l head at + i ≡ l.log → slot_of l head (at + i) ≡ 0
slot_round l head at i lt le full = elim (cases_lt (head.slot + at) l.log) [
  | inl low ↦
      let here = slot_low l head at low in
      omega (arith, slot_high l head (at + i) (omega (arith, here, full)), here, full)
  | inr high ↦ let here = slot_high l head at high in absurd (omega (arith, here, full, high, lt, le))
]

-- the places from a head that stands further
pub slot_moved : (l : Layout) (head : Head) (k i : ℕ) → head.slot < l.log → k + i ≤ l.log
    → slot_of l (head_at l head k) i ≡ slot_of l head (k + i)
slot_moved l head k i lt le = elim (cases_lt (head.slot + k) l.log) [
  | inl low ↦
      let here = slot_low l head k low in
      elim (cases_lt (head.slot + (k + i)) l.log) [
        | inl also ↦ omega (
          arith,
          slot_low l (head_at l head k) i (omega (arith, here, also)),
          slot_low l head (k + i) also,
          here,
        )
        | inr high ↦ omega (
          arith,
          slot_high l (head_at l head k) i (omega (arith, here, high)),
          slot_high l head (k + i) high,
          here,
        )
      ]
  | inr high ↦
      let here = slot_high l head k high in
      omega (
        arith,
        slot_low l (head_at l head k) i (omega (arith, here, high, lt, le)),
        slot_high l head (k + i) (omega (arith, high)),
        here,
        high,
      )
]

-- a slot's unit lies among the bytes of the log
pub same_slot : (slots : ℕ) (file other : List ℕ) → SameSlots slots file other → (k : ℕ) → k < slots
    → slot_at other k ≡ slot_at file k
same_slot slots file other both k lt = sym (among other)
    ∙ ap (λ (l : List ℕ). take 2048 (drop (2048 * k) l)) both.same ∙ among file
  where
    size : ℕ
    size = log_offset slots - log_offset 0

    among : (h : List ℕ) → take 2048 (drop (2048 * k) (part h (log_offset 0) size)) ≡ slot_at h k
    among h =
        let all = drop (log_offset 0) h in
        sym (drop-take (2048 * k) 2048 (take size all))
        ∙ ap (drop (2048 * k)) (take-take (2048 * k + 2048) size all (omega (arith, lt)))
        ∙ drop-take (2048 * k) 2048 all
        ∙ ap (take 2048) (drop-drop (2048 * k) (log_offset 0) h ∙ ap (λ (i : ℕ). drop i h) (omega arith))

pub same_unit : (l : Layout) (head : Head) (file other : List ℕ) → head.slot < l.log → SameSlots l.log file other
    → (k : ℕ) → k ≤ l.log → log_unit l head other k ≡ log_unit l head file k
same_unit l head file other lt same k le = same_slot l.log file other same (slot_of l head k)
    (slot_below l head k lt le)

-- one group more, as a scan finds it
pub begins_more_group : (l : Layout) (head : Head) (file : List ℕ) (at end : ℕ) (groups : List (List Patch))
    (group : List Patch) → at + length groups ≡ end → BeginsWithGroups l head file at groups → end + 1 < l.log
    → HoldsGroup l (log_unit l head file end) (head.number + end) group
    → BeginsWithGroups l head file at (groups ++ group ∷ [])
begins_more_group l head file at end [] group e begins lt holds = subst
    (λ (i : ℕ). BeginsWithGroups l head file i (group ∷ [])) (omega (arith, e)) (lt, holds, tt)
begins_more_group l head file at end (first ∷ groups) group e begins lt holds =
    (begins.0, begins.1, begins_more_group l head file (at + 1) end groups group (omega (arith, e)) begins.2 lt holds)

-- and what stands behind them, to the end
pub begins_then : (l : Layout) (head : Head) (file : List ℕ) (at end : ℕ) (groups more : List (List Patch))
    → at + length groups ≡ end → BeginsWithGroups l head file at groups → GroupsAre l head file end more
    → GroupsAre l head file at (groups ++ more)
begins_then l head file at end [] more e begins rest = subst (λ (i : ℕ). GroupsAre l head file i more)
    (omega (arith, e)) rest
begins_then l head file at end (first ∷ groups) more e begins rest =
    (begins.0, begins.1, begins_then l head file (at + 1) end groups more (omega (arith, e)) begins.2 rest)

pub begins_end_group : (l : Layout) (head : Head) (file : List ℕ) (at end : ℕ) (groups : List (List Patch))
    → at + length groups ≡ end → BeginsWithGroups l head file at groups → GroupsAre l head file end []
    → GroupsAre l head file at groups
begins_end_group l head file at end groups e begins ended = subst
    (λ (all : List (List Patch)). GroupsAre l head file at all)
    (append-nil groups) (begins_then l head file at end groups [] e begins ended)

-- A log taken apart: it begins with its first groups, and from behind some of them on it has the others. There are
-- fewer than there are slots, and what ends it stands behind the last.
pub front_log : (l : Layout) (head : Head) (file : List ℕ) (at : ℕ) (groups more : List (List Patch))
    → GroupsAre l head file at (groups ++ more) → BeginsWithGroups l head file at groups
front_log l head file at [] more log = tt
front_log l head file at (group ∷ groups) more log =
    (log.0, log.1, front_log l head file (at + 1) groups more log.2)

pub rest_log : (l : Layout) (head : Head) (file : List ℕ) (at n : ℕ) (groups : List (List Patch))
    → n ≤ length groups → GroupsAre l head file at groups → GroupsAre l head file (at + n) (drop n groups)
rest_log l head file at zero groups le log = subst (λ (i : ℕ). GroupsAre l head file i groups) (omega arith) log
rest_log l head file at (suc n) [] le log = absurd (omega (arith, le))
rest_log l head file at (suc n) (group ∷ groups) le log = subst
    (λ (i : ℕ). GroupsAre l head file i (drop n groups)) (omega arith)
    (rest_log l head file (at + 1) n groups (omega (arith, le)) log.2)

pub few_groups : (l : Layout) (head : Head) (file : List ℕ) (at : ℕ) (groups : List (List Patch)) → at < l.log
    → GroupsAre l head file at groups → at + length groups < l.log
few_groups l head file at [] lt log = omega (arith, lt)
few_groups l head file at (group ∷ groups) lt log =
    let rest = few_groups l head file (at + 1) groups log.0 log.2 in omega (arith, rest)

pub groups_end : (l : Layout) (head : Head) (file : List ℕ) (at end : ℕ) (groups : List (List Patch))
    → at + length groups ≡ end → GroupsAre l head file at groups → GroupsAre l head file end []
groups_end l head file at end [] e log = subst (λ (i : ℕ). GroupsAre l head file i []) (omega (arith, e)) log
groups_end l head file at end (group ∷ groups) e log =
    groups_end l head file (at + 1) end groups (omega (arith, e)) log.2

-- a unit holds one group, and a file has one log
pub one_group : (l : Layout) (unit : List ℕ) (number : ℕ) (first second : List Patch)
    → HasGroup l unit number first → HasGroup l unit number second → first ≡ second
one_group l unit number first second one two = group_same first second one.spelled.valid two.spelled.valid
    (sym one.spelled.whole ∙ two.spelled.whole)

pub one_group_log : (l : Layout) (head : Head) (file : List ℕ) (at : ℕ) (first second : List (List Patch))
    → GroupsAre l head file at first → GroupsAre l head file at second → first ≡ second
one_group_log l head file at [] [] one two = refl
one_group_log l head file at [] (b ∷ second) one two = absurd
    (⊎_elim (λ last. omega (arith, last, two.0)) (λ shut. shut two.1.opened) one)
one_group_log l head file at (a ∷ first) [] one two = absurd
    (⊎_elim (λ last. omega (arith, last, one.0)) (λ shut. shut one.1.opened) two)
one_group_log l head file at (a ∷ first) (b ∷ second) one two =
    ap (λ (g : List Patch). g ∷ first)
    (one_group l (log_unit l head file at) (head.number + at) a b one.1.body two.1.body)
    ∙ ap (λ (gs : List (List Patch)). b ∷ gs) (one_group_log l head file (at + 1) first second one.2 two.2)

-- where a place that the log reaches is faulty, there is none
pub faulty_none_group : (l : Layout) (head : Head) (file : List ℕ) (at end : ℕ) (groups : List (List Patch))
    → at + length groups ≡ end → BeginsWithGroups l head file at groups → IsFaultyGroup l head file end
    → (others : List (List Patch)) → GroupsAre l head file at others → ⊥
faulty_none_group l head file at end [] e begins faulty others log = none others
    (subst (λ (i : ℕ). GroupsAre l head file i others) (omega (arith, e)) log)
  where
    none : (others : List (List Patch)) → GroupsAre l head file end others → ⊥
    none [] ended = ⊎_elim (λ last. omega (arith, last, faulty.reached)) (λ shut. shut faulty.opened) ended
    none (b ∷ others) held = faulty.none b held.1.body
faulty_none_group l head file at end (first ∷ groups) e begins faulty [] log =
    ⊎_elim (λ last. omega (arith, last, begins.0)) (λ shut. shut begins.1.opened) log
faulty_none_group l head file at end (first ∷ groups) e begins faulty (b ∷ others) log =
    faulty_none_group l head file (at + 1) end groups (omega (arith, e)) begins.2 faulty others log.2

-- files with the same units have the same log
pub same_units_log : (l : Layout) (head : Head) (file other : List ℕ) (at : ℕ) (groups : List (List Patch))
    → ((k : ℕ) → k < l.log → log_unit l head other k ≡ log_unit l head file k) → at < l.log
    → GroupsAre l head file at groups → GroupsAre l head other at groups
same_units_log l head file other at [] same lt log = ⊎_elim (λ last. inl last)
    (λ shut. inr (λ is. shut (ap (λ (u : List ℕ). slice_index u 0) (sym (same at lt)) ∙ is))) log
same_units_log l head file other at (group ∷ groups) same lt log = (
  log.0,
  subst (λ (u : List ℕ). HoldsGroup l u (head.number + at) group) (sym (same at lt)) log.1,
  same_units_log l head file other (at + 1) groups same log.0 log.2,
)

pub same_group_log : (l : Layout) (head : Head) (file other : List ℕ) (groups : List (List Patch))
    → head.slot < l.log → SameSlots l.log file other → GroupsAre l head file 0 groups
    → GroupsAre l head other 0 groups
same_group_log l head file other groups slot same log = same_units_log l head file other 0 groups
    (λ k lt. same_unit l head file other slot same k (omega (arith, lt))) (omega (arith, slot)) log

-- The same units up to the end of the groups, and a gate behind them that is as it was, or shut where the groups end
-- by a gate.
pub kept_log : (l : Layout) (head : Head) (file other : List ℕ) (at end : ℕ) (groups : List (List Patch))
    → at + length groups ≡ end → ((k : ℕ) → k < end → log_unit l head other k ≡ log_unit l head file k)
    → (gate_of l head file end ≢ 1 → gate_of l head other end ≢ 1)
    → GroupsAre l head file at groups → GroupsAre l head other at groups
kept_log l head file other at end [] e same shut log = ⊎_elim (λ last. inl last)
    (λ was. inr (subst (λ (i : ℕ). gate_of l head other i ≢ 1) (omega (arith, e))
    (shut (subst (λ (i : ℕ). gate_of l head file i ≢ 1) (omega (arith, e)) was)))) log
kept_log l head file other at end (group ∷ groups) e same shut log = (
  log.0,
  subst (λ (u : List ℕ). HoldsGroup l u (head.number + at) group) (sym (same at (omega (arith, e)))) log.1,
  kept_log l head file other (at + 1) end groups (omega (arith, e)) same shut log.2,
)

-- A log of as many groups as there may be ends by their count, whatever the gate behind them is.
pub counted_log : (l : Layout) (head : Head) (file other : List ℕ) (at end : ℕ) (groups : List (List Patch))
    → at + length groups ≡ end → end + 1 ≡ l.log
    → ((k : ℕ) → k < end → log_unit l head other k ≡ log_unit l head file k)
    → GroupsAre l head file at groups → GroupsAre l head other at groups
counted_log l head file other at end [] e full same log = inl (omega (arith, e, full))
counted_log l head file other at end (group ∷ groups) e full same log = (
  log.0,
  subst (λ (u : List ℕ). HoldsGroup l u (head.number + at) group) (sym (same at (omega (arith, e)))) log.1,
  counted_log l head file other (at + 1) end groups (omega (arith, e)) full same log.2,
)

-- From a head that stands behind some of the groups on, the log has the others: where the gate behind the last is shut.
moved_log : (l : Layout) (head : Head) (file : List ℕ) (k i : ℕ) (groups : List (List Patch)) → head.slot < l.log
    → k + (i + length groups) < l.log → gate_of l head file (k + (i + length groups)) ≢ 1
    → GroupsAre l head file (k + i) groups → GroupsAre l (head_at l head k) file i groups
moved_log l head file k i [] slot few shut log = inr (λ is. shut
    (ap (λ (j : ℕ). gate_of l head file (k + j)) (omega arith)
    ∙ ap (λ (s : ℕ). slice_index (slot_at file s) 0) (sym (slot_moved l head k i slot (omega (arith, few))))
    ∙ is))
moved_log l head file k i (group ∷ groups) slot few shut log = (
  omega (arith, few),
  subst (λ (s : ℕ). HoldsGroup l (slot_at file s) (head.number + k + i) group)
      (sym (slot_moved l head k i slot (omega (arith, few))))
      (subst (λ (n : ℕ). HoldsGroup l (log_unit l head file (k + i)) n group) (omega arith) log.1),
  moved_log l head file k (i + 1) groups slot (omega (arith, few))
      (subst (λ (j : ℕ). gate_of l head file (k + j) ≢ 1) (omega arith) shut)
      (subst (λ (j : ℕ). GroupsAre l head file j groups) (omega arith) log.2),
)

pub released_log : (l : Layout) (head : Head) (file : List ℕ) (k : ℕ) (groups : List (List Patch))
    → head.slot < l.log → k ≤ length groups → gate_of l head file (length groups) ≢ 1
    → GroupsAre l head file 0 groups → GroupsAre l (head_at l head k) file 0 (drop k groups)
released_log l head file k groups slot le shut log =
    let few = few_groups l head file 0 groups (omega (arith, slot)) log in
    let long = length-drop k groups in
    moved_log l head file k 0 (drop k groups) slot (omega (arith, few, long, le))
    (subst (λ (i : ℕ). gate_of l head file i ≢ 1) (omega (arith, long, le)) shut)
    (subst (λ (i : ℕ). GroupsAre l head file i (drop k groups)) (omega arith)
    (rest_log l head file 0 k groups le log))
  where
    length-drop : (n : ℕ) (gs : List (List Patch)) → length (drop n gs) ≡ length gs - n
    length-drop zero gs = omega arith
    length-drop (suc n) [] = omega arith
    length-drop (suc n) (g ∷ gs) = let rest = length-drop n gs in omega (arith, rest)
