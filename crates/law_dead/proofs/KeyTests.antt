-- What a write asks of its key, as dead transactions go that have no change in the key's home.
use Rattle.std.proofs.Common.{◌≡◌, inl, inr, ◌<◌, ◌≤◌, ◌+◌, ◌-◌, ◌*◌, ◌==◌, ℕ, suc, Bool, true, false, not, cond, ◌&&◌, ◌||◌, nat_le, List, [], ◌∷◌, ◌++◌, length, map, filter, find, get_or, Option, Some, None, refl, sym, ◌∙◌, ap, arith}
use Rattle.std.proofs.lemmas.Bool.{cases_Bool, cases_eq, cases_lt, cond-false, cond-true, false≢true}
use Rattle.std.proofs.lemmas.Bool.Decides.{nat_tests}
use Rattle.std.proofs.lemmas.List.Elements.{filter-append}
use Rattle.std.specs.List.{flat_map, list_any, range_with_len}
use Rattle.rb_base.specs.declared.shape.Shape.{Shape}
use Rattle.rb_model.specs.Calls.{Action, Answer, Refused, adds, key_tests, rows_now, serial_tests, waited}
use Rattle.rb_model.specs.Change.{Change}
use Rattle.rb_model.specs.Dead.{KeepsRest, dead_at, dead_owner, is_dead, works_at}
use Rattle.rb_model.specs.Full.{full_block, has_home, has_key, once, used_keys}
use Rattle.rb_model.specs.Queue.{Waiter}
use Rattle.rb_model.specs.Rows.{Commits, TableRow, has_row, last_scn, over, rows_at}
use Rattle.rb_model.specs.State.{Session, State, isolation_of, no_session, session_count, session_own}
use Rattle.rb_model.specs.Tests.{full_slots, holder, holds, is_change, is_in_home, session_numbers, works_in}
use Rattle.rb_model.specs.declared.mode.Isolation.{Isolation}
use Rattle.rb_model.specs.declared.refusal.Refusal.TheVariants.{BlockFull, Duplicate, NotFound, SlotsFull}
use Rattle.law_blocks.specs.States.{Owns}
use Rattle.law_dead.proofs.Cleared.{works_where}

or_left : (x y : Bool) → (x || y) ≡ false → x ≡ false
or_left x y e = grind arith

or_right : (x y : Bool) → (x || y) ≡ false → y ≡ false
or_right x y e = grind arith

none_left : (p : Change → Bool) (l : List Change) → list_any p l ≡ false → filter p l ≡ []
none_left p [] none = refl
none_left p (c ∷ l) none = cond-false (p c) (c ∷ filter p l) (filter p l) (or_left (p c) (list_any p l) none) ∙ none_left p l (or_right (p c) (list_any p l) none)

find_as : (p q : ℕ → Bool) (xs : List ℕ) → ((x : ℕ) → p x ≡ q x) → find p xs ≡ find q xs
find_as p q [] same = refl
find_as p q (x ∷ xs) same = ap (λ b. cond b (Some x) (find p xs)) (same x) ∙ ap (λ (o : Option ℕ). cond (q x) (Some x) o) (find_as p q xs same)

filter_as : (p q : ℕ → Bool) (xs : List ℕ) → ((x : ℕ) → p x ≡ q x) → filter p xs ≡ filter q xs
filter_as p q [] same = refl
filter_as p q (x ∷ xs) same = ap (λ b. cond b (x ∷ filter p xs) (filter p xs)) (same x) ∙ ap (λ (l : List ℕ). cond (q x) (x ∷ l) l) (filter_as p q xs same)

-- of two lists of sessions that leave the same of each one's changes
held_as : (p : Change → Bool) (xs ys : List Session) → length xs ≡ length ys → ((i : ℕ) → filter p (get_or xs i no_session).own ≡ filter p (get_or ys i no_session).own)
    → filter p (flat_map (λ session. session.own) xs) ≡ filter p (flat_map (λ session. session.own) ys)
held_as p [] [] many same = refl
held_as p [] (y ∷ ys) many same = absurd (omega (arith, many))
held_as p (x ∷ xs) [] many same = absurd (omega (arith, many))
held_as p (x ∷ xs) (y ∷ ys) many same =
    let of_xs : List Change = flat_map (λ session. session.own) xs in
    let of_ys : List Change = flat_map (λ session. session.own) ys in
    filter-append p x.own of_xs
    ∙ (ap (λ (l : List Change). l ++ filter p of_xs) (same 0)
    ∙ (ap (λ (l : List Change). filter p y.own ++ l) (held_as p xs ys (omega (arith, many)) (λ i. same (suc i)))
    ∙ sym (filter-append p y.own of_ys)))

-- the keys in use by what they go by
abbrev used_by : ℕ → ℕ → Shape → Commits → List Session → List ℕ
used_by table key shape commits sessions =
    once (map (λ row. row.key) (filter (λ row. has_home shape.blocks table key row.table row.key) (rows_at shape.blocks commits (last_scn commits)))
    ++ map (λ change. change.key) (filter (λ change. has_home shape.blocks table key change.table change.key) (flat_map (λ session. session.own) sessions)))

-- and the tests
abbrev tests_by : ℕ → ℕ → ℕ → Action → List Waiter → Option ℕ → Commits → Isolation → List TableRow → Bool → Bool → List (Bool × Answer)
tests_by s table key action queue holder commits isolation rows full_keys full_entries =
    waited queue s holder
    ++ serial_tests commits isolation table key
    ++ (adds action (has_row table key rows) && has_row table key rows, Refused Duplicate)
    ∷ (not (adds action (has_row table key rows)) && not (has_row table key rows), Refused NotFound)
    ∷ (adds action (has_row table key rows) && full_keys, Refused BlockFull)
    ∷ (full_entries, Refused SlotsFull) ∷ []

-- Two states that differ in dead transactions alone, and none of these has a change in the home.
module _ (h h2 : State) (table key : ℕ) (rest : KeepsRest h h2) (none : (u : ℕ) → session_count < u → works_at table key h u ≡ false) (none_now : (u : ℕ) → session_count < u → works_at table key h2 u ≡ false) where
  abbrev in_home : Change → Bool
  in_home = is_in_home h.shape table key

  own_living : (u : ℕ) → u ≤ session_count → session_own h2 u ≡ session_own h u
  own_living u few = elim (cases_eq u 0) [
    | inl at ↦ ap (session_own h2) at ∙ (ap (λ (z : Session). z.own) (rest.living 1 (omega arith) (omega arith)) ∙ sym (ap (session_own h) at))
    | inr ne ↦ ap (λ (z : Session). z.own) (rest.living u (omega (arith, ne)) few)
  ]

  none_here : (u : ℕ) → session_count < u → list_any in_home (session_own h2 u) ≡ false
  none_here u dead = sym (ap (λ (shape : Shape). list_any (is_in_home shape table key) (session_own h2 u)) rest.shape) ∙ none_now u dead

  any_as : (p : Change → Bool) → ((l : List Change) → list_any in_home l ≡ false → list_any p l ≡ false) → (u : ℕ) → list_any p (session_own h2 u) ≡ list_any p (session_own h u)
  any_as p only u = elim (cases_lt session_count u) [
    | inr few ↦ ap (λ (l : List Change). list_any p l) (own_living u few)
    | inl dead ↦ only (session_own h2 u) (none_here u dead) ∙ sym (only (session_own h u) (none u dead))
  ]

  not_held : (l : List Change) → list_any in_home l ≡ false → list_any (is_change table key) l ≡ false
  not_held l off = elim (cases_Bool (list_any (is_change table key) l)) [
    | inl held ↦ absurd (false≢true (sym off ∙ works_where h table key l held))
    | inr off_key ↦ off_key
  ]

  numbers_as : session_numbers h2 ≡ session_numbers h
  numbers_as = ap (λ n. range_with_len 1 n) rest.many

  pub holder_as : holder h2 table key ≡ holder h table key
  holder_as =
      ap (λ (l : List ℕ). find (λ s. holds h2 s table key) l) numbers_as
      ∙ find_as (λ s. holds h2 s table key) (λ s. holds h s table key) (session_numbers h) (any_as (is_change table key) not_held)

  works_as : (s u : ℕ) → works_in h2 s table key u ≡ works_in h s table key u
  works_as s u =
      ap (λ (shape : Shape). not (u == s) && list_any (is_in_home shape table key) (session_own h2 u)) rest.shape
      ∙ ap (λ b. not (u == s) && b) (any_as in_home (λ l off. off) u)

  slots_as : (s : ℕ) → full_slots h2 s table key ≡ full_slots h s table key
  slots_as s =
      ap (λ (l : List ℕ). nat_le 8 (length (filter (works_in h2 s table key) l))) numbers_as
      ∙ ap (λ (l : List ℕ). nat_le 8 (length l)) (filter_as (works_in h2 s table key) (works_in h s table key) (session_numbers h) (works_as s))

  left_as : (i : ℕ) → filter in_home (get_or h2.sessions i no_session).own ≡ filter in_home (get_or h.sessions i no_session).own
  left_as i =
      let at : (i + 1) - 1 ≡ i = omega arith in
      sym (ap (λ (z : ℕ). filter in_home (get_or h2.sessions z no_session).own) at)
      ∙ (elim (cases_lt session_count (i + 1)) [
        | inr few ↦ ap (λ (l : List Change). filter in_home l) (own_living (i + 1) few)
        | inl dead ↦ none_left in_home (session_own h2 (i + 1)) (none_here (i + 1) dead) ∙ sym (none_left in_home (session_own h (i + 1)) (none (i + 1) dead))
      ]
      ∙ ap (λ (z : ℕ). filter in_home (get_or h.sessions z no_session).own) at)

  used_as : used_keys h2 table key ≡ used_keys h table key
  used_as =
      ap (λ (shape : Shape). used_by table key shape h2.commits h2.sessions) rest.shape
      ∙ (ap (λ (commits : Commits). used_by table key h.shape commits h2.sessions) rest.commits
      ∙ ap (λ (l : List Change). once (map (λ row. row.key) (filter (λ row. has_home h.shape.blocks table key row.table row.key) (rows_at h.shape.blocks h.commits (last_scn h.commits))) ++ map (λ change. change.key) l))
      (held_as in_home h2.sessions h.sessions rest.many left_as))

  block_as : full_block h2 table key ≡ full_block h table key
  block_as = ap (λ (keys : List ℕ). not (has_key key keys) && nat_le 16 (length keys)) used_as

  rows_as : (s : ℕ) → s ≤ session_count → rows_now h2 s ≡ rows_now h s
  rows_as s few =
      ap (λ (shape : Shape). over shape.blocks (rows_at shape.blocks h2.commits (last_scn h2.commits)) (session_own h2 s)) rest.shape
      ∙ (ap (λ (commits : Commits). over h.shape.blocks (rows_at h.shape.blocks commits (last_scn commits)) (session_own h2 s)) rest.commits
      ∙ ap (λ (own : List Change). over h.shape.blocks (rows_at h.shape.blocks h.commits (last_scn h.commits)) own) (own_living s few))

  pub tests_as : (s : ℕ) (action : Action) → 1 ≤ s → s ≤ session_count → key_tests h2 s table key action ≡ key_tests h s table key action
  tests_as s action low high =
      ap (λ (queue : List Waiter). tests_by s table key action queue (holder h2 table key) h2.commits (isolation_of h2 s) (rows_now h2 s) (full_block h2 table key) (full_slots h2 s table key)) rest.queue
      ∙ (ap (λ (o : Option ℕ). tests_by s table key action h.queue o h2.commits (isolation_of h2 s) (rows_now h2 s) (full_block h2 table key) (full_slots h2 s table key)) holder_as
      ∙ (ap (λ (commits : Commits). tests_by s table key action h.queue (holder h table key) commits (isolation_of h2 s) (rows_now h2 s) (full_block h2 table key) (full_slots h2 s table key)) rest.commits
      ∙ (ap (λ (z : Session). tests_by s table key action h.queue (holder h table key) h.commits z.isolation (rows_now h2 s) (full_block h2 table key) (full_slots h2 s table key)) (rest.living s low high)
      ∙ (ap (λ (rows : List TableRow). tests_by s table key action h.queue (holder h table key) h.commits (isolation_of h s) rows (full_block h2 table key) (full_slots h2 s table key)) (rows_as s high)
      ∙ (ap (λ (b : Bool). tests_by s table key action h.queue (holder h table key) h.commits (isolation_of h s) (rows_now h s) b (full_slots h2 s table key)) block_as
      ∙ ap (λ (b : Bool). tests_by s table key action h.queue (holder h table key) h.commits (isolation_of h s) (rows_now h s) (full_block h table key) b) (slots_as s))))))

-- No dead transaction works in the home, where each session that does has a slot and no dead one of a slot does.
pub none_works : (h : State) (table key : ℕ)
    → ((t d : ℕ) → t < 16 * h.shape.segments → dead_at h t ≡ Some d → works_at table key h d ≡ false)
    → ((u : ℕ) → 1 ≤ u → works_at table key h u ≡ true → (t : ℕ) × (t < 16 * h.shape.segments) × Owns h u t)
    → (u : ℕ) → session_count < u → works_at table key h u ≡ false
none_works h table key none has_slot u dead = elim (cases_Bool (works_at table key h u)) [
  | inr off_key ↦ off_key
  | inl works ↦
      let slot : (t : ℕ) × (t < 16 * h.shape.segments) × Owns h u t = has_slot u (omega (arith, dead)) works in
      let owns : Owns h u slot.0 = slot.2 in
      let number : is_dead owns.owner.session ≡ true = (let n = owns.session in let more : session_count < owns.owner.session = omega (arith, dead, n) in grind (arith, nat_tests, more)) in
      let at : dead_at h slot.0 ≡ Some u = ap dead_owner owns.at ∙ (cond-true (is_dead owns.owner.session) (Some owns.owner.session) None number ∙ ap Some owns.session) in
      none slot.0 u slot.1 at
]
