-- What a write chooses in a home, as heap blocks say it, is what the walk asks of it; and the home with the change is the
-- walk's.
use Rattle.std.proofs.Common.{◌≡◌, ◌≢◌, ◌<◌, ◌≤◌, ◌+◌, ◌==◌, ◌&&◌, ◌||◌, cond, inl, inr, ℕ, zero, suc, Bool, true, false, not, List, length, map, set, Some, None, refl, sym, ◌∙◌, ap, subst, arith}
use Rattle.std.proofs.Math.ListN as lists
use Rattle.std.proofs.lemmas.List.{get_or-map, length-map, map-set}
use Rattle.std.proofs.lemmas.Bool.{cases_Bool, cases_lt, and_parts, and_from, cond-true, cond-false, false≢true}
use Rattle.std.proofs.lemmas.Bool.Decides.{nat_tests}
use Rattle.rb_base.specs.declared.sizes.TheConstants.{SLOTS}
use Rattle.rb_base.specs.declared.ids.Uba.{Uba}
use Rattle.rb_base.specs.declared.ids.Xid.{Xid}
use Rattle.rb_base.specs.declared.shape.Shape.{Shape}
use Rattle.rb_cell.specs.declared.cell.Cell as cells
use Rattle.rb_cell.specs.declared.cell.TheConstants.{CELLS, EMPTY, ROW}
use Rattle.rb_heap.specs.Choices.{HasNoEntry, IsOwnEntry}
use Rattle.rb_heap.specs.Homes.{Home, empty_cell, home_cell, home_entry, is_free, is_keyed}
use Rattle.rb_heap.specs.Soundness.{IsCellSound}
use Rattle.rb_itl.specs.Entries.{free_entry}
use Rattle.rb_itl.specs.declared.slots.Entry as entries
use Rattle.rb_itl.specs.declared.slots.TheConstants.{BOUND, ENTRIES, EXACT, OPEN}
use Rattle.rb_model.specs.Change.{Gone, Held, Kind, Put}
use Rattle.law_blocks.specs.Says.{place_of, status_of, walk_cell, walk_entry, walk_home, walk_undo}
use Rattle.law_blocks.specs.Writes.{Chooses}
use Rattle.law_blocks.specs.Writing.{IsNotHeld, KeepsHome, cell_after, entry_after, home_after}
use Rattle.law_blocks.proofs.HomesCleaned.{status_open}
use Rattle.law_blocks.proofs.HomesSound.{keyed_taken, lock_same, open_kind, taken_is}
use Rattle.rb_undoblock.specs.declared.record.UndoRecord.{UndoRecord}
use Rattle.law_home.specs.Kinds as kinds
use Rattle.law_home.specs.Kinds.{Status, Free, Open, Exact, Bound, Empty, Row, Stub}
use Rattle.law_home.specs.Walk as walk
use Rattle.law_home.specs.Walk.{lock_of, taken}
use Rattle.law_home.specs.Writes.{IsOwn, is_open, locked_as, new_cell, new_entry, written}

-- a cell that keeps a key is found by it
pub taken_keyed : (key : ℕ) (x : cells.Cell) → taken (walk_cell x) ≡ Some key → is_keyed key x ≡ true
taken_keyed key x has = elim (cases_Bool ((x.state == ROW) || not (x.lock == 0))) [
  | inl is ↦
      let there : Some x.key ≡ Some key = sym (cond-true ((x.state == ROW) || not (x.lock == 0)) (Some x.key) None is) ∙ (sym (taken_is x) ∙ has) in
      let same : x.key ≡ key = cc in
      and_from ((x.state == ROW) || not (x.lock == 0)) (x.key == key) is (grind (arith, nat_tests))
  | inr isnt ↦ let never : None ≡ Some key = sym (cond-false ((x.state == ROW) || not (x.lock == 0)) (Some x.key) None isnt) ∙ (sym (taken_is x) ∙ has) in absurd cc
]

-- a cell in order is free where it keeps none
free_is : (shape : Shape) (home : ℕ) (x : cells.Cell) → IsCellSound shape home x → is_free x ≡ not ((x.state == ROW) || not (x.lock == 0))
free_is shape home x sound = by_state x.state x.lock sound.state sound.unlocked
  where
    by_state : (state lock : ℕ) → state ≤ 2 → (state ≡ 0 → lock ≡ 0) → ((state == 0) || ((state == 2) && (lock == 0))) ≡ not ((state == 1) || not (lock == 0))
    by_state zero lock few un = let l : (lock == 0) ≡ true = let e = un refl in grind (arith, nat_tests) in rw l refl
    by_state (suc zero) lock few un = refl
    by_state (suc (suc zero)) lock few un = both (lock == 0)
      where
        both : (l : Bool) → l ≡ not (not l)
        both true = refl
        both false = refl
    by_state (suc (suc (suc n))) lock few un = absurd (omega (arith, few))

pub free_taken : (shape : Shape) (home : ℕ) (x : cells.Cell) → IsCellSound shape home x → is_free x ≡ true → taken (walk_cell x) ≡ None
free_taken shape home x sound free = taken_is x ∙ cond-false ((x.state == ROW) || not (x.lock == 0)) (Some x.key) None (flip ((x.state == ROW) || not (x.lock == 0)) (sym (free_is shape home x sound) ∙ free))
  where
    flip : (a : Bool) → not a ≡ true → a ≡ false
    flip true is = sym is
    flip false is = refl

-- an entry is Open in both words
pub open_is : (kind number : ℕ) → is_open (status_of kind number) ≡ (kind == OPEN)
open_is kind number = by_kind (kind == OPEN) (kind == EXACT) (kind == BOUND)
  where
    by_kind : (o e b : Bool) → is_open (cond o Open (cond e (Exact number) (cond b (Bound number) Free))) ≡ o
    by_kind true e b = refl
    by_kind false true b = refl
    by_kind false false true = refl
    by_kind false false false = refl

-- the entry and the cell of a change
entry_changed : (shape : Shape) (x : Xid) (address : Uba) (e : entries.Entry) → walk_entry shape (entry_after x address e) ≡ new_entry (walk_entry shape e) x (place_of shape address)
entry_changed shape x address e = ap (λ (z : Bool). let n : kinds.Entry = record { status = Open; xid = x; newest = place_of shape address; chain = cond z (e.length + 1) 1 } in n) (sym (open_is e.kind e.number))

cell_changed : (kind : Kind) (key i : ℕ) (x : cells.Cell) → (kind ≡ Held → x.key ≡ key) → walk_cell (cell_after kind key i x) ≡ new_cell kind key (suc i) (walk_cell x)
cell_changed (Put v) key i x held = ap (Row key v) (omega arith)
cell_changed Gone key i x held = ap (Stub key) (omega arith)
cell_changed Held key i x held = by_state (x.state == ROW) (x.state == EMPTY) (i + 1 == 0) (x.lock == 0) (grind (arith, nat_tests))
  where
    by_state : (r e z l : Bool) → z ≡ false → cond r (Row x.key x.value.items (i + 1)) (cond (e && z) Empty (Stub x.key (i + 1))) ≡ locked_as (cond r (Row x.key x.value.items x.lock) (cond (e && l) Empty (Stub x.key x.lock))) key (suc i)
    by_state r e true l never = absurd (false≢true (sym never))
    by_state true e false l is = let k = held refl in rw k (ap (Row key x.value.items) (omega arith))
    by_state false true false true is = let k = held refl in rw k (ap (Stub key) (omega arith))
    by_state false true false false is = let k = held refl in rw k (ap (Stub key) (omega arith))
    by_state false false false l is = let k = held refl in rw k (ap (Stub key) (omega arith))

-- a home with as many entries and cells as a block has
module _ (shape : Shape) (n : ℕ) (home : Home) (eight : length home.entries ≡ ENTRIES) (sixteen : length home.cells ≡ CELLS) where
  abbrev Walked : walk.Home
  Walked = walk_home shape n home

  entry_walked : (i : ℕ) → i < ENTRIES → walk.entry_at Walked i ≡ walk_entry shape (home_entry home i)
  entry_walked i few = get_or-map (walk_entry shape) home.entries i free_entry walk.free_entry (omega (arith, eight, few))

  cell_walked : (c : ℕ) → walk.cell_at Walked c ≡ walk_cell (home_cell home c)
  cell_walked c = lists.get_or-map walk_cell home.cells c empty_cell

  module _ (g : ℕ) (x : Xid) (adds : Bool) (kind : Kind) (block : List ℕ) (u : UndoRecord) (keeps : KeepsHome home block x adds kind u) (xid : (walk_undo shape g u).xid ≡ x) where
    abbrev E : entries.Entry
    E = home_entry home u.entry

    abbrev C : cells.Cell
    C = home_cell home u.cell

    abbrev R : kinds.Undo
    R = walk_undo shape g u

    same_number : (a b : ℕ) → (a == b) ≡ true → a ≡ b
    same_number a b is = grind (arith, nat_tests)

    pub cell_few : u.cell < CELLS
    cell_few = elim keeps.cell.way [ inl first ↦ first.within | inr free ↦ free.2.within ]

    -- a row that is held has its key
    pub key_there : kind ≡ Held → C.key ≡ u.key
    key_there held = elim keeps.cell.way [
      | inl first ↦ same_number C.key u.key (and_parts ((C.state == ROW) || not (C.lock == 0)) (C.key == u.key) first.passes).1
      | inr free ↦ absurd (false≢true (sym (keeps.held held) ∙ free.0))
    ]

    -- the home with the change
    pub home_changed : (address : Uba) → walk_home shape n (home_after kind x address u home) ≡ written kind R (place_of shape address) Walked
    home_changed address =
        let e = entry_after x address E in
        let c = cell_after kind u.key u.entry C in
        let entry : walk_entry shape e ≡ new_entry R.entry_before R.xid (place_of shape address) = entry_changed shape x address E ∙ (ap (λ (z : entries.Entry). new_entry (walk_entry shape z) x (place_of shape address)) (sym keeps.entry_before) ∙ ap (λ (z : Xid). new_entry R.entry_before z (place_of shape address)) (sym xid)) in
        let cell : walk_cell c ≡ new_cell kind R.key (suc R.entry) R.cell_before = cell_changed kind u.key u.entry C key_there ∙ ap (λ (z : cells.Cell). new_cell kind u.key (suc u.entry) (walk_cell z)) (sym keeps.cell_before) in
        ap (λ (l : List kinds.Entry). let h : walk.Home = record { block = n; entries = l; cells = map walk_cell (set home.cells u.cell c) } in h) (map-set (walk_entry shape) home.entries u.entry e ∙ ap (set (map (walk_entry shape) home.entries) u.entry) entry)
        ∙ ap (λ (l : List kinds.Cell). let h : walk.Home = record { block = n; entries = set (map (walk_entry shape) home.entries) u.entry (new_entry R.entry_before R.xid (place_of shape address)); cells = l } in h) (map-set walk_cell home.cells u.cell c ∙ ap (set (map walk_cell home.cells) u.cell) cell)

    own_walked : (i : ℕ) → i < ENTRIES → IsOwnEntry x (home_entry home i) → IsOwn x (walk.entry_at Walked i)
    own_walked i few own = subst (IsOwn x) (sym (entry_walked i few)) (status_open (home_entry home i).kind (home_entry home i).number own.0, own.1)

    own_back : (i : ℕ) → i < ENTRIES → IsOwn x (walk.entry_at Walked i) → IsOwnEntry x (home_entry home i)
    own_back i few own = let mine : IsOwn x (walk_entry shape (home_entry home i)) = subst (IsOwn x) (entry_walked i few) own in (open_kind (home_entry home i).kind (home_entry home i).number mine.0, mine.1)

    entries_walked : length Walked.entries ≡ ENTRIES
    entries_walked = length-map home.entries (walk_entry shape) ∙ eight

    cells_walked : length Walked.cells ≡ CELLS
    cells_walked = length-map home.cells walk_cell ∙ sixteen

    no_own : HasNoEntry (IsOwnEntry x) (home_entry home) → (j : ℕ) → j < length Walked.entries → IsOwn x (walk.entry_at Walked j) → ⊥
    no_own none j lt mine = let few : j < ENTRIES = omega (arith, lt, entries_walked) in none j few (own_back j few mine)

    not_open : E.kind ≢ OPEN → is_open (walk.entry_at Walked u.entry).status ≡ false
    not_open other = ap (λ (z : kinds.Entry). is_open z.status) (entry_walked u.entry keeps.entry.within) ∙ (open_is E.kind E.number ∙ grind (arith, nat_tests))

    -- what the walk asks of the choice
    pub chooses : (h : ℕ) → u.home ≡ n → ((c : ℕ) → c < CELLS → IsCellSound shape h (home_cell home c)) → IsNotHeld home x u.key → Chooses kind R x Walked
    chooses h at_home sound free_of = record {
      xid = xid;
      here = at_home;
      within = omega (arith, keeps.entry.within, entries_walked);
      cell = omega (arith, cell_few, cells_walked);
      sort = keeps.sort;
      entry_before = ap (walk_entry shape) keeps.entry_before ∙ sym (entry_walked u.entry keeps.entry.within);
      cell_before = ap walk_cell keeps.cell_before ∙ sym (cell_walked u.cell);
      entry_for = elim keeps.entry.way [
        | inl mine ↦ inl (own_walked u.entry keeps.entry.within mine.own)
        | inr other ↦ inr (elim other [
          | inl free ↦ (not_open (λ opened. omega (arith, opened, free.free)), no_own free.no_own)
          | inr told ↦ (not_open told.told.1, no_own told.no_own)
        ])
      ];
      cell_for = elim keeps.cell.way [
        | inl first ↦ inl (ap taken (cell_walked u.cell) ∙ keyed_taken u.key C first.passes)
        | inr free ↦ inr (
          ap taken (cell_walked u.cell) ∙ free_taken shape h C (sound u.cell cell_few) free.2.passes,
          λ j lt has. let few : j < SLOTS = omega (arith, lt, cells_walked) in false≢true (sym (free.1 j few) ∙ taken_keyed u.key (home_cell home j) (ap taken (sym (cell_walked j)) ∙ has)),
        )
      ];
      waits_not = λ i has lock.
          let own : IsOwnEntry x (home_entry home i) = free_of u.cell i (taken_keyed u.key C (ap taken (sym (cell_walked u.cell)) ∙ has)) (sym (lock_same C) ∙ (ap lock_of (sym (cell_walked u.cell)) ∙ lock)) in
          own_walked i (there i own.0) own;
    }
      where
        there : (i : ℕ) → (home_entry home i).kind ≡ OPEN → i < ENTRIES
        there i is_open = elim (cases_lt i ENTRIES) [
          | inl few ↦ few
          | inr many ↦
              let out : (home_entry home i).kind ≡ 0 = ap (λ (e : entries.Entry). e.kind) (lists.get_or-eq_default home.entries free_entry (omega (arith, eight, many))) in
              absurd (omega (arith, out, is_open))
        ]
