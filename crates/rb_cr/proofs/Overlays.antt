-- What is kept lies over the rows; and a key with a row is that of a cell or of a row that is kept.
use Rattle.std.proofs.Common.{◌≡◌, ◌⊎◌, inl, inr, ◌<◌, ◌==◌, ◌&&◌, ℕ, suc, Bool, true, false, if◌then◌else◌}
use Rattle.std.proofs.Common.{List, [], ◌∷◌, length, get_or, map, Option, Some, None, refl, sym, ◌∙◌, ap, subst, arith}
use Rattle.std.proofs.lemmas.Bool.{cases_Bool, cond-false}
use Rattle.std.proofs.lemmas.Bool.Decides.{nat_tests}
use Rattle.rb_cell.specs.declared.cell.Cell as cells
use Rattle.rb_cell.specs.declared.cell.TheConstants.{ROW, EMPTY}
use Rattle.rb_cr.specs.Rows.{kept_key, kept_row}
use Rattle.rb_heap.specs.Homes.{empty_cell}
use Rattle.law_read.specs.Keeping.{Kept, overlay}
use Rattle.law_read.specs.Reading.{or_else, rows_in}
use Rattle.law_blocks.specs.Says.{walk_cell}
use Rattle.law_home.specs.Kinds.{Empty, Row, Stub}
use Rattle.law_home.specs.Walk.{Rows, row_of}

-- the row of a key, by what is kept of it or else by what lies below
abbrev pub chosen : Option (Option (List ℕ)) → Option (List ℕ) → Option (List ℕ)
chosen None below = below
chosen (Some row) below = row

pub over_kept : (kept : Kept) (rows : Rows) (k : ℕ) → overlay kept rows k ≡ chosen (kept_row kept k) (rows k)
over_kept [] rows k = refl
over_kept (x ∷ kept) rows k = elim (cases_Bool (k == x.0)) [
  | inl is ↦ rw is refl
  | inr not ↦ rw not (over_kept kept rows k)
]

-- a cell that shows a row of a key holds one, and has that key
row_key : (x : cells.Cell) (k : ℕ) (v : List ℕ) → row_of (walk_cell x) k ≡ Some v → (x.state ≡ ROW) × (x.key ≡ k)
row_key x k v is = elim (cases_Bool (x.state == ROW)) [
  | inl row ↦ let at : row_of (Row x.key x.value.items x.lock) k ≡ Some v = subst (λ (t : Bool). row_of (if t then Row x.key x.value.items x.lock else if (x.state == EMPTY) && (x.lock == 0) then Empty else Stub x.key x.lock) k ≡ Some v) row is in (holds x.state row, same x.key x.value.items at)
  | inr not ↦ let at : row_of (if (x.state == EMPTY) && (x.lock == 0) then Empty else Stub x.key x.lock) k ≡ Some v = subst (λ (t : Bool). row_of (if t then Row x.key x.value.items x.lock else if (x.state == EMPTY) && (x.lock == 0) then Empty else Stub x.key x.lock) k ≡ Some v) not is in absurd (none ((x.state == EMPTY) && (x.lock == 0)) at)
]
  where
    holds : (state : ℕ) → (state == ROW) ≡ true → state ≡ ROW
    holds state row = grind (arith, nat_tests)

    same : (key : ℕ) (w : List ℕ) → (if k == key then Some w else None) ≡ Some v → key ≡ k
    same key w at = elim (cases_Bool (k == key)) [
      | inl e ↦ grind (arith, nat_tests)
      | inr e ↦ let gone : None ≡ Some v = sym (cond-false (k == key) (Some w) None e) ∙ at in absurd (cc (gone))
    ]

    none : (t : Bool) → row_of (if t then Empty else Stub x.key x.lock) k ≡ Some v → ⊥
    none true at = absurd (cc (at))
    none false at = absurd (cc (at))

-- the place of a cell that holds a row of a key
abbrev pub CellWith : List cells.Cell → ℕ → Type 0
CellWith xs k = (i : ℕ) × (i < length xs) × ((get_or xs i empty_cell).state ≡ ROW) × ((get_or xs i empty_cell).key ≡ k)

-- a cell shows the key
pub cell_with : (xs : List cells.Cell) (k : ℕ) (v : List ℕ) → rows_in (map walk_cell xs) k ≡ Some v → CellWith xs k
cell_with [] k v is = absurd (cc (is))
cell_with (x ∷ xs) k v is = here (row_of (walk_cell x) k) refl (λ deeper. cell_with xs k v deeper)
  where
    here : (o : Option (List ℕ)) → row_of (walk_cell x) k ≡ o → (rows_in (map walk_cell xs) k ≡ Some v → CellWith xs k) → CellWith (x ∷ xs) k
    here None at later = let d : CellWith xs k = later (ap (λ (z : Option (List ℕ)). or_else z (rows_in (map walk_cell xs) k)) (sym at) ∙ is) in (suc d.0, omega (arith, d.1), d.2, d.3)
    here (Some w) at later = let cell = row_key x k w at in (0, omega arith, cell.0, cell.1)

-- a row of the key is kept
kept_with_key : (kept : Kept) (k : ℕ) (r : Option (List ℕ)) → kept_row kept k ≡ Some r → (i : ℕ) × (i < length kept) × (kept_key kept i ≡ k)
kept_with_key [] k r is = absurd (cc (is))
kept_with_key (x ∷ kept) k r is = elim (cases_Bool (k == x.0)) [
  | inl same ↦ (0, omega arith, grind (arith, nat_tests))
  | inr ne ↦ let d : (i : ℕ) × (i < length kept) × (kept_key kept i ≡ k) = kept_with_key kept k r (sym (cond-false (k == x.0) (Some x.1) (kept_row kept k) ne) ∙ is) in (suc d.0, omega (arith, d.1), d.2)
]

pub key_there : (kept : Kept) (xs : List cells.Cell) (k : ℕ) (v : List ℕ) → overlay kept (rows_in (map walk_cell xs)) k ≡ Some v
    → ((i : ℕ) × (i < length xs) × ((get_or xs i empty_cell).key ≡ k)) ⊎ ((i : ℕ) × (i < length kept) × (kept_key kept i ≡ k))
key_there kept xs k v is = by_kept (kept_row kept k) refl
  where
    by_kept : (o : Option (Option (List ℕ))) → kept_row kept k ≡ o → ((i : ℕ) × (i < length xs) × ((get_or xs i empty_cell).key ≡ k)) ⊎ ((i : ℕ) × (i < length kept) × (kept_key kept i ≡ k))
    by_kept None at = let d : CellWith xs k = cell_with xs k v (ap (λ (z : Option (Option (List ℕ))). chosen z (rows_in (map walk_cell xs) k)) (sym at) ∙ (sym (over_kept kept (rows_in (map walk_cell xs)) k) ∙ is)) in inl (d.0, d.1, d.3)
    by_kept (Some r) at = inr (kept_with_key kept k r at)
