-- The rows that cells show as they stand, cell by cell.
use Rattle.std.proofs.Common.{◌≡◌, inl, inr, ◌<◌, ◌==◌, ◌&&◌, ℕ, zero, suc, Bool, true, false, if◌then◌else◌}
use Rattle.std.proofs.Common.{List, [], ◌∷◌, length, get_or, map, Option, Some, None, refl, sym, ◌∙◌, ap, arith}
use Rattle.std.proofs.lemmas.Bool.{cases_Bool}
use Rattle.std.proofs.lemmas.Bool.Decides.{nat_tests}
use Rattle.std.proofs.lemmas.List.FromFn.{get_or-map-range_with_len, length-map-range_with_len}
use Rattle.rb_cell.specs.Cells.{cell_at}
use Rattle.rb_cell.specs.declared.cell.Cell.{Cell}
use Rattle.rb_cell.specs.declared.cell.TheConstants.{CELLS, EMPTY, ROW}
use Rattle.rb_cr.specs.Rows.{IsNext, cell_rows}
use Rattle.rb_heap.specs.Homes.{empty_cell, home_of}
use Rattle.law_read.specs.Reading.{or_else, rows_in}
use Rattle.rb_model.specs.declared.row.Row.{Row}
use Rattle.law_blocks.specs.Says.{walk_cell}
use Rattle.law_home.specs.Kinds as kinds
use Rattle.law_home.specs.Walk.{Rows, row_of}

-- the cells of a block
pub cell_there : (block : List ℕ) (c : ℕ) → c < CELLS → get_or (home_of block).cells c empty_cell ≡ cell_at block c
unfolding home_of
cell_there block c lt = get_or-map-range_with_len (cell_at block) 0 CELLS c c empty_cell lt (omega arith)

pub sixteen : (block : List ℕ) → length (home_of block).cells ≡ CELLS
unfolding home_of
sixteen block = length-map-range_with_len (cell_at block) 0 CELLS

-- a cell shows its row, and no other
row_here : (x : Cell) (k : ℕ) → x.state ≡ ROW → k ≡ x.key → row_of (walk_cell x) k ≡ Some x.value.items
row_here x k state key =
    let holds : (x.state == ROW) ≡ true = grind (arith, nat_tests) in
    let same : (k == x.key) ≡ true = grind (arith, nat_tests) in
    rw holds (rw same refl)

row_other : (x : Cell) (k : ℕ) → (x.state ≡ ROW → k ≡ x.key → ⊥) → row_of (walk_cell x) k ≡ None
row_other x k other = elim (cases_Bool (x.state == ROW)) [
  | inl holds ↦ rw holds (elim (cases_Bool (k == x.key)) [
    | inl same ↦ absurd (other (is x.state ROW holds) (is k x.key same))
    | inr not ↦ rw not refl
  ])
  | inr not ↦ rw not (none ((x.state == EMPTY) && (x.lock == 0)))
]
  where
    is : (a b : ℕ) → (a == b) ≡ true → a ≡ b
    is a b same = grind (arith, nat_tests)

    none : (t : Bool) → row_of (if t then kinds.Empty else kinds.Stub x.key x.lock) k ≡ None
    none true = refl
    none false = refl

-- cells that hold nothing show no row
pub none_in : (xs : List Cell) (n k : ℕ) → length xs ≡ n → ((i : ℕ) (d : Cell) → i < n → get_or xs i d ≡ empty_cell)
    → rows_in (map walk_cell xs) k ≡ None
none_in [] n k long each = refl
none_in (x ∷ xs) zero k long each = absurd (omega (arith, long))
none_in (x ∷ xs) (suc n) k long each =
    ap (λ (c : Cell). or_else (row_of (walk_cell c) k) (rows_in (map walk_cell xs) k)) (each 0 x (omega arith))
    ∙ none_in xs n k (omega (arith, long)) (λ i d lt. each (suc i) d (omega arith))

-- the first cell with a row of its key shows that row
pub first_shows : (cells : List Cell) (c : ℕ) → c < length cells → (get_or cells c empty_cell).state ≡ ROW
    → ((j : ℕ) → j < c → (get_or cells j empty_cell).state ≡ ROW → (get_or cells j empty_cell).key ≡ (get_or cells c empty_cell).key → ⊥)
    → cell_rows cells (get_or cells c empty_cell).key ≡ Some (get_or cells c empty_cell).value.items
first_shows [] c lt state first = absurd (omega (arith, lt))
first_shows (x ∷ xs) zero lt state first = ap (λ (o : Option (List ℕ)). or_else o (cell_rows xs x.key)) (row_here x x.key state refl)
first_shows (x ∷ xs) (suc c) lt state first =
    ap (λ (o : Option (List ℕ)). or_else o (cell_rows xs (get_or xs c empty_cell).key)) (row_other x (get_or xs c empty_cell).key (λ here key. first 0 (omega arith) here (sym key)))
    ∙ first_shows xs c (omega (arith, lt)) state (λ j less here key. first (suc j) (omega (arith, less)) here key)

-- the next row of some rows is that of the same rows
pub next_same : (after : Option ℕ) (lo hi : ℕ) (rows rows2 : Rows) (row : Row) → ((k : ℕ) → rows k ≡ rows2 k) → IsNext after lo hi rows row → IsNext after lo hi rows2 row
next_same after lo hi rows rows2 row same next = record {
  wanted = next.wanted;
  shows = sym (same row.key) ∙ next.shows;
  least = λ key value wanted is. next.least key value wanted (same key ∙ is);
}
