-- What is seen of a home: the first cell that passes a test, and the rows.
use Rattle.std.proofs.Common.{◌≡◌, ℕ, zero, suc, ◌+◌, ◌<◌, ◌≢◌, Bool, false, true, not, ◌&&◌, ◌||◌, ◌==◌, if◌then◌else◌, List, [], ◌∷◌, ◌++◌, length, take, drop, refl, arith, ap, sym, subst, ◌∙◌, append_assoc, inl, inr, slice_index_or, slice_set}
use Rattle.std.proofs.lemmas.Bool.{cases_lt, eqb-false}
use Rattle.std.proofs.lemmas.Grind.{flat_map-append}
use Rattle.std.proofs.lemmas.List.{take-append-drop, take-set, drop-set, drop_more, length-set}
use Rattle.std.proofs.lemmas.List.Elements.{All-nil, All-cons, All-append, All-set}
use Rattle.std.specs.List.{All}
use Rattle.rb_cell.specs.declared.cell.Cell.{Cell}
use Rattle.rb_cell.specs.declared.cell.TheConstants.{CELLS, ROW}
use Rattle.rb_cell.specs.Cells.{locked_by, IsCell}
use Rattle.rb_itl.specs.declared.slots.Entry.{Entry}
use Rattle.rb_itl.specs.Entries.{IsEntry}
use Rattle.rb_heap.specs.Homes.{is_keyed, empty_cell, Home, CellRow, home_cell, home_rows, with_home_cell, with_home_entry, with_home_lock, row_in, rows_in, IsFirst, IsNowhere, IsHome}

not_first : (test : Cell → Bool) (cells : List Cell) (c k : ℕ) → IsFirst test cells c → IsFirst test cells k → c < k → ⊥
not_first test cells c k first other lt =
    let fails = other.lower c lt in
    let passes = first.passes in
    cc

-- homes of the same cells have the same first one
pub first_by_cells : (test : Cell → Bool) (home other : Home) (c k : ℕ) → home.cells ≡ other.cells → IsFirst test home.cells c → IsFirst test other.cells k → c ≡ k
first_by_cells test home other c k same first last =
    let last_too = subst (λ (cells : List Cell). IsFirst test cells k) (sym same) last in
    elim (cases_lt c k) [
      | inl lt ↦ absurd (not_first test home.cells c k first last_too lt)
      | inr le ↦ elim (cases_lt k c) [
        | inl lt ↦ absurd (not_first test home.cells k c last_too first lt)
        | inr ge ↦ omega arith
      ]
    ]

pub first_or_nowhere : (test : Cell → Bool) (cells : List Cell) (c : ℕ) → IsFirst test cells c → IsNowhere test cells → ⊥
first_or_nowhere test cells c first none =
    let fails = none c first.within in
    let passes = first.passes in
    cc

pub cell_kept_sound : (home : Home) (c : ℕ) (cell : Cell) → IsHome home → IsCell cell → IsHome (with_home_cell home c cell)
cell_kept_sound home c cell sound fits = record {
  entry_count = sound.entry_count;
  cell_count = length-set home.cells c cell ∙ sound.cell_count;
  entries = sound.entries;
  cells = All-set IsCell home.cells c cell fits sound.cells;
}

pub entry_kept_sound : (home : Home) (i : ℕ) (entry : Entry) → IsHome home → IsEntry entry → IsHome (with_home_entry home i entry)
entry_kept_sound home i entry sound fits = record {
  entry_count = length-set home.entries i entry ∙ sound.entry_count;
  cell_count = sound.cell_count;
  entries = All-set IsEntry home.entries i entry fits sound.entries;
  cells = sound.cells;
}

rows_around : (before behind : List Cell) (cell : Cell) → rows_in (before ++ cell ∷ behind) ≡ rows_in before ++ row_in cell ++ rows_in behind
rows_around before behind cell = flat_map-append row_in before (cell ∷ behind) ∙ sym (append_assoc (rows_in before) (row_in cell) (rows_in behind))

pub rows_at : (home : Home) (c : ℕ) → c < length home.cells → home_rows home ≡ rows_in (take c home.cells) ++ row_in (home_cell home c) ++ rows_in (drop (c + 1) home.cells)
rows_at home c within =
    let cells = home.cells in
    let cell = home_cell home c in
    let whole : cells ≡ take c cells ++ cell ∷ drop (c + 1) cells = sym (take-append-drop c cells) ∙ ap (λ (l : List Cell). take c cells ++ l) (drop_more cells c _ within) in
    ap rows_in whole ∙ rows_around (take c cells) (drop (c + 1) cells) cell

pub rows_with : (home : Home) (c : ℕ) (cell : Cell) → c < length home.cells → home_rows (with_home_cell home c cell) ≡ rows_in (take c home.cells) ++ row_in cell ++ rows_in (drop (c + 1) home.cells)
rows_with home c cell within =
    let cells = home.cells in
    let after = slice_set cells c cell in
    let whole : after ≡ take c cells ++ cell ∷ drop (c + 1) cells =
    sym (take-append-drop c after) ∙ ap (λ (l : List Cell). l ++ drop c after) (take-set cells c cell) ∙ ap (λ (l : List Cell). take c cells ++ l) (drop-set cells c cell within) in
    ap rows_in whole ∙ rows_around (take c cells) (drop (c + 1) cells) cell

lock_alone : (cells : List Cell) (c lock : ℕ) (d : Cell) → rows_in (slice_set cells c (locked_by (slice_index_or cells c d) lock)) ≡ rows_in cells
lock_alone [] c lock d = refl
lock_alone (cell ∷ cells) zero lock d = refl
lock_alone (cell ∷ cells) (suc c) lock d = ap (λ (l : List CellRow). row_in cell ++ l) (lock_alone cells c lock d)

pub rows_locked : (home : Home) (c lock : ℕ) → home_rows (with_home_lock home c lock) ≡ home_rows home
rows_locked home c lock = lock_alone home.cells c lock _

-- the row of a cell that has not the key, where `row` says whether it holds one and `locked` whether it is locked
row_unkeyed : (row locked : Bool) (cell : Cell) (key : ℕ) → ((row || locked) && (cell.key == key)) ≡ false → All (λ (r : CellRow). r.key ≢ key) (if row then record { key = cell.key; value = cell.value.items } ∷ [] else [])
row_unkeyed true locked cell key fails = All-cons (λ (r : CellRow). r.key ≢ key) (record { key = cell.key; value = cell.value.items }) [] (eqb-false cell.key key fails) (All-nil (λ (r : CellRow). r.key ≢ key))
row_unkeyed false locked cell key fails = All-nil (λ (r : CellRow). r.key ≢ key)

rows_unkeyed : (cells : List Cell) (key : ℕ) → ((k : ℕ) → k < length cells → is_keyed key (slice_index_or cells k empty_cell) ≡ false) → All (λ (r : CellRow). r.key ≢ key) (rows_in cells)
rows_unkeyed [] key none = All-nil (λ (r : CellRow). r.key ≢ key)
rows_unkeyed (cell ∷ cells) key none =
    All-append (λ (r : CellRow). r.key ≢ key) (row_in cell) (rows_in cells)
    (row_unkeyed (cell.state == ROW) (not (cell.lock == 0)) cell key (none 0 (omega arith)))
    (rows_unkeyed cells key (λ k lt. none (suc k) (omega arith)))

pub none_keyed : (home : Home) (key : ℕ) → length home.cells ≡ CELLS → IsNowhere (is_keyed key) home.cells → All (λ (r : CellRow). r.key ≢ key) (home_rows home)
none_keyed home key count none = rows_unkeyed home.cells key (λ k lt. none k (omega arith))
