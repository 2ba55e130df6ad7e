-- A list that is filled place by place, from the first on, until it is what a block says.
use Rattle.std.proofs.Common.{◌≡◌, ◌∙◌, ◌<◌, ◌≤◌, ◌+◌, inl, inr, ℕ, List, length, map, get_or, set, sym, ap, arith}
use Rattle.std.proofs.lemmas.Bool.{cases_eq}
use Rattle.std.proofs.lemmas.List.{ext_get_or, get_or-set_other, get_or-set_same}
use Rattle.std.proofs.lemmas.List.FromFn.{get_or-map-range_with_len, length-map-range_with_len}
use Rattle.std.specs.List.{range_with_len}
use Rattle.rb_cell.specs.declared.cell.TheConstants.{CELLS}
use Rattle.rb_cell.specs.Cells.{cell_at}
use Rattle.rb_cell.specs.declared.cell.Cell.{Cell}
use Rattle.rb_heap.specs.Homes.{empty_cell, home_of}
use Rattle.rb_itl.specs.Entries.{entry_at, free_entry}
use Rattle.rb_itl.specs.declared.slots.Entry.{Entry}

module _ {X : Type 0} (f : ℕ → X) (d : X) where
  -- each of the first places has what f says of it
  abbrev pub Filled : ℕ → List X → Type 0
  Filled i xs = (j : ℕ) → j < i → get_or xs j d ≡ f j

  pub filled_more : (xs : List X) (i : ℕ) → i < length xs → Filled i xs → Filled (i + 1) (set xs i (f i))
  filled_more xs i lt before j less = elim (cases_eq j i) [
    | inl is ↦ ap (λ (z : ℕ). get_or (set xs i (f i)) z d) is ∙ get_or-set_same xs i (f i) d lt ∙ sym (ap f is)
    | inr ne ↦ get_or-set_other xs i j (f i) d ne ∙ before j (omega (arith, less, ne))
  ]

  pub filled_all : (xs : List X) (n : ℕ) → length xs ≡ n → Filled n xs → xs ≡ map f (range_with_len 0 n)
  filled_all xs n long all =
      ext_get_or d xs (map f (range_with_len 0 n)) (long ∙ sym (length-map-range_with_len f 0 n))
      (λ i lt. all i (omega (arith, lt, long)) ∙ sym (get_or-map-range_with_len f 0 n i i d (omega (arith, lt, long)) (omega arith)))

abbrev pub EntriesFilled : List ℕ → ℕ → List Entry → Type 0
EntriesFilled block = Filled (entry_at block) free_entry

abbrev pub CellsFilled : List ℕ → ℕ → List Cell → Type 0
CellsFilled block = Filled (cell_at block) empty_cell

pub entries_all : (block : List ℕ) (i : ℕ) (xs : List Entry) → 8 ≤ i → length xs ≡ 8 → EntriesFilled block i xs → xs ≡ (home_of block).entries
unfolding home_of
entries_all block i xs le long all = filled_all (entry_at block) free_entry xs 8 long (λ j lt. all j (omega (arith, lt, le)))

pub cells_all : (block : List ℕ) (i : ℕ) (xs : List Cell) → CELLS ≤ i → length xs ≡ CELLS → CellsFilled block i xs → xs ≡ (home_of block).cells
unfolding home_of
cells_all block i xs le long all = filled_all (cell_at block) empty_cell xs CELLS long (λ j lt. all j (omega (arith, lt, le)))
