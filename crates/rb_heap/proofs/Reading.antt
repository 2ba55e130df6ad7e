-- The entries and the cells of a home, as its block's bytes say them.
use Rattle.std.proofs.Common.{◌≡◌, ℕ, ◌<◌, Bool, false, true, List, length, refl, arith, ap, ◌∙◌, slice_index_or}
use Rattle.std.proofs.lemmas.List.FromFn.{get_or-map-range_with_len}
use Rattle.rb_itl.specs.declared.slots.TheConstants.{ENTRIES}
use Rattle.rb_cell.specs.declared.cell.TheConstants.{CELLS}
use Rattle.rb_cell.specs.declared.cell.Cell.{Cell}
use Rattle.rb_cell.specs.Cells.{cell_at}
use Rattle.rb_itl.specs.declared.slots.Entry.{Entry}
use Rattle.rb_itl.specs.Entries.{entry_at}
use Rattle.rb_heap.specs.Homes.{home_of, empty_cell, IsFirst, IsNowhere}

pub entries_counted : (block : List ℕ) → length (home_of block).entries ≡ ENTRIES
unfolding home_of
entries_counted block = refl

pub cells_counted : (block : List ℕ) → length (home_of block).cells ≡ CELLS
unfolding home_of
cells_counted block = refl

pub entry_read : (block : List ℕ) (i : ℕ) (d : Entry) → i < ENTRIES → slice_index_or (home_of block).entries i d ≡ entry_at block i
unfolding home_of
entry_read block i d few = get_or-map-range_with_len (entry_at block) 0 ENTRIES i i d few (omega arith)

pub cell_read : (block : List ℕ) (c : ℕ) (d : Cell) → c < CELLS → slice_index_or (home_of block).cells c d ≡ cell_at block c
unfolding home_of
cell_read block c d few = get_or-map-range_with_len (cell_at block) 0 CELLS c c d few (omega arith)

-- the first cell that passes, by the block's bytes
pub first_read : (test : Cell → Bool) (block : List ℕ) (c : ℕ) → c < CELLS → test (cell_at block c) ≡ true → ((k : ℕ) → k < c → test (cell_at block k) ≡ false) → IsFirst test (home_of block).cells c
first_read test block c few passes lower = record {
  within = few;
  passes = ap test (cell_read block c empty_cell few) ∙ passes;
  lower = λ k lt. ap test (cell_read block k empty_cell (omega arith)) ∙ lower k lt;
}

pub nowhere_read : (test : Cell → Bool) (block : List ℕ) → ((k : ℕ) → k < CELLS → test (cell_at block k) ≡ false) → IsNowhere test (home_of block).cells
nowhere_read test block none k few = ap test (cell_read block k empty_cell few) ∙ none k few
