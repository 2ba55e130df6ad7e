-- The lengths of a block's values, as the block says them, once a cell or a lock was written over it.
use Rattle.std.proofs.Common.{◌-◌, ◌≡◌, ◌≢◌, ◌⊎◌, ℕ, ◌+◌, ◌<◌, ◌≤◌, List, ◌++◌, length, drop, arith, ap, sym, ◌∙◌, inl, inr}
use Rattle.std.proofs.lemmas.Bool.{cases_eq, cases_lt}
use Rattle.std.proofs.lemmas.List.{drop-take, drop-drop}
use Rattle.rb_base.specs.declared.sizes.TheConstants.{UNIT}
use Rattle.rb_cell.specs.declared.cell.TheConstants.{CELLS, CELL_BYTES, LENGTH_AT}
use Rattle.byteorder.specs.Endian.{big_bytes}
use Rattle.byteorder.specs.Numbers.{big_from-take, big_number-reads_back}
use Rattle.rb_base.proofs.Fronts.{number_of_part}
use Rattle.rb_base.proofs.Overwriting.{part_written}
use Rattle.rb_base.specs.Fields.{part, number_at, AreApart}
use Rattle.rb_cell.proofs.CellBytes.{length-cell, cell_outside, lock_outside}
use Rattle.rb_cell.specs.Cells.{cell_place, cell_bytes, padded, value_length, with_cell, with_lock, IsCell}
use Rattle.rb_cell.specs.declared.cell.Cell.{Cell}

-- it is read from two bytes
pub by_part : (one other : List ℕ) (c : ℕ) → part one (cell_place c + 2) 2 ≡ part other (cell_place c + 2) 2 → value_length one c ≡ value_length other c
unfolding value_length
by_part one other c same = sym (number_of_part one (cell_place c + 2) 2) ∙ ap (λ (l : List ℕ). number_at l 0 2) same ∙ number_of_part other (cell_place c + 2) 2

-- a cell has no byte of the length of another one's value
other_apart : (c k : ℕ) → k ≢ c → AreApart (cell_place k + 2) 2 (cell_place c) CELL_BYTES
other_apart c k differ = elim (cases_lt k c) [
  | inl lt ↦ inl (omega arith)
  | inr le ↦ inr (omega (arith, differ))
]

pub length_others : (block : List ℕ) (c k : ℕ) (cell : Cell) → length block ≡ UNIT → c < CELLS → IsCell cell → k ≢ c → value_length (with_cell block c cell) k ≡ value_length block k
length_others block c k cell long few sound differ = by_part (with_cell block c cell) block k (cell_outside block c (cell_place k + 2) 2 cell long few sound (other_apart c k differ))

pub length_own : (block : List ℕ) (c : ℕ) (cell : Cell) → length block ≡ UNIT → c < CELLS → IsCell cell → value_length (with_cell block c cell) c ≡ length cell.value.items
unfolding value_length
length_own block c cell long few sound =
    let now = with_cell block c cell in
    let there = part_written block (cell_place c) (cell_bytes cell) CELL_BYTES (omega (arith, length-cell cell sound, long)) (length-cell cell sound) in
    let count = big_number-reads_back 2 (length cell.value.items) (big_bytes 8 cell.key ++ padded cell.value.items) (omega (arith, sound.short_value)) in
    sym (ap (λ (l : List ℕ). number_at l 0 2) (drop-drop 2 (cell_place c) now))
    ∙ sym (big_from-take 0 2 (CELL_BYTES - LENGTH_AT) (drop 2 (drop (cell_place c) now)) (omega arith))
    ∙ sym (ap (λ (l : List ℕ). number_at l 0 2) (drop-take 2 (CELL_BYTES - LENGTH_AT) (drop (cell_place c) now)))
    ∙ ap (λ (l : List ℕ). number_at l 2 2) there
    ∙ count

pub length_lock : (block : List ℕ) (c k lock : ℕ) → length block ≡ UNIT → c < CELLS → value_length (with_lock block c lock) k ≡ value_length block k
length_lock block c k lock long few = by_part (with_lock block c lock) block k (lock_outside block c (cell_place k + 2) 2 lock long few (lock_apart (cases_lt k (c + 1))))
  where
    lock_apart : (k < c + 1) ⊎ (c + 1 ≤ k) → AreApart (cell_place k + 2) 2 (cell_place c + 1) 1
    lock_apart (inl below) = elim (cases_eq k c) [
      | inl same ↦ inr (omega (arith, same))
      | inr differ ↦ inl (omega (arith, below, differ))
    ]
    lock_apart (inr above) = inr (omega (arith, above))
