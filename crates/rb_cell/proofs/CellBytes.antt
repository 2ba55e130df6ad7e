-- The bytes of a cell read again, and what a patch of a cell or of its lock makes of the cells of a block.
use Rattle.std.proofs.Common.{◌≡◌, ◌≢◌, ℕ, ◌+◌, ◌-◌, ◌<◌, ◌≤◌, List, [], ◌∷◌, ◌++◌, length, take, drop, replicate, refl, arith, ap, sym, ◌∙◌, inl, inr}
use Rattle.std.proofs.lemmas.Bool.{cases_lt}
use Rattle.std.proofs.lemmas.List.{take_at, length-append, length-replicate, length-drop}
use Rattle.rb_base.specs.declared.sizes.TheConstants.{UNIT, VALUE_BYTES}
use Rattle.rb_cell.specs.declared.cell.TheConstants.{CELLS, CELL_BYTES}
use Rattle.byteorder.specs.Endian.{big_bytes}
use Rattle.byteorder.specs.Numbers.{big_number-reads_back}
use Rattle.rb_base.specs.Fields.{part, number_at, overwritten, AreApart}
use Rattle.rb_cell.specs.declared.cell.Cell.{Cell}
use Rattle.rb_cell.specs.Cells.{cell_place, padded, cell_bytes, cell_of, cell_at, IsCell, with_cell, with_lock, locked_by}
use Rattle.rb_base.proofs.Overwriting.{length-overwritten, part_written, part_apart, drop_before}

length-padded : (value : List ℕ) → length value ≤ VALUE_BYTES → length (padded value) ≡ VALUE_BYTES
length-padded value short = omega (arith, length-append value (replicate (VALUE_BYTES - length value) 0), length-replicate {A = ℕ} (VALUE_BYTES - length value) 0)

pub length-cell : (cell : Cell) → IsCell cell → length (cell_bytes cell) ≡ CELL_BYTES
length-cell cell sound = let l = length-padded cell.value.items sound.short_value in omega (arith, l)

abbrev cell_with : Cell → ℕ → List ℕ → Cell
cell_with cell key value = record { state = cell.state; lock = cell.lock; key = key; value = record { items = value } }

pub cell_again : (cell : Cell) → IsCell cell → cell_of (cell_bytes cell) ≡ cell
cell_again cell sound =
    let value = cell.value.items in
    let filling : List ℕ = replicate (VALUE_BYTES - length value) 0 in
    let count = big_number-reads_back 2 (length value) (big_bytes 8 cell.key ++ padded value) (omega (arith, sound.short_value)) in
    let key = big_number-reads_back 8 cell.key (padded value) sound.key_fits in
    ap (λ (x : ℕ). cell_with cell x (take (number_at (cell_bytes cell) 2 2) (padded value))) key
    ∙ ap (λ (x : List ℕ). cell_with cell cell.key x) (take_at value filling (number_at (cell_bytes cell) 2 2) (sym count))

pub cell_read : (block : List ℕ) (c : ℕ) (cell : Cell) → IsCell cell → part block (cell_place c) CELL_BYTES ≡ cell_bytes cell → cell_at block c ≡ cell
cell_read block c cell sound e = ap cell_of e ∙ cell_again cell sound

-- the bytes of a cell lie within its block
within : (block : List ℕ) (c : ℕ) (cell : Cell) → length block ≡ UNIT → c < CELLS → IsCell cell → cell_place c + length (cell_bytes cell) ≤ length block
within block c cell long few sound = omega (arith, length-cell cell sound, long)

pub cell_there : (block : List ℕ) (c : ℕ) (cell : Cell) → length block ≡ UNIT → c < CELLS → IsCell cell → cell_at (with_cell block c cell) c ≡ cell
cell_there block c cell long few sound =
    cell_read (with_cell block c cell) c cell sound (part_written block (cell_place c) (cell_bytes cell) CELL_BYTES (within block c cell long few sound) (length-cell cell sound))

-- a range within one cell has no byte of another
pub apart : (c other start count : ℕ) → cell_place c ≤ start → start + count ≤ cell_place c + CELL_BYTES → other ≢ c → AreApart (cell_place other) CELL_BYTES start count
apart c other start count from to differ =
    elim (cases_lt other c) [
      | inl lt ↦ inl (omega arith)
      | inr le ↦ elim (cases_lt c other) [
        | inl lt ↦ inr (omega arith)
        | inr ge ↦ absurd (differ (omega arith))
      ]
    ]

pub cell_outside : (block : List ℕ) (c at count : ℕ) (cell : Cell) → length block ≡ UNIT → c < CELLS → IsCell cell → AreApart at count (cell_place c) CELL_BYTES → part (with_cell block c cell) at count ≡ part block at count
cell_outside block c at count cell long few sound apart =
    part_apart block (cell_place c) (cell_bytes cell) at count CELL_BYTES (within block c cell long few sound) (length-cell cell sound) apart

pub cell_others : (block : List ℕ) (c other : ℕ) (cell : Cell) → length block ≡ UNIT → c < CELLS → IsCell cell → other ≢ c → cell_at (with_cell block c cell) other ≡ cell_at block other
cell_others block c other cell long few sound differ = ap cell_of (cell_outside block c (cell_place other) CELL_BYTES cell long few sound (apart c other (cell_place c) CELL_BYTES (omega arith) (omega arith) differ))

pub cell_size : (block : List ℕ) (c : ℕ) (cell : Cell) → length block ≡ UNIT → c < CELLS → IsCell cell → length (with_cell block c cell) ≡ UNIT
cell_size block c cell long few sound = length-overwritten block (cell_place c) (cell_bytes cell) (within block c cell long few sound) ∙ long

-- the second byte written over
lock_over : (bytes : List ℕ) (lock : ℕ) → 2 ≤ length bytes → cell_of (take CELL_BYTES (overwritten bytes 1 (lock ∷ []))) ≡ locked_by (cell_of (take CELL_BYTES bytes)) lock
lock_over [] lock long = absurd (omega arith)
lock_over (state ∷ []) lock long = absurd (omega arith)
lock_over (state ∷ old ∷ rest) lock long = refl

pub lock_there : (block : List ℕ) (c lock : ℕ) → length block ≡ UNIT → c < CELLS → cell_at (with_lock block c lock) c ≡ locked_by (cell_at block c) lock
lock_there block c lock long few =
    ap (λ (l : List ℕ). cell_of (take CELL_BYTES l)) (drop_before block (cell_place c) 1 (lock ∷ []) (omega (arith, long)))
    ∙ lock_over (drop (cell_place c) block) lock (omega (arith, length-drop (cell_place c) block, long))

pub lock_outside : (block : List ℕ) (c at count lock : ℕ) → length block ≡ UNIT → c < CELLS → AreApart at count (cell_place c + 1) 1 → part (with_lock block c lock) at count ≡ part block at count
lock_outside block c at count lock long few apart = part_apart block (cell_place c + 1) (lock ∷ []) at count 1 (omega (arith, long)) refl apart

pub lock_others : (block : List ℕ) (c other lock : ℕ) → length block ≡ UNIT → c < CELLS → other ≢ c → cell_at (with_lock block c lock) other ≡ cell_at block other
lock_others block c other lock long few differ = ap cell_of (lock_outside block c (cell_place other) CELL_BYTES lock long few (apart c other (cell_place c + 1) 1 (omega arith) (omega arith) differ))

pub lock_size : (block : List ℕ) (c lock : ℕ) → length block ≡ UNIT → c < CELLS → length (with_lock block c lock) ≡ UNIT
lock_size block c lock long few = length-overwritten block (cell_place c + 1) (lock ∷ []) (omega (arith, long)) ∙ long
