-- The bytes of a cell's value, in their place in its block.
use Rattle.std.proofs.Common.{◌≡◌, ◌∙◌, ℕ, ◌+◌, ◌-◌, ◌<◌, List, length, take, drop, min, sym, ap, arith}
use Rattle.std.proofs.lemmas.List.{drop-drop, drop-take, length-drop, length-take-le, take-take, take_min}
use Rattle.byteorder.specs.Numbers.{big_from-take}
use Rattle.rb_base.specs.Fields.{number_at, part}
use Rattle.rb_base.specs.declared.sizes.TheConstants.{UNIT}
use Rattle.rb_cell.specs.Cells.{cell_at, cell_place, value_length}
use Rattle.rb_cell.specs.declared.cell.TheConstants.{CELLS, CELL_BYTES, HEAD_BYTES, LENGTH_AT}

-- the length that the cell says, by the block's bytes and by its own
length_is : (block : List ℕ) (c : ℕ) → number_at (part block (cell_place c) CELL_BYTES) LENGTH_AT 2 ≡ value_length block c
unfolding value_length
length_is block c =
    ap (λ (l : List ℕ). number_at l 0 2) (drop-take 2 (CELL_BYTES - LENGTH_AT) (drop (cell_place c) block))
    ∙ big_from-take 0 2 (CELL_BYTES - LENGTH_AT) (drop 2 (drop (cell_place c) block)) (omega arith)
    ∙ ap (λ (l : List ℕ). number_at l 0 2) (drop-drop 2 (cell_place c) block)

pub value_there : (block : List ℕ) (c m : ℕ) → length block ≡ UNIT → c < CELLS → m ≡ min (value_length block c) 80 → take m (drop (cell_place c + 12) block) ≡ (cell_at block c).value.items
value_there block c m long few is =
    let behind = drop (cell_place c + 12) block in
    let rest : drop HEAD_BYTES (part block (cell_place c) CELL_BYTES) ≡ take 80 behind =
    drop-take 12 80 (drop (cell_place c) block) ∙ ap (take 80) (drop-drop 12 (cell_place c) block) in
    let count = number_at (part block (cell_place c) CELL_BYTES) LENGTH_AT 2 in
    let same : m ≡ min count 80 = is ∙ ap (λ (n : ℕ). min n 80) (sym (length_is block c)) in
    let eighty : length (take 80 behind) ≡ 80 = length-take-le 80 behind (omega (arith, long, few, length-drop (cell_place c + 12) block)) in
    ap (λ (n : ℕ). take n behind) same
    ∙ sym (take-take (min count 80) 80 behind (omega arith))
    ∙ ap (λ (n : ℕ). take (min count n) (take 80 behind)) (sym eighty)
    ∙ take_min count (take 80 behind)
    ∙ ap (take count) (sym rest)
