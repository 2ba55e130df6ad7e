-- Whether a key has a row in a home, by the cell that is found.
use Rattle.std.proofs.Common.{◌≡◌, ◌==◌, ◌⊎◌, ◌<◌, ℕ, zero, suc, Bool, true, false, List, [], ◌∷◌, length, get_or, inl, inr, refl, sym, ap, ◌∙◌, arith}
use Rattle.std.proofs.lemmas.Bool.{cases_Bool, eq-eqb, eqb-true, false≢true}
use Rattle.rb_cell.specs.Cells.{cell_at}
use Rattle.rb_cell.specs.declared.cell.TheConstants.{CELLS, ROW}
use Rattle.rb_heap.proofs.Seen.{first_by_cells, first_or_nowhere}
use Rattle.rb_heap.specs.Homes.{Home, IsFirst, IsNowhere, empty_cell, home_cell, home_of, is_keyed}
use Rattle.rb_write.proofs.Held.{find_first, find_nowhere, keyed_cell, no_cell}
use Rattle.rb_write.specs.Asks.{adds_in, adds_row, is_row, shows_row}
use Rattle.rb_write.specs.Refusals.{HasNoRow, HasRow}
use Rattle.rb_write.specs.declared.ask.Ask.{Ask}

-- the cell of the key tells it, and none where there is no such cell
pub shown : (block : List ℕ) (key c : ℕ) → IsFirst (is_keyed key) (home_of block).cells c → shows_row (home_of block) key ≡ ((cell_at block c).state == ROW)
shown block key c first = ap is_row (keyed_cell block key c first)

pub unshown : (block : List ℕ) (key : ℕ) → IsNowhere (is_keyed key) (home_of block).cells → shows_row (home_of block) key ≡ false
unshown block key none = ap is_row (no_cell block key none)

-- so the write adds a row by what the cell is, or by that there is none
pub adds_found : (block : List ℕ) (ask : Ask) (c state : ℕ) → IsFirst (is_keyed ask.key) (home_of block).cells c → state ≡ (cell_at block c).state → adds_in (home_of block) ask ≡ adds_row ask.op (state == ROW)
adds_found block ask c state first is = ap (adds_row ask.op) (shown block ask.key c first ∙ ap (λ (n : ℕ). n == ROW) (sym is))

pub adds_nowhere : (block : List ℕ) (ask : Ask) → IsNowhere (is_keyed ask.key) (home_of block).cells → adds_in (home_of block) ask ≡ adds_row ask.op false
adds_nowhere block ask none = ap (adds_row ask.op) (unshown block ask.key none)

-- the first place that passes, or there is none
abbrev Placed : {X : Type 0} → (X → Bool) → List X → X → Type 0
Placed p xs d = ((c : ℕ) × (c < length xs) × (p (get_or xs c d) ≡ true) × ((k : ℕ) → k < c → p (get_or xs k d) ≡ false)) ⊎ ((k : ℕ) → k < length xs → p (get_or xs k d) ≡ false)

placed : {X : Type 0} (p : X → Bool) (xs : List X) (d : X) → Placed p xs d
placed p [] d = inr (λ k lt. absurd (omega (arith, lt)))
placed {X} p (x ∷ xs) d = elim (cases_Bool (p x)) [
  | inl here ↦ inl (0, omega arith, here, λ k lt. absurd (omega (arith, lt)))
  | inr not_here ↦ elim (placed p xs d) [
    | inl some ↦ inl (suc some.0, (let l = some.1 in omega (arith, l)), some.2, before not_here some.0 some.3)
    | inr none ↦ inr (before not_here (length xs) none)
  ]
]
  where
    before : p x ≡ false → (n : ℕ) → ((k : ℕ) → k < n → p (get_or xs k d) ≡ false) → (k : ℕ) → k < suc n → p (get_or (x ∷ xs) k d) ≡ false
    before not_here n none zero lt = not_here
    before not_here n none (suc k) lt = none k (omega (arith, lt))

-- So the two ways to say it agree.
pub row_or_none : (home : Home) (key : ℕ) → length home.cells ≡ CELLS → ((shows_row home key ≡ true) × HasRow home key) ⊎ ((shows_row home key ≡ false) × HasNoRow home key)
row_or_none home key count = elim (placed (is_keyed key) home.cells empty_cell) [
  | inl some ↦
      let c = some.0 in
      let lt = some.1 in
      let first : IsFirst (is_keyed key) home.cells c = record { within = omega (arith, count, lt); passes = some.2; lower = some.3 } in
      let says : shows_row home key ≡ ((home_cell home c).state == ROW) = ap is_row (find_first (is_keyed key) home.cells c empty_cell lt some.2 some.3) in
      elim (cases_Bool ((home_cell home c).state == ROW)) [
        | inl is ↦ inl (says ∙ is, (c, first, eqb-true (home_cell home c).state ROW is))
        | inr not_is ↦ inr (
          says ∙ not_is,
          λ k found is.
              let same = first_by_cells (is_keyed key) home home k c refl found first in
              false≢true (sym not_is ∙ eq-eqb (home_cell home c).state ROW (ap (λ (z : ℕ). (home_cell home z).state) (sym same) ∙ is)),
        )
      ]
  | inr none ↦ inr (
    ap is_row (find_nowhere (is_keyed key) home.cells empty_cell none),
    λ k found is. first_or_nowhere (is_keyed key) home.cells k found (λ j few. none j (omega (arith, count, few))),
  )
]
