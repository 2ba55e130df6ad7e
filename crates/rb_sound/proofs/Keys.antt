-- Each key is that of one cell at most where each cell is the first one with its key.
use Rattle.std.proofs.Common.{◌≡◌, ◌↔◌, ℕ, ◌<◌, true, not, ◌||◌, ◌==◌, List, Option, None, Some, arith, ap, sym, ◌∙◌, inl, inr, IfSome, IfNone, nat_eq}
use Rattle.std.proofs.lemmas.Bool.{cases_lt, false_from_ne_true, and_parts, eqb-true, eq-eqb}
use Rattle.std.specs.Option.{option_eq}
use Rattle.rb_cell.specs.declared.cell.Cell.{Cell}
use Rattle.rb_cell.specs.declared.cell.TheConstants.{CELLS, ROW}
use Rattle.rb_cell.specs.Cells.{cell_at}
use Rattle.rb_heap.specs.Homes.{home_of, is_keyed, empty_cell, IsFirst, IsNowhere}
use Rattle.rb_heap.proofs.Reading.{cell_read}
use Rattle.rb_heap.specs.Soundness.{IsFirstKeyed, AreKeysApart}

two_firsts : (block : List ℕ) (key c other : ℕ) → c < other → IsFirstKeyed block other → is_keyed key (cell_at block c) ≡ true → is_keyed key (cell_at block other) ≡ true → ⊥
two_firsts block key c other lt first has has_too =
    let not_here = first.lower key c lt has_too in
    cc

pub apart_of_firsts : (block : List ℕ) → ((c : ℕ) → c < CELLS → IsFirstKeyed block c) → AreKeysApart block
apart_of_firsts block firsts = record {
  one = λ key c other few others_few has has_too.
      elim (cases_lt c other) [
        | inl lt ↦ absurd (two_firsts block key c other lt (firsts other others_few) has has_too)
        | inr le ↦ elim (cases_lt other c) [
          | inl lt ↦ absurd (two_firsts block key other c lt (firsts c few) has_too has)
          | inr ge ↦ omega arith
        ]
      ];
}

pub first_of_apart : (block : List ℕ) (c : ℕ) → c < CELLS → AreKeysApart block → IsFirstKeyed block c
first_of_apart block c few apart = record {
  lower = λ key k lt has.
      false_from_ne_true (is_keyed key (cell_at block k)) (λ other. let e = apart.one key k c (omega arith) few other has in absurd (omega arith));
}

-- a cell has no key but its own
pub own_key : (key : ℕ) (cell : Cell) → is_keyed key cell ≡ true → key ≡ cell.key
own_key key cell has = sym (eqb-true cell.key key (and_parts ((cell.state == ROW) || not (cell.lock == 0)) (cell.key == key) has).1)

-- `found` is the first cell with that key, if there is one
pub found_is_first : (block : List ℕ) (c key : ℕ) (found : Option ℕ) → c < CELLS → key ≡ (cell_at block c).key → is_keyed key (cell_at block c) ≡ true
    → IfSome found (λ f. IsFirst (is_keyed key) (home_of block).cells f) → IfNone found (IsNowhere (is_keyed key) (home_of block).cells)
    → option_eq nat_eq found (Some c) ≡ true ↔ IsFirstKeyed block c
found_is_first block c key None few is has some none =
    let nowhere = none c few in
    let here = ap (is_keyed key) (cell_read block c empty_cell few) in
    absurd (cc)
found_is_first block c key (Some f) few is has first none = (
  (λ (e : nat_eq f c ≡ true). record {
    lower = λ key_too k lt has_too.
        let same = own_key key_too (cell_at block c) has_too ∙ sym is in
        let f_is_c = eqb-true f c e in
        let lt_f : k < f = omega arith in
        let fails = first.lower k lt_f in
        let read = cell_read block k empty_cell (omega arith) in
        rw (same) (sym (ap (is_keyed key) read) ∙ fails);
  }),
  λ firsts.
      elim (cases_lt c f) [
        | inl lt ↦ absurd (let fails = first.lower c lt in let read = ap (is_keyed key) (cell_read block c empty_cell few) in cc)
        | inr le ↦ elim (cases_lt f c) [
          | inl lt ↦ absurd (let fails = firsts.lower key f lt has in let passes = first.passes in let read = ap (is_keyed key) (cell_read block f empty_cell first.within) in cc)
          | inr ge ↦ eq-eqb f c (omega arith)
        ]
      ],
)
