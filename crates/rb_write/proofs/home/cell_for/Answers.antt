use Rattle.std.proofs.Common.{◌≡◌, ℕ, List, true, Option, Some, None, Result, IfOk, IfErr, IfNone, IfSome, OnOk, inr, ap, sym, subst, ◌∙◌, refl}
use Rattle.std.specs.Option.{ok_or}
use Rattle.std.proofs.lemmas.Bool.{eq-eqb, eqb-true, false≢true}
use Rattle.rb_cell.specs.declared.cell.Cell.{Cell}
use Rattle.rb_cell.specs.declared.cell.TheConstants.{ROW}
use Rattle.rb_heap.proofs.Reading.{cell_read}
use Rattle.rb_heap.proofs.Seen.{first_by_cells, first_or_nowhere}
use Rattle.rb_heap.specs.Homes.{empty_cell, home_of, is_free, is_keyed, IsFirst, IsNowhere}
use Rattle.law_blocks.specs.Writing.{IsCellChoice}
use Rattle.rb_write.proofs.Rows.{adds_found, adds_nowhere}
use Rattle.rb_write.specs.Asks.{adds_in}
use Rattle.rb_write.specs.Refusals.{HomeRefuses, TakesWrite}
use Rattle.rb_write.specs.declared.ask.Ask.{Ask}
use Rattle.rb_write.specs.declared.ask.AttemptFault.{AttemptFault}
use Rattle.rb_write.specs.declared.ask.AttemptFault.TheVariants.{BlockFull}
use Rattle.rb_write.proofs.home.cell_for.Goals as goal

-- a row that is added where no cell has the key takes a free cell, or is refused
module _ (block : List ℕ) (ask : Ask) (none : IsNowhere (is_keyed ask.key) (home_of block).cells) (adds : adds_in (home_of block) ask ≡ true) where
  free_taken : (o : Option ℕ) → IfSome o (λ c. IsFirst is_free (home_of block).cells c) → IfOk (ok_or o BlockFull) (λ c. IsCellChoice (home_of block) (adds_in (home_of block) ask) ask.key c)
  free_taken (Some c) free = record { way = inr (adds, none, free) }
  free_taken None free = tt

  free_takes : (o : Option ℕ) → IfSome o (λ c. IsFirst is_free (home_of block).cells c) → OnOk (ok_or o BlockFull) (TakesWrite (home_of block) (adds_in (home_of block) ask) ask.key)
  free_takes (Some c) free = record {
    row = λ no_adds. absurd (false≢true (sym no_adds ∙ adds));
    no_row = λ is_adding k first is. first_or_nowhere (is_keyed ask.key) (home_of block).cells k first none;
    cell = λ is_adding has. first_or_nowhere is_free (home_of block).cells c free has.none_free;
  }
  free_takes None free = tt

  full_refuses : (o : Option ℕ) → IfNone o (IsNowhere is_free (home_of block).cells) → IfErr (ok_or o BlockFull) (λ fault. HomeRefuses fault (home_of block) (adds_in (home_of block) ask) ask.key)
  full_refuses (Some c) full = tt
  full_refuses None full = (adds, (λ k first is. first_or_nowhere (is_keyed ask.key) (home_of block).cells k first none), record { none_keyed = none; none_free = full })

pub returns-then-makes_row-clause-cell : goal.returns-then-makes_row-clause-cell
returns-then-makes_row-clause-cell c =
    let block = c.args.home.now in
    let ask = c.args.ask.now in
    let adds = adds_nowhere block ask c.in_default.ensures.none ∙ sym c.makes_row.ensures ∙ c.if-makes_row.true in
    subst (λ (r : Result ℕ AttemptFault). IfOk r (λ n. IsCellChoice (home_of block) (adds_in (home_of block) ask) ask.key n)) (sym c.ok_or.ensures.value) (free_taken block ask c.in_default.ensures.none adds c.free_cell.result c.free_cell.ensures.found)

pub returns-then-makes_row-clause-takes : goal.returns-then-makes_row-clause-takes
returns-then-makes_row-clause-takes c =
    let block = c.args.home.now in
    let ask = c.args.ask.now in
    let adds = adds_nowhere block ask c.in_default.ensures.none ∙ sym c.makes_row.ensures ∙ c.if-makes_row.true in
    subst (λ (r : Result ℕ AttemptFault). OnOk r (TakesWrite (home_of block) (adds_in (home_of block) ask) ask.key)) (sym c.ok_or.ensures.value) (free_takes block ask c.in_default.ensures.none adds c.free_cell.result c.free_cell.ensures.found)

pub returns-then-makes_row-clause-refused : goal.returns-then-makes_row-clause-refused
returns-then-makes_row-clause-refused c =
    let block = c.args.home.now in
    let ask = c.args.ask.now in
    let adds = adds_nowhere block ask c.in_default.ensures.none ∙ sym c.makes_row.ensures ∙ c.if-makes_row.true in
    subst (λ (r : Result ℕ AttemptFault). IfErr r (λ fault. HomeRefuses fault (home_of block) (adds_in (home_of block) ask) ask.key)) (sym c.ok_or.ensures.value) (full_refuses block ask c.in_default.ensures.none adds c.free_cell.result c.free_cell.ensures.none)

pub returns-in-true-true-clause-refused : goal.returns-in-true-true-clause-refused
returns-in-true-true-clause-refused c =
    let found = c.in-Some.ensures.found in
    let state = c.front-present.result.state in
    let read = cell_read c.args.home.now c.in-Some.c empty_cell found.within in
    let adds = adds_found c.args.home.now c.args.ask.now c.in-Some.c state found c.front-present.ensures.state in
    (adds ∙ sym c.in-true-true.ensures, (c.in-Some.c, found, ap (λ (y : Cell). y.state) read ∙ sym c.front-present.ensures.state ∙ eqb-true state ROW c.in-true-true.is-1))

pub returns-in-false-false-clause-refused : goal.returns-in-false-false-clause-refused
returns-in-false-false-clause-refused c =
    let home = home_of c.args.home.now in
    let found = c.in-Some.ensures.found in
    let state = c.front-present.result.state in
    let read = cell_read c.args.home.now c.in-Some.c empty_cell found.within in
    let adds = adds_found c.args.home.now c.args.ask.now c.in-Some.c state found c.front-present.ensures.state in (
      adds ∙ sym c.in-false-false.ensures,
      λ k first is.
          let same = first_by_cells (is_keyed c.args.ask.now.key) home home k c.in-Some.c refl first found in
          let row = c.front-present.ensures.state ∙ ap (λ (y : Cell). y.state) (sym read) ∙ rw (sym same) is in
          false≢true (sym c.in-false-false.is-1 ∙ eq-eqb state ROW row),
    )

pub returns-in_default-2-clause-takes : goal.returns-in_default-2-clause-takes
returns-in_default-2-clause-takes c =
    let home = home_of c.args.home.now in
    let found = c.in-Some.ensures.found in
    let state = c.front-present.result.state in
    let read = cell_read c.args.home.now c.in-Some.c empty_cell found.within in
    let adds = adds_found c.args.home.now c.args.ask.now c.in-Some.c state found c.front-present.ensures.state in
    record {
      row = λ no_adds. absurd (false≢true (sym no_adds ∙ (adds ∙ sym c.in_default-2.ensures)));
      no_row = λ is_adding k first is.
          let same = first_by_cells (is_keyed c.args.ask.now.key) home home k c.in-Some.c refl first found in
          let row = c.front-present.ensures.state ∙ ap (λ (y : Cell). y.state) (sym read) ∙ rw (sym same) is in
          false≢true (sym c.in_default-2.is-1 ∙ eq-eqb state ROW row);
      cell = λ is_adding none. first_or_nowhere (is_keyed c.args.ask.now.key) home.cells c.in-Some.c found none.none_keyed;
    }

pub returns-in_default-2-2-clause-takes : goal.returns-in_default-2-2-clause-takes
returns-in_default-2-2-clause-takes c =
    let home = home_of c.args.home.now in
    let found = c.in-Some.ensures.found in
    let state = c.front-present.result.state in
    let read = cell_read c.args.home.now c.in-Some.c empty_cell found.within in
    let adds = adds_found c.args.home.now c.args.ask.now c.in-Some.c state found c.front-present.ensures.state in
    record {
      row = λ no_adds. (c.in-Some.c, found, ap (λ (y : Cell). y.state) read ∙ sym c.front-present.ensures.state ∙ eqb-true state ROW c.in_default-2.is-1);
      no_row = λ is_adding. absurd (false≢true (sym (adds ∙ sym c.in_default-2.ensures) ∙ is_adding));
      cell = λ is_adding. absurd (false≢true (sym (adds ∙ sym c.in_default-2.ensures) ∙ is_adding));
    }
