use Rattle.std.proofs.Common.{rules, ◌≡◌, ◌∙◌, length, sym, arith}
use Rattle.std.proofs.lemmas.List.{ext_get_or}
use Rattle.rb_cell.specs.declared.cell.TheConstants.{CELLS}
use Rattle.rb_heap.specs.Homes.{empty_cell}
use Rattle.rb_cr.proofs.copies.copied_cells.Goals as goal

pub returns : goal.returns
returns c =
    let long : length c.from_fn.result ≡ CELLS = c.from_fn.ensures.items.long in
    let sixteen : length c.args.cells.now ≡ CELLS = search rules in
    ext_get_or empty_cell c.from_fn.result c.args.cells.now (long ∙ sym sixteen) (λ i lt. let call = c.from_fn.ensures.items.at i empty_cell (omega (arith, lt, long)) in search rules)
