use Rattle.std.proofs.Common.{◌≡◌, ◌∙◌, ℕ, List, map, set, ap}
use Rattle.std.proofs.lemmas.List.{map-set}
use Rattle.rb_cell.specs.declared.cell.Cell as cells
use Rattle.rb_itl.specs.declared.slots.Entry as entries
use Rattle.law_blocks.specs.Says.{walk_entry, walk_cell}
use Rattle.law_home.specs.Kinds.{Entry, Cell}
use Rattle.law_home.specs.Walk.{Home}
use Rattle.rb_cr.proofs.scratch.back.Goals as goal

home_is : (n : ℕ) (es es2 : List Entry) (xs xs2 : List Cell) → es ≡ es2 → xs ≡ xs2 → (let h : Home = record { block = n; entries = es; cells = xs } in h) ≡ record { block = n; entries = es2; cells = xs2 }
home_is n es es2 xs xs2 e x = cc

pub returns-clause-home : goal.returns-clause-home
returns-clause-home c = λ shape seg.
    let u = c.args.undo.now in
    let es = c.args.scratch.now.entries in
    let xs = c.args.scratch.now.cells in
    home_is c.args.scratch.now.block _ _ _ _
    (ap (λ (z : entries.Entry). map (walk_entry shape) (set es u.entry z)) c.entry_from.ensures ∙ map-set (walk_entry shape) es u.entry _)
    (ap (λ (z : cells.Cell). map walk_cell (set xs u.cell z)) (c.replace.ensures.after ∙ c.cell_from.ensures) ∙ map-set walk_cell xs u.cell _)
