use Rattle.std.proofs.Common.{◌≡◌, ℕ, ◌+◌, ◌-◌, ◌∙◌, take, drop, min, ap, arith}
use Rattle.rb_cr.proofs.Values.{value_there}
use Rattle.rb_cr.proofs.plain.value_at.Goals as goal

pub returns-clause-bytes : goal.returns-clause-bytes
returns-clause-bytes c =
    let block = c.args.block.now in
    let place = c.cell_place.ensures in
    let count : c.cell_place.result + 92 - 80 + c.min-length.result - (c.cell_place.result + 92 - 80) ≡ c.min-length.result = omega arith in
    let from : c.cell_place.result + 92 - 80 ≡ Rattle.rb_cell.specs.Cells.cell_place c.args.c + 12 = omega (arith, place) in
    ap (λ (n : ℕ). take n (drop (c.cell_place.result + 92 - 80) block)) count ∙ ap (λ (n : ℕ). take c.min-length.result (drop n block)) from
    ∙ value_there block c.args.c c.min-length.result c.requires.length c.requires.within (c.min-length.ensures ∙ ap (λ (n : ℕ). min n 80) c.value_length.ensures)
