use Rattle.std.proofs.Common.{◌∙◌, sym, ap, map}
use Rattle.rb_cr.specs.Records.{kept_items}
use Rattle.law_read.specs.Reading.{rows_in}
use Rattle.law_blocks.specs.Says.{walk_cell}
use Rattle.rb_cr.proofs.Overlays.{chosen, over_kept}
use Rattle.rb_cr.proofs.rows.value.Goals as goal

pub returns-in-Some : goal.returns-in-Some
returns-in-Some c =
    let kept = c.args.kept.now in
    let below = rows_in (map walk_cell c.args.cells.now) in
    ap (λ (z : _). chosen z (below c.args.key)) (ap kept_items (sym c.in-Some.is) ∙ c.row.ensures) ∙ sym (over_kept kept below c.args.key)

pub returns-in-None : goal.returns-in-None
returns-in-None c =
    let kept = c.args.kept.now in
    let below = rows_in (map walk_cell c.args.cells.now) in
    c.value_of.ensures ∙ (ap (λ (z : _). chosen z (below c.args.key)) (ap kept_items (sym c.in-None.is) ∙ c.row.ensures) ∙ sym (over_kept kept below c.args.key))
