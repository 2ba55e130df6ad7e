use Rattle.std.proofs.Common.{◌∙◌, length, Option, refl, subst}
use Rattle.rb_cr.specs.Rows.{NoneLesser}
use Rattle.rb_cr.specs.declared.plain.KeyCell.{KeyCell}
use Rattle.rb_cr.proofs.NextRow.{next_there, none_there}
use Rattle.rb_cr.proofs.plain.next_plain.Goals as goal

pub returns-in_default-clause-none : goal.returns-in_default-clause-none
returns-in_default-clause-none g c = λ _ k wanted.
    let w = c.args.wanted in
    none_there (g.C.PlainCells.all c.args.cells.now) w.after w.lo w.hi c.least_at.result c.least_at.ensures.lesser c.in_default.not-Some k wanted

pub returns-clause-given : goal.returns-clause-given
returns-clause-given g c = λ _.
    let w = c.args.wanted in
    let all = g.C.PlainCells.all c.args.cells.now in
    next_there all w.after w.lo w.hi c.in-Some.least _ c.in-Some.ensures.found
    (subst (λ (z : Option KeyCell). NoneLesser w.after w.lo w.hi all (length all) z) c.in-Some.is c.least_at.ensures.lesser) refl (c.put_value.ensures ∙ c.value.ensures.bytes)
