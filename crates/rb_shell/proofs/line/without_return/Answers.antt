use Rattle.std.proofs.Common.{sym, ◌∙◌, ap}
use Rattle.std.proofs.lemmas.Bool.{ne_eqb}
use Rattle.rb_model.specs.Lines.{without_return}
use Rattle.rb_shell.proofs.Returns.{return_goes, other_stays}
use Rattle.rb_shell.proofs.line.without_return.Goals as goal

pub returns-in-Some : goal.returns-in-Some
returns-in-Some c =
    sym (ap without_return c.in-Some.ensures.cases.0 ∙ return_goes c.in-Some.front.now c.in-Some.last.now c.if-last-eq13.true)

pub returns-in_default : goal.returns-in_default
returns-in_default c =
    c.in-Some.ensures.cases.0
    ∙ sym (ap without_return c.in-Some.ensures.cases.0 ∙ other_stays c.in-Some.front.now c.in-Some.last.now (ne_eqb c.in-Some.last.now 13 c.if-last-eq13.false))
