use Rattle.std.proofs.Common.{◌≡◌, true, false, sym, ap, ◌∙◌}
use Rattle.rb_model.specs.Lines.{Id}
use Rattle.rb_model.specs.NameTest.{is_name}
use Rattle.rb_script.specs.Words.{IdKind, NameKind}
use Rattle.rb_script.proofs.Spaced.{if_none}
use Rattle.rb_script.proofs.Fields.{none_after, none_first, none_last}
use Rattle.rb_script.proofs.grammar.named_of.Goals as goal

pub returns-in_err-s-clause-none : goal.returns-in_err-s-clause-none
returns-in_err-s-clause-none c = if_none c.from_residual.result (none_first IdKind NameKind (λ n bytes. c.in_err-s.ensures.none n))

pub returns-in_err-name-clause-none : goal.returns-in_err-name-clause-none
returns-in_err-name-clause-none c = if_none c.from_residual-in_err-name.result
    (none_after (Id c.in_ok-s.s) c.in_ok-s.ensures.range c.in_ok-s.ensures.found
    (none_last NameKind (λ n name valid e.
    let clash : true ≡ false = sym valid ∙ (ap is_name (sym e) ∙ c.in_err-name.ensures.none) in
    absurd (cc))))
