use Rattle.std.proofs.Common.{◌≡◌, true, false, sym, ◌∙◌}
use Rattle.rb_model.specs.Lines.{Id}
use Rattle.rb_script.specs.Words.{IdKind, LaterKind}
use Rattle.rb_script.proofs.Spaced.{if_none}
use Rattle.rb_script.proofs.Fields.{none_after, none_first, none_last}
use Rattle.rb_script.proofs.grammar.later_of.Goals as goal

pub returns-in_err-s-clause-none : goal.returns-in_err-s-clause-none
returns-in_err-s-clause-none c = if_none c.from_residual.result (none_first IdKind LaterKind (λ n bytes. c.in_err-s.ensures.none n))

pub returns-then-not-is_later-clause-none : goal.returns-then-not-is_later-clause-none
returns-then-not-is_later-clause-none c = none_after (Id c.in_ok-s.s) c.in_ok-s.ensures.range c.in_ok-s.ensures.found (none_last LaterKind (λ n bytes valid is.
    let clash : true ≡ false = sym (c.is_later.ensures.1 is) ∙ c.if-not-is_later.true in
    absurd (cc)))
