use Rattle.rb_model.specs.Lines.{Id}
use Rattle.rb_script.specs.Words.{IdKind, KeyKind}
use Rattle.rb_script.proofs.Spaced.{if_none}
use Rattle.rb_script.proofs.Fields.{none_after, none_first, none_last}
use Rattle.rb_script.proofs.grammar.key_of.Goals as goal

pub returns-in_err-s-clause-none : goal.returns-in_err-s-clause-none
returns-in_err-s-clause-none c = if_none c.from_residual.result (none_first IdKind IdKind (λ n bytes. c.in_err-s.ensures.none n))

pub returns-in_err-t-clause-none : goal.returns-in_err-t-clause-none
returns-in_err-t-clause-none c = if_none c.from_residual-in_err-t.result
    (none_after (Id c.in_ok-s.s) c.in_ok-s.ensures.range c.in_ok-s.ensures.found
    (none_first IdKind KeyKind (λ n bytes. c.in_err-t.ensures.none n)))

pub returns-in_err-k-clause-none : goal.returns-in_err-k-clause-none
returns-in_err-k-clause-none c = if_none c.from_residual-in_err-k.result
    (none_after (Id c.in_ok-s.s) c.in_ok-s.ensures.range c.in_ok-s.ensures.found
    (none_after (Id c.in_ok-t.t) c.in_ok-t.ensures.range c.in_ok-t.ensures.found
    (none_last KeyKind (λ n bytes. c.in_err-k.ensures.none n))))
