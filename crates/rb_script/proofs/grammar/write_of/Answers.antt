use Rattle.std.proofs.Common.{◌≡◌, true, false, sym, ap, ◌∙◌}
use Rattle.rb_model.specs.Lines.{Id, Key, is_value}
use Rattle.rb_script.specs.Words.{IdKind, KeyKind, ValueKind}
use Rattle.rb_script.proofs.Spaced.{if_none}
use Rattle.rb_script.proofs.Fields.{none_after, none_first, none_last}
use Rattle.rb_script.proofs.grammar.write_of.Goals as goal

pub returns-in_err-s-clause-none : goal.returns-in_err-s-clause-none
returns-in_err-s-clause-none c = if_none c.from_residual.result (none_first IdKind IdKind (λ n bytes. c.in_err-s.ensures.none n))

pub returns-in_err-t-clause-none : goal.returns-in_err-t-clause-none
returns-in_err-t-clause-none c = if_none c.from_residual-in_err-t.result
    (none_after (Id c.in_ok-s.s) c.in_ok-s.ensures.range c.in_ok-s.ensures.found
    (none_first IdKind KeyKind (λ n bytes. c.in_err-t.ensures.none n)))

pub returns-in_err-k-clause-none : goal.returns-in_err-k-clause-none
returns-in_err-k-clause-none c = if_none c.from_residual-in_err-k.result
    (none_after (Id c.in_ok-s.s) c.in_ok-s.ensures.range c.in_ok-s.ensures.found
    (none_after (Id c.in_ok-t.t) c.in_ok-t.ensures.range c.in_ok-t.ensures.found
    (none_first KeyKind ValueKind (λ n bytes. c.in_err-k.ensures.none n))))

pub returns-then-not-is_visible-clause-none : goal.returns-then-not-is_visible-clause-none
returns-then-not-is_visible-clause-none c =
    none_after (Id c.in_ok-s.s) c.in_ok-s.ensures.range c.in_ok-s.ensures.found
    (none_after (Id c.in_ok-t.t) c.in_ok-t.ensures.range c.in_ok-t.ensures.found
    (none_after (Key c.in_ok-k.k) c.in_ok-k.ensures.range c.in_ok-k.ensures.found
    (none_last ValueKind (λ n value valid e.
    let clash : true ≡ false = sym valid ∙ (ap is_value (sym e) ∙ (sym c.is_visible.ensures ∙ c.if-not-is_visible.true)) in
    absurd (cc)))))
