use Rattle.std.proofs.Common.{[], refl}
use Rattle.rb_model.specs.Lines.{OpenLine, Id, Key, Named}
use Rattle.rb_model.specs.Names.{name_text}
use Rattle.rb_script.proofs.Spaced.{if_none}
use Rattle.rb_script.specs.Words.{IdKind, KeyKind, NameKind}
use Rattle.rb_script.proofs.Fields.{none_after, none_first, none_last}
use Rattle.rb_script.proofs.Spellings.{no_fields}
use Rattle.rb_script.proofs.grammar.open_of.Goals as goal

pub returns-in_err-name-clause-none : goal.returns-in_err-name-clause-none
returns-in_err-name-clause-none c = if_none c.from_residual-in_err-name.result (no_fields (OpenLine 0 [] 0 0 0) c.args.fields.now refl
    (none_after (Id c.in_ok-s.s) c.in_ok-s.ensures.range c.in_ok-s.ensures.found
    (none_first NameKind IdKind (λ n name. c.in_err-name.ensures.none name))))

pub returns-in_err-t-clause-none : goal.returns-in_err-t-clause-none
returns-in_err-t-clause-none c = if_none c.from_residual-in_err-t.result (no_fields (OpenLine 0 [] 0 0 0) c.args.fields.now refl
    (none_after (Id c.in_ok-s.s) c.in_ok-s.ensures.range c.in_ok-s.ensures.found
    (none_after (Named (name_text c.in_ok-name.name)) c.in_ok-name.ensures.valid c.in_ok-name.ensures.found
    (none_first IdKind KeyKind (λ n bytes. c.in_err-t.ensures.none n)))))

pub returns-in_err-lo-clause-none : goal.returns-in_err-lo-clause-none
returns-in_err-lo-clause-none c = if_none c.from_residual-in_err-lo.result (no_fields (OpenLine 0 [] 0 0 0) c.args.fields.now refl
    (none_after (Id c.in_ok-s.s) c.in_ok-s.ensures.range c.in_ok-s.ensures.found
    (none_after (Named (name_text c.in_ok-name.name)) c.in_ok-name.ensures.valid c.in_ok-name.ensures.found
    (none_after (Id c.in_ok-t.t) c.in_ok-t.ensures.range c.in_ok-t.ensures.found
    (none_first KeyKind KeyKind (λ n bytes. c.in_err-lo.ensures.none n))))))

pub returns-in_err-hi-clause-none : goal.returns-in_err-hi-clause-none
returns-in_err-hi-clause-none c = if_none c.from_residual-in_err-hi.result (no_fields (OpenLine 0 [] 0 0 0) c.args.fields.now refl
    (none_after (Id c.in_ok-s.s) c.in_ok-s.ensures.range c.in_ok-s.ensures.found
    (none_after (Named (name_text c.in_ok-name.name)) c.in_ok-name.ensures.valid c.in_ok-name.ensures.found
    (none_after (Id c.in_ok-t.t) c.in_ok-t.ensures.range c.in_ok-t.ensures.found
    (none_after (Key c.in_ok-lo.lo) c.in_ok-lo.ensures.range c.in_ok-lo.ensures.found
    (none_last KeyKind (λ n bytes. c.in_err-hi.ensures.none n)))))))
