use Rattle.std.proofs.Common.{[], refl}
use Rattle.rb_model.specs.Lines.{FetchLine, Id, Named}
use Rattle.rb_model.specs.Names.{name_text}
use Rattle.rb_script.proofs.Spaced.{if_none}
use Rattle.rb_script.specs.Words.{NameKind, CountKind}
use Rattle.rb_script.proofs.Fields.{none_after, none_first, none_last}
use Rattle.rb_script.proofs.Spellings.{no_fields}
use Rattle.rb_script.proofs.grammar.fetch_of.Goals as goal

pub returns-in_err-name-clause-none : goal.returns-in_err-name-clause-none
returns-in_err-name-clause-none c = if_none c.from_residual-in_err-name.result (no_fields (FetchLine 0 [] 0) c.args.fields.now refl
    (none_after (Id c.in_ok-s.s) c.in_ok-s.ensures.range c.in_ok-s.ensures.found
    (none_first NameKind CountKind (λ n name. c.in_err-name.ensures.none name))))

pub returns-in_err-n-clause-none : goal.returns-in_err-n-clause-none
returns-in_err-n-clause-none c = if_none c.from_residual-in_err-n.result (no_fields (FetchLine 0 [] 0) c.args.fields.now refl
    (none_after (Id c.in_ok-s.s) c.in_ok-s.ensures.range c.in_ok-s.ensures.found
    (none_after (Named (name_text c.in_ok-name.name)) c.in_ok-name.ensures.valid c.in_ok-name.ensures.found
    (none_last CountKind (λ n bytes valid. c.in_err-n.ensures.none n valid.0 valid.1)))))
