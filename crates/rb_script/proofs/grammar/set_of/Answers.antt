use Rattle.std.proofs.Common.{refl}
use Rattle.rb_model.specs.Lines.{SetLine, Id}
use Rattle.rb_model.specs.declared.mode.Mode.TheVariants.{ReadCommitted}
use Rattle.rb_script.specs.Words.{ModeKind}
use Rattle.rb_script.proofs.Spaced.{if_none}
use Rattle.rb_script.proofs.Fields.{mode_numbered, none_after, none_last}
use Rattle.rb_script.proofs.Spellings.{no_fields}
use Rattle.rb_script.proofs.grammar.set_of.Goals as goal

pub returns-in_err-mode-clause-none : goal.returns-in_err-mode-clause-none
returns-in_err-mode-clause-none c = if_none c.from_residual-in_err-mode.result (no_fields (SetLine 0 ReadCommitted) c.args.fields.now refl
    (none_after (Id c.in_ok-s.s) c.in_ok-s.ensures.range c.in_ok-s.ensures.found
    (none_last ModeKind (λ n bytes valid. c.in_err-mode.ensures.none (mode_numbered n)))))
