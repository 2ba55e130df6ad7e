use Rattle.std.proofs.Common.{◌≡◌, false, refl, arith}
use Rattle.rb_script.specs.Words.{is_sweep, names_key}
use Rattle.rb_script.proofs.Spellings.{no_command}
use Rattle.rb_script.proofs.grammar.request_without_key.Goals as goal

pub returns-clause-none : goal.returns-clause-none
returns-clause-none c =
    no_command _ c.args.word.now c.args.fields.now refl c.requires.word (λ w e.
    let other : names_key w ≡ false = c.requires.other w e in
    let session : is_sweep w ≡ false = c.requires.session w e in
    grind arith)
