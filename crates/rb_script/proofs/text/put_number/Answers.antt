use Rattle.std.proofs.Common.{◌++◌, List, ℕ, sym, ◌∙◌, ap}
use Rattle.std.proofs.lemmas.Fmt.{decimal_digit}
use Rattle.rb_script.proofs.text.put_number.Goals as goal

-- one digit is the number itself
pub returns-then-number-lt10-clause-items : goal.returns-then-number-lt10-clause-items
returns-then-number-lt10-clause-items g c =
    c.push.ensures.items ∙ ap (λ (l : List ℕ). c.args.into.now.items ++ l) (sym (decimal_digit c.args.number c.if-number-lt10.true))
