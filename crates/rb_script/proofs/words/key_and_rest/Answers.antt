use Rattle.std.proofs.Common.{sym, ◌∙◌}
use Rattle.std.specs.Fmt.{decimal}
use Rattle.rb_script.proofs.Spaced.{same_parts, decimal_is_word, if_none}
use Rattle.rb_script.proofs.words.key_and_rest.Goals as goal

pub returns-in_err-key-clause-none : goal.returns-in_err-key-clause-none
returns-in_err-key-clause-none c = if_none c.from_residual-in_err-key.result (λ n rest small e.
    let found = c.in_ok-front.ensures.found in
    let same = same_parts c.in_ok-front.front.now (decimal n) c.in_ok-front.rest.now rest found.1 (decimal_is_word n small) (sym found.0 ∙ e) in
    c.in_err-key.ensures.none n small same.0)
