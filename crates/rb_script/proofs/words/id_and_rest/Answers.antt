use Rattle.std.proofs.Common.{sym, ◌∙◌, arith}
use Rattle.std.specs.Fmt.{decimal}
use Rattle.rb_script.proofs.Spaced.{same_parts, decimal_is_word, if_none}
use Rattle.rb_script.proofs.words.id_and_rest.Goals as goal

pub returns-in_err-id-clause-none : goal.returns-in_err-id-clause-none
returns-in_err-id-clause-none c = if_none c.from_residual-in_err-id.result (λ n rest small e.
    let found = c.in_ok-front.ensures.found in
    let same = same_parts c.in_ok-front.front.now (decimal n) c.in_ok-front.rest.now rest found.1 (decimal_is_word n (omega arith)) (sym found.0 ∙ e) in
    c.in_err-id.ensures.none n small same.0)
