use Rattle.std.proofs.Common.{◌≡◌, true, false, sym, ap, ◌∙◌}
use Rattle.rb_model.specs.NameTest.{is_name}
use Rattle.rb_script.proofs.Spaced.{same_parts, name_is_word, if_none}
use Rattle.rb_script.proofs.words.name_and_rest.Goals as goal

pub returns-in_err-name-clause-none : goal.returns-in_err-name-clause-none
returns-in_err-name-clause-none c = if_none c.from_residual-in_err-name.result (λ name rest valid e.
    let found = c.in_ok-front.ensures.found in
    let same = same_parts c.in_ok-front.front.now name c.in_ok-front.rest.now rest found.1 (name_is_word name valid) (sym found.0 ∙ e) in
    let clash : true ≡ false = sym valid ∙ (ap is_name (sym same.0) ∙ c.in_err-name.ensures.none) in
    absurd (cc))
