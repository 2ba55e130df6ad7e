use Rattle.std.proofs.Common.{rules, ap, ap₂, codes, Option, Some, None, true, ◌≡◌, ◌∙◌}
use Rattle.std.specs.Prelude.{IsSomeAnd}
use Rattle.std.proofs.lemmas.Result.{IfOk-weaker}
use Rattle.clap.specs.Words.{App, Rule, app_of, rule_of, with_rule}
use Rattle.clap.specs.Lexer.{usize_max}
use Rattle.clap.specs.Simple.{app_of_fields}
use Rattle.clap.specs.declared.builder.range.ValueRange.{ValueRange}
use Rattle.rb_words.specs.Parts.{any_values, no_rules, one_value}
use Rattle.rb_words.proofs.parts.form_of_words.Goals as goal

is_this : {A : Type 0} (o : Option A) (x : A) → IsSomeAnd o (λ y. y ≡ x) → o ≡ Some x
is_this None x none = absurd none
is_this (Some y) x same = ap Some same

abbrev quiet : App → App
quiet a = record a { top = record a.top { disable_help_flag = true } }

abbrev unnamed : App → App
unnamed a = record a { top = record a.top { no_binary_name = true } }

pub returns : goal.returns
returns c =
    let file_is : rule_of c.required-file.result ≡ one_value (codes "file") = search rules in
    let command_is : rule_of c.required-command.result ≡ one_value (codes "command") = search rules in
    let any = is_this c.num_args-parameters.result.num_vals (record { start_inclusive = 0; end_inclusive = usize_max }) c.num_args-parameters.ensures.1 in
    let parameters_are : rule_of c.num_args-parameters.result ≡ any_values (codes "parameters") =
    (ap rule_of c.num_args-parameters.ensures.0 ∙ ap₂ (λ (r : Rule) (o : Option ValueRange). record r { range = o }) c.new-3.ensures.rule any) in
    let start_is : app_of c.disable_help_flag.result ≡ no_rules =
    (ap app_of_fields c.disable_help_flag.ensures ∙ ap quiet (ap app_of_fields c.no_binary_name.ensures ∙ ap unnamed c.new-4.ensures.app)) in
    IfOk-weaker c.arg-3.result _ _ (λ command added. added.shape (search rules)
    ∙ ap₂ with_rule (c.in_ok-arg-2.ensures.shape (search rules)
    ∙ ap₂ with_rule (c.in_ok-arg.ensures.shape (search rules) ∙ ap₂ with_rule start_is file_is) command_is) parameters_are) c.arg-3.ensures
