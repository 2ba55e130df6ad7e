use Rattle.std.proofs.Common.{ℕ, List, ◌++◌, None, Some, sym, ap, ◌∙◌, ◌≡◌}
use Rattle.std.specs.Fmt.{decimal}
use Rattle.std.proofs.lemmas.Bool.Decides.{Decides-eqb}
use Rattle.std.proofs.lemmas.Slice.Eq.{strip_prefix_is}
use Rattle.rb_words.proofs.Spelling.{named_some, named_none}
use Rattle.rb_words.proofs.numbers.number_of.Goals as goal

pub returns-in_default-clause-none : goal.returns-in_default-clause-none
returns-in_default-clause-none c = λ n small is.
    strip_prefix_is Decides-eqb c.as_bytes.result.now c.as_bytes-2.result.now None c.in_default.ensures.cases (decimal n)
    (c.as_bytes.ensures.value ∙ is ∙ ap (λ (l : List ℕ). l ++ decimal n) (sym c.as_bytes-2.ensures.value))

-- the word is the name and what was left
behind : (c : goal.After-parse_decimal) → c.args.word.now ≡ c.args.name.now ++ c.in-Some.digits.now
behind c =
    sym c.as_bytes.ensures.value ∙ strip_prefix_is Decides-eqb c.as_bytes.result.now c.as_bytes-2.result.now (Some c.in-Some.digits) c.in-Some.ensures.cases
    ∙ ap (λ (l : List ℕ). l ++ c.in-Some.digits.now) c.as_bytes-2.ensures.value

pub returns-clause-found : goal.returns-clause-found
returns-clause-found c = named_some c.parse_decimal.result c.args.word.now c.args.name.now c.in-Some.digits.now (behind c) c.parse_decimal.ensures.found

pub returns-clause-none : goal.returns-clause-none
returns-clause-none c = named_none c.parse_decimal.result c.args.word.now c.args.name.now c.in-Some.digits.now (behind c) c.parse_decimal.ensures.none
