use Rattle.std.proofs.Common.{◌≡◌, ◌∷◌, List, ℕ, IsTrue, ap₂, ◌∙◌, refl, sym}
use Rattle.rb_words.specs.Words.{texts}
use Rattle.rb_words.specs.Parts.{HasParts, referred}
use Rattle.rb_words.proofs.Reading.{command_given, parameters_given}
use Rattle.rb_words.proofs.Spelling.{each_plain, asked_if_found, none_asked, plain_of}
use Rattle.rb_words.proofs.words.parse_words.Goals as goal

pub returns-then-not-are_plain-clause-none : goal.returns-then-not-are_plain-clause-none
returns-then-not-are_plain-clause-none c = λ request asked.
    let yes : IsTrue c.are_plain.result = c.are_plain.ensures.1 (each_plain c.args.words.now (plain_of c.args.words.now request asked)) in
    let no = rw c.if-not-are_plain.true at yes in cc

parts : (c : goal.Joined-parts-2) → HasParts c.in-Some.parts (texts c.args.words.now)
parts c = rw c.in-Some.is at c.in_ok-parts.ensures.parts

-- the file's word, and behind it what was given to `request_of`
joined : (c : goal.Joined-parts-2) → texts c.args.words.now ≡ (parts c).file ∷ c.in-Some-get_str.command.now ∷ referred c.unwrap_or-parameters.result.now
joined c =
    let has = parts c in
    let command = command_given c.get_str.result _ c.in-Some-get_str.command has.command c.get_str.ensures c.in-Some-get_str.is has.command_is in
    let parameters = parameters_given c.get_strs.result _ _ c.unwrap_or-parameters.result has.parameters c.get_strs.ensures c.unwrap_or-parameters.ensures refl has.parameters_are in
    has.joined ∙ sym (ap₂ (λ (word : List ℕ) (rest : List (List ℕ)). has.file ∷ word ∷ rest) command parameters)

pub returns-clause-found : goal.returns-clause-found
returns-clause-found c = asked_if_found c.args.words.now (parts c).file _ c.request_of.result (c.are_plain.ensures.0 c.if-not-are_plain.false) (joined c) c.request_of.ensures.found

pub returns-clause-none : goal.returns-clause-none
returns-clause-none c = none_asked c.args.words.now (parts c).file _ c.request_of.result (joined c) c.request_of.ensures.none
