use Rattle.std.proofs.Common.{◌≡◌, length, subst, IfOk, IfNone, ◌<◌, ℕ, arith}
use Rattle.std.proofs.lemmas.List.{length-map}
use Rattle.rb_words.specs.Words.{texts}
use Rattle.rb_words.proofs.Spelling.{plain_texts}
use Rattle.rb_words.proofs.Reading.{taken_well, taken_badly}
use Rattle.rb_words.proofs.parts.read_parts.Goals as goal

pub returns-clause-parts : goal.returns-clause-parts
returns-clause-parts c =
    taken_well c.parts_of.result c.try_get_matches_from.result _ (texts c.args.words.now) c.in-Ok.ensures (plain_texts c.args.words.now c.requires)
    c.try_get_matches_from.ensures.matches c.try_get_matches_from.ensures.kinds c.parts_of.ensures.parts

pub returns-clause-few : goal.returns-clause-few
returns-clause-few c =
    let same : length (texts c.args.words.now) ≡ length c.args.words.now = length-map c.args.words.now _ in
    subst (λ (n : ℕ). IfOk c.parts_of.result (λ o. IfNone o (n < 2))) same
    (taken_badly c.parts_of.result c.try_get_matches_from.result _ (texts c.args.words.now) c.in-Ok.ensures (plain_texts c.args.words.now c.requires) (omega (arith, same))
    c.try_get_matches_from.ensures.kinds c.parts_of.ensures.refused)
