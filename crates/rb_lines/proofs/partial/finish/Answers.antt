use Rattle.std.proofs.Common.{◌≡◌, ℕ, List, [], ◌∷◌, length, take, refl, sym, ◌∙◌, ap, subst}
use Rattle.std.proofs.lemmas.Bool.{eqb-false}
use Rattle.rb_model.specs.Out.{outside_by}
use Rattle.rb_lines.specs.Pieces.{last_of}
use Rattle.rb_lines.specs.Ran.{RanAs}
use Rattle.rb_lines.proofs.Dids.{did_as}
use Rattle.rb_lines.proofs.Runs.{step_as}
use Rattle.rb_lines.proofs.partial.finish.Goals as goal

-- a line that has kept bytes is a last line
last : (line kept : List ℕ) → kept ≡ take 513 line → (length kept ≡ 0 → ⊥) → last_of line ≡ line ∷ []
last [] kept e some = absurd (some (ap length e))
last (b ∷ line) kept e some = refl

pub returns-clause-did : goal.returns-clause-did
returns-clause-did g c = λ m line is going e.
    let some = eqb-false (length c.args.partial.now.items) 0 (sym c.is_empty.ensures ∙ c.if-is_empty.false) in
    did_as _ _ m _ _ (λ n ran. subst (λ (lines : List (List ℕ)). RanAs (outside_by g.M.LineRunner.worn g.M.LineRunner.back g.M.LineRunner.makes) m n lines g.K.Sink.tells (g.K.Sink.held c.args.sink.now) (g.K.Sink.held c.run_line.new.sink) c.run_line.result)
    (sym (last line c.args.partial.now.items e some)) (step_as _ m n line _ g.K.Sink.tells _ _ c.run_line.result going (c.as_slice.ensures.value ∙ e) ran)) (c.run_line.ensures.did m is going)
