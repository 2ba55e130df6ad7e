use Rattle.std.proofs.Common.{◌≡◌, ℕ, List, [], ◌∷◌, ◌++◌, length, take, refl, sym, ◌∙◌, ap, subst}
use Rattle.std.proofs.lemmas.Bool.{eqb-true}
use Rattle.rb_model.specs.Out.{outside_by}
use Rattle.rb_lines.specs.Ran.{RanAs}
use Rattle.rb_lines.proofs.Dids.{did_as}
use Rattle.rb_lines.proofs.Runs.{step_as, step_whole}
use Rattle.rb_lines.proofs.partial.end_line.Goals as goal

-- nothing was kept of an empty line
empty : (line kept : List ℕ) → kept ≡ take 513 line → length kept ≡ 0 → line ≡ []
empty [] kept e none = refl
empty (b ∷ line) kept e none = let no : length (take 513 (b ∷ line)) ≡ 0 = sym (ap length e) ∙ none in cc

pub returns-then-is_empty-clause-did : goal.returns-then-is_empty-clause-did
returns-then-is_empty-clause-did g c = λ m line is going e.
    let none = eqb-true (length c.args.partial.now.items) 0 (sym c.is_empty.ensures ∙ c.if-is_empty.true) in
    did_as _ _ m _ _ (λ n ran. subst (λ (l : List ℕ). RanAs (outside_by g.M.LineRunner.worn g.M.LineRunner.back g.M.LineRunner.makes) m n ((l ++ c.args.bytes.now) ∷ []) g.K.Sink.tells (g.K.Sink.held c.args.sink.now) (g.K.Sink.held c.run_line.new.sink) c.run_line.result)
    (sym (empty line c.args.partial.now.items e none)) (step_whole _ m n c.args.bytes.now g.K.Sink.tells _ _ c.run_line.result going ran)) (c.run_line.ensures.did m is going)

pub returns-clause-did : goal.returns-clause-did
returns-clause-did g c = λ m line is going e.
    did_as _ _ m _ _ (λ n ran. step_as _ m n (line ++ c.args.bytes.now) _ g.K.Sink.tells _ _ c.run_line-done.result going (c.as_slice.ensures.value ∙ c.keep.ensures line e) ran) (c.run_line-done.ensures.did m is going)
