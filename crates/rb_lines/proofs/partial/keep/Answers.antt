use Rattle.std.proofs.Common.{◌≡◌, ◌∙◌, ◌++◌, ℕ, ap, take, arith}
use Rattle.std.proofs.lemmas.Grind.{common_steps}
use Rattle.rb_lines.proofs.Cuts.{front_more}
use Rattle.rb_lines.proofs.partial.keep.Goals as goal

pub returns : goal.returns
returns c = λ line e.
    let added : c.try_extend_from_slice.new.self.items ≡ c.args.partial.now.items ++ take c.min-size.result c.args.bytes.now = grind (arith, common_steps) in
    added ∙ ap (λ (n : ℕ). c.args.partial.now.items ++ take n c.args.bytes.now) c.min-size.ensures
    ∙ front_more 513 c.remaining_capacity.result line c.args.partial.now.items c.args.bytes.now e c.remaining_capacity.ensures
