use Rattle.std.proofs.Common.{ℕ, List, take, ap, ◌∙◌}
use Rattle.rb_layout.specs.declared.layout.TheConstants.{IDENTITY}
use Rattle.rb_layout.proofs.layout.Layout.read.Goals as goal

-- what was read is the front of the file
pub returns-in_default-clause-none : goal.returns-in_default-clause-none
returns-in_default-clause-none g c told is l has =
    c.in_default.ensures.none l (c.in_ok-read_at.ensures.value told ∙ ap (λ (file : List ℕ). take IDENTITY file) (c.in_ok-length.ensures.content told) ∙ has.front)
