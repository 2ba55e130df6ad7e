use Rattle.std.proofs.Common.{◌*◌, refl}
use Rattle.std.proofs.Math.Nat.{mod-add-mod}
use Rattle.rb_generator.specs.Draws.{next, number_of}
use Rattle.rb_generator.proofs.draws.Draws.below.Goals as goal

pub returns-clause-state : goal.returns-clause-state
unfolding next
returns-clause-state c = mod-add-mod (c.args.self.now.state * 6364136223846793005) 18446744073709551616 1442695040888963407

pub returns-clause-number : goal.returns-clause-number
unfolding number_of
returns-clause-number c = refl
