use Rattle.std.proofs.Common.{ℕ, List, sym, subst}
use Rattle.rb_log.specs.WaitingUnits.{bodies_of, AreSpare}
use Rattle.rb_log.proofs.SpareUnits.{fresh_spare}
use Rattle.rb_log.proofs.waiting.reach.Goals as goal

pub returns-then-place-as_slice-clause-spare : goal.returns-then-place-as_slice-clause-spare
returns-then-place-as_slice-clause-spare c all = subst (λ (units : List (List ℕ)). AreSpare (bodies_of units)) (sym c.push_reserved.ensures.items) (fresh_spare c.args.units.now.items all)
