use Rattle.std.proofs.Common.{◌≡◌, false}
use Rattle.test_stores.proofs.groups.give_all.Given as goal

abbrev pub invariant-loop-step : goal.invariant-loop-step
invariant-loop-step g l = g.S.Store.failed l.store ≡ false
