use Rattle.std.proofs.Common.{◌≡◌, false}
use Rattle.test_stores.proofs.stores.stop_after.Given as goal

abbrev pub invariant-loop-part : goal.invariant-loop-part
invariant-loop-part l = l.store.failed ≡ false
