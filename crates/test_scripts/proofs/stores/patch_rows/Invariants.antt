use Rattle.std.proofs.Common.{◌≡◌, false}
use Rattle.test_scripts.proofs.stores.patch_rows.Given as goal

abbrev pub invariant-loop-i : goal.invariant-loop-i
invariant-loop-i g l = g.S.Store.failed l.store ≡ false
