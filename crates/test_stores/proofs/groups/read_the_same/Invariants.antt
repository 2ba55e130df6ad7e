use Rattle.std.proofs.Common.{◌≡◌, false}
use Rattle.test_stores.proofs.groups.read_the_same.Given as goal

abbrev pub invariant-loop-no : goal.invariant-loop-no
invariant-loop-no g l = record {
  one : g.S.Store.failed l.one ≡ false;
  other : g.T.Store.failed l.other ≡ false;
}
