use Rattle.std.proofs.Common.{◌≡◌, false}
use Rattle.test_parts.proofs.log.log_from.Given as goal

abbrev pub invariant-loop-place : goal.invariant-loop-place
invariant-loop-place l = record {
  before : l.log.scanned ≡ false;
  head : l.log.head ≡ l.fn.head;
  used : l.log.used ≡ l.place;
}
