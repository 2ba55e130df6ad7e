use Rattle.std.proofs.Common.{◌≡◌, ◌≤◌, true}
use Rattle.test_parts.proofs.log.append.Given as goal

abbrev pub invariant-loop-i : goal.invariant-loop-i
invariant-loop-i l = record { scanned : l.log.scanned ≡ true; number : l.log.head.number ≤ 1000 }
