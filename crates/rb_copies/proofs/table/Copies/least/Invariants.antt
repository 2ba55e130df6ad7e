use Rattle.rb_copies.proofs.Scanning.{IsScanned}
use Rattle.rb_copies.proofs.table.Copies.least.Given as goal

abbrev pub invariant-loop-key : goal.invariant-loop-key
invariant-loop-key l = IsScanned l.self.kept l.block l.number l.scn l.least l.yielded
