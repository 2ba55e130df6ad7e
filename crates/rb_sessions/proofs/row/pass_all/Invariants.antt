use Rattle.std.proofs.Common.{◌≡◌, ◌++◌, map, take, drop}
use Rattle.rb_sessions.proofs.Cursors.{passed_over}
use Rattle.rb_sessions.proofs.row.pass_all.Given as goal

abbrev pub invariant-loop-named : goal.invariant-loop-named
invariant-loop-named l = l.cursors ≡ map passed_over (take l.named-index l.fn.cursors) ++ drop l.named-index l.fn.cursors
