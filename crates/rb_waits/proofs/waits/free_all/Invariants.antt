use Rattle.std.proofs.Common.{◌≡◌, ◌++◌, map, take, drop}
use Rattle.rb_waits.proofs.Waiting.{freed}
use Rattle.rb_waits.proofs.waits.free_all.Given as goal

abbrev pub invariant-loop-waiter : goal.invariant-loop-waiter
invariant-loop-waiter l = l.waiters ≡ map (freed l.u) (take l.waiter-index l.fn.waiters) ++ drop l.waiter-index l.fn.waiters
