use Rattle.rb_store.specs.Patched.{RolledSoFar}
use Rattle.rb_store.proofs.rolling.roll_forward.Given as goal

abbrev pub invariant-loop-i : goal.invariant-loop-i
invariant-loop-i g l = RolledSoFar g.D.Disk g.D.Disk.tells l.fn.cache l.cache l.fn.disk l.disk l.number l.groups l.i
