use Rattle.rb_store.specs.Patched.{PatchedSoFar}
use Rattle.rb_store.proofs.patching.patch_all.Given as goal

abbrev pub invariant-loop-i : goal.invariant-loop-i
invariant-loop-i g l = PatchedSoFar g.D.Disk g.D.Disk.tells l.fn.cache l.cache l.fn.disk l.disk l.number l.group l.i
