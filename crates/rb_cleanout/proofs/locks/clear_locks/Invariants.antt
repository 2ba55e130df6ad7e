use Rattle.std.proofs.Common.{◌+◌, ◌≡◌, ◌*◌, length}
use Rattle.rb_base.specs.declared.sizes.TheConstants.{UNIT}
use Rattle.rb_cleanout.specs.Cleaned.{Cleans, LocksCleared}
use Rattle.rb_heap.specs.Homes.{home_of}
use Rattle.rb_cleanout.proofs.locks.clear_locks.Given as goal

abbrev pub invariant-loop-c : goal.invariant-loop-c
invariant-loop-c l = record {
  long : length l.copy ≡ UNIT;
  made : Cleans l.no l.fn.copy l.copy l.fn.group l.group l.c (l.c * (8 + 1));
  cleared : LocksCleared l.cleaned l.c (home_of l.fn.copy) (home_of l.copy);
}
