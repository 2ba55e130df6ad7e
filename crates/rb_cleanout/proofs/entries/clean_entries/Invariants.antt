use Rattle.std.proofs.Common.{◌+◌, ◌≡◌, ◌*◌, true, [], length}
use Rattle.rb_base.specs.declared.sizes.TheConstants.{UNIT}
use Rattle.rb_itl.specs.declared.slots.TheConstants.{ENTRIES, ENTRY_BYTES}
use Rattle.rb_base.specs.Logs.{Logs}
use Rattle.rb_cleanout.specs.Cleaned.{look_of, Cleans, EntriesCleaned}
use Rattle.rb_heap.specs.Homes.{home_of}
use Rattle.rb_cleanout.proofs.entries.clean_entries.Given as goal

abbrev pub invariant-loop-i : goal.invariant-loop-i
invariant-loop-i g l = record {
  logs : Logs g.S.Store l.fn.store l.store [] true;
  long : length l.copy ≡ UNIT;
  many : length l.cleaned ≡ ENTRIES;
  made : Cleans l.no l.fn.copy l.copy l.fn.group l.group l.i (l.i * (8 + ENTRY_BYTES));
  cleaned : g.S.Store.tells → EntriesCleaned (look_of (g.S.Store.shape_of l.fn.store) (g.S.Store.blocks l.fn.store)) l.i (home_of l.fn.copy) (home_of l.copy) l.cleaned;
}
