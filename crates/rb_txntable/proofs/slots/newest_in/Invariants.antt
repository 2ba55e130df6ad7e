use Rattle.std.proofs.Common.{◌≡◌}
use Rattle.rb_base.specs.Blocks.{greatest}
use Rattle.rb_txntable.specs.Slots.{slot_newest}
use Rattle.rb_txntable.proofs.slots.newest_in.Given as goal

abbrev pub invariant-loop-i : goal.invariant-loop-i
invariant-loop-i l = l.newest ≡ greatest (slot_newest l.header) l.i
