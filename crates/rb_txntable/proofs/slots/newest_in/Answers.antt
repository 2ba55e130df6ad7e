use Rattle.std.proofs.Common.{sym}
use Rattle.rb_txntable.specs.Slots.{slot_newest}
use Rattle.rb_txntable.proofs.Greatest.{greatest-zero, greatest_next}
use Rattle.rb_txntable.proofs.slots.newest_in.Goals as goal

pub loop-i-init : goal.loop-i-init
loop-i-init c = sym (greatest-zero (slot_newest c.args.header.now))

pub loop-i-preserved : goal.loop-i-preserved
loop-i-preserved c = greatest_next (slot_newest c.args.header.now) c.loop-i.i c.loop-i.newest c.slot_newest.result c.max-newest.result c.loop-i.invariant c.slot_newest.ensures c.max-newest.ensures
