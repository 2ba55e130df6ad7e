use Rattle.rb_segment.proofs.Bits.{bit_added}
use Rattle.rb_segment.proofs.record.added_slot.Goals as goal

pub returns-then-slot-eq0-clause-bits : goal.returns-then-slot-eq0-clause-bits
returns-then-slot-eq0-clause-bits c = bit_added c.args.slot.touched c.args.e c.requires

pub returns-else-slot-eq0-clause-bits : goal.returns-else-slot-eq0-clause-bits
returns-else-slot-eq0-clause-bits c = bit_added c.args.slot.touched c.args.e c.requires
