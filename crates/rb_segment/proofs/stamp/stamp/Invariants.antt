use Rattle.rb_segment.proofs.Stamps.{StampedTo}
use Rattle.rb_segment.proofs.stamp.stamp.Given as goal

abbrev pub invariant-loop-e : goal.invariant-loop-e
invariant-loop-e l = StampedTo l.block l.bits l.scn l.fn.header l.fn.group l.header l.group l.e
