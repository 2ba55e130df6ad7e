use Rattle.rb_segment.proofs.Oldest.{IsOldest}
use Rattle.rb_txntable.specs.Slots.{slot_at}
use Rattle.rb_segment.proofs.turn.since.Given as goal

abbrev pub invariant-loop-i : goal.invariant-loop-i
invariant-loop-i l = IsOldest (slot_at l.header) l.i l.oldest
