use Rattle.rb_cache.specs.Slots.{AreCleanFrom}
use Rattle.rb_cache.proofs.frames.Frames.dirty_from.Given as goal

abbrev pub invariant-loop-number : goal.invariant-loop-number
invariant-loop-number l = record {
  clean : AreCleanFrom l.from l.number l.fn.self.slots;
}
