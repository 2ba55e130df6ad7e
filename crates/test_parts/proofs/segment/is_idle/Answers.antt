use Rattle.rb_segment.proofs.Parts.{chosen_read}
use Rattle.test_parts.proofs.segment.is_idle.Goals as goal

pub returns : goal.returns
returns c idle = let k = chosen_read c.args.header.now c.in-Some.i c.in-Some.ensures.found in (c.in-Some.i, k.within, k.idle)
