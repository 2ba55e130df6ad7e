use Rattle.std.proofs.Common.{arith}
use Rattle.rb_segment.proofs.Parts.{ring_read}
use Rattle.rb_segment.proofs.turn.head.Goals as goal

pub returns-clause-head : goal.returns-clause-head
returns-clause-head c few =
    let head = (ring_read c.args.header.now).0 in
    omega (arith, few, head, c.head_extent.ensures)
