use Rattle.rb_segment.proofs.HeaderAfter.{header_after}
use Rattle.rb_segment.proofs.laws.header_changed.Goals as goal

pub returns : goal.returns
returns c = header_after
