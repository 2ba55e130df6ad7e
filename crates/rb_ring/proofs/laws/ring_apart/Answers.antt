use Rattle.rb_ring.proofs.Places.{extent_written, head_written, record_count_written, lost_written, extent_only, head_only, record_count_only, lost_only}
use Rattle.rb_ring.proofs.laws.ring_apart.Goals as goal

pub returns-clause-extent : goal.returns-clause-extent
returns-clause-extent c = extent_written

pub returns-clause-head : goal.returns-clause-head
returns-clause-head c = head_written

pub returns-clause-writes : goal.returns-clause-writes
returns-clause-writes c = record_count_written

pub returns-clause-lost : goal.returns-clause-lost
returns-clause-lost c = lost_written

pub returns-clause-extent_apart : goal.returns-clause-extent_apart
returns-clause-extent_apart c = extent_only

pub returns-clause-head_apart : goal.returns-clause-head_apart
returns-clause-head_apart c = head_only

pub returns-clause-writes_apart : goal.returns-clause-writes_apart
returns-clause-writes_apart c = record_count_only

pub returns-clause-lost_apart : goal.returns-clause-lost_apart
returns-clause-lost_apart c = lost_only
