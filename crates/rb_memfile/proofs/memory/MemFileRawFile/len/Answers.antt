-- A call that changes nothing goes on in time.
use Rattle.rb_memfile.specs.Laws.{same_time}
use Rattle.rb_memfile.specs.MemFile.{seen_of}
use Rattle.rb_memfile.proofs.memory.MemFileRawFile.len.Goals as goal

pub returns-clause-time : goal.returns-clause-time
returns-clause-time c = same_time (seen_of c.args.self.now) (seen_of c.refuses.new.self) c.refuses.ensures.untouched.seen
