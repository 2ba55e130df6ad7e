use Rattle.std.proofs.Common.{length}
use Rattle.rb_shell.proofs.ResumeLemmas.{room_less, room_one}
use Rattle.rb_shell.proofs.replies.WaitingListener.hear.Goals as goal

pub keep-requires-clause-room : goal.keep-requires-clause-room
keep-requires-clause-room c = room_one (length c.args.self.now.bytes.items) c.requires

pub returns-clause-room : goal.returns-clause-room
returns-clause-room c = room_less (length c.args.self.now.bytes.items) (length c.keep.new.waiting.bytes.items) c.keep.ensures.len
