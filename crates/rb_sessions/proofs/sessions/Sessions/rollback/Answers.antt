use Rattle.std.proofs.Common.{◌-◌, rules}
use Rattle.rb_sessions.specs.Kept as kept
use Rattle.rb_sessions.proofs.Table.{changed_at}
use Rattle.rb_sessions.proofs.sessions.Sessions.rollback.Goals as goal

pub returns : goal.returns
returns c = changed_at c.self.inside.entries.items (c.args.s - 1) c.rollback.new.self c.index_mut.result.now kept.rolled_back c.args.self.now c.self.invariant (search rules) c.self.view_is c.index_mut.ensures.value c.rollback.ensures
