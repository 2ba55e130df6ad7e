use Rattle.std.proofs.Common.{◌-◌, rules}
use Rattle.rb_model.specs.Names.{name_text}
use Rattle.rb_sessions.specs.Kept as kept
use Rattle.rb_sessions.proofs.Table.{changed_at}
use Rattle.rb_sessions.proofs.sessions.Sessions.set_savepoint.Goals as goal

pub returns : goal.returns
returns c = changed_at c.self.inside.entries.items (c.args.s - 1) c.set_savepoint.new.self c.index_mut.result.now (kept.with_savepoint (name_text c.args.name.now)) c.args.self.now c.self.invariant (search rules) c.self.view_is c.index_mut.ensures.value c.set_savepoint.ensures
