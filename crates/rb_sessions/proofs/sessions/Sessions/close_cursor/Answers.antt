use Rattle.std.proofs.Common.{◌-◌, rules}
use Rattle.rb_model.specs.Names.{name_text}
use Rattle.rb_sessions.specs.Kept as kept
use Rattle.rb_sessions.proofs.Table.{changed_at}
use Rattle.rb_sessions.proofs.sessions.Sessions.close_cursor.Goals as goal

pub returns : goal.returns
returns c = changed_at c.self.inside.entries.items (c.args.s - 1) c.close_cursor.new.self c.index_mut.result.now (λ k. kept.with_cursors k (kept.without (name_text c.args.name.now) k.cursors)) c.args.self.now c.self.invariant (search rules) c.self.view_is c.index_mut.ensures.value c.close_cursor.ensures
