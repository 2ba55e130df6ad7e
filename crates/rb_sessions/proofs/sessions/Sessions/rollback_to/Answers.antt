use Rattle.std.proofs.Common.{◌-◌, rules}
use Rattle.rb_model.specs.Names.{name_text}
use Rattle.rb_model.specs.State.{savepoint_named}
use Rattle.rb_sessions.specs.Kept as kept
use Rattle.rb_sessions.proofs.Table.{changed_at}
use Rattle.rb_sessions.proofs.sessions.Sessions.rollback_to.Goals as goal

pub returns : goal.returns
returns c = changed_at c.self.inside.entries.items (c.args.s - 1) c.rollback_to.new.self c.index_mut.result.now (λ k. kept.back_at (name_text c.args.name.now) (savepoint_named (name_text c.args.name.now) k.savepoints) k) c.args.self.now c.self.invariant (search rules) c.self.view_is c.index_mut.ensures.value c.rollback_to.ensures
