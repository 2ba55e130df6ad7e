use Rattle.std.proofs.Common.{◌≢◌, ◌-◌, get_or, Some, subst, List, arith}
use Rattle.rb_sessions.specs.Kept.{KeptSession, fresh}
use Rattle.rb_sessions.proofs.Table.{unowned}
use Rattle.rb_sessions.proofs.sessions.Sessions.owner.Goals as goal

pub returns-clause-none : goal.returns-clause-none
returns-clause-none c = λ s low high.
    subst (λ (table : List KeptSession). (get_or table (s - 1) fresh).own ≢ Some c.args.xid) c.self.view_is
    (unowned c.self.inside.entries.items c.loop-i.i (s - 1) c.args.xid c.loop-i.invariant (omega (arith, low, high, c.loop-i-test.false)))
