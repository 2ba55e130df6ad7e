use Rattle.std.proofs.Common.{◌-◌, true}
use Rattle.rb_restart.specs.Steps.{HasLive, Rolls}
use Rattle.rb_restart.proofs.transaction.roll_back.Given as goal

abbrev pub invariant-loop-change : goal.invariant-loop-change
invariant-loop-change g l = record {
  rolls : Rolls g.S.Store l.shape l.fn.store l.store l._change true (λ now. Unit {0});
  left : g.S.Store.tells → HasLive l.shape (g.S.Store.blocks l.fn.store) l.xid l.live → HasLive l.shape (g.S.Store.blocks l.store) l.xid (l.live - l._change);
}
