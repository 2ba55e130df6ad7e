use Rattle.rb_rollback.proofs.Backs.{PutBacks}
use Rattle.rb_rollback.proofs.back.put_back.Given as goal

abbrev pub invariant-loop-change : goal.invariant-loop-change
invariant-loop-change g l = PutBacks g.T.Store l.fn.xid l.fn.count l._change l.fn.store l.store
