use Rattle.std.proofs.Common.{◌↔◌, ◌-◌, true, []}
use Rattle.rb_base.specs.Logs.{Logs}
use Rattle.rb_segment.specs.Header.{segment_of}
use Rattle.rb_sound.specs.Active.{Fits, Chain}
use Rattle.rb_sound.proofs.active.chain_sound.Given as goal

abbrev pub invariant-loop-done : goal.invariant-loop-done
invariant-loop-done g l = record {
  logs : Logs g.S.Store l.fn.store l.store [] true;
  so_far : g.S.Store.tells → Chain (Fits l.limits) l.shape (segment_of l.shape (g.S.Store.blocks l.fn.store) l.xid.seg) l.xid l.live l.fn.newest ↔ Chain (Fits l.limits) l.shape (segment_of l.shape (g.S.Store.blocks l.fn.store) l.xid.seg) l.xid (l.live - l.done) l.at;
}
