use Rattle.std.proofs.Common.{arith, Ok, Err}
use Rattle.rb_base.specs.Logs.{load_logs}
use Rattle.rb_write.proofs.Writers.{active_few}
use Rattle.rb_write.proofs.segment.active_in.Goals as goal

pub returns-clause-few : goal.returns-clause-few
returns-clause-few g c = omega (arith, active_few c.block.result.now, c.active.ensures)

pub returns-in_err-load-clause-logs : goal.returns-in_err-load-clause-logs
returns-in_err-load-clause-logs g c =
    let load = c.in_err-load.ensures in
    rw c.from_residual.ensures.0
    (load_logs g.S.Store c.args.store.now c.load.new.self (Err c.in_err-load.field-0.0) load.shape load.slots load.failed load.counted load.lsn load.blocks load.settles load.any_moment load.holds_back)

pub returns-clause-logs : goal.returns-clause-logs
returns-clause-logs g c =
    let load = c.in_ok-load.ensures in
    load_logs g.S.Store c.args.store.now c.load.new.self (Ok c.in_ok-load.field-0) load.shape load.slots load.failed load.counted load.lsn load.blocks load.settles load.any_moment load.holds_back
