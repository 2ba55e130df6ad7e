use Rattle.std.proofs.Common.{Ok, [], false, true}
use Rattle.rb_base.specs.Logs.{load_logs, more_logs}
use Rattle.rb_cleanout.proofs.blocks.plan_clean.Goals as goal

pub returns-in_err-clean_copy-clause-logs : goal.returns-in_err-clean_copy-clause-logs
returns-in_err-clean_copy-clause-logs g c =
    let load = c.in_ok-load.ensures in
    let loads = load_logs g.S.Store c.args.store.now c.load.new.self (Ok c.in_ok-load.field-0) load.shape load.slots load.failed load.counted load.lsn load.blocks load.settles load.any_moment load.holds_back in
    rw c.from_residual-in_err-clean_copy.ensures.0 (more_logs g.S.Store c.args.store.now c.load.new.self c.clean_copy.new.store [] [] false loads c.in_err-clean_copy.ensures.logs)

pub returns-clause-logs : goal.returns-clause-logs
returns-clause-logs g c =
    let load = c.in_ok-load.ensures in
    let loads = load_logs g.S.Store c.args.store.now c.load.new.self (Ok c.in_ok-load.field-0) load.shape load.slots load.failed load.counted load.lsn load.blocks load.settles load.any_moment load.holds_back in
    more_logs g.S.Store c.args.store.now c.load.new.self c.clean_copy.new.store [] [] true loads c.in_ok-clean_copy.ensures.logs
