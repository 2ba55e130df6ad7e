use Rattle.std.proofs.Common.{ℕ, List, [], true, false, Ok, Err, sym, ◌∙◌, ap}
use Rattle.rb_base.specs.Blocks.{block_of}
use Rattle.rb_base.specs.Logs.{load_logs, more_logs}
use Rattle.rb_write.proofs.Held.{holder_ended, holder_runs, home_at}
use Rattle.rb_write.proofs.holder.holder_of.Goals as goal

pub returns-in_err-load-clause-logs : goal.returns-in_err-load-clause-logs
returns-in_err-load-clause-logs g c =
    let load = c.in_err-load.ensures in
    rw c.from_residual.ensures.0
    (load_logs g.S.Store c.args.store.now c.load.new.self (Err c.in_err-load.field-0.0) load.shape load.slots load.failed load.counted load.lsn load.blocks load.settles load.any_moment load.holds_back)

pub returns-in_default-clause-logs : goal.returns-in_default-clause-logs
returns-in_default-clause-logs g c =
    let load = c.in_ok-load.ensures in
    load_logs g.S.Store c.args.store.now c.load.new.self (Ok c.in_ok-load.field-0) load.shape load.slots load.failed load.counted load.lsn load.blocks load.settles load.any_moment load.holds_back

pub returns-in_err-look_up-clause-logs : goal.returns-in_err-look_up-clause-logs
returns-in_err-look_up-clause-logs g c =
    let load = c.in_ok-load.ensures in
    rw c.from_residual-in_err-look_up.ensures.0 (more_logs g.S.Store c.args.store.now c.load.new.self c.look_up.new.store [] [] false
    (load_logs g.S.Store c.args.store.now c.load.new.self (Ok c.in_ok-load.field-0) load.shape load.slots load.failed load.counted load.lsn load.blocks load.settles load.any_moment load.holds_back) c.in_err-look_up.ensures.logs)

pub returns-in-Active-clause-logs : goal.returns-in-Active-clause-logs
returns-in-Active-clause-logs g c =
    let load = c.in_ok-load.ensures in
    more_logs g.S.Store c.args.store.now c.load.new.self c.look_up.new.store [] [] true
    (load_logs g.S.Store c.args.store.now c.load.new.self (Ok c.in_ok-load.field-0) load.shape load.slots load.failed load.counted load.lsn load.blocks load.settles load.any_moment load.holds_back) c.in_ok-look_up.ensures.logs

pub returns-in-Active-clause-holder : goal.returns-in-Active-clause-holder
returns-in-Active-clause-holder g c told young =
    let s = g.S.Store in
    let old = c.args.store.now in
    let load = c.in_ok-load.ensures in
    let loads = load_logs s old c.load.new.self (Ok c.in_ok-load.field-0) load.shape load.slots load.failed load.counted load.lsn load.blocks load.settles load.any_moment load.holds_back in
    let at = home_at c.shape-shape.result (s.shape_of old) c.args.table c.args.key c.home_block.result c.shape-shape.ensures.shape c.home_block.ensures.number c.home_block.ensures.there in
    let read = c.block.ensures.block told c.home_block.result load.loaded ∙ (ap (λ (l : List (List ℕ)). block_of l c.home_block.result) (load.blocks told) ∙ ap (block_of (s.blocks old)) at.0) in
    holder_runs s old c.load.new.self loads told young c.args.table c.args.key c.block.result.now at.1 read c.in-Some.xid c.in_ok-look_up.field-0
    (sym c.locker_of_key.ensures ∙ c.in-Some.is) (c.in_ok-look_up.ensures.look told) c.in-Active.is

pub returns-in_default-2 : goal.returns-in_default-2
returns-in_default-2 g c =
    let s = g.S.Store in
    let old = c.args.store.now in
    let load = c.in_ok-load.ensures in
    let loads = load_logs s old c.load.new.self (Ok c.in_ok-load.field-0) load.shape load.slots load.failed load.counted load.lsn load.blocks load.settles load.any_moment load.holds_back in
    let at = home_at c.shape-shape.result (s.shape_of old) c.args.table c.args.key c.home_block.result c.shape-shape.ensures.shape c.home_block.ensures.number c.home_block.ensures.there in
    let read = λ (told : s.tells). c.block.ensures.block told c.home_block.result load.loaded ∙ (ap (λ (l : List (List ℕ)). block_of l c.home_block.result) (load.blocks told) ∙ ap (block_of (s.blocks old)) at.0) in
    record {
      logs = more_logs s old c.load.new.self c.look_up.new.store [] [] true loads c.in_ok-look_up.ensures.logs;
      holder = λ told young.
          holder_ended s old c.load.new.self loads told young c.args.table c.args.key c.block.result.now at.1 (read told) c.in-Some.xid c.in_ok-look_up.field-0
          (sym c.locker_of_key.ensures ∙ c.in-Some.is) (c.in_ok-look_up.ensures.look told) c.in_default-2.not-Active;
    }
