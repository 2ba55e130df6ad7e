use Rattle.std.proofs.Common.{rules, ◌≡◌, ℕ, [], Ok, true, false}
use Rattle.rb_base.specs.Logs.{load_logs, more_logs}
use Rattle.rb_cr.specs.Scratches.{scratch_home}
use Rattle.law_blocks.specs.Standing.{env_of, homes_of}
use Rattle.law_home.specs.Walk.{Home, entry_at}
use Rattle.rb_cr.proofs.Away.{away_same, none_away}
use Rattle.rb_cr.proofs.shared.shared_number.Goals as goal

pub returns-in_err-is_away-clause-logs : goal.returns-in_err-is_away-clause-logs
returns-in_err-is_away-clause-logs g c =
    let s = g.S.Store in
    let old = c.args.store.now in
    let loaded = c.load.new.self in
    let load = c.in_ok-load.ensures in
    rw c.from_residual-in_err-is_away.ensures.0 (more_logs s old loaded c.is_away.new.segments [] [] false (load_logs s old loaded (Ok c.in_ok-load.field-0) load.shape load.slots load.failed load.counted load.lsn load.blocks load.settles load.any_moment load.holds_back) c.in_err-is_away.ensures.reads.made)

pub returns-then-branch-clause-logs : goal.returns-then-branch-clause-logs
returns-then-branch-clause-logs g c =
    let s = g.S.Store in
    let old = c.args.store.now in
    let loaded = c.load.new.self in
    let load = c.in_ok-load.ensures in
    more_logs s old loaded c.is_away.new.segments [] [] true (load_logs s old loaded (Ok c.in_ok-load.field-0) load.shape load.slots load.failed load.counted load.lsn load.blocks load.settles load.any_moment load.holds_back) c.in_ok-is_away.ensures.reads.made

pub returns-else-branch-clause-logs : goal.returns-else-branch-clause-logs
returns-else-branch-clause-logs g c =
    let s = g.S.Store in
    let old = c.args.store.now in
    let loaded = c.load.new.self in
    let load = c.in_ok-load.ensures in
    more_logs s old loaded c.is_away.new.segments [] [] true (load_logs s old loaded (Ok c.in_ok-load.field-0) load.shape load.slots load.failed load.counted load.lsn load.blocks load.settles load.any_moment load.holds_back) c.in_ok-is_away.ensures.reads.made

pub returns-else-branch-clause-none : goal.returns-else-branch-clause-none
returns-else-branch-clause-none g c = λ told none.
    let s = g.S.Store in
    let old = c.args.store.now in
    let loaded = c.load.new.self in
    let env = env_of (s.shape_of old) (s.blocks old) in
    let home : Home = homes_of (s.shape_of old) (s.blocks old) c.args.block in
    let read : Home = scratch_home (s.shape_of loaded) c.decode_entries.new.self in
    let same : env_of (s.shape_of loaded) (s.blocks loaded) ≡ env = search rules in
    let each : (j : ℕ) → entry_at read j ≡ entry_at home j = search rules in
    let own = c.in-Some.ensures.some in
    c.in_ok-is_away.ensures.here told c.if-branch.false (away_same env (env_of (s.shape_of loaded) (s.blocks loaded)) home read c.in-Some.own same each (none_away env home c.args.snapshot.now.own c.args.snapshot.now.upto c.in-Some.own own.0 own.1 none))
