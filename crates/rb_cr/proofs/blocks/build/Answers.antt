use Rattle.std.proofs.Common.{◌≡◌, [], Ok, not, IfErr, OnOk, sym, subst, false}
use Rattle.rb_base.specs.Logs.{load_logs, more_logs}
use Rattle.rb_base.specs.declared.shape.Shape.{Shape}
use Rattle.rb_cr.specs.Faults.{Because, is_failed, is_fault}
use Rattle.rb_cr.specs.Late.{IsFresh}
use Rattle.rb_cr.specs.Scratches.{scratch_home}
use Rattle.law_read.specs.Chains.{Counted}
use Rattle.law_read.specs.Copies.{Copied}
use Rattle.law_read.specs.Reading.{History, Reading, Worn}
use Rattle.law_blocks.specs.Standing.{env_of, homes_of}
use Rattle.law_home.specs.Walk.{Env, Home}
use Rattle.rb_cr.proofs.Homes.{both, env_stays, home_stays}
use Rattle.rb_cr.specs.declared.scratch.Snapshot.{Snapshot}
use Rattle.rb_cr.specs.declared.watch.Watch.{Watch}
use Rattle.rb_cr.proofs.blocks.build.Given.{Over}
use Rattle.rb_cr.proofs.blocks.build.Goals as goal

-- what the segments say, and the home, after the load
loads : (g : Over) (c : goal.After-rebuild g) → g.S.Store.tells
    → (env_of (g.S.Store.shape_of c.load.new.self) (g.S.Store.blocks c.load.new.self) ≡ env_of (g.S.Store.shape_of c.args.store.now) (g.S.Store.blocks c.args.store.now))
    × (scratch_home (g.S.Store.shape_of c.load.new.self) c.decode.new.self ≡ homes_of (g.S.Store.shape_of c.args.store.now) (g.S.Store.blocks c.args.store.now) c.args.block)
loads g c told =
    let s = g.S.Store in
    let old = c.args.store.now in
    let now = c.load.new.self in
    let load = c.in_ok-load.ensures in (
      env_stays (s.shape_of old) (s.shape_of now) (s.blocks old) (s.blocks now) load.shape (load.blocks told),
      home_stays c.decode.new.self (s.shape_of old) (s.shape_of now) c.block.result.now (s.blocks old) (s.blocks now) c.args.block c.decode.ensures.number c.decode.ensures.entries c.decode.ensures.cells (c.block.ensures.block told c.args.block load.loaded) load.shape (load.blocks told),
    )

-- what holds of both before holds after it, and the other way round
after : (g : Over) (c : goal.After-rebuild g) → g.S.Store.tells → (P : Env → Home → Type 0)
    → P (env_of (g.S.Store.shape_of c.args.store.now) (g.S.Store.blocks c.args.store.now)) (homes_of (g.S.Store.shape_of c.args.store.now) (g.S.Store.blocks c.args.store.now) c.args.block)
    → P (env_of (g.S.Store.shape_of c.load.new.self) (g.S.Store.blocks c.load.new.self)) (scratch_home (g.S.Store.shape_of c.load.new.self) c.decode.new.self)
after g c told P = both P _ _ _ _ (sym (loads g c told).0) (sym (loads g c told).1)

before : (g : Over) (c : goal.After-rebuild g) → g.S.Store.tells → (P : Env → Home → Type 0)
    → P (env_of (g.S.Store.shape_of c.load.new.self) (g.S.Store.blocks c.load.new.self)) (scratch_home (g.S.Store.shape_of c.load.new.self) c.decode.new.self)
    → P (env_of (g.S.Store.shape_of c.args.store.now) (g.S.Store.blocks c.args.store.now)) (homes_of (g.S.Store.shape_of c.args.store.now) (g.S.Store.blocks c.args.store.now) c.args.block)
before g c told P = both P _ _ _ _ (loads g c told).0 (loads g c told).1

abbrev IsReadAt : Snapshot → History → Env → Home → Type 0
IsReadAt snap h env b = Reading env h snap.own snap.upto snap.scn b

pub returns-clause-rows : goal.returns-clause-rows
returns-clause-rows g c = λ told h reading. c.rebuild.ensures.rows told h (after g c told (IsReadAt c.args.snapshot.now h) reading)

pub returns-clause-count : goal.returns-clause-count
returns-clause-count g c = λ told h reading. c.rebuild.ensures.count told h (after g c told (IsReadAt c.args.snapshot.now h) reading)

pub returns-clause-most : goal.returns-clause-most
returns-clause-most g c = λ told h reading. c.rebuild.ensures.most told h (after g c told (IsReadAt c.args.snapshot.now h) reading)

pub returns-clause-counted : goal.returns-clause-counted
returns-clause-counted g c = λ told h reading. before g c told (λ env b. IfErr c.rebuild.result (λ fault. is_fault fault ≡ false → Counted env b c.args.steps.now c.rebuild.new.steps)) (c.rebuild.ensures.counted told h (after g c told (IsReadAt c.args.snapshot.now h) reading))

pub returns-clause-old : goal.returns-clause-old
returns-clause-old g c = λ told h reading. before g c told (λ env b. IfErr c.rebuild.result (Because env c.args.snapshot.now.scn (Worn env h c.args.snapshot.now.scn b))) (c.rebuild.ensures.old told h (after g c told (IsReadAt c.args.snapshot.now h) reading))

pub returns-clause-left : goal.returns-clause-left
returns-clause-left g c = λ told h reading high.
    let s = g.S.Store in
    let scn = c.args.snapshot.now.scn in
    let last = c.rebuild.new.scratch in
    subst (λ (z : Shape). OnOk c.rebuild.result (Copied (env_of (s.shape_of c.args.store.now) (s.blocks c.args.store.now)) h.base h.rows h.list scn (scratch_home z last))) c.in_ok-load.ensures.shape
    (subst (λ (z : Env). OnOk c.rebuild.result (Copied z h.base h.rows h.list scn (scratch_home (s.shape_of c.load.new.self) last))) (loads g c told).0
    (c.rebuild.ensures.left told h (after g c told (IsReadAt c.args.snapshot.now h) reading) high))

pub returns-clause-first : goal.returns-clause-first
returns-clause-first g c = λ told h key reading fresh. c.rebuild.ensures.first told h key (after g c told (IsReadAt c.args.snapshot.now h) reading) (subst (λ (w : Watch). IsFresh w key) (sym c.decode.ensures.watch) fresh)

pub returns-clause-logs : goal.returns-clause-logs
returns-clause-logs g c =
    let s = g.S.Store in
    let old = c.args.store.now in
    let loaded = c.load.new.self in
    let load = c.in_ok-load.ensures in
    more_logs s old loaded c.rebuild.new.segments [] [] (not (is_failed c.rebuild.result)) (load_logs s old loaded (Ok c.in_ok-load.field-0) load.shape load.slots load.failed load.counted load.lsn load.blocks load.settles load.any_moment load.holds_back) c.rebuild.ensures.reads.made
