use Rattle.std.proofs.Common.{◌≡◌, ◌∙◌, ℕ, List, Ok, [], true, false, sym, ap}
use Rattle.rb_base.specs.Logs.{load_logs, more_logs}
use Rattle.rb_dead.specs.Entries.{entry_at}
use Rattle.rb_dead.proofs.Moving.{moved}
use Rattle.rb_heap.proofs.Reading.{entry_read}
use Rattle.rb_heap.specs.Homes.{home_entry, home_of}
use Rattle.rb_itl.specs.Entries.{free_entry}
use Rattle.rb_itl.specs.declared.slots.Entry.{Entry}
use Rattle.rb_dead.proofs.home.dead_entry.Goals as goal

pub returns-in_err-is_dead-clause-logs : goal.returns-in_err-is_dead-clause-logs
returns-in_err-is_dead-clause-logs g c =
    let load = c.in_ok-load.ensures in
    let loads = load_logs g.S.Store c.args.store.now c.load.new.self (Ok c.in_ok-load.field-0) load.shape load.slots load.failed load.counted load.lsn load.blocks load.settles load.any_moment load.holds_back in
    rw c.from_residual-in_err-is_dead.ensures.0 (more_logs g.S.Store c.args.store.now c.load.new.self c.is_dead.new.store [] [] false loads c.in_err-is_dead.ensures.logs)

pub returns-then-branch-clause-logs : goal.returns-then-branch-clause-logs
returns-then-branch-clause-logs g c =
    let load = c.in_ok-load.ensures in
    let loads = load_logs g.S.Store c.args.store.now c.load.new.self (Ok c.in_ok-load.field-0) load.shape load.slots load.failed load.counted load.lsn load.blocks load.settles load.any_moment load.holds_back in
    more_logs g.S.Store c.args.store.now c.load.new.self c.is_dead.new.store [] [] true loads c.in_ok-is_dead.ensures.logs

pub returns-clause-logs : goal.returns-clause-logs
returns-clause-logs g c =
    let load = c.in_ok-load.ensures in
    let loads = load_logs g.S.Store c.args.store.now c.load.new.self (Ok c.in_ok-load.field-0) load.shape load.slots load.failed load.counted load.lsn load.blocks load.settles load.any_moment load.holds_back in
    more_logs g.S.Store c.args.store.now c.load.new.self c.is_dead.new.store [] [] true loads c.in_ok-is_dead.ensures.logs

pub returns-then-branch-clause-some : goal.returns-then-branch-clause-some
returns-then-branch-clause-some g c = λ told.
    let s = g.S.Store in
    let load = c.in_ok-load.ensures in
    let old = c.args.store.now in
    let read : entry_at (s.blocks old) c.args.no c.args.i ≡ c.entry-found.result = ap (λ (b : List (List ℕ)). entry_at b c.args.no c.args.i) (sym (load.blocks told))
    ∙ ap (λ (b : List ℕ). home_entry (home_of b) c.args.i) (sym (c.block.ensures.block told c.args.no load.loaded))
    ∙ entry_read c.block.result.now c.args.i free_entry c.requires.place ∙ sym c.entry-found.ensures in (
      moved c.args.sessions.now (s.shape_of c.load.new.self) (s.shape_of old) (s.blocks c.load.new.self) (s.blocks old) c.entry-found.result (entry_at (s.blocks old) c.args.no c.args.i) load.shape (load.blocks told) (sym read)
          ((c.in_ok-is_dead.ensures.dead told).0 c.if-branch.true),
      ap (λ (e : Entry). e.xid) read,
    )

pub returns-clause-none : goal.returns-clause-none
returns-clause-none g c = λ told none dead.
    let s = g.S.Store in
    let load = c.in_ok-load.ensures in
    let old = c.args.store.now in
    let read : entry_at (s.blocks old) c.args.no c.args.i ≡ c.entry-found.result = ap (λ (b : List (List ℕ)). entry_at b c.args.no c.args.i) (sym (load.blocks told))
    ∙ ap (λ (b : List ℕ). home_entry (home_of b) c.args.i) (sym (c.block.ensures.block told c.args.no load.loaded))
    ∙ entry_read c.block.result.now c.args.i free_entry c.requires.place ∙ sym c.entry-found.ensures in
    (c.in_ok-is_dead.ensures.dead told).1 c.if-branch.false
    (moved c.args.sessions.now (s.shape_of old) (s.shape_of c.load.new.self) (s.blocks old) (s.blocks c.load.new.self) (entry_at (s.blocks old) c.args.no c.args.i) c.entry-found.result (sym load.shape) (sym (load.blocks told)) read dead)
