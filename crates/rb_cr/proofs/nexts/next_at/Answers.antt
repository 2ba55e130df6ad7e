use Rattle.std.proofs.Common.{◌≡◌, ◌∙◌, [], ℕ, Bool, List, Result, IfErr, Ok, Err, not, refl, sym, ap, subst, true, false}
use Rattle.rb_base.specs.Blocks.{block_of}
use Rattle.rb_base.specs.Logs.{Logs, load_logs, more_logs}
use Rattle.rb_base.specs.declared.shape.Shape.{Shape}
use Rattle.rb_cr.specs.Clauses.{answer_to}
use Rattle.rb_cr.specs.Copies.{HasNoneIn, IsReadWith, Keeps, ServesAt, Turns, lsn_at}
use Rattle.rb_cr.specs.Faults.{is_failed, is_fault}
use Rattle.rb_cr.specs.Rows.{block_rows}
use Rattle.rb_cr.specs.declared.faults.CrFault.{CrFault}
use Rattle.rb_cr.specs.declared.faults.CrFault.TheVariants as faults
use Rattle.law_read.specs.Reading.{History}
use Rattle.law_read.proofs.Quiet.{quiet_reads}
use Rattle.law_blocks.specs.Standing.{env_of, homes_of}
use Rattle.rb_cr.proofs.Erring.{handed_on}
use Rattle.rb_cr.proofs.Homes.{carried}
use Rattle.rb_cr.proofs.Shown.{next_same}
use Rattle.rb_cr.proofs.nexts.next_at.Given.{Over}
use Rattle.rb_cr.proofs.nexts.next_at.Goals as goal

-- the home is read after the look at its entries as it was before
after : (g : Over) (c : goal.After-next_rebuilt g) → g.S.Store.tells → (h : History)
    → IsReadWith (g.S.Store.shape_of c.args.store.now) (g.S.Store.blocks c.args.store.now) c.args.copies.now.kept c.args.block h c.args.snapshot.now
    → IsReadWith (g.S.Store.shape_of c.changes_visible.new.store) (g.S.Store.blocks c.changes_visible.new.store) c.args.copies.now.kept c.args.block h c.args.snapshot.now
after g c told h reading =
    let s = g.S.Store in
    let logs = c.in_ok-changes_visible.ensures.logs in
    carried (λ shape blocks. IsReadWith shape blocks c.args.copies.now.kept c.args.block h c.args.snapshot.now) (s.shape_of c.args.store.now) (s.shape_of c.changes_visible.new.store) (s.blocks c.args.store.now) (s.blocks c.changes_visible.new.store)
    logs.same_shape (logs.blocks told refl) reading

pub returns-then-not-branch-clause-given : goal.returns-then-not-branch-clause-given
returns-then-not-branch-clause-given g c = λ told h reading. c.next_rebuilt.ensures.given told h (after g c told h reading)

pub returns-then-not-branch-clause-none : goal.returns-then-not-branch-clause-none
returns-then-not-branch-clause-none g c = λ told h reading. c.next_rebuilt.ensures.none told h (after g c told h reading)

pub returns-then-not-branch-clause-logs : goal.returns-then-not-branch-clause-logs
returns-then-not-branch-clause-logs g c = more_logs g.S.Store c.args.store.now c.changes_visible.new.store c.next_rebuilt.new.store [] [] (not (is_failed c.next_rebuilt.result)) c.in_ok-changes_visible.ensures.logs c.next_rebuilt.ensures.logs

-- and what is so after it was so before
before : (g : Over) (c : goal.After-next_rebuilt g) → g.S.Store.tells → (P : Shape → List (List ℕ) → Type 0)
    → P (g.S.Store.shape_of c.changes_visible.new.store) (g.S.Store.blocks c.changes_visible.new.store) → P (g.S.Store.shape_of c.args.store.now) (g.S.Store.blocks c.args.store.now)
before g c told P holds =
    let s = g.S.Store in
    let logs = c.in_ok-changes_visible.ensures.logs in
    carried P (s.shape_of c.changes_visible.new.store) (s.shape_of c.args.store.now) (s.blocks c.changes_visible.new.store) (s.blocks c.args.store.now)
    (sym logs.same_shape) (sym (logs.blocks told refl)) holds

pub returns-then-not-branch-clause-passed_over : goal.returns-then-not-branch-clause-passed_over
returns-then-not-branch-clause-passed_over g c = λ told.
    let snap = c.args.snapshot.now in
    before g c told (λ shape blocks. IfErr c.next_rebuilt.result (λ fault. is_fault fault ≡ false → ServesAt shape blocks c.args.copies.now.kept c.args.block snap snap.scn → ⊥)) (c.next_rebuilt.ensures.passed_over told)

pub returns-then-not-branch-clause-keeps : goal.returns-then-not-branch-clause-keeps
returns-then-not-branch-clause-keeps g c = λ told.
    before g c told (λ shape blocks. Keeps shape blocks c.args.block c.args.snapshot.now c.args.copies.now.kept c.next_rebuilt.new.copies.kept) (c.next_rebuilt.ensures.keeps told)

pub returns-then-not-branch-clause-turns : goal.returns-then-not-branch-clause-turns
returns-then-not-branch-clause-turns g c = λ told going busy.
    let snap = c.args.snapshot.now in
    before g c told (λ shape blocks. HasNoneIn shape blocks c.args.block snap → Turns c.args.block (lsn_at blocks c.args.block) snap.scn c.next_rebuilt.result c.args.copies.now c.next_rebuilt.new.copies) (c.next_rebuilt.ensures.turns told going)

pub returns-in_err-load-clause-logs : goal.returns-in_err-load-clause-logs
returns-in_err-load-clause-logs g c =
    let s = g.S.Store in
    let mid = c.changes_visible.new.store in
    let new = c.load.new.self in
    let load = c.in_err-load.ensures in
    subst (λ (z : Result Bool CrFault). Logs s c.args.store.now new [] (not (is_failed z))) (sym (handed_on faults.Failed c.from_residual-in_err-load.result c.from_residual-in_err-load.ensures.1))
    (more_logs s c.args.store.now mid new [] [] false c.in_ok-changes_visible.ensures.logs (load_logs s mid new (Err c.in_err-load.field-0.0) load.shape load.slots load.failed load.counted load.lsn load.blocks load.settles load.any_moment load.holds_back))

pub returns-clause-logs : goal.returns-clause-logs
returns-clause-logs g c =
    let s = g.S.Store in
    let mid = c.changes_visible.new.store in
    let new = c.load.new.self in
    let load = c.in_ok-load.ensures in
    more_logs s c.args.store.now mid new [] [] true c.in_ok-changes_visible.ensures.logs (load_logs s mid new (Ok c.in_ok-load.field-0) load.shape load.slots load.failed load.counted load.lsn load.blocks load.settles load.any_moment load.holds_back)

-- no change is above the snapshot, so the block that is read shows the rows as they were
shown : (g : Over) (c : goal.After-next_plain g) → g.S.Store.tells → (h : History)
    → IsReadWith (g.S.Store.shape_of c.args.store.now) (g.S.Store.blocks c.args.store.now) c.args.copies.now.kept c.args.block h c.args.snapshot.now
    → (k : ℕ) → block_rows c.block.result.now k ≡ answer_to h c.args.snapshot.now k
shown g c told h reading k =
    let s = g.S.Store in
    let shape = s.shape_of c.args.store.now in
    let blocks = s.blocks c.args.store.now in
    let snap = c.args.snapshot.now in
    let read : c.block.result.now ≡ block_of (s.blocks c.load.new.self) c.args.block = c.block.ensures.block told c.args.block c.in_ok-load.ensures.loaded in
    let same : s.blocks c.load.new.self ≡ blocks = c.in_ok-load.ensures.blocks told ∙ c.in_ok-changes_visible.ensures.logs.blocks told refl in
    let plain = quiet_reads (env_of shape blocks) h snap.own snap.upto snap.scn (homes_of shape blocks c.args.block) reading.read (c.in_ok-changes_visible.ensures.told told c.if-not-branch.false) in
    ap (λ (block : List ℕ). block_rows block k) (read ∙ ap (λ (z : List (List ℕ)). block_of z c.args.block) same) ∙ plain.0 k

pub returns-clause-given : goal.returns-clause-given
returns-clause-given g c = λ told h reading found.
    let w = c.args.wanted in
    next_same w.after w.lo w.hi (block_rows c.block.result.now) (answer_to h c.args.snapshot.now) c.next_plain.new.row (shown g c told h reading) (c.next_plain.ensures.given found)

pub returns-clause-none : goal.returns-clause-none
returns-clause-none g c = λ told h reading none k wanted. sym (shown g c told h reading k) ∙ c.next_plain.ensures.none none k wanted
