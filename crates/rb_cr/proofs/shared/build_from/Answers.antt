use Rattle.std.proofs.Common.{◌≡◌, ℕ, [], Result, not, refl, sym, subst}
use Rattle.rb_base.specs.Logs.{more_logs}
use Rattle.rb_cr.specs.Builds.{IsHomeRead}
use Rattle.rb_cr.specs.Copies.{BuiltAt, IsReadWith, HasNoneIn}
use Rattle.rb_cr.specs.Faults.{is_failed}
use Rattle.rb_cr.specs.Scratches.{scratch_home}
use Rattle.rb_cr.specs.declared.faults.CrFault.{CrFault}
use Rattle.law_read.specs.Reading.{History}
use Rattle.rb_cr.proofs.Erring.{handed_on}
use Rattle.rb_cr.proofs.Homes.{carried}
use Rattle.rb_cr.proofs.Sharing.{built_on, built_worn, found_is, goes, not_over, taken}
use Rattle.rb_cr.proofs.shared.build_from.Given.{Over}
use Rattle.rb_cr.proofs.shared.build_from.Goals as goal
use Rattle.rb_cr.proofs.shared.build_from.Goals.{After-build}

pub returns-then-key-snapshot-clause-told : goal.returns-then-key-snapshot-clause-told
returns-then-key-snapshot-clause-told g c = λ told h read none.
    let shape = g.S.Store.shape_of c.args.store.now in
    taken shape (g.S.Store.blocks c.args.store.now) c.args.copies.now.kept c.args.key.block h c.args.snapshot.now read none
    c.args.key.scn c.in-Some.home.now (found_is c.args.copies.now.kept c.touch.new.self.kept c.args.key c.peek.result c.in-Some.home (c.touch.ensures.same c.args.key) c.peek.ensures.copy c.in-Some.is) c.take.new.self (c.take.ensures.home shape) c.if-key-snapshot.true c.take.ensures.kept c.args.steps.now

pub go_on-requires-clause-ready : goal.go_on-requires-clause-ready
go_on-requires-clause-ready g c = (c.requires.going, c.requires.whole)

pub returns-in_err-go_on-clause-told : goal.returns-in_err-go_on-clause-told
returns-in_err-go_on-clause-told g c = λ told h read none.
    let shape = g.S.Store.shape_of c.args.store.now in
    let file = g.S.Store.blocks c.args.store.now in
    let kept = c.args.copies.now.kept in
    let m = c.args.key.scn in
    let copy = goes shape file kept c.args.key.block h c.args.snapshot.now read none m c.in-Some.home.now (found_is c.args.copies.now.kept c.touch.new.self.kept c.args.key c.peek.result c.in-Some.home (c.touch.ensures.same c.args.key) c.peek.ensures.copy c.in-Some.is) c.take.new.self (c.take.ensures.home shape) c.requires.high in
    let fault = c.in_err-go_on.field-0.0 in
    subst (λ (z : Result (Unit {0}) CrFault). BuiltAt shape file c.args.key.block h c.args.snapshot.now c.args.steps.now z c.go_on.new.scratch c.go_on.new.steps) (sym (handed_on fault c.from_residual.result c.from_residual.ensures.1))
    (built_worn shape file kept c.args.key.block h c.args.snapshot.now read none m c.args.steps.now c.go_on.new.scratch c.go_on.new.steps fault (c.in_err-go_on.ensures.told told h m copy))

pub returns-then-branch-clause-told : goal.returns-then-branch-clause-told
returns-then-branch-clause-told g c = λ told h read none.
    let shape = g.S.Store.shape_of c.args.store.now in
    let file = g.S.Store.blocks c.args.store.now in
    let kept = c.args.copies.now.kept in
    let m = c.args.key.scn in
    let copy = goes shape file kept c.args.key.block h c.args.snapshot.now read none m c.in-Some.home.now (found_is c.args.copies.now.kept c.touch.new.self.kept c.args.key c.peek.result c.in-Some.home (c.touch.ensures.same c.args.key) c.peek.ensures.copy c.in-Some.is) c.take.new.self (c.take.ensures.home shape) c.requires.high in
    built_on shape file kept c.args.key.block h c.args.snapshot.now read none m c.args.steps.now c.go_on.new.scratch c.go_on.new.steps c.in_ok-go_on.field-0 c.if-branch.true (c.in_ok-go_on.ensures.told told h m copy)

pub returns-then-branch-clause-spared : goal.returns-then-branch-clause-spared
returns-then-branch-clause-spared g c = λ told h read none free.
    let shape = g.S.Store.shape_of c.args.store.now in
    let file = g.S.Store.blocks c.args.store.now in
    let kept = c.args.copies.now.kept in
    let m = c.args.key.scn in
    let copy = goes shape file kept c.args.key.block h c.args.snapshot.now read none m c.in-Some.home.now (found_is c.args.copies.now.kept c.touch.new.self.kept c.args.key c.peek.result c.in-Some.home (c.touch.ensures.same c.args.key) c.peek.ensures.copy c.in-Some.is) c.take.new.self (c.take.ensures.home shape) c.requires.high in
    (c.in_ok-go_on.ensures.told told h m copy).counted c.if-branch.true

-- the build from the block says of it what it says before
built : (g : Over) (c : After-build g) → g.S.Store.tells → (h : History)
    → IsReadWith (g.S.Store.shape_of c.args.store.now) (g.S.Store.blocks c.args.store.now) c.args.copies.now.kept c.args.key.block h c.args.snapshot.now
    → HasNoneIn (g.S.Store.shape_of c.args.store.now) (g.S.Store.blocks c.args.store.now) c.args.key.block c.args.snapshot.now
    → BuiltAt (g.S.Store.shape_of c.args.store.now) (g.S.Store.blocks c.args.store.now) c.args.key.block h c.args.snapshot.now c.args.steps.now c.build.result c.build.new.scratch c.build.new.steps
built g c told h read none =
    let s = g.S.Store in
    let b = c.args.key.block in
    let snap = c.args.snapshot.now in
    let shape = s.shape_of c.args.store.now in
    let blocks = s.blocks c.args.store.now in
    let shape2 = s.shape_of c.go_on.new.segments in
    let blocks2 = s.blocks c.go_on.new.segments in
    let logs = c.in_ok-go_on.ensures.reads.made in
    let same = logs.blocks told refl in
    let m = c.args.key.scn in
    let copy = goes shape blocks c.args.copies.now.kept b h snap read none m c.in-Some.home.now (found_is c.args.copies.now.kept c.touch.new.self.kept c.args.key c.peek.result c.in-Some.home (c.touch.ensures.same c.args.key) c.peek.ensures.copy c.in-Some.is) c.take.new.self (c.take.ensures.home shape) c.requires.high in
    let count : c.go_on.new.steps ≡ c.args.steps.now = (c.in_ok-go_on.ensures.told told h m copy).over c.if-branch.false in
    let reading : IsHomeRead shape2 blocks2 b h snap = carried (λ sh bl. IsHomeRead sh bl b h snap) shape shape2 blocks blocks2 logs.same_shape same read.read in
    let now : BuiltAt shape2 blocks2 b h snap c.args.steps.now c.build.result c.build.new.scratch c.build.new.steps =
    subst (λ (n : ℕ). BuiltAt shape2 blocks2 b h snap n c.build.result c.build.new.scratch c.build.new.steps) count
    (record {
      rows = c.build.ensures.rows told h reading;
      most = c.build.ensures.most told h reading;
      old = c.build.ensures.old told h reading;
      left = c.build.ensures.left told h reading;
    }) in
    carried (λ sh bl. BuiltAt sh bl b h snap c.args.steps.now c.build.result c.build.new.scratch c.build.new.steps) shape2 shape blocks2 blocks (sym logs.same_shape) (sym same) now

pub returns-clause-told : goal.returns-clause-told
returns-clause-told g c = built g c

pub returns-clause-spared : goal.returns-clause-spared
returns-clause-spared g c = λ told h read none free.
    let shape = g.S.Store.shape_of c.args.store.now in
    let over = c.in_ok-go_on.ensures.over told c.if-branch.false in
    absurd (not_over shape (g.S.Store.blocks c.args.store.now) c.args.copies.now.kept c.args.key.block c.args.snapshot.now.scn c.args.key.scn c.in-Some.home.now (scratch_home shape c.take.new.self) (found_is c.args.copies.now.kept c.touch.new.self.kept c.args.key c.peek.result c.in-Some.home (c.touch.ensures.same c.args.key) c.peek.ensures.copy c.in-Some.is) (c.take.ensures.home shape) free over.0 over.1)

pub returns-clause-logs : goal.returns-clause-logs
returns-clause-logs g c = more_logs g.S.Store c.args.store.now c.go_on.new.segments c.build.new.store [] [] (not (is_failed c.build.result)) c.in_ok-go_on.ensures.reads.made c.build.ensures.logs
