use Rattle.std.proofs.Common.{◌≡◌, ℕ, [], not, refl, sym, subst}
use Rattle.rb_base.specs.Logs.{more_logs}
use Rattle.rb_copies.specs.Copies.{IsLeast, Serves}
use Rattle.rb_cr.specs.Builds.{IsHomeRead}
use Rattle.rb_cr.specs.Copies.{HasNoneIn, IsFree, IsReadWith, IsWhole, Keeps, lsn_at}
use Rattle.rb_cr.specs.Faults.{is_failed}
use Rattle.rb_cr.proofs.Firsts.{if_some}
use Rattle.rb_cr.proofs.Homes.{carried}
use Rattle.rb_cr.proofs.shared.build_with.Goals as goal

pub build_shared-requires-clause-none : goal.build_shared-requires-clause-none
build_shared-requires-clause-none g c = λ told.
    let s = g.S.Store in
    let logs = c.in_ok-shared_number.ensures.logs in
    carried (λ shape file. HasNoneIn shape file c.args.block c.args.snapshot.now) (s.shape_of c.args.store.now) (s.shape_of c.shared_number.new.store) (s.blocks c.args.store.now) (s.blocks c.shared_number.new.store)
    logs.same_shape (logs.blocks told refl) (if_some (λ (n : ℕ). (n ≡ lsn_at (s.blocks c.args.store.now) c.args.block) × HasNoneIn (s.shape_of c.args.store.now) (s.blocks c.args.store.now) c.args.block c.args.snapshot.now) c.in_ok-shared_number.field-0 c.in-Some.number c.in-Some.is (c.in_ok-shared_number.ensures.some told)).1

pub returns-in-None-clause-whole : goal.returns-in-None-clause-whole
returns-in-None-clause-whole g c = λ told h read none.
    let s = g.S.Store in
    let b = c.args.block in
    let snap = c.args.snapshot.now in
    let logs = c.in_ok-shared_number.ensures.logs in
    let shape = s.shape_of c.args.store.now in
    let shape2 = s.shape_of c.shared_number.new.store in
    let file = s.blocks c.args.store.now in
    let file2 = s.blocks c.shared_number.new.store in
    let same = logs.blocks told refl in
    let reading : IsHomeRead shape2 file2 b h snap = carried (λ sh bl. IsHomeRead sh bl b h snap) shape shape2 file file2 logs.same_shape same read.read in
    let now : IsWhole shape2 file2 b h snap c.args.steps.now c.build.result c.build.new.steps = record { all = c.build.ensures.count told h reading; counted = c.build.ensures.counted told h reading } in
    carried (λ sh bl. IsWhole sh bl b h snap c.args.steps.now c.build.result c.build.new.steps) shape2 shape file2 file (sym logs.same_shape) (sym same) now

pub returns-in-None-clause-logs : goal.returns-in-None-clause-logs
returns-in-None-clause-logs g c = more_logs g.S.Store c.args.store.now c.shared_number.new.store c.build.new.store [] [] (not (is_failed c.build.result)) c.in_ok-shared_number.ensures.logs c.build.ensures.logs

pub returns-in-Some-clause-whole : goal.returns-in-Some-clause-whole
returns-in-Some-clause-whole g c = λ told h read none.
    let s = g.S.Store in
    let b = c.args.block in
    let snap = c.args.snapshot.now in
    let kept = c.args.copies.now.kept in
    let logs = c.in_ok-shared_number.ensures.logs in
    let shape = s.shape_of c.args.store.now in
    let shape2 = s.shape_of c.shared_number.new.store in
    let file = s.blocks c.args.store.now in
    let file2 = s.blocks c.shared_number.new.store in
    let same = logs.blocks told refl in
    let some : (c.in-Some.number ≡ lsn_at file b) × HasNoneIn shape file b snap = if_some (λ (n : ℕ). (n ≡ lsn_at file c.args.block) × HasNoneIn shape file c.args.block c.args.snapshot.now) c.in_ok-shared_number.field-0 c.in-Some.number c.in-Some.is (c.in_ok-shared_number.ensures.some told) in
    let reading : IsReadWith shape2 file2 kept b h snap = carried (λ sh bl. IsReadWith sh bl kept b h snap) shape shape2 file file2 logs.same_shape same read in
    let nowhere : (k : ℕ) → Serves kept b c.in-Some.number snap.scn k → ⊥ = λ k at. none k (record { copy = subst (λ (n : ℕ). Serves kept b n snap.scn k) some.0 at; none = some.1 }) in
    let now : IsWhole shape2 file2 b h snap c.args.steps.now c.build_shared.result c.build_shared.new.steps = c.build_shared.ensures.whole told h reading nowhere in
    carried (λ sh bl. IsWhole sh bl b h snap c.args.steps.now c.build_shared.result c.build_shared.new.steps) shape2 shape file2 file (sym logs.same_shape) (sym same) now

pub returns-in-Some-clause-spared : goal.returns-in-Some-clause-spared
returns-in-Some-clause-spared g c = λ told h k read none least free.
    let s = g.S.Store in
    let b = c.args.block in
    let snap = c.args.snapshot.now in
    let kept = c.args.copies.now.kept in
    let logs = c.in_ok-shared_number.ensures.logs in
    let shape = s.shape_of c.args.store.now in
    let shape2 = s.shape_of c.shared_number.new.store in
    let file = s.blocks c.args.store.now in
    let file2 = s.blocks c.shared_number.new.store in
    let same = logs.blocks told refl in
    let some : (c.in-Some.number ≡ lsn_at file b) × HasNoneIn shape file b snap = if_some (λ (n : ℕ). (n ≡ lsn_at file c.args.block) × HasNoneIn shape file c.args.block c.args.snapshot.now) c.in_ok-shared_number.field-0 c.in-Some.number c.in-Some.is (c.in_ok-shared_number.ensures.some told) in
    let reading : IsReadWith shape2 file2 kept b h snap = carried (λ sh bl. IsReadWith sh bl kept b h snap) shape shape2 file file2 logs.same_shape same read in
    let freed : IsFree shape2 file2 kept b snap.scn k = carried (λ sh bl. IsFree sh bl kept b snap.scn k) shape shape2 file file2 logs.same_shape same free in
    c.build_shared.ensures.spared told h k reading (subst (λ (n : ℕ). IsLeast kept b n snap.scn k) (sym some.0) least) freed

pub returns-in-Some-clause-keeps : goal.returns-in-Some-clause-keeps
returns-in-Some-clause-keeps g c = λ told.
    let s = g.S.Store in
    let logs = c.in_ok-shared_number.ensures.logs in
    carried (λ shape file. Keeps shape file c.args.block c.args.snapshot.now c.args.copies.now.kept c.build_shared.new.copies.kept) (s.shape_of c.shared_number.new.store) (s.shape_of c.args.store.now) (s.blocks c.shared_number.new.store) (s.blocks c.args.store.now)
    (sym logs.same_shape) (sym (logs.blocks told refl)) (c.build_shared.ensures.keeps told)

pub returns-in-Some-clause-logs : goal.returns-in-Some-clause-logs
returns-in-Some-clause-logs g c = more_logs g.S.Store c.args.store.now c.shared_number.new.store c.build_shared.new.store [] [] (not (is_failed c.build_shared.result)) c.in_ok-shared_number.ensures.logs c.build_shared.ensures.logs

pub returns-in-Some-clause-at_once : goal.returns-in-Some-clause-at_once
returns-in-Some-clause-at_once g c = λ told serves.
    let s = g.S.Store in
    let some : (c.in-Some.number ≡ lsn_at (s.blocks c.args.store.now) c.args.block) × HasNoneIn (s.shape_of c.args.store.now) (s.blocks c.args.store.now) c.args.block c.args.snapshot.now =
    if_some (λ (n : ℕ). (n ≡ lsn_at (s.blocks c.args.store.now) c.args.block) × HasNoneIn (s.shape_of c.args.store.now) (s.blocks c.args.store.now) c.args.block c.args.snapshot.now) c.in_ok-shared_number.field-0 c.in-Some.number c.in-Some.is (c.in_ok-shared_number.ensures.some told) in
    c.build_shared.ensures.at_once (subst (λ (n : ℕ). Serves c.args.copies.now.kept c.args.block n c.args.snapshot.now.scn c.args.snapshot.now.scn) (sym some.0) serves.copy)
