use Rattle.std.proofs.Common.{◌≡◌, ◌≢◌, ◌+◌, ℕ, Some, Result, Ok, Err, IfErr, sym, ◌∙◌, ap, subst}
use Rattle.rb_copies.specs.Copies.{Serves}
use Rattle.rb_cr.specs.Copies.{BeginsAt, IsFree, IsMade, IsWhole, home_kept}
use Rattle.rb_cr.specs.Scratches.{scratch_home}
use Rattle.rb_cr.specs.declared.faults.CrFault.{CrFault}
use Rattle.law_read.specs.Copies.{Copied}
use Rattle.law_read.specs.Reading.{count_above}
use Rattle.law_blocks.specs.Standing.{env_of}
use Rattle.rb_cr.proofs.Erring.{handed_on}
use Rattle.rb_cr.proofs.Firsts.{begins_at, first_is, if_none, if_some, keeps_put, least_is, not_first, passes, put_is, unserved}
use Rattle.rb_cr.proofs.shared.build_shared.Goals as goal

pub returns-in_err-build_first-clause-whole : goal.returns-in_err-build_first-clause-whole
returns-in_err-build_first-clause-whole g c = λ told h read none.
    let s = g.S.Store in
    let n = c.args.snapshot.now.scn in
    let first = c.least-first.result in
    let kept = c.args.copies.now.kept in
    let begins : BeginsAt kept c.args.block c.args.number n first = begins_at kept c.args.block c.args.number n first c.least-first.ensures.some c.least-first.ensures.none in
    let fault = c.in_err-build_first.field-0.0 in
    subst (λ (z : Result (Unit {0}) CrFault). IsWhole (s.shape_of c.args.store.now) (s.blocks c.args.store.now) c.args.block h c.args.snapshot.now c.args.steps.now z c.build_first.new.steps) (sym (handed_on fault c.from_residual.result c.from_residual.ensures.1))
    (if_none (IsWhole (s.shape_of c.args.store.now) (s.blocks c.args.store.now) c.args.block h c.args.snapshot.now c.args.steps.now (Err fault) c.build_first.new.steps) first
    (unserved kept c.args.block c.args.number n first begins none) (c.in_err-build_first.ensures.whole told h read))

pub returns-in_err-build_first-clause-passed_over : goal.returns-in_err-build_first-clause-passed_over
returns-in_err-build_first-clause-passed_over g c =
    let n = c.args.snapshot.now.scn in
    let first = c.least-first.result in
    let kept = c.args.copies.now.kept in
    let begins : BeginsAt kept c.args.block c.args.number n first = begins_at kept c.args.block c.args.number n first c.least-first.ensures.some c.least-first.ensures.none in
    subst (λ (z : Result (Unit {0}) CrFault). IfErr z (λ fault. Serves kept c.args.block c.args.number n n → ⊥)) (sym (handed_on c.in_err-build_first.field-0.0 c.from_residual.result c.from_residual.ensures.1))
    (passes kept c.args.block c.args.number n first begins c.in_err-build_first.ensures.served)

pub returns-then-ne-clause-told : goal.returns-then-ne-clause-told
returns-then-ne-clause-told g c = λ told h read. c.in_ok-build_first.ensures.told told h read (c.requires.none told)

pub returns-then-ne-clause-spared : goal.returns-then-ne-clause-spared
returns-then-ne-clause-spared g c = λ told h k read least free.
    let s = g.S.Store in
    let n = c.args.snapshot.now.scn in
    let first = c.least-first.result in
    let kept = c.args.copies.now.kept in
    let begins : BeginsAt kept c.args.block c.args.number n first = begins_at kept c.args.block c.args.number n first c.least-first.ensures.some c.least-first.ensures.none in
    if_some (λ (m : ℕ). IsFree (s.shape_of c.args.store.now) (s.blocks c.args.store.now) kept c.args.block n m → c.build_first.new.steps + count_above m h.list ≡ c.args.steps.now + count_above n h.list) first k
    (least_is kept c.args.block c.args.number n first begins k least) (c.in_ok-build_first.ensures.spared told h read (c.requires.none told)) free

pub returns-then-ne-clause-whole : goal.returns-then-ne-clause-whole
returns-then-ne-clause-whole g c = λ told h read none.
    let s = g.S.Store in
    let n = c.args.snapshot.now.scn in
    let first = c.least-first.result in
    let kept = c.args.copies.now.kept in
    let begins : BeginsAt kept c.args.block c.args.number n first = begins_at kept c.args.block c.args.number n first c.least-first.ensures.some c.least-first.ensures.none in
    if_none (IsWhole (s.shape_of c.args.store.now) (s.blocks c.args.store.now) c.args.block h c.args.snapshot.now c.args.steps.now (Ok (tt {0})) c.build_first.new.steps) first
    (unserved kept c.args.block c.args.number n first begins none) (c.in_ok-build_first.ensures.whole told h read)

pub returns-then-ne-clause-turns : goal.returns-then-ne-clause-turns
returns-then-ne-clause-turns g c =
    let n = c.args.snapshot.now.scn in
    let b = c.args.block in
    let first = c.least-first.result in
    let kept = c.args.copies.now.kept in
    let other : first ≢ Some n = not_first first n (sym c.ne.ensures ∙ c.if-ne.true) in
    record {
      first = first;
      begins = begins_at kept b c.args.number n first c.least-first.ensures.some c.least-first.ensures.none;
      refused = tt;
      served = λ is. absurd (other is);
      put = put_is c.args.copies.now c.build_first.new.copies c.keep.new.self b n first c.home.result c.in_ok-build_first.ensures.used c.keep.ensures.kept;
    }

pub returns-then-ne-clause-keeps : goal.returns-then-ne-clause-keeps
returns-then-ne-clause-keeps g c = λ told.
    let s = g.S.Store in
    let shape = s.shape_of c.args.store.now in
    let file = s.blocks c.args.store.now in
    let snap = c.args.snapshot.now in
    let kept = c.args.copies.now.kept in
    let after = c.build_first.new.scratch in
    let home_is : scratch_home shape after ≡ home_kept shape c.args.block c.home.result = sym (c.home.ensures.home shape) ∙ ap (λ (z : ℕ). home_kept shape z c.home.result) c.in_ok-build_first.ensures.block in
    let made : IsMade shape file kept c.args.block snap c.home.result = record {
      number = c.home.ensures.number ∙ c.requires.number told;
      stands = λ h read high. subst (Copied (env_of shape file) h.base h.rows h.list snap.scn) home_is ((c.in_ok-build_first.ensures.told told h read (c.requires.none told)).left high);
    } in
    keeps_put shape file c.args.block snap kept c.build_first.new.copies.kept c.in_ok-build_first.ensures.same c.keep.new.self.kept c.home.result c.keep.ensures.others made

pub returns-else-ne-clause-told : goal.returns-else-ne-clause-told
returns-else-ne-clause-told g c = λ told h read. c.in_ok-build_first.ensures.told told h read (c.requires.none told)

pub returns-else-ne-clause-spared : goal.returns-else-ne-clause-spared
returns-else-ne-clause-spared g c = λ told h k read least free.
    let s = g.S.Store in
    let n = c.args.snapshot.now.scn in
    let first = c.least-first.result in
    let kept = c.args.copies.now.kept in
    let begins : BeginsAt kept c.args.block c.args.number n first = begins_at kept c.args.block c.args.number n first c.least-first.ensures.some c.least-first.ensures.none in
    if_some (λ (m : ℕ). IsFree (s.shape_of c.args.store.now) (s.blocks c.args.store.now) kept c.args.block n m → c.build_first.new.steps + count_above m h.list ≡ c.args.steps.now + count_above n h.list) first k
    (least_is kept c.args.block c.args.number n first begins k least) (c.in_ok-build_first.ensures.spared told h read (c.requires.none told)) free

pub returns-else-ne-clause-whole : goal.returns-else-ne-clause-whole
returns-else-ne-clause-whole g c = λ told h read none.
    let s = g.S.Store in
    let n = c.args.snapshot.now.scn in
    let first = c.least-first.result in
    let kept = c.args.copies.now.kept in
    let begins : BeginsAt kept c.args.block c.args.number n first = begins_at kept c.args.block c.args.number n first c.least-first.ensures.some c.least-first.ensures.none in
    if_none (IsWhole (s.shape_of c.args.store.now) (s.blocks c.args.store.now) c.args.block h c.args.snapshot.now c.args.steps.now (Ok (tt {0})) c.build_first.new.steps) first
    (unserved kept c.args.block c.args.number n first begins none) (c.in_ok-build_first.ensures.whole told h read)

pub returns-then-ne-clause-at_once : goal.returns-then-ne-clause-at_once
returns-then-ne-clause-at_once g c = λ serves.
    let n = c.args.snapshot.now.scn in
    let first = c.least-first.result in
    let kept = c.args.copies.now.kept in
    c.in_ok-build_first.ensures.at_once (first_is kept c.args.block c.args.number n first (begins_at kept c.args.block c.args.number n first c.least-first.ensures.some c.least-first.ensures.none) serves)

pub returns-else-ne-clause-at_once : goal.returns-else-ne-clause-at_once
returns-else-ne-clause-at_once g c = λ serves.
    let n = c.args.snapshot.now.scn in
    let first = c.least-first.result in
    let kept = c.args.copies.now.kept in
    c.in_ok-build_first.ensures.at_once (first_is kept c.args.block c.args.number n first (begins_at kept c.args.block c.args.number n first c.least-first.ensures.some c.least-first.ensures.none) serves)
