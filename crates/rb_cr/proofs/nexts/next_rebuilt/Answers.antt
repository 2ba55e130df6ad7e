use Rattle.std.proofs.Common.{◌≡◌, ℕ, [], not, refl, sym}
use Rattle.rb_base.specs.Logs.{more_logs}
use Rattle.rb_cr.specs.Builds.{IsHomeRead}
use Rattle.rb_cr.specs.Copies.{HasNoneIn, Keeps, lsn_at}
use Rattle.rb_cr.specs.Faults.{is_failed}
use Rattle.rb_cr.proofs.Firsts.{if_some}
use Rattle.rb_cr.proofs.Homes.{carried}
use Rattle.rb_cr.proofs.nexts.next_rebuilt.Goals as goal

pub returns-in-None-clause-none : goal.returns-in-None-clause-none
returns-in-None-clause-none g c = λ told h read.
    let s = g.S.Store in
    let logs = c.in_ok-shared_number.ensures.logs in
    c.next_alone.ensures.none told h (carried (λ shape file. IsHomeRead shape file c.args.block h c.args.snapshot.now) (s.shape_of c.args.store.now) (s.shape_of c.shared_number.new.store) (s.blocks c.args.store.now) (s.blocks c.shared_number.new.store)
    logs.same_shape (logs.blocks told refl) read.read)

pub returns-in-None-clause-logs : goal.returns-in-None-clause-logs
returns-in-None-clause-logs g c = more_logs g.S.Store c.args.store.now c.shared_number.new.store c.next_alone.new.store [] [] (not (is_failed c.next_alone.result)) c.in_ok-shared_number.ensures.logs c.next_alone.ensures.logs

pub next_shared-requires-clause-none : goal.next_shared-requires-clause-none
next_shared-requires-clause-none g c = λ told.
    let s = g.S.Store in
    let logs = c.in_ok-shared_number.ensures.logs in
    carried (λ shape file. HasNoneIn shape file c.args.block c.args.snapshot.now) (s.shape_of c.args.store.now) (s.shape_of c.shared_number.new.store) (s.blocks c.args.store.now) (s.blocks c.shared_number.new.store)
    logs.same_shape (logs.blocks told refl) (if_some (λ (n : ℕ). (n ≡ lsn_at (s.blocks c.args.store.now) c.args.block) × HasNoneIn (s.shape_of c.args.store.now) (s.blocks c.args.store.now) c.args.block c.args.snapshot.now) c.in_ok-shared_number.field-0 c.in-Some.number c.in-Some.is (c.in_ok-shared_number.ensures.some told)).1

pub returns-clause-keeps : goal.returns-clause-keeps
returns-clause-keeps g c = λ told.
    let s = g.S.Store in
    let logs = c.in_ok-shared_number.ensures.logs in
    carried (λ shape file. Keeps shape file c.args.block c.args.snapshot.now c.args.copies.now.kept c.next_shared.new.copies.kept) (s.shape_of c.shared_number.new.store) (s.shape_of c.args.store.now) (s.blocks c.shared_number.new.store) (s.blocks c.args.store.now)
    (sym logs.same_shape) (sym (logs.blocks told refl)) (c.next_shared.ensures.keeps told)

pub returns-clause-logs : goal.returns-clause-logs
returns-clause-logs g c = more_logs g.S.Store c.args.store.now c.shared_number.new.store c.next_shared.new.store [] [] (not (is_failed c.next_shared.result)) c.in_ok-shared_number.ensures.logs c.next_shared.ensures.logs
