use Rattle.std.proofs.Common.{◌-◌, ◌^◌, not, Bool, true, false, sym, subst, arith}
use Rattle.rb_base.specs.Logs.{Laws, no_logs}
use Rattle.rb_dead.proofs.Homes.{cleared_all, cleared_fails, clears_more, found_of, gives_more, gives_none, less_owed, never_more, none_cleared, none_fails, none_left, none_owed_cleared, read_clears, taken_clears}
use Rattle.rb_dead.proofs.home.clear_home.Given.{Over}
use Rattle.rb_dead.proofs.home.clear_home.Goals as goal
use Rattle.rb_dead.specs.Takes.{Gives, Leads, LeadsTo}
use Rattle.rb_model.specs.Dead.{home_cleared}

laws_of : (g : Over) → Laws g.T.Store
laws_of g = record {
  stable_left = λ store b n i keeps stable here. g.met.T.Store.stable_left store b n i keeps stable here;
  stable_numbered = λ store b n keeps stable. g.met.T.Store.stable_numbered store b n keeps stable;
  stable_patched = λ store b n keeps stable. g.met.T.Store.stable_patched store b n keeps stable;
  now_counts = λ store t i keeps le here. g.met.T.Store.now_counts store t i keeps le here;
  only_now = λ store i keeps here. g.met.T.Store.only_now store i keeps here;
  holds_back_same = λ store. g.met.T.Store.holds_back_same store;
  holds_back_joined = λ a b c first second. g.met.T.Store.holds_back_joined a b c first second;
}

pub loop-owed-init : goal.loop-owed-init
loop-owed-init g c = none_cleared g.T.Store c.args.sessions.now c.args.no (laws_of g) c.args.owed.now c.args.store.now c.requires.going

pub returns-in_err-xid-clause-gives : goal.returns-in_err-xid-clause-gives
returns-in_err-xid-clause-gives g c =
    subst (λ (b : Bool). Gives g.T.Store c.args.owed.now c.loop-owed.owed c.args.store.now c.first_dead.new.store (not b)) (sym c.from_residual.ensures.0)
    (gives_more g.T.Store c.args.sessions.now c.args.no c.args.owed.now c.loop-owed.owed c.args.store.now c.loop-owed.store c.loop-owed.invariant c.loop-owed.owed c.first_dead.new.store false
    (gives_none g.T.Store c.args.sessions.now c.args.no c.loop-owed.owed c.loop-owed.store c.first_dead.new.store false c.in_err-xid.ensures.logs))

pub returns-in_err-xid-clause-cleared : goal.returns-in_err-xid-clause-cleared
returns-in_err-xid-clause-cleared g c = λ told h xids table key first last is has.
    subst (λ (b : Bool). LeadsTo g.T.Store h (home_cleared table key h) xids c.args.sessions.now c.loop-owed.owed c.args.store.now c.first_dead.new.store (not b)) (sym c.from_residual.ensures.0)
    (cleared_fails g.T.Store c.args.sessions.now c.args.no c.args.owed.now c.loop-owed.owed c.args.store.now c.loop-owed.store c.loop-owed.invariant c.loop-owed.owed c.first_dead.new.store
    (none_fails g.T.Store c.args.sessions.now c.args.no (laws_of g) c.loop-owed.owed c.loop-owed.store c.first_dead.new.store c.in_err-xid.ensures.logs)
    told h xids table key first last is has)

pub returns-in_default-clause-gives : goal.returns-in_default-clause-gives
returns-in_default-clause-gives g c =
    gives_more g.T.Store c.args.sessions.now c.args.no c.args.owed.now c.loop-owed.owed c.args.store.now c.loop-owed.store c.loop-owed.invariant c.loop-owed.owed c.first_dead.new.store true
    (gives_none g.T.Store c.args.sessions.now c.args.no c.loop-owed.owed c.loop-owed.store c.first_dead.new.store true c.in_ok-xid.ensures.logs)

pub returns-in_default-clause-cleared : goal.returns-in_default-clause-cleared
returns-in_default-clause-cleared g c =
    cleared_all g.T.Store c.args.sessions.now c.args.no c.args.owed.now c.loop-owed.owed c.args.store.now c.loop-owed.store c.loop-owed.invariant (laws_of g) c.first_dead.new.store c.in_ok-xid.ensures.logs
    (λ told. none_left g.T.Store c.args.sessions.now c.args.no c.loop-owed.owed c.loop-owed.store (c.in_ok-xid.ensures.none told c.in_default.is))

pub returns-in_err-take_dead-clause-gives : goal.returns-in_err-take_dead-clause-gives
returns-in_err-take_dead-clause-gives g c =
    let s = g.T.Store in
    let old = c.args.store.now in
    let at = c.loop-owed.store in
    let mid = c.first_dead.new.store in
    let before = clears_more s c.args.sessions.now c.args.no c.args.owed.now c.loop-owed.owed old at c.loop-owed.invariant c.loop-owed.owed mid
    (read_clears s c.args.sessions.now c.args.no (laws_of g) c.loop-owed.owed at mid c.in_ok-xid.ensures.logs) in
    subst (λ (b : Bool). Gives s c.args.owed.now c.take_dead.new.owed old c.take_dead.new.store (not b)) (sym c.from_residual-in_err-take_dead.ensures.0)
    (gives_more s c.args.sessions.now c.args.no c.args.owed.now c.loop-owed.owed old mid before c.take_dead.new.owed c.take_dead.new.store false c.in_err-take_dead.ensures.gives)

pub returns-in_err-take_dead-clause-cleared : goal.returns-in_err-take_dead-clause-cleared
returns-in_err-take_dead-clause-cleared g c = λ told h xids table key first last is has.
    let s = g.T.Store in
    let old = c.args.store.now in
    let at = c.loop-owed.store in
    let mid = c.first_dead.new.store in
    let before = clears_more s c.args.sessions.now c.args.no c.args.owed.now c.loop-owed.owed old at c.loop-owed.invariant c.loop-owed.owed mid
    (read_clears s c.args.sessions.now c.args.no (laws_of g) c.loop-owed.owed at mid c.in_ok-xid.ensures.logs) in
    subst (λ (b : Bool). LeadsTo s h (home_cleared table key h) xids c.args.sessions.now c.take_dead.new.owed old c.take_dead.new.store (not b)) (sym c.from_residual-in_err-take_dead.ensures.0)
    (cleared_fails s c.args.sessions.now c.args.no c.args.owed.now c.loop-owed.owed old mid before c.take_dead.new.owed c.take_dead.new.store c.in_err-take_dead.ensures.took told h xids table key first last is has)

pub returns-then-owed-before-clause-gives : goal.returns-then-owed-before-clause-gives
returns-then-owed-before-clause-gives g c =
    let s = g.T.Store in
    let old = c.args.store.now in
    let at = c.loop-owed.store in
    let mid = c.first_dead.new.store in
    let before = clears_more s c.args.sessions.now c.args.no c.args.owed.now c.loop-owed.owed old at c.loop-owed.invariant c.loop-owed.owed mid
    (read_clears s c.args.sessions.now c.args.no (laws_of g) c.loop-owed.owed at mid c.in_ok-xid.ensures.logs) in
    gives_more s c.args.sessions.now c.args.no c.args.owed.now c.loop-owed.owed old mid before c.take_dead.new.owed c.take_dead.new.store true c.in_ok-take_dead.ensures.gives

pub returns-then-owed-before-clause-cleared : goal.returns-then-owed-before-clause-cleared
returns-then-owed-before-clause-cleared g c = λ told h xids table key first last is has.
    let s = g.T.Store in
    let at = c.loop-owed.store in
    let mid = c.first_dead.new.store in
    let new = c.take_dead.new.store in
    absurd {A = Leads s h (home_cleared table key h) xids c.args.sessions.now c.take_dead.new.owed c.args.store.now new} (never_more s c.args.sessions.now c.args.no c.args.owed.now c.loop-owed.owed c.args.store.now at c.loop-owed.invariant c.take_dead.new.owed
    (less_owed s c.args.sessions.now c.args.no (laws_of g) c.loop-owed.owed c.take_dead.new.owed c.in_ok-take_dead.field-0 (2 ^ 32 - 1) at mid new c.in-Some.xid c.in_ok-xid.ensures.logs
    (λ told. found_of s c.args.sessions.now c.args.no (s.shape_of at) (s.blocks at) c.in_ok-xid.field-0 c.in-Some.xid c.in-Some.is (c.in_ok-xid.ensures.some told)) (omega arith) c.in_ok-take_dead.ensures.took)
    c.if-owed-before.true told h xids table key first last is has)

pub loop-owed-preserved : goal.loop-owed-preserved
loop-owed-preserved g c =
    let s = g.T.Store in
    let at = c.loop-owed.store in
    let mid = c.first_dead.new.store in
    let new = c.take_dead.new.store in
    clears_more s c.args.sessions.now c.args.no c.args.owed.now c.loop-owed.owed c.args.store.now at c.loop-owed.invariant c.take_dead.new.owed new
    (taken_clears s c.args.sessions.now c.args.no (laws_of g) c.loop-owed.owed c.take_dead.new.owed c.in_ok-take_dead.field-0 (2 ^ 32 - 1) at mid new c.in-Some.xid c.in_ok-xid.ensures.logs
    (λ told. found_of s c.args.sessions.now c.args.no (s.shape_of at) (s.blocks at) c.in_ok-xid.field-0 c.in-Some.xid c.in-Some.is (c.in_ok-xid.ensures.some told)) (omega arith) c.in_ok-take_dead.ensures.took
    c.in_ok-take_dead.ensures.gives)

pub returns-clause-cleared : goal.returns-clause-cleared
returns-clause-cleared g c =
    cleared_all g.T.Store c.args.sessions.now c.args.no c.args.owed.now c.loop-owed.owed c.args.store.now c.loop-owed.store c.loop-owed.invariant (laws_of g) c.loop-owed.store (no_logs g.T.Store c.loop-owed.store c.loop-owed.invariant.logs.failed)
    (λ told m xids table key first last is has. none_owed_cleared m table key (omega (arith, has.all, c.loop-owed-test.false)))
