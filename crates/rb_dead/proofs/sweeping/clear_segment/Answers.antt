use Rattle.std.proofs.Common.{◌≡◌, ◌*◌, Bool, true, false, not, sym, subst, arith}
use Rattle.rb_model.specs.Dead.{segment_cleared}
use Rattle.rb_base.specs.Logs.{Laws}
use Rattle.rb_dead.proofs.Sweeps.{clears_done, clears_fails, clears_none, clears_on, gives_none, gives_on}
use Rattle.rb_dead.specs.Takes.{Gives, LeadsTo}
use Rattle.rb_dead.proofs.sweeping.clear_segment.Given.{Over}
use Rattle.rb_dead.proofs.sweeping.clear_segment.Goals as goal

laws_of : (g : Over) → Laws g.T.Store
laws_of g = record {
  stable_left = λ store b n i keeps stable here. g.met.T.Store.stable_left store b n i keeps stable here;
  stable_numbered = λ store b n keeps stable. g.met.T.Store.stable_numbered store b n keeps stable;
  stable_patched = λ store b n keeps stable. g.met.T.Store.stable_patched store b n keeps stable;
  now_counts = λ store t i keeps le here. g.met.T.Store.now_counts store t i keeps le here;
  only_now = λ store i keeps here. g.met.T.Store.only_now store i keeps here;
  holds_back_same = λ store. g.met.T.Store.holds_back_same store;
  holds_back_joined = λ a b c first second. g.met.T.Store.holds_back_joined a b c first second;
}

pub loop-i-init : goal.loop-i-init
loop-i-init g c = record {
  gives = gives_none g.T.Store c.args.owed.now c.args.store.now c.requires.going;
  cleared = clears_none g.T.Store c.args.sessions.now c.args.owed.now c.args.store.now (laws_of g) c.requires.going (16 * c.args.seg) 16;
}

pub returns-in_err-take_dead-clause-gives : goal.returns-in_err-take_dead-clause-gives
returns-in_err-take_dead-clause-gives g c =
    subst (λ (b : Bool). Gives g.T.Store c.args.owed.now c.take_dead.new.owed c.args.store.now c.take_dead.new.store (not b)) (sym c.from_residual.ensures.0)
    (gives_on g.T.Store c.args.owed.now c.loop-i.owed c.take_dead.new.owed c.args.store.now c.loop-i.store c.take_dead.new.store false c.loop-i.invariant.gives c.in_err-take_dead.ensures.gives)

pub returns-in_err-take_dead-clause-cleared : goal.returns-in_err-take_dead-clause-cleared
returns-in_err-take_dead-clause-cleared g c = λ told h xids has.
    subst (λ (b : Bool). LeadsTo g.T.Store h (segment_cleared c.args.seg h) xids c.args.sessions.now c.take_dead.new.owed c.args.store.now c.take_dead.new.store (not b)) (sym c.from_residual.ensures.0)
    (clears_fails g.T.Store c.args.sessions.now c.args.owed.now c.args.store.now c.loop-i.owed c.take_dead.new.owed c.loop-i.store c.take_dead.new.store c.loop-i.invariant.gives.1.same_slots (16 * c.args.seg) 16 c.loop-i.i c.loop-i.invariant.cleared c.in_err-take_dead.ensures.took told h xids has)

pub loop-i-preserved : goal.loop-i-preserved
loop-i-preserved g c = record {
  gives = gives_on g.T.Store c.args.owed.now c.loop-i.owed c.take_dead.new.owed c.args.store.now c.loop-i.store c.take_dead.new.store true c.loop-i.invariant.gives c.in_ok-take_dead.ensures.gives;
  cleared = clears_on g.T.Store c.args.sessions.now c.args.owed.now c.args.store.now c.loop-i.owed c.take_dead.new.owed c.loop-i.store c.take_dead.new.store c.loop-i.invariant.gives.1.same_slots (16 * c.args.seg) 16 c.loop-i.i 4294967295 c.in_ok-take_dead.field-0 c.loop-i.invariant.cleared c.loop-i-test.true (omega arith) c.in_ok-take_dead.ensures.took;
}

pub returns-clause-cleared : goal.returns-clause-cleared
returns-clause-cleared g c =
    let done : c.loop-i.i ≡ 16 = omega (arith, c.loop-i-test.false, c.loop-i.auto.i-end) in
    clears_done g.T.Store c.args.sessions.now c.args.owed.now c.args.store.now (16 * c.args.seg) 16 c.loop-i.i c.loop-i.owed c.loop-i.store c.loop-i.invariant.cleared done
