use Rattle.std.proofs.Common.{◌≡◌, ◌+◌, ◌*◌, ◌/◌, ◌%◌, Bool, not, true, false, sym, ap, subst, arith}
use Rattle.std.proofs.Math.Nat.{div-add-mod}
use Rattle.rb_base.specs.Logs.{Laws}
use Rattle.rb_base.specs.declared.shape.Shape.{Shape}
use Rattle.rb_dead.proofs.Sweeps.{gives_none, gives_on, sweep_fails, sweeping_done, sweeping_fails, sweeping_none, sweeping_on}
use Rattle.rb_dead.specs.Takes.{Gives}
use Rattle.rb_dead.proofs.sweeping.sweep.Given.{Over}
use Rattle.rb_dead.proofs.sweeping.sweep.Goals as goal

laws_of : (g : Over) → Laws g.T.Store
laws_of g = record {
  stable_left = λ store b n i keeps stable here. g.met.T.Store.stable_left store b n i keeps stable here;
  stable_numbered = λ store b n keeps stable. g.met.T.Store.stable_numbered store b n keeps stable;
  stable_patched = λ store b n keeps stable. g.met.T.Store.stable_patched store b n keeps stable;
  now_counts = λ store t i keeps le here. g.met.T.Store.now_counts store t i keeps le here;
  only_now = λ store i keeps here. g.met.T.Store.only_now store i keeps here;
  holds_back_same = λ store. g.met.T.Store.holds_back_same store;
  holds_back_joined = λ a b c first second. g.met.T.Store.holds_back_joined a b c first second;
}

pub loop-t-init : goal.loop-t-init
loop-t-init g c = record {
  gives = gives_none g.T.Store c.args.owed.now c.args.store.now c.requires.going;
  few = omega arith;
  swept = sweeping_none g.T.Store c.args.sessions.now c.args.owed.now c.args.store.now (laws_of g) c.requires.going c.args.most (c.shape.result.segments * 16) (ap (λ (z : Shape). z.segments * 16) c.shape.ensures.shape);
}

pub returns-in_err-left-clause-gives : goal.returns-in_err-left-clause-gives
returns-in_err-left-clause-gives g c =
    subst (λ (b : Bool). Gives g.T.Store c.args.owed.now c.take_dead.new.owed c.args.store.now c.take_dead.new.store (not b)) (sym c.from_residual.ensures.0)
    (gives_on g.T.Store c.args.owed.now c.loop-t.owed c.take_dead.new.owed c.args.store.now c.loop-t.store c.take_dead.new.store false c.loop-t.invariant.gives c.in_err-left.ensures.gives)

pub returns-in_err-left-clause-swept : goal.returns-in_err-left-clause-swept
returns-in_err-left-clause-swept g c = λ told h xids has.
    sweep_fails g.T.Store c.args.sessions.now c.args.owed.now c.args.store.now h xids c.args.most c.take_dead.new.owed c.take_dead.new.store c.from_residual.result c.from_residual.ensures.0
    (sweeping_fails g.T.Store c.args.sessions.now c.args.owed.now c.args.store.now c.loop-t.owed c.take_dead.new.owed c.loop-t.store c.take_dead.new.store c.loop-t.invariant.gives.1.same_slots c.args.most (c.shape.result.segments * 16) c.loop-t.t c.loop-t.left c.loop-t.invariant.swept c.in_err-left.ensures.took told h xids has)

pub loop-t-preserved : goal.loop-t-preserved
loop-t-preserved g c =
    let few = c.loop-t.invariant.few in
    record {
      gives = gives_on g.T.Store c.args.owed.now c.loop-t.owed c.take_dead.new.owed c.args.store.now c.loop-t.store c.take_dead.new.store true c.loop-t.invariant.gives c.in_ok-left.ensures.gives;
      few = omega (arith, few);
      swept = sweeping_on g.T.Store c.args.sessions.now c.args.owed.now c.args.store.now c.loop-t.owed c.take_dead.new.owed c.loop-t.store c.take_dead.new.store c.loop-t.invariant.gives.1.same_slots c.args.most (c.shape.result.segments * 16) c.loop-t.t (16 * (c.loop-t.t / 16) + c.loop-t.t % 16) c.loop-t.left c.in_ok-left.field-0 c.loop-t.invariant.swept c.loop-t-test.true (div-add-mod c.loop-t.t 16) few c.in_ok-left.ensures.most c.in_ok-left.ensures.took;
    }

pub returns-clause-swept : goal.returns-clause-swept
returns-clause-swept g c =
    let done : c.loop-t.t ≡ c.shape.result.segments * 16 = omega (arith, c.loop-t-test.false, c.loop-t.auto.t-end) in
    sweeping_done g.T.Store c.args.sessions.now c.args.owed.now c.args.store.now c.args.most (c.shape.result.segments * 16) c.loop-t.t c.loop-t.left c.loop-t.owed c.loop-t.store c.loop-t.invariant.swept done
