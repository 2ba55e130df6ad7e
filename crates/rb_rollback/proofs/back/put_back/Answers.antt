use Rattle.std.proofs.Common.{◌≡◌, not, Bool, false, sym, subst, arith}
use Rattle.rb_base.specs.Logs.{Laws}
use Rattle.rb_rollback.specs.Backs.{PutsBack}
use Rattle.rb_rollback.proofs.Backs.{Starts, few_left, groups_more, logs_counted, logs_same, none_back, one_fails, one_more, some_back, there}
use Rattle.rb_rollback.proofs.back.put_back.Given.{Over}
use Rattle.rb_rollback.proofs.back.put_back.Goals as goal

laws_of : (g : Over) → Laws g.T.Store
laws_of g = record {
  stable_left = λ store b n i keeps stable here. g.met.T.Store.stable_left store b n i keeps stable here;
  stable_numbered = λ store b n keeps stable. g.met.T.Store.stable_numbered store b n keeps stable;
  stable_patched = λ store b n keeps stable. g.met.T.Store.stable_patched store b n keeps stable;
  now_counts = λ store t i keeps le here. g.met.T.Store.now_counts store t i keeps le here;
  only_now = λ store i keeps here. g.met.T.Store.only_now store i keeps here;
  holds_back_same = λ store. g.met.T.Store.holds_back_same store;
  holds_back_joined = λ a b c first second. g.met.T.Store.holds_back_joined a b c first second;
}

pub loop-change-init : goal.loop-change-init
loop-change-init g c = none_back g.T.Store (laws_of g) c.args.xid c.args.count c.args.store.now c.requires.going

pub back_step-requires-clause-going : goal.back_step-requires-clause-going
back_step-requires-clause-going g c = c.loop-change.invariant.logs.failed

pub back_step-requires-clause-there : goal.back_step-requires-clause-there
back_step-requires-clause-there g c = there g.T.Store c.args.xid c.args.count c.loop-change._change c.args.store.now c.loop-change.store c.loop-change.invariant c.requires.there

pub back_step-requires-clause-few : goal.back_step-requires-clause-few
back_step-requires-clause-few g c = few_left g.T.Store c.args.xid c.args.count c.loop-change._change c.args.store.now c.loop-change.store c.loop-change.invariant c.loop-change.auto._change-end c.requires.few

pub returns-in_err-back_step-clause-puts_back : goal.returns-in_err-back_step-clause-puts_back
returns-in_err-back_step-clause-puts_back g c = λ told h xids who kept shape holds low high mine going count.
    let s = g.T.Store in
    let x = c.args.xid in
    let old = c.args.store.now in
    let new = c.back_step.new.store in
    let start : Starts s h xids who x c.args.count old = record { shape = shape; holds = holds; low = low; high = high; id = mine; going = going; own = omega (arith, count) } in
    subst (λ (b : Bool). PutsBack s h xids who kept c.args.xid old new (not b)) (sym c.from_residual.ensures.0)
    (one_fails s x c.args.count c.loop-change._change old c.loop-change.store c.loop-change.invariant (laws_of g) c.loop-change-test.true new c.in_err-back_step.ensures.gives told h xids who start)

pub returns-in_err-back_step-clause-logs : goal.returns-in_err-back_step-clause-logs
returns-in_err-back_step-clause-logs g c =
    let all = groups_more g.T.Store c.args.xid c.args.count c.loop-change._change c.args.store.now c.loop-change.store c.loop-change.invariant c.back_step.new.store false c.in_err-back_step.ensures.logs in
    (all.0, rw c.from_residual.ensures.0 all.1, (let few = all.2 in omega (arith, few, c.loop-change-test.true)))

pub returns-in_err-back_step-clause-same : goal.returns-in_err-back_step-clause-same
returns-in_err-back_step-clause-same g c =
    let all = groups_more g.T.Store c.args.xid c.args.count c.loop-change._change c.args.store.now c.loop-change.store c.loop-change.invariant c.back_step.new.store false c.in_err-back_step.ensures.logs in
    logs_same g.T.Store c.args.store.now c.back_step.new.store all.0 false all.1

pub returns-in_err-back_step-clause-counted : goal.returns-in_err-back_step-clause-counted
returns-in_err-back_step-clause-counted g c =
    let all = groups_more g.T.Store c.args.xid c.args.count c.loop-change._change c.args.store.now c.loop-change.store c.loop-change.invariant c.back_step.new.store false c.in_err-back_step.ensures.logs in
    logs_counted g.T.Store c.args.store.now c.back_step.new.store all.0 c.from_residual.result (rw c.from_residual.ensures.0 all.1)

pub loop-change-preserved : goal.loop-change-preserved
loop-change-preserved g c = one_more g.T.Store c.args.xid c.args.count c.loop-change._change c.args.store.now c.loop-change.store c.loop-change.invariant (laws_of g) c.loop-change-test.true c.back_step.new.store c.in_ok-back_step.ensures.logs c.in_ok-back_step.ensures.gives

pub returns-clause-puts_back : goal.returns-clause-puts_back
returns-clause-puts_back g c = λ told h xids who kept shape holds low high mine going count.
    let turns : c.loop-change._change ≡ c.args.count = omega (arith, c.loop-change-test.false, c.loop-change.auto._change-end) in
    some_back g.T.Store c.args.xid c.args.count c.loop-change._change c.args.store.now c.loop-change.store c.loop-change.invariant turns told h xids who kept count
    (record { shape = shape; holds = holds; low = low; high = high; id = mine; going = going; own = omega (arith, count) })
