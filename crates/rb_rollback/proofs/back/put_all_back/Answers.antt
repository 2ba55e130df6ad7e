use Rattle.std.proofs.Common.{not, Bool, refl, sym, subst, arith}
use Rattle.std.specs.Result.{is_err}
use Rattle.rb_base.specs.Logs.{Laws}
use Rattle.rb_rollback.specs.Backs.{PutsAllBack}
use Rattle.rb_rollback.proofs.Backs.{all_back, few_left, groups_more, logs_counted, logs_number, logs_same, ok_by, put_back_as, there}
use Rattle.rb_rollback.proofs.back.put_all_back.Given.{Over}
use Rattle.rb_rollback.proofs.back.put_all_back.Goals as goal

laws_of : (g : Over) → Laws g.T.Store
laws_of g = record {
  stable_left = λ store b n i keeps stable here. g.met.T.Store.stable_left store b n i keeps stable here;
  stable_numbered = λ store b n keeps stable. g.met.T.Store.stable_numbered store b n keeps stable;
  stable_patched = λ store b n keeps stable. g.met.T.Store.stable_patched store b n keeps stable;
  now_counts = λ store t i keeps le here. g.met.T.Store.now_counts store t i keeps le here;
  only_now = λ store i keeps here. g.met.T.Store.only_now store i keeps here;
  holds_back_same = λ store. g.met.T.Store.holds_back_same store;
  holds_back_joined = λ a b c first second. g.met.T.Store.holds_back_joined a b c first second;
}

pub returns-in_err-put_back-clause-puts_back : goal.returns-in_err-put_back-clause-puts_back
returns-in_err-put_back-clause-puts_back g c = λ told h xids who shape holds low high mine going own.
    let s = g.T.Store in
    subst (λ (b : Bool). PutsAllBack s h xids who c.args.xid c.args.store.now c.put_back.new.store (not b)) (sym c.from_residual.ensures.0)
    (c.in_err-put_back.ensures.puts_back told h xids who 0 shape holds low high mine going (omega (arith, own)))

pub end_step-requires-clause-there : goal.end_step-requires-clause-there
end_step-requires-clause-there g c =
    let first = put_back_as g.T.Store c.args.xid c.args.count c.args.store.now c.put_back.new.store c.in_ok-put_back.ensures.logs c.in_ok-put_back.ensures.puts_back in
    there g.T.Store c.args.xid c.args.count c.args.count c.args.store.now c.put_back.new.store first c.requires.there

pub end_step-requires-clause-few : goal.end_step-requires-clause-few
end_step-requires-clause-few g c =
    let first = put_back_as g.T.Store c.args.xid c.args.count c.args.store.now c.put_back.new.store c.in_ok-put_back.ensures.logs c.in_ok-put_back.ensures.puts_back in
    few_left g.T.Store c.args.xid c.args.count c.args.count c.args.store.now c.put_back.new.store first (omega arith) (let few = c.requires.few in omega (arith, few))

pub returns-clause-puts_back : goal.returns-clause-puts_back
returns-clause-puts_back g c = λ told h xids who shape holds low high mine going own.
    let first = put_back_as g.T.Store c.args.xid c.args.count c.args.store.now c.put_back.new.store c.in_ok-put_back.ensures.logs c.in_ok-put_back.ensures.puts_back in
    all_back g.T.Store c.args.xid c.args.count c.args.count c.args.store.now c.put_back.new.store first (laws_of g) refl c.end_step.new.store (not (is_err c.end_step.result)) c.end_step.ensures.gives
    told h xids who own (record { shape = shape; holds = holds; low = low; high = high; id = mine; going = going; own = omega (arith, own) })

pub returns-clause-lsn : goal.returns-clause-lsn
returns-clause-lsn g c =
    let first = put_back_as g.T.Store c.args.xid c.args.count c.args.store.now c.put_back.new.store c.in_ok-put_back.ensures.logs c.in_ok-put_back.ensures.puts_back in
    let all = groups_more g.T.Store c.args.xid c.args.count c.args.count c.args.store.now c.put_back.new.store first c.end_step.new.store (not (is_err c.end_step.result)) c.end_step.ensures.logs in
    logs_number g.T.Store c.args.store.now c.end_step.new.store all.0 c.args.count c.end_step.result all.1 (let w = all.2 in omega (arith, w))

pub returns-clause-same : goal.returns-clause-same
returns-clause-same g c =
    let first = put_back_as g.T.Store c.args.xid c.args.count c.args.store.now c.put_back.new.store c.in_ok-put_back.ensures.logs c.in_ok-put_back.ensures.puts_back in
    let all = groups_more g.T.Store c.args.xid c.args.count c.args.count c.args.store.now c.put_back.new.store first c.end_step.new.store (not (is_err c.end_step.result)) c.end_step.ensures.logs in
    logs_same g.T.Store c.args.store.now c.end_step.new.store all.0 (not (is_err c.end_step.result)) all.1

pub returns-clause-counted : goal.returns-clause-counted
returns-clause-counted g c =
    let first = put_back_as g.T.Store c.args.xid c.args.count c.args.store.now c.put_back.new.store c.in_ok-put_back.ensures.logs c.in_ok-put_back.ensures.puts_back in
    let all = groups_more g.T.Store c.args.xid c.args.count c.args.count c.args.store.now c.put_back.new.store first c.end_step.new.store (not (is_err c.end_step.result)) c.end_step.ensures.logs in
    logs_counted g.T.Store c.args.store.now c.end_step.new.store all.0 c.end_step.result all.1

pub returns-clause-holds_back : goal.returns-clause-holds_back
returns-clause-holds_back g c =
    let first = put_back_as g.T.Store c.args.xid c.args.count c.args.store.now c.put_back.new.store c.in_ok-put_back.ensures.logs c.in_ok-put_back.ensures.puts_back in
    let all = groups_more g.T.Store c.args.xid c.args.count c.args.count c.args.store.now c.put_back.new.store first c.end_step.new.store (not (is_err c.end_step.result)) c.end_step.ensures.logs in
    ok_by c.end_step.result (λ fine. all.1.between fine (laws_of g))

pub returns-in_err-put_back-clause-logs : goal.returns-in_err-put_back-clause-logs
returns-in_err-put_back-clause-logs g c =
    let all = c.in_err-put_back.ensures.logs in
    (all.0, rw c.from_residual.ensures.0 all.1, (let w = all.2 in omega (arith, w)))

pub returns-clause-logs : goal.returns-clause-logs
returns-clause-logs g c =
    let first = put_back_as g.T.Store c.args.xid c.args.count c.args.store.now c.put_back.new.store c.in_ok-put_back.ensures.logs c.in_ok-put_back.ensures.puts_back in
    groups_more g.T.Store c.args.xid c.args.count c.args.count c.args.store.now c.put_back.new.store first c.end_step.new.store (not (is_err c.end_step.result)) c.end_step.ensures.logs
