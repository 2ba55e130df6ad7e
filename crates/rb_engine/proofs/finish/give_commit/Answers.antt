use Rattle.std.proofs.Common.{not, Bool, refl, sym, subst}
use Rattle.rb_base.specs.Logs.{Laws, flush_logs}
use Rattle.rb_engine.specs.Finishing.{Commits}
use Rattle.law_crash.proofs.Owners.{owned_by}
use Rattle.rb_engine.proofs.FinishLemmas.{commits_done, commits_failed, commits_later}
use Rattle.rb_engine.proofs.finish.give_commit.Given.{Over}
use Rattle.rb_engine.proofs.finish.give_commit.Goals as goal
use Rattle.rb_rollback.proofs.Backs.{runs_in}

laws_of : (g : Over) → Laws g.T.Store
laws_of g = record {
  stable_left = λ store b n i keeps stable here. g.met.T.Store.stable_left store b n i keeps stable here;
  stable_numbered = λ store b n keeps stable. g.met.T.Store.stable_numbered store b n keeps stable;
  stable_patched = λ store b n keeps stable. g.met.T.Store.stable_patched store b n keeps stable;
  now_counts = λ store t i keeps le here. g.met.T.Store.now_counts store t i keeps le here;
  only_now = λ store i keeps here. g.met.T.Store.only_now store i keeps here;
  holds_back_same = λ store. g.met.T.Store.holds_back_same store;
  holds_back_joined = λ a b c first second. g.met.T.Store.holds_back_joined a b c first second;
}

pub returns-in_err-commit_step-clause-commits : goal.returns-in_err-commit_step-clause-commits
returns-in_err-commit_step-clause-commits g c = λ told h xids who shape holds low high mine some going next.
    let s = g.T.Store in
    let x = c.args.xid in
    let old = c.args.store.now in
    let id = owned_by h xids (s.blocks old) who x holds.blocks mine in
    let gives = c.in_err-commit_step.ensures.gives told h xids who holds.blocks shape id.owned (runs_in h (s.blocks old) x id.runs) some holds.logged next in
    subst (λ (b : Bool). Commits s c.args.lasting h xids who x old c.commit_step.new.store (not b)) (sym c.from_residual.ensures.0)
    (commits_failed s told (laws_of g) h xids who x old shape holds some c.args.lasting c.commit_step.new.store gives.groups gives.few gives.logs gives.made)

pub returns-in-AtOnce-clause-commits : goal.returns-in-AtOnce-clause-commits
returns-in-AtOnce-clause-commits g c = rw c.in-AtOnce.is (λ told h xids who shape holds low high mine some going next.
    let s = g.T.Store in
    let x = c.args.xid in
    let old = c.args.store.now in
    let mid = c.commit_step.new.store in
    let id = owned_by h xids (s.blocks old) who x holds.blocks mine in
    let gives = c.in_ok-commit_step.ensures.gives told h xids who holds.blocks shape id.owned (runs_in h (s.blocks old) x id.runs) some holds.logged next in
    let e = c.flush.ensures in
    let flush = flush_logs s mid c.flush.new.self c.flush.result e.shape e.slots e.failed e.counted e.lsn e.blocks e.settles e.any_moment in
    commits_done s told (laws_of g) h xids who x old shape holds some mid gives going c.flush.new.self c.flush.result flush e.flushed)

pub returns-in-Later-clause-commits : goal.returns-in-Later-clause-commits
returns-in-Later-clause-commits g c = rw c.in-Later.is (λ told h xids who shape holds low high mine some going next.
    let s = g.T.Store in
    let x = c.args.xid in
    let old = c.args.store.now in
    let id = owned_by h xids (s.blocks old) who x holds.blocks mine in
    let gives = c.in_ok-commit_step.ensures.gives told h xids who holds.blocks shape id.owned (runs_in h (s.blocks old) x id.runs) some holds.logged next in
    commits_later s told (laws_of g) h xids who x old shape holds some c.commit_step.new.store gives)

pub returns-in-Later-clause-holds_back : goal.returns-in-Later-clause-holds_back
returns-in-Later-clause-holds_back g c = λ later. c.in_ok-commit_step.ensures.logs.1.between refl (laws_of g)
