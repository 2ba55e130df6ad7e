use Rattle.std.proofs.Common.{◌≡◌, ◌↔◌, ◌+◌, ◌-◌, ℕ, List, [], true, false, Option, IfSome, refl, subst, arith}
use Rattle.rb_base.specs.Logs.{more_logs, no_logs}
use Rattle.rb_base.specs.declared.ids.Uba.{Uba}
use Rattle.rb_segment.specs.Header.{segment_of}
use Rattle.rb_sound.specs.Active.{Fits, Chain}
use Rattle.rb_sound.proofs.active.chain_sound.Goals as goal

less_none : (n : ℕ) → n ≡ n - 0
less_none n = omega arith

pub loop-done-init : goal.loop-done-init
loop-done-init g c = record {
  logs = no_logs g.S.Store c.args.store.now c.requires.going;
  so_far = λ told.
      let all = Chain (Fits c.args.limits.now) c.args.shape (segment_of c.args.shape (g.S.Store.blocks c.args.store.now) c.args.xid.seg) c.args.xid in
      subst (λ (n : ℕ). all c.args.live c.args.newest ↔ all n c.args.newest) (less_none c.args.live) ((λ chain. chain), λ chain. chain);
}

pub returns-in_err-before-clause-logs : goal.returns-in_err-before-clause-logs
returns-in_err-before-clause-logs g c =
    rw c.from_residual.ensures.0 (more_logs g.S.Store c.args.store.now c.loop-done.store c.previous.new.store [] [] false c.loop-done.invariant.logs c.in_err-before.ensures.logs)

pub returns-in_default-clause-logs : goal.returns-in_default-clause-logs
returns-in_default-clause-logs g c = more_logs g.S.Store c.args.store.now c.loop-done.store c.previous.new.store [] [] true c.loop-done.invariant.logs c.in_ok-before.ensures.logs

pub loop-done-preserved : goal.loop-done-preserved
loop-done-preserved g c =
    let s = g.S.Store in
    let old = c.args.store.now in
    let shape = c.args.shape in
    let x = c.args.xid in
    let inv = c.loop-done.invariant in
    let left = c.args.live - c.loop-done.done in
    record {
      logs = more_logs s old c.loop-done.store c.previous.new.store [] [] true inv.logs c.in_ok-before.ensures.logs;
      so_far = λ told.
          let by_found = subst (λ (b : List (List ℕ)). IfSome c.in_ok-before.field-0 (λ (before : Uba). (k : ℕ) → left ≡ k + 1 → Chain (Fits c.args.limits.now) shape (segment_of shape b x.seg) x left c.loop-done.at ↔ Chain (Fits c.args.limits.now) shape (segment_of shape b x.seg) x k before)) (inv.logs.blocks told refl) (c.in_ok-before.ensures.some told) in
          let by_record = subst (λ (found : Option Uba). IfSome found (λ (before : Uba). (k : ℕ) → left ≡ k + 1 → Chain (Fits c.args.limits.now) shape (segment_of shape (s.blocks old) x.seg) x left c.loop-done.at ↔ Chain (Fits c.args.limits.now) shape (segment_of shape (s.blocks old) x.seg) x k before)) c.in-Some.is by_found in
          let step = by_record (c.args.live - (c.loop-done.done + 1)) (omega (arith, c.loop-done-test.true)) in
          let so_far = inv.so_far told in
          (λ chain. step.0 (so_far.0 chain), λ chain. so_far.1 (step.1 chain));
    }

pub returns-clause-logs : goal.returns-clause-logs
returns-clause-logs g c = c.loop-done.invariant.logs
