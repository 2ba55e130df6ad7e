use Rattle.std.proofs.Common.{◌≡◌, ◌<◌, ◌+◌, ◌-◌, ◌*◌, ◌^◌, inl, inr, ℕ, true, false, Result, Ok, Err, OnOk, refl, subst, arith}
use Rattle.std.specs.Result.{is_err}
use Rattle.std.proofs.lemmas.Bool.{cases_lt}
use Rattle.rb_base.specs.declared.sizes.TheConstants.{SLOTS}
use Rattle.rb_base.specs.Logs.{no_logs}
use Rattle.rb_base.specs.declared.shape.Shape.{Shape}
use Rattle.rb_restart.specs.Rollback.{AreIdle}
use Rattle.rb_restart.specs.Steps.{IsIdle, Rolls}
use Rattle.rb_restart.proofs.Joined.{none_rolls, rolls_joined, rolls_so}
use Rattle.rb_restart.proofs.Whole.{rolled_back}
use Rattle.rb_restart.proofs.rollback.roll_back_all.Goals as goal

-- a call that failed owes nothing of an Ok
on_err : {T E : Type 0} (X : Type 0) (result : Result T E) → is_err result ≡ true → OnOk result X
on_err X (Ok value) is = let clash : false ≡ true = is in absurd cc
on_err X (Err fault) is = tt

pub loop-seg-init : goal.loop-seg-init
loop-seg-init g c =
    let old = c.args.store.now in
    record {
      rolls = none_rolls g.S.Store c.shape-shape.result old old 0 true (λ now. (t : ℕ) → t < SLOTS * 0 → IsIdle c.shape-shape.result now t) (no_logs g.S.Store old c.requires.going) (λ told goes number rows may same t lt. absurd (omega (arith, lt)));
    }

pub returns-in_err-roll_back_segment : goal.returns-in_err-roll_back_segment
returns-in_err-roll_back_segment g c =
    let s = g.S.Store in
    let old = c.args.store.now in
    let seg = c.loop-seg.seg in
    let shape = c.shape-shape.result in
    let new = c.roll_back_segment.new.store in
    let whole = rolls_joined s shape old c.loop-seg.store new (seg * 2 ^ 36) (2 ^ 36) ((seg + 1) * 2 ^ 36) false
    (λ now. (t : ℕ) → t < SLOTS * seg → IsIdle shape now t) (λ now. (i : ℕ) → i < SLOTS → IsIdle shape now (SLOTS * seg + i)) (AreIdle shape)
    (omega arith) c.loop-seg.invariant.rolls c.in_err-roll_back_segment.ensures
    (λ told goes number rows may idle first second. let clash : false ≡ true = goes in absurd cc) in
    let same = subst (λ (z : Shape). Rolls s z old new ((seg + 1) * 2 ^ 36) false (AreIdle z)) c.shape-shape.ensures.shape whole in
    rw c.from_residual.ensures.0 (record {
      rolled_back = (
        same.groups,
        same.logs,
        omega (arith, same.few, c.loop-seg-test.true, c.shape-shape.ensures.in_range.few_segments.1),
        λ number rows told logged sound. ((rolled_back s (s.shape_of old) old new ((seg + 1) * 2 ^ 36) false same number rows told logged sound).0, on_err _ c.from_residual.result c.from_residual.ensures.0),
      );
    })

pub loop-seg-preserved : goal.loop-seg-preserved
loop-seg-preserved g c =
    let s = g.S.Store in
    let seg = c.loop-seg.seg in
    let shape = c.shape-shape.result in
    let new = c.roll_back_segment.new.store in
    record {
      rolls = rolls_joined s shape c.args.store.now c.loop-seg.store new (seg * 2 ^ 36) (2 ^ 36) ((seg + 1) * 2 ^ 36) true
          (λ now. (t : ℕ) → t < SLOTS * seg → IsIdle shape now t) (λ now. (i : ℕ) → i < SLOTS → IsIdle shape now (SLOTS * seg + i)) (λ now. (t : ℕ) → t < SLOTS * (seg + 1) → IsIdle shape now t)
          (omega arith) c.loop-seg.invariant.rolls c.in_ok-roll_back_segment.ensures
          (λ told goes number rows may idle first second t lt. elim (cases_lt t (SLOTS * seg)) [
            | inl below ↦ idle t (omega (arith, below, c.loop-seg-test.true)) (first t below)
            | inr from ↦ subst (IsIdle shape (s.blocks new)) (omega (arith, from)) (second (t - SLOTS * seg) (omega (arith, lt, from)))
          ]);
    }

pub returns : goal.returns
returns g c =
    let s = g.S.Store in
    let old = c.args.store.now in
    let new = c.loop-seg.store in
    let seg = c.loop-seg.seg in
    let shape = c.shape-shape.result in
    let whole : Rolls s shape old new (seg * 2 ^ 36) true (AreIdle shape) = rolls_so s shape old new (seg * 2 ^ 36) (seg * 2 ^ 36) (λ now. (t : ℕ) → t < SLOTS * seg → IsIdle shape now t) (AreIdle shape) (omega arith) c.loop-seg.invariant.rolls (λ told done t lt. done t (omega (arith, lt, c.loop-seg-test.false))) in
    let same = subst (λ (z : Shape). Rolls s z old new (seg * 2 ^ 36) true (AreIdle z)) c.shape-shape.ensures.shape whole in
    record {
      rolled_back = (
        same.groups,
        same.logs,
        omega (arith, same.few, c.loop-seg.auto.seg-end, c.shape-shape.ensures.in_range.few_segments.1),
        λ number rows told logged sound.
            let is = rolled_back s (s.shape_of old) old new (seg * 2 ^ 36) true same number rows told logged sound in
            (is.0, is.1 refl),
      );
    }
