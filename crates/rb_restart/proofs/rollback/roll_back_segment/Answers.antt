use Rattle.std.proofs.Common.{◌<◌, ◌+◌, ◌*◌, ◌^◌, inl, inr, ◌≡◌, ℕ, true, false, sym, subst, arith}
use Rattle.std.proofs.lemmas.Bool.{cases_eq}
use Rattle.rb_base.specs.declared.sizes.TheConstants.{SLOTS}
use Rattle.rb_base.specs.Logs.{no_logs}
use Rattle.rb_restart.specs.Steps.{IsIdle}
use Rattle.rb_restart.proofs.Joined.{none_rolls, rolls_joined, rolls_so}
use Rattle.rb_restart.proofs.rollback.roll_back_segment.Goals as goal

pub loop-i-init : goal.loop-i-init
loop-i-init g c =
    let old = c.args.store.now in
    record {
      rolls = none_rolls g.S.Store c.args.shape old old 0 true (λ now. (j : ℕ) → j < 0 → IsIdle c.args.shape now (SLOTS * c.args.seg + j)) (no_logs g.S.Store old c.requires.going) (λ told goes number rows may same j lt. absurd (omega (arith, lt)));
    }

pub returns-in_err-roll_back_slot : goal.returns-in_err-roll_back_slot
returns-in_err-roll_back_slot g c =
    let i = c.loop-i.i in
    let shape = c.args.shape in
    rw c.from_residual.ensures.0
    (rolls_joined g.S.Store shape c.args.store.now c.loop-i.store c.roll_back_slot.new.store (i * 2 ^ 32) (2 ^ 32) (2 ^ 36) false
    (λ now. (j : ℕ) → j < i → IsIdle shape now (SLOTS * c.args.seg + j)) (λ now. IsIdle shape now (SLOTS * c.args.seg + i)) (λ now. (j : ℕ) → j < SLOTS → IsIdle shape now (SLOTS * c.args.seg + j))
    (omega (arith, c.loop-i-test.true)) c.loop-i.invariant.rolls c.in_err-roll_back_slot.ensures
    (λ told goes number rows may idle first second. let clash : false ≡ true = goes in absurd cc))

pub loop-i-preserved : goal.loop-i-preserved
loop-i-preserved g c =
    let s = g.S.Store in
    let i = c.loop-i.i in
    let shape = c.args.shape in
    let new = c.roll_back_slot.new.store in
    record {
      rolls = rolls_joined s shape c.args.store.now c.loop-i.store new (i * 2 ^ 32) (2 ^ 32) ((i + 1) * 2 ^ 32) true
          (λ now. (j : ℕ) → j < i → IsIdle shape now (SLOTS * c.args.seg + j)) (λ now. IsIdle shape now (SLOTS * c.args.seg + i)) (λ now. (j : ℕ) → j < i + 1 → IsIdle shape now (SLOTS * c.args.seg + j))
          (omega arith) c.loop-i.invariant.rolls c.in_ok-roll_back_slot.ensures
          (λ told goes number rows may idle first second j lt. elim (cases_eq j i) [
            | inl at ↦ subst (λ (z : ℕ). IsIdle shape (s.blocks new) (SLOTS * c.args.seg + z)) (sym at) second
            | inr ne ↦ idle (SLOTS * c.args.seg + j) (omega (arith, lt, ne, c.loop-i-test.true, c.requires.there)) (first j (omega (arith, lt, ne)))
          ]);
    }

pub returns : goal.returns
returns g c =
    let i = c.loop-i.i in
    rolls_so g.S.Store c.args.shape c.args.store.now c.loop-i.store (i * 2 ^ 32) (2 ^ 36) (λ now. (j : ℕ) → j < i → IsIdle c.args.shape now (SLOTS * c.args.seg + j)) (λ now. (j : ℕ) → j < SLOTS → IsIdle c.args.shape now (SLOTS * c.args.seg + j))
    (omega (arith, c.loop-i.auto.i-end)) c.loop-i.invariant.rolls (λ told done j lt. done j (omega (arith, lt, c.loop-i-test.false)))
