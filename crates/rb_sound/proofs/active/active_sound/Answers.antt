use Rattle.std.proofs.Common.{◌≡◌, ◌<◌, ℕ, List, [], true, false, refl, subst}
use borrow.Author.Count.{below_more}
use Rattle.rb_base.specs.Logs.{more_logs}
use Rattle.rb_base.specs.declared.shape.Shape.{Shape}
use Rattle.rb_base.specs.declared.sizes.TheConstants.{ACTIVE, SLOTS}
use Rattle.rb_segment.specs.Header.{segment_of, slot_in}
use Rattle.rb_sound.specs.Active.{Fits, IsActive}
use Rattle.rb_undoblock.specs.declared.record.UndoRecord.{UndoRecord}
use Rattle.rb_sound.proofs.active.active_sound.Goals as goal

-- each Active slot of segment k has its live records
abbrev IsSoundAt : (UndoRecord → Type 0) → Shape → List (List ℕ) → ℕ → Type 0
IsSoundAt Kept shape blocks k = (i : ℕ) → i < SLOTS → (slot_in (segment_of shape blocks k).header i).state ≡ ACTIVE → IsActive Kept shape k (segment_of shape blocks k) i

pub returns-in_err-slots_sound-clause-logs : goal.returns-in_err-slots_sound-clause-logs
returns-in_err-slots_sound-clause-logs g c =
    rw c.from_residual.ensures.0 (more_logs g.S.Store c.args.store.now c.loop-g.store c.slots_sound.new.store [] [] false c.loop-g.invariant.logs c.in_err-slots_sound.ensures.logs)

pub returns-then-not-branch-clause-logs : goal.returns-then-not-branch-clause-logs
returns-then-not-branch-clause-logs g c = more_logs g.S.Store c.args.store.now c.loop-g.store c.slots_sound.new.store [] [] true c.loop-g.invariant.logs c.in_ok-slots_sound.ensures.logs

pub loop-g-preserved : goal.loop-g-preserved
loop-g-preserved g c =
    let s = g.S.Store in
    let old = c.args.store.now in
    let shape = s.shape_of old in
    let blocks = s.blocks old in
    let inv = c.loop-g.invariant in
    record {
      logs = more_logs s old c.loop-g.store c.slots_sound.new.store [] [] true inv.logs c.in_ok-slots_sound.ensures.logs;
      so_far = λ told.
          let here = (c.in_ok-slots_sound.ensures.told told).0 c.if-not-branch.false in
          let of_old = subst (λ (b : List (List ℕ)). IsSoundAt (Fits c.args.limits.now) c.shape-shape.result b c.loop-g.g) (inv.logs.blocks told refl) here in
          let all = below_more (IsSoundAt (Fits c.args.limits.now) shape blocks) c.loop-g.g (λ k lt i. inv.so_far told k i lt) (subst (λ (z : Shape). IsSoundAt (Fits c.args.limits.now) z blocks c.loop-g.g) c.shape-shape.ensures.shape of_old) in
          λ k i lt. all k lt i;
    }
