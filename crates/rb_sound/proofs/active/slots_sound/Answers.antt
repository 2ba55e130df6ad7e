use Rattle.std.proofs.Common.{◌≡◌, ◌∙◌, ℕ, List, [], true, false, refl, sym, subst, arith}
use Rattle.std.proofs.lemmas.Bool.{false≢true}
use borrow.Author.Count.{below_more, below_none}
use Rattle.rb_base.specs.Logs.{more_logs}
use Rattle.rb_base.specs.declared.sizes.TheConstants.{ACTIVE}
use Rattle.rb_segment.specs.Header.{segment_of, slot_in}
use Rattle.rb_sound.specs.Active.{Fits, IsActive}
use Rattle.rb_sound.proofs.active.slots_sound.Goals as goal

pub returns-in_err-copy_block-clause-logs : goal.returns-in_err-copy_block-clause-logs
returns-in_err-copy_block-clause-logs g c = rw c.from_residual.ensures.0 c.in_err-copy_block.ensures.logs

pub loop-i-init : goal.loop-i-init
loop-i-init g c =
    record {
      logs = c.in_ok-copy_block.ensures.logs;
      so_far = λ told. below_none (λ (k : ℕ). (slot_in (segment_of c.args.shape (g.S.Store.blocks c.args.store.now) c.args.g).header k).state ≡ ACTIVE → IsActive (Fits c.args.limits.now) c.args.shape c.args.g (segment_of c.args.shape (g.S.Store.blocks c.args.store.now) c.args.g) k);
    }

pub returns-in_err-slot_sound-clause-logs : goal.returns-in_err-slot_sound-clause-logs
returns-in_err-slot_sound-clause-logs g c =
    rw c.from_residual-in_err-slot_sound.ensures.0 (more_logs g.S.Store c.args.store.now c.loop-i.store c.slot_sound.new.store [] [] false c.loop-i.invariant.logs c.in_err-slot_sound.ensures.logs)

pub returns-then-not-branch-clause-logs : goal.returns-then-not-branch-clause-logs
returns-then-not-branch-clause-logs g c = more_logs g.S.Store c.args.store.now c.loop-i.store c.slot_sound.new.store [] [] true c.loop-i.invariant.logs c.in_ok-slot_sound.ensures.logs

pub loop-i-preserved : goal.loop-i-preserved
loop-i-preserved g c =
    let s = g.S.Store in
    let old = c.args.store.now in
    let shape = c.args.shape in
    let inv = c.loop-i.invariant in
    record {
      logs = more_logs s old c.loop-i.store c.slot_sound.new.store [] [] true inv.logs c.in_ok-slot_sound.ensures.logs;
      so_far = λ told.
          let here = (c.in_ok-slot_sound.ensures.told told).0 c.if-not-branch.false in
          below_more (λ (k : ℕ). (slot_in (segment_of shape (s.blocks old) c.args.g).header k).state ≡ ACTIVE → IsActive (Fits c.args.limits.now) shape c.args.g (segment_of shape (s.blocks old) c.args.g) k) c.loop-i.i (inv.so_far told)
          (subst (λ (b : List (List ℕ)). (slot_in (segment_of shape b c.args.g).header c.loop-i.i).state ≡ ACTIVE → IsActive (Fits c.args.limits.now) shape c.args.g (segment_of shape b c.args.g) c.loop-i.i) (inv.logs.blocks told refl) here);
    }

pub returns-clause-logs : goal.returns-clause-logs
returns-clause-logs g c = c.loop-i.invariant.logs

pub returns-then-not-branch-clause-told : goal.returns-then-not-branch-clause-told
returns-then-not-branch-clause-told g c = λ told. (
  λ clash. absurd (false≢true clash),
  λ all.
      let s = g.S.Store in
      let shape = c.args.shape in
      let test = c.loop-i-test.true in
      let here = subst (λ (b : List (List ℕ)). (slot_in (segment_of shape b c.args.g).header c.loop-i.i).state ≡ ACTIVE → IsActive (Fits c.args.limits.now) shape c.args.g (segment_of shape b c.args.g) c.loop-i.i)
      (sym (c.loop-i.invariant.logs.blocks told refl)) (all c.loop-i.i (omega (arith, test))) in
      sym c.if-not-branch.true ∙ (c.in_ok-slot_sound.ensures.told told).1 here,
)
