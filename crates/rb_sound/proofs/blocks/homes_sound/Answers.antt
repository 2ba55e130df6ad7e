use Rattle.std.proofs.Common.{◌%◌, ℕ, List, [], true, false, refl, subst}
use borrow.Author.Count.{below_more}
use Rattle.rb_base.specs.Blocks.{block_of}
use Rattle.rb_base.specs.Logs.{more_logs}
use Rattle.rb_heap.specs.Soundness.{IsHomeSound}
use Rattle.rb_segment.specs.Segments.{wrap_in}
use Rattle.rb_sound.proofs.blocks.homes_sound.Goals as goal

pub loop-no-preserved : goal.loop-no-preserved
loop-no-preserved g c =
    let s = g.S.Store in
    let old = c.args.store.now in
    let limits = c.args.limits.now in
    let inv = c.loop-no.invariant in
    let call = c.in_ok-rows_sound.ensures in
    record {
      logs = more_logs s old c.loop-no.store c.rows_sound.new.store [] [] true inv.logs call.logs;
      so_far = λ told.
          let here = (call.told told).0 c.if-not-branch.false in
          below_more (λ (k : ℕ). IsHomeSound limits.shape limits.commit (wrap_in limits.wraps) (k % limits.shape.blocks) (block_of (s.blocks old) k)) c.loop-no.no (inv.so_far told)
          (subst (λ (b : List (List ℕ)). IsHomeSound limits.shape limits.commit (wrap_in limits.wraps) (c.loop-no.no % limits.shape.blocks) (block_of b c.loop-no.no)) (inv.logs.blocks told refl) here);
    }

pub returns-in_err-rows_sound-clause-logs : goal.returns-in_err-rows_sound-clause-logs
returns-in_err-rows_sound-clause-logs g c =
    rw c.from_residual.ensures.0 (more_logs g.S.Store c.args.store.now c.loop-no.store c.rows_sound.new.store [] [] false c.loop-no.invariant.logs c.in_err-rows_sound.ensures.logs)

pub returns-then-not-branch-clause-logs : goal.returns-then-not-branch-clause-logs
returns-then-not-branch-clause-logs g c = more_logs g.S.Store c.args.store.now c.loop-no.store c.rows_sound.new.store [] [] true c.loop-no.invariant.logs c.in_ok-rows_sound.ensures.logs
