use Rattle.std.proofs.Common.{ℕ, List, [], true, false, refl, subst}
use borrow.Author.Count.{below_more}
use Rattle.rb_base.specs.Blocks.{block_of, header_block}
use Rattle.rb_base.specs.Logs.{more_logs}
use Rattle.rb_base.specs.declared.shape.Shape.{Shape}
use Rattle.rb_sound.specs.Sound.{IsSegment}
use Rattle.rb_sound.proofs.blocks.segments_sound.Goals as goal

pub loop-g-preserved : goal.loop-g-preserved
loop-g-preserved g c =
    let s = g.S.Store in
    let old = c.args.store.now in
    let inv = c.loop-g.invariant in
    let call = c.in_ok-header_sound.ensures in
    record {
      logs = more_logs s old c.loop-g.store c.header_sound.new.store [] [] true inv.logs call.logs;
      so_far = λ told.
          let here = (call.told told).0 c.if-not-branch.false in
          let of_old = subst (λ (b : List (List ℕ)). IsSegment c.args.commit (block_of b (header_block c.shape-shape.result c.loop-g.g))) (inv.logs.blocks told refl) here in
          below_more (λ (k : ℕ). IsSegment c.args.commit (block_of (s.blocks old) (header_block (s.shape_of old) k))) c.loop-g.g (inv.so_far told)
          (subst (λ (shape : Shape). IsSegment c.args.commit (block_of (s.blocks old) (header_block shape c.loop-g.g))) c.shape-shape.ensures.shape of_old);
    }

pub returns-in_err-header_sound-clause-logs : goal.returns-in_err-header_sound-clause-logs
returns-in_err-header_sound-clause-logs g c =
    rw c.from_residual.ensures.0 (more_logs g.S.Store c.args.store.now c.loop-g.store c.header_sound.new.store [] [] false c.loop-g.invariant.logs c.in_err-header_sound.ensures.logs)

pub returns-then-not-branch-clause-logs : goal.returns-then-not-branch-clause-logs
returns-then-not-branch-clause-logs g c = more_logs g.S.Store c.args.store.now c.loop-g.store c.header_sound.new.store [] [] true c.loop-g.invariant.logs c.in_ok-header_sound.ensures.logs
