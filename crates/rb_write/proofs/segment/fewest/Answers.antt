use Rattle.std.proofs.Common.{◌≡◌, ◌≤◌, ℕ, List, [], true, false, refl, ap, subst, ◌∙◌, arith, ◌<◌, below_more}
use Rattle.rb_base.specs.Blocks.{block_of, header_block}
use Rattle.rb_base.specs.Logs.{more_logs}
use Rattle.rb_base.specs.declared.shape.Shape.{Shape}
use Rattle.rb_write.proofs.Writers.{active_few, fewest_of, less, no_less, run_in, IsSoFar}
use Rattle.rb_write.proofs.segment.fewest.Goals as goal
use Rattle.rb_write.proofs.segment.fewest.Goals.{then-count-least, else-count-least}

pub returns-in_err-count-clause-logs : goal.returns-in_err-count-clause-logs
returns-in_err-count-clause-logs g c =
    rw c.from_residual.ensures.0 (more_logs g.S.Store c.args.store.now c.loop-g.store c.active_in.new.store [] [] false c.loop-g.invariant.logs c.in_err-count.ensures.logs)

pub loop-g-preserved : goal.loop-g-preserved
loop-g-preserved g c =
    let s = g.S.Store in
    let old = c.args.store.now in
    let shape = s.shape_of old in
    let blocks = s.blocks old in
    let so_far = c.loop-g.invariant in
    let call = c.in_ok-count.ensures in
    let n = c.loop-g.g in
    let logs = more_logs s old c.loop-g.store c.active_in.new.store [] [] true so_far.logs call.logs in
    let read : s.tells → c.in_ok-count.count ≡ run_in shape blocks n = λ told. call.count told
    ∙ ap (λ (l : List (List ℕ)). run_in c.shape-shape.result l n) (so_far.logs.blocks told refl)
    ∙ ap (λ (k : Shape). run_in k blocks n) c.shape-shape.ensures.shape in
    let some = λ (told : s.tells). below_more (λ (k : ℕ). 0 < run_in shape blocks k) n (so_far.some told) (omega (arith, c.if-count-eq0.false, read told)) in
    elim c.if-count-least.branch [
      | then-count-least w ↦ record {
        logs = logs;
        some = some;
        within = rw w.fewest-is (omega (arith, c.loop-g-test.true, ap (λ (k : Shape). k.segments) c.shape-shape.ensures.shape));
        so_far = λ told. rw (w.fewest-is, w.least-is, read told) (less (run_in shape blocks) n c.loop-g.fewest c.loop-g.least (so_far.so_far told) (omega (arith, w.if-count-least.true, read told)));
      }
      | else-count-least w ↦ record {
        logs = logs;
        some = some;
        within = rw w.fewest-is so_far.within;
        so_far = λ told. rw (w.fewest-is, w.least-is) (no_less (run_in shape blocks) n c.loop-g.fewest c.loop-g.least (so_far.so_far told) (active_few (block_of blocks (header_block shape n))) (omega (arith, w.if-count-least.false, read told)));
      }
    ]

pub returns-clause-fewest : goal.returns-clause-fewest
returns-clause-fewest g c told =
    let s = g.S.Store in
    let old = c.args.store.now in
    let shape = s.shape_of old in
    let same = c.shape-shape.ensures.shape in
    let all : c.loop-g.g ≡ shape.segments = omega (arith, c.loop-g-test.false, c.loop-g.auto.g-end, ap (λ (k : Shape). k.segments) same) in
    let some : 1 ≤ shape.segments = omega (arith, c.shape-shape.ensures.in_range.few_segments.0, ap (λ (k : Shape). k.segments) same) in
    let P : ℕ → Type 0 = λ n. IsSoFar (run_in shape (s.blocks old)) n c.loop-g.fewest c.loop-g.least in
    fewest_of shape (s.blocks old) c.loop-g.fewest c.loop-g.least some (subst P all (c.loop-g.invariant.so_far told))

-- none has fewer than none
pub returns-then-count-eq0-clause-fewest : goal.returns-then-count-eq0-clause-fewest
returns-then-count-eq0-clause-fewest g c told =
    let s = g.S.Store in
    let shape = s.shape_of c.args.store.now in
    let blocks = s.blocks c.args.store.now in
    let so_far = c.loop-g.invariant in
    let read : c.in_ok-count.count ≡ run_in shape blocks c.loop-g.g = c.in_ok-count.ensures.count told
    ∙ ap (λ (l : List (List ℕ)). run_in c.shape-shape.result l c.loop-g.g) (so_far.logs.blocks told refl)
    ∙ ap (λ (k : Shape). run_in k blocks c.loop-g.g) c.shape-shape.ensures.shape in
    record {
      within = omega (arith, c.loop-g-test.true, ap (λ (k : Shape). k.segments) c.shape-shape.ensures.shape);
      least = λ k lt. omega (arith, read, c.if-count-eq0.true);
      lower = λ k before. omega (arith, read, c.if-count-eq0.true, so_far.some told k before);
    }

pub returns-then-count-eq0-clause-logs : goal.returns-then-count-eq0-clause-logs
returns-then-count-eq0-clause-logs g c =
    more_logs g.S.Store c.args.store.now c.loop-g.store c.active_in.new.store [] [] true c.loop-g.invariant.logs c.in_ok-count.ensures.logs
