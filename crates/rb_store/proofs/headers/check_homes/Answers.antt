use Rattle.std.proofs.Common.{◌≡◌, ◌+◌, ◌<◌, ◌∙◌, ℕ, List, arith, refl, subst, ap}
use Rattle.rb_disk.specs.Moments.{rests_on}
use Rattle.rb_base.specs.Blocks.{shape_blocks}
use Rattle.rb_layout.specs.Regions.{block_count, shape_of}
use Rattle.rb_twin.specs.Twins.{home}
use Rattle.rb_store.specs.Meaning.{IsHeaded}
use Rattle.rb_store.proofs.HeaderLemmas.{headed_more}
use Rattle.rb_store.proofs.headers.check_homes.Goals as goal

pub loop-first-preserved : goal.loop-first-preserved
loop-first-preserved g c =
    let i = c.loop-first.invariant in
    let l = c.args.layout.now in
    let file = g.D.Disk.content c.args.disk.now in
    let end : c.block_count-end.result ≡ block_count l = c.block_count-end.ensures.blocks ∙ ap shape_blocks c.shape.ensures.shape in
    record {
      within = omega (arith, i.within, c.min-count.ensures, end, c.loop-first-test.true);
      headed = λ told. headed_more l c.args.last file c.loop-first.first c.min-count.result (i.headed told)
          (subst (λ (f : List ℕ). (k : ℕ) → k < c.min-count.result → IsHeaded (shape_of l) c.args.last (c.loop-first.first + k) (home l f (c.loop-first.first + k))) (i.same told).same (c.in_ok-check_piece.ensures.headed told));
      still = c.in_ok-check_piece.ensures.counted.still refl ∙ i.still;
      same = λ told. rests_on g.D.Disk c.args.disk.now c.loop-first.disk c.check_piece.new.disk (i.same told) (c.in_ok-check_piece.ensures.same told);
    }
