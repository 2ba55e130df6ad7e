use Rattle.std.proofs.Common.{◌≡◌, ◌<◌, slice_index, IsTrue, true, false, ap, ◌∙◌, subst, arith, rules}
use Rattle.rb_base.specs.Blocks.{shape_blocks}
use Rattle.rb_layout.specs.Regions.{block_count}
use Rattle.rb_twin.specs.Batches.{IsBatch, batch_in}
use Rattle.rb_twin.proofs.Images.{counted, batch_at, names_differ, front_by, front_differ}
use Rattle.rb_twin.proofs.batch.is_batch.Goals.{then-count-eq0-via-then-count-eq0, then-count-eq0-via-else-count-eq0+then-count-gt-TWIN_IMAGES}
use Rattle.rb_twin.proofs.batch.is_batch.Goals.{then-block-blocks-via-then-block-blocks, then-block-blocks-via-else-block-blocks+then-not-is_new}
use Rattle.rb_twin.proofs.batch.is_batch.Goals as goal

pub returns-then-count-eq0 : goal.returns-then-count-eq0
returns-then-count-eq0 c = (search rules, λ valid. absurd (none valid))
  where
    none : IsBatch (block_count c.args.layout.now) (batch_in c.args.area.now) → ⊥
    none valid = elim c.then-count-eq0.branch [
      | then-count-eq0-via-then-count-eq0 w ↦ omega (arith, w.if-count-eq0.true, c.image_count-count.ensures, counted c.args.area.now, valid.some)
      | then-count-eq0-via-else-count-eq0+then-count-gt-TWIN_IMAGES w ↦ omega (arith, w.if-count-gt-TWIN_IMAGES.true, c.image_count-count.ensures, counted c.args.area.now, valid.few)
    ]

pub returns-then-block-blocks : goal.returns-then-block-blocks
returns-then-block-blocks c = (search rules, λ valid. absurd (none valid))
  where
    none : IsBatch (block_count c.args.layout.now) (batch_in c.args.area.now) → ⊥
    none valid =
        let lt : c.loop-place.place < slice_index c.args.area.now 1 = omega (arith, c.loop-place-test.true, c.image_count-count.ensures) in elim c.then-block-blocks.branch [
          | then-block-blocks-via-then-block-blocks w ↦
              let below = batch_at (λ image. image.no < block_count c.args.layout.now) c.args.area.now valid.within c.loop-place.place lt in
              let blocks : c.block_count-blocks.result ≡ block_count c.args.layout.now = c.block_count-blocks.ensures.blocks ∙ ap shape_blocks c.shape.ensures.shape in
              omega (arith, below, w.if-block-blocks.true, c.name_at-block.ensures, blocks)
          | then-block-blocks-via-else-block-blocks+then-not-is_new w ↦
              let new = w.is_new.ensures.1 (λ k before is. names_differ c.args.area.now valid.differ k c.loop-place.place before lt (is ∙ c.name_at-block.ensures)) in
              let wrong : false ≡ true = subst IsTrue w.if-not-is_new.true new in cc
        ]

pub returns : goal.returns
returns c = (
  λ yes. record {
    some = omega (arith, counted c.args.area.now, c.image_count-count.ensures, c.if-count-eq0.false);
    few = omega (arith, counted c.args.area.now, c.image_count-count.ensures, c.if-count-gt-TWIN_IMAGES.false);
    differ = front_differ c.args.area.now _ (λ i j before lt. c.loop-place.invariant.differ i j before (omega (arith, lt, c.loop-place-test.false, c.image_count-count.ensures)));
    within = front_by (λ image. image.no < block_count c.args.layout.now) c.args.area.now _ (λ k lt. c.loop-place.invariant.within k (omega (arith, lt, c.loop-place-test.false, c.image_count-count.ensures)));
  },
  λ valid. search rules,
)
