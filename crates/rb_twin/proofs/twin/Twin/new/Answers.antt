use Rattle.std.proofs.Common.{◌≡◌, ◌<◌, ◌∙◌, [], List, ℕ, length, slice_index, ap, sym, subst, arith}
use Rattle.std.proofs.lemmas.List.{get_or-replicate, length-replicate}
use Rattle.std.specs.List.{AllByRecursion}
use Rattle.rb_base.specs.declared.sizes.TheConstants.{UNIT}
use Rattle.rb_layout.specs.Regions.{block_count}
use Rattle.rb_twin.specs.Batches.{Image, Differ, images_in, batch_in}
use Rattle.rb_twin.specs.declared.batch.TheConstants.{AREA}
use Rattle.rb_twin.proofs.Spares.{all_zero}
use Rattle.rb_twin.proofs.twin.Twin.new.Goals as goal

pub invariant_of-result : goal.invariant_of-result
invariant_of-result c =
    let area = c.in_ok-zero_bytes.field-0.items in
    let zeros = c.in_ok-zero_bytes.ensures.zeros in
    let zero : (k : ℕ) → k < UNIT → slice_index area k ≡ 0 = λ k lt. ap (λ (bytes : List ℕ). slice_index bytes k) zeros ∙ get_or-replicate AREA k 0 0 (omega (arith, lt)) in
    let none : batch_in area ≡ [] = ap (images_in area 0) (zero 1 (omega arith)) in record {
      whole = ap length zeros ∙ length-replicate {A = ℕ} AREA 0;
      few = omega (arith, ap length none);
      differ = subst Differ (sym none) tt;
      within = subst (λ (images : List Image). AllByRecursion (λ image. image.no < block_count c.args.layout.now) images) (sym none) tt;
      spare = all_zero area zero;
    }
