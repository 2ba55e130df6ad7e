use Rattle.std.proofs.Common.{◌≡◌, ◌<◌, ◌≤◌, ◌+◌, ◌-◌, ◌∙◌, length, slice_index, refl, ap, arith}
use Rattle.rb_base.specs.Fields.{part}
use Rattle.rb_base.specs.declared.sizes.TheConstants.{UNIT}
use Rattle.rb_layout.specs.Regions.{block_offset, block_count}
use Rattle.rb_twin.proofs.BatchSteps.{length-part, image_bytes}
use Rattle.rb_twin.proofs.HomeSteps.{none_brought, brought_torn, brought_moment, brought_more}
use Rattle.rb_twin.proofs.Images.{batch_at, counted, name_of}
use Rattle.rb_twin.proofs.steps.bring_home.Given.{Over}
use Rattle.rb_twin.proofs.steps.bring_home.Goals.{After-block_at}
use Rattle.rb_twin.proofs.steps.bring_home.Goals as goal

pub loop-place-init : goal.loop-place-init
loop-place-init g c = record {
  so_far = λ told. none_brought g.D.Disk c.args.layout.now c.args.area.now c.args.disk.now (λ f left. g.met.D.Disk.only_now c.args.disk.now f told left);
  still = refl;
}

pub image_at-at-requires : goal.image_at-at-requires
image_at-at-requires g c = omega (arith, c.loop-place-test.true, c.image_count-place-end.ensures, c.requires.valid.few, counted c.args.area.now)

pub name_at-requires-clause-place : goal.name_at-requires-clause-place
name_at-requires-clause-place g c = omega (arith, c.loop-place-test.true, c.image_count-place-end.ensures, c.requires.valid.few, counted c.args.area.now)

pub block_at-requires : goal.block_at-requires
block_at-requires g c =
    let below = batch_at (λ image. image.no < block_count c.args.layout.now) c.args.area.now c.requires.valid.within c.loop-place.place (omega (arith, c.loop-place-test.true, c.image_count-place-end.ensures)) in omega (arith, below, c.name_at.ensures)

-- the place is one of the batch's, and its image lies within the area
within : (g : Over) (c : After-block_at g) → c.loop-place.place < slice_index c.args.area.now 1
within g c = omega (arith, c.loop-place-test.true, c.image_count-place-end.ensures)

fits : (g : Over) (c : After-block_at g) → c.image_at-at.result + UNIT ≤ length c.args.area.now
fits g c = omega (arith, c.image_at-at.ensures, within g c, c.requires.valid.few, counted c.args.area.now, c.requires.area)

here : (g : Over) (c : After-block_at g) → c.block_at.result ≡ block_offset c.args.layout.now (name_of c.args.area.now c.loop-place.place)
here g c = c.block_at.ensures ∙ ap (block_offset c.args.layout.now) c.name_at.ensures

unit : (g : Over) (c : After-block_at g) → length (part c.args.area.now c.image_at-at.result (c.image_at-at.result + UNIT - c.image_at-at.result)) ≡ UNIT
unit g c = length-part c.args.area.now c.image_at-at.result (c.image_at-at.result + UNIT - c.image_at-at.result) (omega (arith, fits g c)) ∙ omega arith

pub slice_bounds-write_at-end : goal.slice_bounds-write_at-end
slice_bounds-write_at-end g c = fits g (goal.at.slice_bounds-write_at-end g c).After-block_at

pub write_at-requires : goal.write_at-requires
write_at-requires g c told =
    let so_far = c.loop-place.invariant.so_far told in
    let below = batch_at (λ image. image.no < block_count c.args.layout.now) c.args.area.now c.requires.valid.within c.loop-place.place (omega (arith, c.loop-place-test.true, c.image_count-place-end.ensures)) in
    omega (arith, below, c.block_at.ensures, c.name_at.ensures, so_far.same.front.long, c.requires.whole told)

pub returns-in_err-write_at-clause-others : goal.returns-in_err-write_at-clause-others
returns-in_err-write_at-clause-others g c told =
    let at = (goal.at.returns-in_err-write_at-clause-others g c).After-block_at in
    brought_torn g.D.Disk c.args.layout.now c.args.area.now c.loop-place.place c.requires.valid (within g at) c.args.disk.now c.loop-place.disk c.write_at.new.self (c.requires.whole told) (c.requires.sized told) (c.loop-place.invariant.so_far told) c.block_at.result _ (here g at) (unit g at)
    (c.in_err-write_at.ensures.torn told)

pub returns-in_err-write_at-clause-any_moment : goal.returns-in_err-write_at-clause-any_moment
returns-in_err-write_at-clause-any_moment g c told =
    let at = (goal.at.returns-in_err-write_at-clause-any_moment g c).After-block_at in
    brought_moment g.D.Disk c.args.layout.now c.args.area.now c.loop-place.place c.requires.valid (within g at) c.args.disk.now c.loop-place.disk c.write_at.new.self (c.requires.whole told) (c.requires.sized told) (c.loop-place.invariant.so_far told) c.block_at.result _ (here g at) (unit g at)
    (c.write_at.ensures.images told) (c.write_at.ensures.time told)

pub loop-place-preserved : goal.loop-place-preserved
loop-place-preserved g c =
    let at = (goal.at.loop-place-preserved g c).After-block_at in
    let did = c.in_ok-write_at.ensures in record {
      so_far = λ told.
          brought_more g.D.Disk c.args.layout.now c.args.area.now c.loop-place.place c.requires.valid (within g at) c.args.disk.now c.loop-place.disk c.write_at.new.self (c.requires.whole told) (c.requires.sized told) (c.loop-place.invariant.so_far told) c.block_at.result _ (here g at) (unit g at)
          _ (image_bytes c.args.area.now c.image_at-at.result c.loop-place.place c.image_at-at.ensures) refl (did.written told) (did.images told) (did.time told);
      still = did.counted.still ∙ c.loop-place.invariant.still;
    }
