use Rattle.std.proofs.Common.{◌≡◌, ◌+◌, ◌-◌, ◌*◌, ◌∙◌, ℕ, length, slice_set, slice_index, ap, sym, arith}
use Rattle.std.proofs.lemmas.List.{length-set}
use Rattle.rb_base.specs.Fields.{overwritten}
use Rattle.rb_base.specs.declared.sizes.TheConstants.{UNIT}
use Rattle.rb_twin.proofs.ImagePut.{part_put, image_put, spare_put}
use Rattle.rb_twin.proofs.Images.{counted}
use Rattle.rb_twin.proofs.batch.put_image.Goals as goal

pub overflow_add-area : goal.overflow_add-area
overflow_add-area c = omega (arith, c.requires.room, counted c.args.area.now)

pub image_at-at-requires : goal.image_at-at-requires
image_at-at-requires c = omega (arith, c.requires.room, counted c.args.area.now, c.image_count-place.ensures)

pub slice_bounds-copy_from_slice-end : goal.slice_bounds-copy_from_slice-end
slice_bounds-copy_from_slice-end c =
    let long = length-set c.args.area.now 1 (slice_index c.args.area.now 1 + 1) in
    omega (arith, c.requires.room, counted c.args.area.now, c.image_count-place.ensures, c.image_at-at.ensures, c.put_u32.auto.bytes, long, c.requires.whole)

pub returns-clause-batch : goal.returns-clause-batch
returns-clause-batch c =
    let area = c.args.area.now in
    let at = c.image_at-at.result in
    let n = c.image_count-place.result in
    let second = c.put_u32.new.bytes in
    let copied = c.copy_from_slice.new.self in
    let size : at + UNIT - at ≡ UNIT = omega arith in
    let long : length copied ≡ at + UNIT - at = ap length c.copy_from_slice.ensures.after ∙ c.requires.unit ∙ sym size in
    image_put area n c.args.block c.args.unit.now c.requires.whole c.requires.room c.image_count-place.ensures (omega (arith, c.ranges.block.fits)) c.requires.unit (slice_set area 1 (slice_index area 1 + 1)) second _
    (ap (λ (k : ℕ). slice_set area 1 (k + 1)) (sym c.image_count-place.ensures)) c.put_u32.ensures
    (part_put second at (at + UNIT - at) copied long ∙ ap (λ (i : ℕ). overwritten second i copied) c.image_at-at.ensures ∙ ap (overwritten second (UNIT * (n + 1))) c.copy_from_slice.ensures.after)

pub returns-clause-spare : goal.returns-clause-spare
returns-clause-spare c =
    let area = c.args.area.now in
    let at = c.image_at-at.result in
    let n = c.image_count-place.result in
    let second = c.put_u32.new.bytes in
    let copied = c.copy_from_slice.new.self in
    let size : at + UNIT - at ≡ UNIT = omega arith in
    let long : length copied ≡ at + UNIT - at = ap length c.copy_from_slice.ensures.after ∙ c.requires.unit ∙ sym size in
    spare_put area n c.args.block c.args.unit.now c.requires.whole c.requires.room c.image_count-place.ensures (omega (arith, c.ranges.block.fits)) c.requires.unit (slice_set area 1 (slice_index area 1 + 1)) second _
    (ap (λ (k : ℕ). slice_set area 1 (k + 1)) (sym c.image_count-place.ensures)) c.put_u32.ensures
    (part_put second at (at + UNIT - at) copied long ∙ ap (λ (i : ℕ). overwritten second i copied) c.image_at-at.ensures ∙ ap (overwritten second (UNIT * (n + 1))) c.copy_from_slice.ensures.after)
    c.requires.spare
