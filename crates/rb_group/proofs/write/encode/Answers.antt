use Rattle.std.proofs.Common.{◌≡◌, ◌+◌, ◌<◌, ◌≤◌, length, take, get_or, arith, refl}
use Rattle.rb_base.specs.declared.sizes.TheConstants.{GROUP_BYTES}
use Rattle.byteorder.specs.Endian.{big_bytes}
use Rattle.rb_base.specs.Groups.{patch, group_length}
use Rattle.rb_group.proofs.Spelling.{made}
use Rattle.rb_group.proofs.Writing.{length_more, length_within, patch_next}
use Rattle.rb_group.proofs.write.encode.Goals as goal

room : (c : goal.After-patch_bytes) → group_length (take c.loop-i.i c.args.group.now) + (8 + length c.patch_bytes.result.now) ≤ GROUP_BYTES
room c =
    let i = c.loop-i.i in
    let ps = c.args.group.now in
    let p = patch c.patch_block.result c.patch_at.result c.patch_bytes.result.now in
    let lt : i < length ps = omega (arith, c.patches-count.ensures.count, c.loop-i-test.true) in
    let is : p ≡ get_or ps i p = made p (get_or ps i p) (c.patch_block.ensures p) (c.patch_at.ensures p) (c.patch_bytes.ensures p) in
    omega (arith, length_more ps i p p lt is, length_within ps (i + 1), c.patches-count.ensures.valid.within)

pub put_patch-place-requires-clause-short : goal.put_patch-place-requires-clause-short
put_patch-place-requires-clause-short c = omega (arith, room c)

pub put_patch-place-requires-clause-room : goal.put_patch-place-requires-clause-room
put_patch-place-requires-clause-room c = omega (arith, room c, c.loop-i.invariant.place, c.loop-i.auto.into, c.requires.room)

pub loop-i-preserved : goal.loop-i-preserved
loop-i-preserved c =
    let i = c.loop-i.i in
    let ps = c.args.group.now in
    let p = patch c.patch_block.result c.patch_at.result c.patch_bytes.result.now in
    let lt : i < length ps = omega (arith, c.patches-count.ensures.count, c.loop-i-test.true) in
    let is : p ≡ get_or ps i p = made p (get_or ps i p) (c.patch_block.ensures p) (c.patch_at.ensures p) (c.patch_bytes.ensures p) in
    record {
      place = omega (arith, length_more ps i p p lt is, c.put_patch-place.ensures.place, c.loop-i.invariant.place);
      whole = patch_next ps i p p c.args.into.now c.loop-i.into c.put_patch-place.new.into (big_bytes 2 (length ps)) c.loop-i.place c.put_patch-place.result lt is refl c.loop-i.invariant.place c.loop-i.invariant.whole (omega (arith, c.put_patch-place.ensures.place)) c.put_patch-place.ensures.into;
    }
