use Rattle.std.proofs.Common.{◌≡◌, ap, sym, ◌∙◌, arith}
use Rattle.rb_ring.specs.declared.extents.TheConstants.{EXTENTS}
use Rattle.rb_segment.proofs.Stamps.{none_stamped, passed, joined, all_stamped}
use Rattle.rb_ring.specs.Ring.{extent_at}
use Rattle.rb_ring.specs.declared.extents.Extent.{Extent}
use Rattle.rb_segment.proofs.stamp.stamp.Goals as goal
use Rattle.rb_segment.proofs.stamp.stamp.Goals.{then-has_bit, else-has_bit}

pub loop-e-init : goal.loop-e-init
loop-e-init c = none_stamped c.args.block c.args.bits c.args.scn c.args.header.now c.args.group.now c.requires.header

pub set_extent-requires-clause-count : goal.set_extent-requires-clause-count
set_extent-requires-clause-count c = omega (arith, c.requires.count, c.loop-e.invariant.count, c.loop-e-test.true)

pub set_extent-requires-clause-room : goal.set_extent-requires-clause-room
set_extent-requires-clause-room c = omega (arith, c.requires.room, c.loop-e.invariant.room, c.loop-e-test.true)

pub loop-e-preserved : goal.loop-e-preserved
loop-e-preserved c =
    let now = c.args.header.now in
    let held = c.args.group.now in
    let header = c.loop-e.header in
    let group = c.loop-e.group in
    let e = c.loop-e.e in
    elim c.if-has_bit.branch [
      | then-has_bit w ↦
          let call = w.set_extent.ensures in
          let x : Extent = record w.extent_at.result { newest = c.args.scn } in
          let stamp : x ≡ record (extent_at header e) { newest = c.args.scn } = ap (λ (y : Extent). record y { newest = c.args.scn }) w.extent_at.ensures in
          rw (w.header-is, w.group-is)
          (joined c.args.block c.args.bits c.args.scn now held header group e c.loop-e.invariant w.set_extent.new.header w.set_extent.new.group x (sym c.has_bit.ensures ∙ w.if-has_bit.true) c.loop-e-test.true stamp
          call.length call.patch call.copy call.means call.read)
      | else-has_bit w ↦ rw (w.header-is, w.group-is) (passed c.args.block c.args.bits c.args.scn now held header group e c.loop-e.invariant (sym c.has_bit.ensures ∙ w.if-has_bit.false))
    ]

pub returns-clause-patches : goal.returns-clause-patches
returns-clause-patches c = let all : c.loop-e.e ≡ EXTENTS = omega (arith, c.loop-e-test.false, c.loop-e.auto.e-end) in let done = rw all at c.loop-e.invariant in done.patches

pub returns-clause-copy : goal.returns-clause-copy
returns-clause-copy c = let all : c.loop-e.e ≡ EXTENTS = omega (arith, c.loop-e-test.false, c.loop-e.auto.e-end) in let done = rw all at c.loop-e.invariant in done.copy

pub returns-clause-means : goal.returns-clause-means
returns-clause-means c =
    let all : c.loop-e.e ≡ EXTENTS = omega (arith, c.loop-e-test.false, c.loop-e.auto.e-end) in
    all_stamped c.args.block c.args.bits c.args.scn c.args.header.now c.args.group.now c.loop-e.header c.loop-e.group (rw all at c.loop-e.invariant)
