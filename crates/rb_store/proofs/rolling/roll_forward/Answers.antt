use Rattle.std.proofs.Common.{arith, ◌∙◌}
use Rattle.rb_store.proofs.PatchLemmas.{waits_joined}
use Rattle.rb_store.proofs.RollLemmas.{first_rolled, more_rolled, roll_leaves}
use Rattle.rb_store.proofs.rolling.roll_forward.Goals as goal

pub loop-i-init : goal.loop-i-init
loop-i-init g c = first_rolled g.D.Disk g.D.Disk.tells c.args.cache.now c.args.disk.now c.args.number c.args.groups.now c.requires.memory c.requires.batch c.requires.calm c.requires.clean
    (λ told im left. g.met.D.Disk.only_now c.args.disk.now im told left)

pub returns-in_err-patch_all-clause-any_moment : goal.returns-in_err-patch_all-clause-any_moment
returns-in_err-patch_all-clause-any_moment g c = λ told groups long log.
    let i = c.loop-i.invariant in
    roll_leaves g.D.Disk c.args.cache.now c.loop-i.cache c.args.disk.now c.loop-i.disk c.args.number c.args.groups.now c.loop-i.i c.index-groups-i.result c.index-groups-i.is
    (omega (arith, c.loop-i-test.true, c.loop-i.auto.i-end)) c.requires.few i.keeps (i.told told) c.patch_all.new.disk groups long log (c.in_err-patch_all.ensures.any_moment told)

pub loop-i-preserved : goal.loop-i-preserved
loop-i-preserved g c =
    let i = c.loop-i.invariant in
    let e = c.in_ok-patch_all.ensures in
    record {
      memory = e.memory;
      batch = e.batch;
      keeps = record { layout = e.keeps.layout ∙ i.keeps.layout; head = e.keeps.head ∙ i.keeps.head };
      numbers = e.numbers ∙ i.numbers;
      waits = waits_joined c.args.cache.now c.loop-i.cache c.patch_all.new.cache i.waits e.waits;
      still = e.counted.still ∙ i.still;
      told = λ told. more_rolled g.D.Disk c.args.cache.now c.loop-i.cache c.args.disk.now c.loop-i.disk c.args.number c.args.groups.now c.loop-i.i c.index-groups-i.result c.index-groups-i.is
          (omega (arith, c.loop-i-test.true, c.loop-i.auto.i-end)) c.requires.few i.keeps (i.told told) c.patch_all.new.cache c.patch_all.new.disk (e.seen told) (e.settled told) (e.done told) (e.any_moment told);
    }
