use Rattle.std.proofs.Common.{◌+◌, ◌-◌, ◌*◌, ℕ, ap, arith}
use Rattle.std.proofs.lemmas.Result.{on_ok_weaker}
use Rattle.rb_base.specs.Fields.{part}
use Rattle.rb_base.specs.Moments.{weaker}
use Rattle.rb_base.specs.declared.sizes.TheConstants.{UNIT}
use Rattle.rb_twin.proofs.Images.{counted}
use Rattle.rb_twin.proofs.BatchSteps.{staged_torn, staged_from, staged_batch, staged_spare}
use Rattle.rb_twin.proofs.steps.stage.Goals as goal

pub slice_bounds-write_synced-end : goal.slice_bounds-write_synced-end
slice_bounds-write_synced-end g c = omega (arith, c.image_count.ensures, c.requires.area, c.requires.few, counted c.args.area.now)

pub returns-clause-staged : goal.returns-clause-staged
returns-clause-staged g c told =
    let disk = c.args.disk.now in
    on_ok_weaker c.write_synced.result
    (λ wrote. staged_batch c.args.layout.now c.args.area.now c.requires.area c.requires.few _ (ap (λ (n : ℕ). part c.args.area.now 1 (UNIT * (n + 1) - 1)) c.image_count.ensures) (g.D.Disk.content disk) (g.D.Disk.content c.write_synced.new.disk) c.twin_at.result c.twin_at.ensures (c.requires.whole told) wrote)
    (c.write_synced.ensures.written told)

pub returns-clause-others : goal.returns-clause-others
returns-clause-others g c told =
    let disk = c.args.disk.now in
    (staged_torn c.args.layout.now c.args.area.now c.requires.area c.requires.few _ (ap (λ (n : ℕ). part c.args.area.now 1 (UNIT * (n + 1) - 1)) c.image_count.ensures) (g.D.Disk.content disk) (g.D.Disk.content c.write_synced.new.disk) c.twin_at.result c.twin_at.ensures (c.requires.whole told)
    (c.write_synced.ensures.torn told)).0

pub returns-clause-any_moment : goal.returns-clause-any_moment
returns-clause-any_moment g c told =
    let disk = c.args.disk.now in
    weaker g.D.Disk.moment g.D.Disk.image_since disk c.write_synced.new.disk _ _
    (staged_from c.args.layout.now c.args.area.now c.requires.area c.requires.few _ (ap (λ (n : ℕ). part c.args.area.now 1 (UNIT * (n + 1) - 1)) c.image_count.ensures) (g.D.Disk.image disk) c.twin_at.result c.twin_at.ensures (c.requires.sized told))
    (c.write_synced.ensures.any_moment told)

pub returns-clause-spare : goal.returns-clause-spare
returns-clause-spare g c told =
    let disk = c.args.disk.now in
    on_ok_weaker c.write_synced.result
    (λ wrote. staged_spare c.args.layout.now c.args.area.now c.requires.area c.requires.few _ (ap (λ (n : ℕ). part c.args.area.now 1 (UNIT * (n + 1) - 1)) c.image_count.ensures) (g.D.Disk.content disk) (g.D.Disk.content c.write_synced.new.disk) c.twin_at.result c.twin_at.ensures (c.requires.whole told) wrote c.requires.spare)
    (c.write_synced.ensures.written told)
