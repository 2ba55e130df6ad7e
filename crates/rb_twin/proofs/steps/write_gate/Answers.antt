use Rattle.rb_base.specs.Moments.{weaker}
use Rattle.rb_twin.proofs.BatchSteps.{gate_torn, gate_from}
use Rattle.rb_twin.proofs.steps.write_gate.Goals as goal

pub returns-clause-others : goal.returns-clause-others
returns-clause-others g c told =
    gate_torn c.args.layout.now (g.D.Disk.content c.args.disk.now) (g.D.Disk.content c.write_synced.new.disk) c.twin_at.result c.twin_at.ensures (c.requires.whole told) (c.write_synced.ensures.torn told)

pub returns-clause-any_moment : goal.returns-clause-any_moment
returns-clause-any_moment g c told =
    let disk = c.args.disk.now in
    weaker g.D.Disk.moment g.D.Disk.image_since disk c.write_synced.new.disk _ _ (gate_from c.args.layout.now (g.D.Disk.image disk) c.twin_at.result c.twin_at.ensures (c.requires.sized told))
    (c.write_synced.ensures.any_moment told)
