use Rattle.std.proofs.Common.{ap, subst}
use Rattle.rb_layout.specs.declared.layout.Layout.{Layout}
use Rattle.rb_twin.specs.Batches.{IsSpareZero}
use Rattle.rb_twin.specs.Twins.{TwinState, twin_area}
use Rattle.rb_twin.proofs.twin.Twin.write.Goals as goal

-- the layout that callers see
pub returns-clause-spare : goal.returns-clause-spare
returns-clause-spare g c told =
    subst (λ (l : Layout). IsSpareZero (twin_area l (g.D.Disk.content c.write_batch.new.disk))) (ap (λ (s : TwinState). s.layout) c.self.view_is) (c.in_ok-write_batch.ensures.spare told)
