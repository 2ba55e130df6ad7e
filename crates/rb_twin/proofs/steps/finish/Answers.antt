use Rattle.std.proofs.Common.{◌≡◌, ◌∙◌, Result, Ok, Err, OnOk, ap, subst, sym}
use Rattle.rb_base.specs.Moments.{LeavesOnly, weaker, joined}
use Rattle.rb_layout.specs.Regions.{file_length, twin_offset}
use Rattle.rb_twin.specs.Batches.{IsSpareZero, batch_in}
use Rattle.rb_twin.specs.Twins.{Repaired, twin_area}
use Rattle.rb_twin.specs.TwinLaws.{area_stays, front_stays, homes_stay}
use Rattle.rb_twin.proofs.HomeSteps.{but_both}
use Rattle.rb_twin.proofs.KeptBlocks.{gate_batch, gate_spare, home_front, repair_homes, repair_gate}
use Rattle.rb_twin.proofs.steps.finish.Given.{Over}
use Rattle.rb_twin.proofs.steps.finish.Goals.{After-bring_home}
use Rattle.rb_twin.proofs.steps.finish.Goals as goal

on_ok : {T E P : Type 0} (r : Result T E) → P → OnOk r P
on_ok (Ok x) holds = holds
on_ok (Err e) holds = tt

-- step three
brought : (g : Over) (c : After-bring_home g) → g.D.Disk.tells → LeavesOnly g.D.Disk.moment g.D.Disk.image_since c.args.disk.now c.bring_home.new.disk (Repaired (g.D.Disk.image c.args.disk.now) c.args.layout.now (g.D.Disk.content c.args.disk.now))
brought g c told =
    let disk = c.args.disk.now in
    weaker g.D.Disk.moment g.D.Disk.image_since disk c.bring_home.new.disk _ _
    (repair_homes c.args.layout.now (batch_in c.args.area.now) (g.D.Disk.content disk) c.requires.valid (c.requires.whole told) (c.requires.staged told) (c.requires.opened told) (g.D.Disk.image disk) (c.requires.synced told))
    (c.bring_home.ensures.any_moment told)

pub returns-in_err-bring_home-clause-outside : goal.returns-in_err-bring_home-clause-outside
returns-in_err-bring_home-clause-outside g c told = home_front c.args.layout.now (g.D.Disk.content c.args.disk.now) (g.D.Disk.content c.bring_home.new.disk) ((c.bring_home.ensures.others told).front)

pub returns-in_err-bring_home-clause-any_moment : goal.returns-in_err-bring_home-clause-any_moment
returns-in_err-bring_home-clause-any_moment g c told = brought g (goal.at.returns-in_err-bring_home-clause-any_moment g c).After-bring_home told

-- which leaves the twin area
area : (g : Over) (c : After-bring_home g) → g.D.Disk.tells → twin_area c.args.layout.now (g.D.Disk.content c.bring_home.new.disk) ≡ twin_area c.args.layout.now (g.D.Disk.content c.args.disk.now)
area g c told = (area_stays c.args.layout.now (g.D.Disk.content c.args.disk.now) (g.D.Disk.content c.bring_home.new.disk) ((c.bring_home.ensures.others told).front)).0

pub returns-in_err-bring_home-clause-left : goal.returns-in_err-bring_home-clause-left
returns-in_err-bring_home-clause-left g c told = ap batch_in (area g (goal.at.returns-in_err-bring_home-clause-left g c).After-bring_home told) ∙ c.requires.staged told

pub returns-in_err-bring_home-clause-spare : goal.returns-in_err-bring_home-clause-spare
returns-in_err-bring_home-clause-spare g c told spare = subst IsSpareZero (sym (area g (goal.at.returns-in_err-bring_home-clause-spare g c).After-bring_home told)) spare

-- step four
pub returns-clause-left : goal.returns-clause-left
returns-clause-left g c told =
    let l = c.args.layout.now in
    let is = ap batch_in (area g (goal.at.returns-clause-left g c).After-bring_home told) ∙ c.requires.staged told in
    gate_batch l (g.D.Disk.content c.bring_home.new.disk) (g.D.Disk.content c.write_gate.new.disk) (batch_in c.args.area.now) c.requires.valid.few (c.write_gate.ensures.others told) is

pub returns-clause-spare : goal.returns-clause-spare
returns-clause-spare g c told spare =
    let l = c.args.layout.now in
    let stay = area g (goal.at.returns-clause-spare g c).After-bring_home told in
    gate_spare l (g.D.Disk.content c.bring_home.new.disk) (g.D.Disk.content c.write_gate.new.disk) (batch_in c.args.area.now) c.requires.valid.few (c.write_gate.ensures.others told) (ap batch_in stay ∙ c.requires.staged told) (subst IsSpareZero (sym stay) spare)

pub returns-clause-homes : goal.returns-clause-homes
returns-clause-homes g c told =
    let mid = g.D.Disk.content c.bring_home.new.disk in
    let new = g.D.Disk.content c.write_gate.new.disk in
    on_ok c.write_gate.result (λ which. homes_stay c.args.layout.now mid new ((c.write_gate.ensures.others told).others) which ∙ c.in_ok-bring_home.ensures.homes told which)

pub returns-clause-outside : goal.returns-clause-outside
returns-clause-outside g c told =
    let l = c.args.layout.now in
    let old = g.D.Disk.content c.args.disk.now in
    let mid = g.D.Disk.content c.bring_home.new.disk in
    let new = g.D.Disk.content c.write_gate.new.disk in
    but_both (twin_offset l 0) (file_length l) old mid new (home_front l old mid ((c.bring_home.ensures.others told).front)) (front_stays l mid new ((c.write_gate.ensures.others told).others))

pub returns-clause-any_moment : goal.returns-clause-any_moment
returns-clause-any_moment g c told =
    let disk = c.args.disk.now in
    let mid = c.bring_home.new.disk in
    let new = c.write_gate.new.disk in
    let file = g.D.Disk.content disk in
    let image = g.D.Disk.image disk in
    let last = weaker g.D.Disk.moment g.D.Disk.image_since mid new _ (Repaired image c.args.layout.now file)
    (repair_gate c.args.layout.now (batch_in c.args.area.now) file c.requires.valid (c.requires.whole told) (c.requires.staged told) (c.requires.opened told) image (g.met.D.Disk.reads_an_image disk told) (g.D.Disk.content mid) (c.bring_home.ensures.others told)
    (c.in_ok-bring_home.ensures.homes told) (g.D.Disk.image mid) (c.in_ok-bring_home.ensures.durable told))
    (c.write_gate.ensures.any_moment told) in
    joined g.D.Disk.moment g.D.Disk.image_since disk mid new _ (brought g (goal.at.returns-clause-any_moment g c).After-bring_home told) last
