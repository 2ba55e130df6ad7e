use Rattle.std.proofs.Common.{◌≡◌, ◌∙◌, ℕ, Result, Ok, Err, OnOk, ap, subst}
use Rattle.std.proofs.lemmas.Result.{on_ok_weaker}
use Rattle.rb_base.specs.Counts.{IsCounted}
use Rattle.rb_base.specs.Moments.{LeavesOnly, weaker, joined}
use Rattle.rb_disk.specs.Ranges.{SameBut}
use Rattle.rb_layout.specs.Regions.{file_length, twin_offset, block_offset}
use Rattle.rb_twin.specs.Batches.{batch_in, with_batch}
use Rattle.rb_twin.specs.Twins.{TwinSome, twin_area}
use Rattle.rb_twin.specs.TwinLaws.{front_stays, homes_stay}
use Rattle.rb_twin.proofs.HomeSteps.{but_both}
use Rattle.rb_twin.proofs.KeptBlocks.{gate_batch, gate_spare, write_stage, write_opened, write_finished}
use Rattle.rb_twin.proofs.steps.write_batch.Given.{Over}
use Rattle.rb_twin.proofs.steps.write_batch.Goals.{After-stage, After-write_gate}
use Rattle.rb_twin.proofs.steps.write_batch.Goals as goal

on_ok : {T E P : Type 0} (r : Result T E) → P → OnOk r P
on_ok (Ok x) holds = holds
on_ok (Err e) holds = tt

-- step one
staged : (g : Over) (c : After-stage g) → g.D.Disk.tells → LeavesOnly g.D.Disk.moment g.D.Disk.image_since c.args.disk.now c.stage.new.disk (TwinSome (g.D.Disk.image c.args.disk.now) c.args.layout.now (batch_in c.args.area.now) (g.D.Disk.content c.args.disk.now))
staged g c told =
    let disk = c.args.disk.now in
    weaker g.D.Disk.moment g.D.Disk.image_since disk c.stage.new.disk _ _
    (write_stage c.args.layout.now (batch_in c.args.area.now) (g.D.Disk.content disk) c.requires.valid (c.requires.whole told) (g.D.Disk.image disk) (c.requires.shut told) (c.requires.synced told))
    (c.stage.ensures.any_moment told)

pub returns-in_err-stage-clause-any_moment : goal.returns-in_err-stage-clause-any_moment
returns-in_err-stage-clause-any_moment g c told = staged g (goal.at.returns-in_err-stage-clause-any_moment g c).After-stage told

-- steps one and two leave all but the twin area
both : (g : Over) (c : After-write_gate g) → g.D.Disk.tells → SameBut (twin_offset c.args.layout.now 0) (block_offset c.args.layout.now 0) (g.D.Disk.content c.args.disk.now) (g.D.Disk.content c.write_gate.new.disk)
both g c told =
    let l = c.args.layout.now in
    but_both (twin_offset l 0) (block_offset l 0) (g.D.Disk.content c.args.disk.now) (g.D.Disk.content c.stage.new.disk) (g.D.Disk.content c.write_gate.new.disk) (c.stage.ensures.others told) ((c.write_gate.ensures.others told).others)

opened : (g : Over) (c : After-write_gate g) → g.D.Disk.tells
    → LeavesOnly g.D.Disk.moment g.D.Disk.image_since c.args.disk.now c.stage.new.disk (TwinSome (g.D.Disk.image c.args.disk.now) c.args.layout.now (batch_in c.args.area.now) (g.D.Disk.content c.args.disk.now))
    → LeavesOnly g.D.Disk.moment g.D.Disk.image_since c.args.disk.now c.write_gate.new.disk (TwinSome (g.D.Disk.image c.args.disk.now) c.args.layout.now (batch_in c.args.area.now) (g.D.Disk.content c.args.disk.now))
opened g c told one =
    let disk = c.args.disk.now in
    let mid = c.stage.new.disk in
    let new = c.write_gate.new.disk in
    let file = g.D.Disk.content disk in
    let two = weaker g.D.Disk.moment g.D.Disk.image_since mid new _ (TwinSome (g.D.Disk.image disk) c.args.layout.now (batch_in c.args.area.now) file)
    (write_opened c.args.layout.now (batch_in c.args.area.now) file c.requires.valid (c.requires.whole told) (g.D.Disk.image disk) (g.met.D.Disk.reads_an_image disk told) (g.D.Disk.content mid) (c.stage.ensures.others told) (c.in_ok-stage.ensures.staged told) (g.D.Disk.image mid)
    (c.in_ok-stage.ensures.durable told))
    (c.write_gate.ensures.any_moment told) in
    joined g.D.Disk.moment g.D.Disk.image_since disk mid new _ one two

batch : (g : Over) (c : After-write_gate g) → g.D.Disk.tells → batch_in (twin_area c.args.layout.now (g.D.Disk.content c.write_gate.new.disk)) ≡ batch_in c.args.area.now
batch g c told =
    gate_batch c.args.layout.now (g.D.Disk.content c.stage.new.disk) (g.D.Disk.content c.write_gate.new.disk) (batch_in c.args.area.now) c.requires.valid.few (c.write_gate.ensures.others told) (c.in_ok-stage.ensures.staged told)

pub returns-in_err-write_gate-clause-outside : goal.returns-in_err-write_gate-clause-outside
returns-in_err-write_gate-clause-outside g c told =
    front_stays c.args.layout.now (g.D.Disk.content c.args.disk.now) (g.D.Disk.content c.write_gate.new.disk) (both g (goal.at.returns-in_err-write_gate-clause-outside g c).After-write_gate told)

pub returns-in_err-write_gate-clause-any_moment : goal.returns-in_err-write_gate-clause-any_moment
returns-in_err-write_gate-clause-any_moment g c told =
    let here = goal.at.returns-in_err-write_gate-clause-any_moment g c in opened g here.After-write_gate told (staged g here.After-stage told)

pub finish-requires-clause-whole : goal.finish-requires-clause-whole
finish-requires-clause-whole g c told = (both g (goal.at.finish-requires-clause-whole g c).After-write_gate told).long ∙ c.requires.whole told

pub finish-requires-clause-staged : goal.finish-requires-clause-staged
finish-requires-clause-staged g c told = batch g (goal.at.finish-requires-clause-staged g c).After-write_gate told

-- steps three and four
pub returns-clause-written : goal.returns-clause-written
returns-clause-written g c told =
    let l = c.args.layout.now in
    let stay = homes_stay l (g.D.Disk.content c.args.disk.now) (g.D.Disk.content c.write_gate.new.disk) (both g (goal.at.returns-clause-written g c).After-write_gate told) in
    on_ok_weaker c.finish.result (λ homes which. homes which ∙ ap (with_batch (batch_in c.args.area.now) which) (stay which)) (c.finish.ensures.homes told)

-- The header is as the first step staged it, but for the gate.
pub returns-clause-left : goal.returns-clause-left
returns-clause-left g c told = on_ok c.finish.result (c.finish.ensures.left told)

pub returns-clause-spare : goal.returns-clause-spare
returns-clause-spare g c told =
    let l = c.args.layout.now in
    let staged = c.in_ok-stage.ensures in
    on_ok c.finish.result (c.finish.ensures.spare told (gate_spare l (g.D.Disk.content c.stage.new.disk) (g.D.Disk.content c.write_gate.new.disk) (batch_in c.args.area.now) c.requires.valid.few (c.write_gate.ensures.others told) (staged.staged told) (staged.spare told)))

pub returns-clause-outside : goal.returns-clause-outside
returns-clause-outside g c told =
    let l = c.args.layout.now in
    let old = g.D.Disk.content c.args.disk.now in
    let mid = g.D.Disk.content c.write_gate.new.disk in
    but_both (twin_offset l 0) (file_length l) old mid (g.D.Disk.content c.finish.new.disk) (front_stays l old mid (both g (goal.at.returns-clause-outside g c).After-write_gate told)) (c.finish.ensures.outside told)

pub returns-clause-any_moment : goal.returns-clause-any_moment
returns-clause-any_moment g c told =
    let so_far = goal.at.returns-clause-any_moment g c in
    let here = so_far.After-write_gate in
    let disk = c.args.disk.now in
    let mid = c.write_gate.new.disk in
    let new = c.finish.new.disk in
    let file = g.D.Disk.content disk in
    let last = weaker g.D.Disk.moment g.D.Disk.image_since mid new _ (TwinSome (g.D.Disk.image disk) c.args.layout.now (batch_in c.args.area.now) file)
    (write_finished c.args.layout.now (batch_in c.args.area.now) file c.requires.valid (c.requires.whole told) (g.D.Disk.image disk) (g.met.D.Disk.reads_an_image disk told) (g.D.Disk.content mid) (both g here told) (batch g here told) (g.D.Disk.image mid)
    (c.in_ok-write_gate.ensures.durable told) (c.in_ok-write_gate.ensures.gate told))
    (c.finish.ensures.any_moment told) in
    joined g.D.Disk.moment g.D.Disk.image_since disk mid new _ (opened g here told (staged g so_far.After-stage told)) last

pub returns-clause-counted : goal.returns-clause-counted
returns-clause-counted g c =
    subst (λ (n : ℕ). IsCounted n (g.D.Disk.faults c.finish.new.disk) c.finish.result) (c.in_ok-write_gate.ensures.counted.still ∙ c.in_ok-stage.ensures.counted.still) c.finish.ensures.counted
