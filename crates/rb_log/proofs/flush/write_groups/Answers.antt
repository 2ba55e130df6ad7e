use Rattle.std.proofs.Common.{take, ◌<◌, ℕ, List, length, ◌≡◌, ◌∙◌, sym, arith, refl, subst}
use Rattle.std.proofs.lemmas.Bool.Decides.{nat_tests}
use Rattle.std.proofs.lemmas.List.{length-take-le}
use Rattle.std.proofs.lemmas.Result.{on_ok_weaker}
use Rattle.rb_base.specs.Moments.{LeavesOnly, begun, weaker, joined}
use Rattle.rb_log.specs.GroupSlots.{StagedFrom}
use Rattle.rb_log.specs.Slots.{SameSlots}
use Rattle.rb_log.specs.WaitingUnits.{groups_in}
use Rattle.rb_log.proofs.WaitingLemmas.{as_many, front_bodies}
use Rattle.rb_log.proofs.GroupFlush.{AreStaged, FlushPlan, nothing_flushed, units_staged, gate_staged, flushed_units, flushed_log, one_interrupted, two_interrupted}
use Rattle.rb_log.proofs.flush.write_groups.Given.{Over}
use Rattle.rb_log.proofs.flush.write_groups.Goals.{After-stage, After-open_gate}
use Rattle.rb_log.proofs.flush.write_groups.Goals as goal

pub returns-then-count-eq0-clause-any_moment : goal.returns-then-count-eq0-clause-any_moment
returns-then-count-eq0-clause-any_moment g c told before counts log =
    let disk = c.args.disk.now in
    begun g.D.Disk.moment g.D.Disk.image_since disk _
    (λ d left. nothing_flushed c.args.layout.now c.args.head (g.D.Disk.content disk) (g.D.Disk.image disk) before (groups_in (take c.args.count c.args.units.now)) c.requires.slot (c.requires.synced told) log d (g.met.D.Disk.only_now disk d told left))

-- the units that are written, and their groups
many : (g : Over) (c : After-stage g) → length c.set_gates.new.units ≡ length (groups_in (take c.args.count c.args.units.now))
many g c = omega (arith, c.set_gates.auto.units, as_many (take c.args.count c.args.units.now))

-- what is written where
planned : (g : Over) (c : After-stage g) → g.D.Disk.tells → FlushPlan c.args.layout.now c.args.head c.args.used (groups_in (take c.args.count c.args.units.now)) (g.D.Disk.content c.args.disk.now)
planned g c told = record {
  slot = c.requires.slot;
  room = c.requires.room;
  small = c.requires.small;
  some = grind (arith, nat_tests, c.if-count-eq0.false, as_many (take c.args.count c.args.units.now), length-take-le c.args.count c.args.units.now c.requires.within);
  each = c.requires.each;
  whole = c.requires.whole told;
}

pub stage-requires-clause-room : goal.stage-requires-clause-room
stage-requires-clause-room g c = omega (arith, c.requires.room, c.set_gates.auto.units, as_many (take c.args.count c.args.units.now))

pub stage-requires-clause-sized : goal.stage-requires-clause-sized
stage-requires-clause-sized g c told k left = (c.requires.synced told k left).long ∙ c.requires.whole told

pub open_gate-requires-clause-place : goal.open_gate-requires-clause-place
open_gate-requires-clause-place g c = omega (arith, c.requires.room)

-- what a crash in step one leaves
staging : (g : Over) (c : After-stage g) → g.D.Disk.tells → LeavesOnly g.D.Disk.moment g.D.Disk.image_since c.args.disk.now c.stage.new.disk (StagedFrom c.args.layout.now c.args.head c.args.used (length (groups_in (take c.args.count c.args.units.now))) (g.D.Disk.image c.args.disk.now))
staging g c told = subst (λ (n : ℕ). LeavesOnly g.D.Disk.moment g.D.Disk.image_since c.args.disk.now c.stage.new.disk (StagedFrom c.args.layout.now c.args.head c.args.used n (g.D.Disk.image c.args.disk.now))) (many g c) (c.stage.ensures.any_moment told)

pub returns-in_err-stage-clause-any_moment : goal.returns-in_err-stage-clause-any_moment
returns-in_err-stage-clause-any_moment g c told before counts log =
    let disk = c.args.disk.now in
    let here = (goal.at.returns-in_err-stage-clause-any_moment g c).After-stage in
    let one = one_interrupted _ _ _ _ _ (planned g here told) before counts log (g.D.Disk.image disk) (c.requires.synced told) in
    weaker g.D.Disk.moment g.D.Disk.image_since disk c.stage.new.disk _ _ one (staging g here told)

-- What stands in the file between the steps, and then with any first gate.
staged : (g : Over) (c : After-open_gate g) → g.D.Disk.tells → AreStaged c.args.layout.now c.args.head c.args.used (groups_in (take c.args.count c.args.units.now)) (g.D.Disk.content c.args.disk.now) (g.D.Disk.content c.stage.new.disk)
staged g c told =
    let units = take c.args.count c.args.units.now in
    let some : 0 < length units = grind (arith, nat_tests, c.if-count-eq0.false, length-take-le c.args.count c.args.units.now c.requires.within) in
    units_staged c.args.layout.now c.args.head c.args.used units c.set_gates.new.units (g.D.Disk.content c.args.disk.now) (g.D.Disk.content c.stage.new.disk) c.set_gates.ensures.bodies c.set_gates.auto.units some c.requires.spelled c.set_gates.ensures.gates
    (c.in_ok-stage.ensures.written told)

opening : (g : Over) (c : After-open_gate g) → FlushPlan c.args.layout.now c.args.head c.args.used (groups_in (take c.args.count c.args.units.now)) (g.D.Disk.content c.args.disk.now) → g.D.Disk.tells → LeavesOnly g.D.Disk.moment g.D.Disk.image_since c.stage.new.disk c.open_gate.new.disk (AreStaged c.args.layout.now c.args.head c.args.used (groups_in (take c.args.count c.args.units.now)) (g.D.Disk.content c.args.disk.now))
opening g c plan told =
    weaker g.D.Disk.moment g.D.Disk.image_since c.stage.new.disk c.open_gate.new.disk _ _ (λ k same. gate_staged _ _ _ _ _ plan (g.D.Disk.content c.stage.new.disk) k (staged g c told) same) (c.open_gate.ensures.any_moment told)

pub returns-clause-any_moment : goal.returns-clause-any_moment
returns-clause-any_moment g c told before counts log =
    let disk = c.args.disk.now in
    let mid = c.stage.new.disk in
    let new = c.open_gate.new.disk in
    let image = g.D.Disk.image disk in
    let here = (goal.at.returns-clause-any_moment g c).After-stage in
    let plan = planned g here told in
    let one = one_interrupted _ _ _ _ _ plan before counts log image (c.requires.synced told) in
    let two = two_interrupted _ _ _ _ _ plan before counts log image (g.met.D.Disk.reads_an_image disk told) in
    let first = weaker g.D.Disk.moment g.D.Disk.image_since disk mid _ _ one (staging g here told) in
    let second = weaker g.D.Disk.moment g.D.Disk.image_since mid new _ _ two (opening g (goal.at.returns-clause-any_moment g c).After-open_gate (planned g (goal.at.returns-clause-any_moment g c).After-stage told) told) in
    joined g.D.Disk.moment g.D.Disk.image_since disk mid new _ first second

-- what stands in it at the end
ended : (g : Over) (c : After-open_gate g) → FlushPlan c.args.layout.now c.args.head c.args.used (groups_in (take c.args.count c.args.units.now)) (g.D.Disk.content c.args.disk.now) → g.D.Disk.tells → AreStaged c.args.layout.now c.args.head c.args.used (groups_in (take c.args.count c.args.units.now)) (g.D.Disk.content c.args.disk.now) (g.D.Disk.content c.open_gate.new.disk)
ended g c plan told = gate_staged _ _ _ _ _ plan (g.D.Disk.content c.stage.new.disk) (g.D.Disk.content c.open_gate.new.disk) (staged g c told) (c.open_gate.ensures.same told)

pub returns-clause-written : goal.returns-clause-written
returns-clause-written g c told =
    let plan = planned g (goal.at.returns-clause-written g c).After-stage told in
    let now = ended g (goal.at.returns-clause-written g c).After-open_gate (planned g (goal.at.returns-clause-written g c).After-stage told) told in
    on_ok_weaker c.open_gate.result (λ opened before counts log. flushed_log _ _ _ _ _ plan before counts log (g.D.Disk.content c.open_gate.new.disk) now opened) (c.open_gate.ensures.opened told)

pub returns-clause-units : goal.returns-clause-units
returns-clause-units g c told =
    let plan = planned g (goal.at.returns-clause-units g c).After-stage told in
    let now = ended g (goal.at.returns-clause-units g c).After-open_gate (planned g (goal.at.returns-clause-units g c).After-stage told) told in
    on_ok_weaker c.open_gate.result (λ opened. flushed_units _ _ _ _ _ plan (g.D.Disk.content c.open_gate.new.disk) now opened) (c.open_gate.ensures.opened told)

pub returns-clause-closed : goal.returns-clause-closed
returns-clause-closed g c told =
    let now = ended g (goal.at.returns-clause-closed g c).After-open_gate (planned g (goal.at.returns-clause-closed g c).After-stage told) told in
    on_ok_weaker c.open_gate.result (λ opened some. now.after) (c.open_gate.ensures.opened told)

pub returns-clause-others : goal.returns-clause-others
returns-clause-others g c told =
    let now = ended g (goal.at.returns-clause-others g c).After-open_gate (planned g (goal.at.returns-clause-others g c).After-stage told) told in
    on_ok_weaker c.open_gate.result (λ opened some. now.others) (c.open_gate.ensures.opened told)

pub returns-clause-outside : goal.returns-clause-outside
returns-clause-outside g c told =
    let now = ended g (goal.at.returns-clause-outside g c).After-open_gate (planned g (goal.at.returns-clause-outside g c).After-stage told) told in
    on_ok_weaker c.open_gate.result (λ opened. now.others.outside) (c.open_gate.ensures.opened told)

pub returns-clause-whole : goal.returns-clause-whole
returns-clause-whole g c told = (c.open_gate.ensures.same told).outside.long ∙ c.stage.ensures.whole told

pub returns-clause-durable : goal.returns-clause-durable
returns-clause-durable g c told =
    let new = g.D.Disk.content c.open_gate.new.disk in
    on_ok_weaker c.open_gate.result (λ only k left. subst (λ (h : List ℕ). SameSlots c.args.layout.now.log new h) (sym (only k left)) (record { long = refl; same = refl })) (c.open_gate.ensures.durable told)

pub returns-clause-only : goal.returns-clause-only
returns-clause-only g c told = on_ok_weaker c.open_gate.result (λ only before. only) (c.open_gate.ensures.durable told)

-- outside the log an image is one of before, whatever the log has
pub returns-then-count-eq0-clause-images : goal.returns-then-count-eq0-clause-images
returns-then-count-eq0-clause-images g c told =
    let disk = c.args.disk.now in
    begun g.D.Disk.moment g.D.Disk.image_since disk _
    (λ d left. (d, g.met.D.Disk.only_now disk d told left, record { long = refl; before = refl; behind = refl }))

pub returns-in_err-stage-clause-images : goal.returns-in_err-stage-clause-images
returns-in_err-stage-clause-images g c told =
    weaker g.D.Disk.moment g.D.Disk.image_since c.args.disk.now c.stage.new.disk _ _ (λ d some. (some.0, some.1, some.2.outside)) (c.stage.ensures.any_moment told)

pub returns-clause-images : goal.returns-clause-images
returns-clause-images g c told =
    let disk = c.args.disk.now in
    let mid = c.stage.new.disk in
    let new = c.open_gate.new.disk in
    let file = g.D.Disk.content disk in
    let first = weaker g.D.Disk.moment g.D.Disk.image_since disk mid _ _ (λ d some. (some.0, some.1, some.2.outside)) (c.stage.ensures.any_moment told) in
    let second = weaker g.D.Disk.moment g.D.Disk.image_since mid new _ _ (λ d was. (file, g.met.D.Disk.reads_an_image disk told, was.others.outside))
    (opening g (goal.at.returns-clause-images g c).After-open_gate (planned g (goal.at.returns-clause-images g c).After-stage told) told) in
    joined g.D.Disk.moment g.D.Disk.image_since disk mid new _ first second

-- the units have the bodies that they had
pub returns-in_err-stage-clause-bodies : goal.returns-in_err-stage-clause-bodies
returns-in_err-stage-clause-bodies g c = front_bodies c.args.units.now c.set_gates.new.units c.args.count c.set_gates.ensures.bodies

pub returns-clause-bodies : goal.returns-clause-bodies
returns-clause-bodies g c = front_bodies c.args.units.now c.set_gates.new.units c.args.count c.set_gates.ensures.bodies
