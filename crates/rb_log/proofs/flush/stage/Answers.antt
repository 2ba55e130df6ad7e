use Rattle.std.proofs.Common.{◌≡◌, ◌≤◌, ◌+◌, ◌-◌, ◌∙◌, ℕ, List, length, take, drop, ap, sym, refl, arith, subst}
use Rattle.std.proofs.lemmas.Result.{on_ok_weaker}
use Rattle.rb_base.specs.Moments.{goes_on}
use Rattle.rb_log.specs.GroupSlots.{StagedFrom}
use Rattle.rb_log.specs.WaitingUnits.{UnitsWritten}
use Rattle.rb_log.proofs.GroupRuns.{none_staged, more_moment, more_staged, all_written}
use Rattle.rb_log.proofs.flush.stage.Given.{Over}
use Rattle.rb_log.proofs.flush.stage.Goals.{After-run_length-count}
use Rattle.rb_log.proofs.flush.stage.Goals as goal

pub loop-done-init : goal.loop-done-init
loop-done-init g c = record {
  within = omega arith;
  so_far = λ slot room told. none_staged c.args.layout.now c.args.head slot c.args.used c.args.units.now room g.D.Disk c.args.disk.now (λ f left. g.met.D.Disk.only_now c.args.disk.now f told left) (c.requires.whole told);
  still = refl;
}

-- how long the next run is
within : (g : Over) (c : After-run_length-count g) → c.loop-done.done + c.run_length-count.result ≤ length c.args.units.now
within g c = omega (arith, c.run_length-count.ensures, c.loop-done-test.true)

run_is : (g : Over) (c : After-run_length-count g) (end : ℕ) → end ≡ c.loop-done.done + c.run_length-count.result → take (end - c.loop-done.done) (drop c.loop-done.done c.args.units.now) ≡ take c.run_length-count.result (drop c.loop-done.done c.args.units.now)
run_is g c end is = ap (λ (n : ℕ). take n (drop c.loop-done.done c.args.units.now)) (omega (arith, is))

pub write_run-requires-clause-whole : goal.write_run-requires-clause-whole
write_run-requires-clause-whole g c told = (c.loop-done.invariant.so_far c.requires.slot c.requires.room told).whole

pub write_run-requires-clause-sized : goal.write_run-requires-clause-sized
write_run-requires-clause-sized g c told k left =
    let from = (c.loop-done.invariant.so_far c.requires.slot c.requires.room told).images k left in
    from.2.outside.long ∙ c.requires.sized told from.0 from.1

pub returns-in_err-write_run-clause-any_moment : goal.returns-in_err-write_run-clause-any_moment
returns-in_err-write_run-clause-any_moment g c told =
    let here = (goal.at.returns-in_err-write_run-clause-any_moment g c).After-run_length-count in
    let r = c.requires in
    more_moment c.args.layout.now c.args.head r.slot c.args.used c.args.units.now r.room g.D.Disk _ c.loop-done.done c.run_length-count.result (within g here) (run_is g here _ refl) c.args.disk.now c.loop-done.disk c.write_run.new.disk
    (c.loop-done.invariant.so_far r.slot r.room told) (c.write_run.ensures.any_moment told)

pub loop-done-preserved : goal.loop-done-preserved
loop-done-preserved g c =
    let here = (goal.at.loop-done-preserved g c).After-run_length-count in
    let did = c.in_ok-write_run.ensures in record {
      within = within g here;
      so_far = λ slot room told.
          more_staged c.args.layout.now c.args.head slot c.args.used c.args.units.now room g.D.Disk _ c.loop-done.done c.run_length-count.result (within g here) (run_is g here _ refl) c.args.disk.now c.loop-done.disk c.write_run.new.disk
          (c.loop-done.invariant.so_far slot room told) (did.written told) (did.any_moment told) (did.images told) (did.whole told);
      still = did.counted.still ∙ c.loop-done.invariant.still;
    }

-- all runs are written
pub returns-clause-written : goal.returns-clause-written
returns-clause-written g c told =
    let r = c.requires in
    let l = c.args.layout.now in
    let file = g.D.Disk.content c.args.disk.now in
    on_ok_weaker c.sync.result (λ only.
    subst (λ (now : List ℕ). UnitsWritten l c.args.head c.args.used c.args.units.now file now) (sym (c.sync.ensures.content told))
    (all_written l c.args.head r.slot c.args.used c.args.units.now r.room c.loop-done.done file (g.D.Disk.content c.loop-done.disk) (omega (arith, c.loop-done.invariant.within, c.loop-done-test.false)) (c.loop-done.invariant.so_far r.slot r.room told).file))
    (c.sync.ensures.durable told)

pub returns-clause-whole : goal.returns-clause-whole
returns-clause-whole g c told = ap length (c.sync.ensures.content told) ∙ (c.loop-done.invariant.so_far c.requires.slot c.requires.room told).whole

pub returns-clause-any_moment : goal.returns-clause-any_moment
returns-clause-any_moment g c told =
    let so_far = c.loop-done.invariant.so_far c.requires.slot c.requires.room told in
    goes_on g.D.Disk.moment g.D.Disk.image_since c.args.disk.now c.loop-done.disk c.sync.new.self (StagedFrom c.args.layout.now c.args.head c.args.used (length c.args.units.now) (g.D.Disk.image c.args.disk.now)) _ so_far.any_moment (c.sync.ensures.time told)
    (λ d left. so_far.images d (c.sync.ensures.images told d left))
