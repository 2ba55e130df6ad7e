use Rattle.std.proofs.Common.{◌≡◌, ◌∙◌, ⊎_elim, ℕ, List, Some, inl, inr, sym, ap, subst, refl, false}
use Rattle.rb_layout.specs.declared.layout.Layout.{Layout}
use Rattle.rb_lines.specs.Ends.{EndsAs}
use Rattle.rb_lines.specs.Faults.{IsCountedBeside}
use Rattle.rb_lines.specs.Ran.{Ran}
use Rattle.rb_lines.specs.declared.lines.LinesEnd.{LinesEnd}
use Rattle.rb_lines.specs.declared.lines.LinesEnd.TheVariants as ends
use Rattle.rb_model.specs.Out.{Logged}
use Rattle.rb_model.specs.State.{State}
use Rattle.rb_calls.specs.Since.{engine_outside}
use Rattle.rb_shell.specs.Runs.{IsSound, IsWhole, first_of}
use Rattle.rb_store.specs.Meaning.{Opens}
use Rattle.rb_store.specs.contracts.store.LogStoreStore.TheImpl.{ghosts}
use Rattle.rb_shell.specs.Runs.{Endures, HasOpened, HasRun, Lasts, LastsBehind, LeftBehind, PassedOn, RanOn}
use Rattle.rb_shell.specs.Statuses.{AsksNothing, by_disk, by_sink}
use Rattle.rb_shell.specs.declared.status.Status.TheVariants.{Done}
use Rattle.rb_shell.proofs.RunLemmas.{endures, has_halted, has_run, rests_alone, rests_itself, was_cut_off}
use Rattle.rb_shell.proofs.StatusLemmas.{beside, counted_as, disk_by, done_by, long_by, sink_by, source_by, uncounted}
use Rattle.rb_shell.proofs.script.run_script.Given.{Over}
use Rattle.rb_shell.proofs.script.run_script.Goals.{After-close}
use Rattle.rb_shell.proofs.script.run_script.Goals as goal

-- what a crash leaves, whatever the source tells
module _ (g : Over) (c : After-close g) (disk : g.D.Disk.tells) (sound : IsSound (g.D.Disk.content c.args.disk)) where
  over : HasOpened g.D.Disk (ghosts g.row.D g.D.Disk g.D.Disk-dict) c.args.disk c.in-Ok-open_engine.engine sound
  over = c.in-Ok-open_engine.ensures.opened disk sound

  passed : PassedOn (ghosts g.row.D g.D.Disk g.D.Disk-dict) c.in-Ok-open_engine.engine.store c.run_engine-status.result.1 (first_of sound over.first) c.run_engine-status.result.0
  passed = c.run_engine-status.ensures.passed (first_of sound over.first) over.stands (ap (λ (h : State). h.stopped) sound.opening.state)

  left : LeftBehind g.D.Disk c.args.disk c.close.result sound
  left =
      let v = passed.crash disk in
      record {
        now = passed.now;
        endured = subst (λ d. Endures g.D.Disk c.args.disk d sound.store.layout sound.state passed.now) (sym c.close.ensures)
            (endures g.D.Disk c.args.disk (ghosts g.row.D g.D.Disk g.D.Disk-dict) c.in-Ok-open_engine.engine passed.now c.run_engine-status.result.1.disk sound over v.extends (record { later = v.any_moment.later; each = v.any_moment.each; earlier = v.any_moment.earlier }) v.now_only);
      }

  -- and where all is well, to the last group
  all_left : c.run_engine-status.result.0 ≡ Done → LastsBehind g.D.Disk c.args.disk c.close.result sound
  unfolding left
  all_left fine = record {
    now = left.now;
    lasted = record {
      endured = left.endured;
      last = λ file here. subst (λ (k : ℕ). IsWhole Opens (Some k) passed.now file) over.slots
          (passed.last disk fine file (subst (λ d. g.D.Disk.image d file) c.close.ensures here));
    };
  }

pub returns-in-Ok-open_engine-clause-endures : goal.returns-in-Ok-open_engine-clause-endures
returns-in-Ok-open_engine-clause-endures g c = λ disk asks sound. left g (goal.at.returns-in-Ok-open_engine-clause-endures g c).After-close disk sound

pub returns-in-Ok-open_engine-clause-endures_disk : goal.returns-in-Ok-open_engine-clause-endures_disk
returns-in-Ok-open_engine-clause-endures_disk g c = λ disk is sound. inr (left g (goal.at.returns-in-Ok-open_engine-clause-endures_disk g c).After-close disk sound)

pub returns-in-Ok-open_engine-clause-endures_done : goal.returns-in-Ok-open_engine-clause-endures_done
returns-in-Ok-open_engine-clause-endures_done g c = λ disk is sound. all_left g (goal.at.returns-in-Ok-open_engine-clause-endures_done g c).After-close disk sound is

pub returns-clause-endures_done : goal.returns-clause-endures_done
returns-clause-endures_done g c = λ disk is sound. absurd (c.status_of_fault.ensures.no_script (rw is tt))

pub returns-clause-endures : goal.returns-clause-endures
returns-clause-endures g c = λ disk asks sound. absurd (c.status_of_fault.ensures.no_script asks)

pub returns-clause-endures_disk : goal.returns-clause-endures_disk
returns-clause-endures_disk g c = λ disk is sound. inl ((c.in-Err.ensures.images disk).images sound)

module _ (g : Over) (c : After-close g) (disk : g.D.Disk.tells) (told : g.S.Source.tells) (sound : IsSound (g.D.Disk.content c.args.disk)) where
  opened : HasOpened g.D.Disk (ghosts g.row.D g.D.Disk g.D.Disk-dict) c.args.disk c.in-Ok-open_engine.engine sound
  opened = c.in-Ok-open_engine.ensures.opened disk sound

  did : RanOn (ghosts g.row.D g.D.Disk g.D.Disk-dict) c.in-Ok-open_engine.engine.store c.run_engine-status.result.1 engine_outside 65536 (first_of sound opened.first)
      (g.S.Source.left c.args.source.now) (g.S.Source.left c.run_engine-status.new.source) g.K.Sink.tells (g.K.Sink.held c.args.sink.now) (g.K.Sink.held c.run_engine-status.new.sink) c.run_engine-status.result.0
  did = c.run_engine-status.ensures.did told (first_of sound opened.first) opened.stands (ap (λ (h : State). h.stopped) sound.opening.state)

  -- it endures
  endured : Endures g.D.Disk c.args.disk c.close.result sound.store.layout sound.state did.now
  endured =
      let v = did.crash disk in
      subst (λ d. Endures g.D.Disk c.args.disk d sound.store.layout sound.state did.now) (sym c.close.ensures)
      (endures g.D.Disk c.args.disk (ghosts g.row.D g.D.Disk g.D.Disk-dict) c.in-Ok-open_engine.engine did.now c.run_engine-status.result.1.disk sound opened v.extends (record { later = v.any_moment.later; each = v.any_moment.each; earlier = v.any_moment.earlier }) v.now_only)

  -- and where all is well, to the last group
  lasts : c.run_engine-status.result.0 ≡ Done → Lasts g.D.Disk c.args.disk c.close.result sound.store.layout sound.state did.now
  lasts fine = record {
    endured = endured;
    last = λ file here. subst (λ (k : ℕ). IsWhole Opens (Some k) did.now file) opened.slots
        (did.last disk fine file (subst (λ d. g.D.Disk.image d file) c.close.ensures here));
  }

  -- how the lines ended
  ended : (end : LinesEnd) → did.end ≡ end
      → EndsAs engine_outside 65536 (first_of sound opened.first) did.now (g.S.Source.left c.args.source.now) (g.S.Source.left c.run_engine-status.new.source) g.K.Sink.tells (g.K.Sink.held c.args.sink.now) (g.K.Sink.held c.run_engine-status.new.sink) end
  ended end is = subst (λ (e : LinesEnd). EndsAs engine_outside 65536 (first_of sound opened.first) did.now (g.S.Source.left c.args.source.now) (g.S.Source.left c.run_engine-status.new.source) g.K.Sink.tells (g.K.Sink.held c.args.sink.now) (g.K.Sink.held c.run_engine-status.new.sink) e) is did.ends

  -- what was done over the engine was done over the file
  ran : (lines : List (List ℕ)) (left : Layout → State → Logged → Type 0) → Ran engine_outside (first_of sound opened.first) did.now lines g.K.Sink.tells (g.K.Sink.held c.args.sink.now) (g.K.Sink.held c.run_engine-status.new.sink) → did.now.state.stopped ≡ false
      → left sound.store.layout sound.state did.now → HasRun sound lines g.K.Sink.tells (g.K.Sink.held c.args.sink.now) (g.K.Sink.held c.run_engine-status.new.sink) left
  ran lines left r going is = has_run g.D.Disk c.args.disk (ghosts g.row.D g.D.Disk g.D.Disk-dict) c.in-Ok-open_engine.engine sound opened did.now lines g.K.Sink.tells _ _ left r going is

pub returns-in-Ok-open_engine-clause-done : goal.returns-in-Ok-open_engine-clause-done
returns-in-Ok-open_engine-clause-done g c = λ disk told is sound.
    let a = (goal.at.returns-in-Ok-open_engine-clause-done g c).After-close in
    let d = did g a disk told sound in
    let e = ended g a disk told sound ends.Done (done_by d.end _ is d.is) in
    ran g a disk told sound _ (Lasts g.D.Disk c.args.disk c.close.result) e.0 e.1 (lasts g a disk told sound is)

pub returns-in-Ok-open_engine-clause-source_done : goal.returns-in-Ok-open_engine-clause-source_done
returns-in-Ok-open_engine-clause-source_done g c = λ disk told is sound.
    let a = (goal.at.returns-in-Ok-open_engine-clause-source_done g c).After-close in
    let d = did g a disk told sound in
    let e = ended g a disk told sound ends.SourceFault (source_by d.end _ is d.is) in
    (e.0, e.1.split, ran g a disk told sound _ (Endures g.D.Disk c.args.disk c.close.result) e.1.ran e.1.going (endured g a disk told sound))

pub returns-in-Ok-open_engine-clause-too_long : goal.returns-in-Ok-open_engine-clause-too_long
returns-in-Ok-open_engine-clause-too_long g c = λ disk told is sound.
    let a = (goal.at.returns-in-Ok-open_engine-clause-too_long g c).After-close in
    let d = did g a disk told sound in
    let e = ended g a disk told sound ends.TooLong (long_by d.end _ is d.is) in
    (e.0, e.1, e.2.split, ran g a disk told sound _ (Endures g.D.Disk c.args.disk c.close.result) e.2.ran e.2.going (endured g a disk told sound))

pub returns-in-Ok-open_engine-clause-disk_done : goal.returns-in-Ok-open_engine-clause-disk_done
returns-in-Ok-open_engine-clause-disk_done g c = λ disk told is. inr (λ sound.
    let a = (goal.at.returns-in-Ok-open_engine-clause-disk_done g c).After-close in
    let d = did g a disk told sound in
    ⊎_elim
    (λ (line : d.end ≡ ends.DiskFault). inl (has_halted g.D.Disk c.args.disk (ghosts g.row.D g.D.Disk g.D.Disk-dict) c.in-Ok-open_engine.engine sound (opened g a disk told sound) d.now _ _ g.K.Sink.tells _ _ _ (ended g a disk told sound ends.DiskFault line) (endured g a disk told sound)))
    (λ (behind : d.end ≡ ends.Done).
    let e = ended g a disk told sound ends.Done behind in
    inr (record { run = ran g a disk told sound _ (Endures g.D.Disk c.args.disk c.close.result) e.0 e.1 (endured g a disk told sound); all_taken = d.all_taken behind }))
    (disk_by d.end _ is d.is))

pub returns-in-Ok-open_engine-clause-cut_off : goal.returns-in-Ok-open_engine-clause-cut_off
returns-in-Ok-open_engine-clause-cut_off g c = λ disk told tells is sound.
    let a = (goal.at.returns-in-Ok-open_engine-clause-cut_off g c).After-close in
    let d = did g a disk told sound in
    let e = ended g a disk told sound ends.SinkFault (sink_by d.end _ is d.is) in
    was_cut_off g.D.Disk c.args.disk (ghosts g.row.D g.D.Disk g.D.Disk-dict) c.in-Ok-open_engine.engine sound (opened g a disk told sound) d.now _ _ _ _ _ (e tells)
    (record {
      endured = endured g a disk told sound;
      still = λ on. ap (λ d. g.D.Disk.faults d) c.close.ensures ∙ d.still is on ∙ c.in-Ok-open_engine.ensures.counted_ok;
    })

pub returns-in-Ok-open_engine-clause-store : goal.returns-in-Ok-open_engine-clause-store
returns-in-Ok-open_engine-clause-store g c = λ disk asks. c.in-Ok-open_engine.ensures.store disk

pub returns-in-Ok-open_engine-clause-ends : goal.returns-in-Ok-open_engine-clause-ends
returns-in-Ok-open_engine-clause-ends g c = c.run_engine-status.ensures.ends

pub returns-in-Ok-open_engine-clause-source : goal.returns-in-Ok-open_engine-clause-source
returns-in-Ok-open_engine-clause-source g c = c.run_engine-status.ensures.source

pub returns-in-Ok-open_engine-clause-sink : goal.returns-in-Ok-open_engine-clause-sink
returns-in-Ok-open_engine-clause-sink g c = c.run_engine-status.ensures.sink

pub returns-in-Ok-open_engine-clause-disk : goal.returns-in-Ok-open_engine-clause-disk
returns-in-Ok-open_engine-clause-disk g c =
    subst (λ d. IsCountedBeside (g.D.Disk.faults c.args.disk) (g.D.Disk.faults d) (by_disk c.run_engine-status.result.0) (by_sink c.run_engine-status.result.0)) (sym c.close.ensures)
    (subst (λ (n : ℕ). IsCountedBeside n (g.D.Disk.faults c.run_engine-status.result.1.disk) (by_disk c.run_engine-status.result.0) (by_sink c.run_engine-status.result.0)) c.in-Ok-open_engine.ensures.counted_ok c.run_engine-status.ensures.disk)

pub returns-clause-done : goal.returns-clause-done
returns-clause-done g c = λ disk told is sound. absurd (c.status_of_fault.ensures.no_script (rw is tt))

pub returns-clause-at_end : goal.returns-clause-at_end
returns-clause-at_end g c = λ told is. absurd (c.status_of_fault.ensures.no_script (rw is tt))

pub returns-clause-few : goal.returns-clause-few
returns-clause-few g c = λ told is. absurd (c.status_of_fault.ensures.no_script (rw is tt))

pub returns-clause-source_done : goal.returns-clause-source_done
returns-clause-source_done g c = λ disk told is sound. absurd (c.status_of_fault.ensures.no_script (rw is tt))

pub returns-clause-too_long : goal.returns-clause-too_long
returns-clause-too_long g c = λ disk told is sound. absurd (c.status_of_fault.ensures.no_script (rw is tt))

pub returns-clause-cut_off : goal.returns-clause-cut_off
returns-clause-cut_off g c = λ disk told tells is sound. absurd (c.status_of_fault.ensures.no_script (rw is tt))

pub returns-clause-untouched : goal.returns-clause-untouched
returns-clause-untouched g c = λ disk asks. c.in-Err.ensures.left_alone disk (λ is. c.status_of_fault.ensures.not_asked is asks)

pub returns-clause-not_a_store : goal.returns-clause-not_a_store
returns-clause-not_a_store g c = λ disk is sound. c.in-Err.ensures.none disk (c.status_of_fault.ensures.none is) sound

pub returns-clause-store : goal.returns-clause-store
returns-clause-store g c = λ disk asks. absurd (c.status_of_fault.ensures.no_script asks)

pub returns-clause-source : goal.returns-clause-source
returns-clause-source g c = uncounted _ _ _ c.status_of_fault.ensures.by_source refl

pub returns-clause-sink : goal.returns-clause-sink
returns-clause-sink g c = uncounted _ _ _ c.status_of_fault.ensures.by_sink refl

pub returns-clause-disk : goal.returns-clause-disk
returns-clause-disk g c = beside _ _ _ _ (counted_as _ _ _ _ (sym c.status_of_fault.ensures.by_disk) c.in-Err.ensures.counted_err)

pub returns-in_default-clause-untouched : goal.returns-in_default-clause-untouched
returns-in_default-clause-untouched g c = λ told asks. rests_alone g.D.Disk c.args.disk c.args.disk (λ image left. g.met.D.Disk.only_now c.args.disk image told left) (rests_itself g.D.Disk c.args.disk)

pub returns-in-Ok-open_engine-clause-not_a_store : goal.returns-in-Ok-open_engine-clause-not_a_store
returns-in-Ok-open_engine-clause-not_a_store g c = λ told is. absurd (c.run_engine-status.ensures.asks (subst AsksNothing (sym is) tt))
