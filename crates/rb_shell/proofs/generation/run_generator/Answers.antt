use Rattle.std.proofs.Common.{◌≡◌, ◌≢◌, ◌∙◌, refl, ℕ, Bool, false, Some, inl, inr, sym, ap, subst}
use Rattle.rb_model.specs.State.{State}
use Rattle.rb_calls.specs.Since.{engine_outside}
use Rattle.rb_shell.specs.Statuses.{AsksScript, TellsCounts}
use Rattle.rb_shell.proofs.GenerationLemmas.{no_counts, same_made}
use Rattle.rb_shell.proofs.RunLemmas.{endures}
use Rattle.rb_shell.specs.Generation.{HasMade, MadeOn}
use Rattle.rb_shell.specs.Runs.{Endures, HasOpened, IsSound, IsWhole, Lasts, first_of}
use Rattle.rb_shell.specs.declared.status.Status.TheVariants.{Done, DiskFault, SinkFault}
use Rattle.rb_store.specs.Meaning.{Opens}
use Rattle.rb_store.specs.contracts.store.LogStoreStore.TheImpl.{ghosts}
use Rattle.rb_shell.proofs.generation.run_generator.Given.{Over}
use Rattle.rb_shell.proofs.generation.run_generator.Goals.{After-close}
use Rattle.rb_shell.proofs.generation.run_generator.Goals as goal

module _ (g : Over) (c : After-close g) (disk : g.D.Disk.tells) (sound : IsSound (g.D.Disk.content c.args.disk)) where
  opened : HasOpened g.D.Disk (ghosts g.row.D g.D.Disk g.D.Disk-dict) c.args.disk c.in-Ok.engine sound
  opened = c.in-Ok.ensures.opened disk sound

  did : MadeOn (ghosts g.row.D g.D.Disk g.D.Disk-dict) c.in-Ok.engine.store c.make_commands-status.result.1 engine_outside c.args.commands (first_of sound opened.first)
      g.K.Sink.tells (g.K.Sink.held c.args.sink.now) (g.K.Sink.held c.make_commands-status.new.sink) c.make_commands-status.result.0
  did = c.make_commands-status.ensures.did (first_of sound opened.first) opened.stands (ap (λ (h : State). h.stopped) sound.opening.state)

  -- it endures
  endured : Endures g.D.Disk c.args.disk c.close.result sound.store.layout sound.state did.made.now
  endured =
      let v = did.crash disk in
      subst (λ d. Endures g.D.Disk c.args.disk d sound.store.layout sound.state did.made.now) (sym c.close.ensures)
      (endures g.D.Disk c.args.disk (ghosts g.row.D g.D.Disk g.D.Disk-dict) c.in-Ok.engine did.made.now c.make_commands-status.result.1.disk sound opened v.extends (record { later = v.any_moment.later; each = v.any_moment.each; earlier = v.any_moment.earlier }) v.now_only)

  -- and where the disk never failed, to the last group
  lasts : c.make_commands-status.result.0 ≢ DiskFault → Lasts g.D.Disk c.args.disk c.close.result sound.store.layout sound.state did.made.now
  lasts fine = record {
    endured = endured;
    last = λ file here. subst (λ (k : ℕ). IsWhole Opens (Some k) did.made.now file) opened.slots
        (did.last disk fine file (subst (λ d. g.D.Disk.image d file) c.close.ensures here));
  }

  -- the commands over the file
  abbrev made : (fault : Bool) → did.fault ≡ fault → HasMade engine_outside (first_of sound opened.first) c.args.commands fault
  made fault is = same_made g.D.Disk c.args.disk (ghosts g.row.D g.D.Disk g.D.Disk-dict) c.in-Ok.engine sound opened c.args.commands did.fault fault is did.made

pub returns-in-Ok-clause-done : goal.returns-in-Ok-clause-done
returns-in-Ok-clause-done g c = λ disk is sound.
    let a = (goal.at.returns-in-Ok-clause-done g c).After-close in
    let d = did g a disk sound in
    let fine : c.make_commands-status.result.0 ≢ DiskFault = λ fault. (let clash : Done ≡ DiskFault = sym is ∙ fault in cc) in
    record { over = record { first = (opened g a disk sound).first; made = made g a disk sound false (d.all fine); endured = lasts g a disk sound fine }; written = d.told is }

pub returns-in-Ok-clause-cut_off : goal.returns-in-Ok-clause-cut_off
returns-in-Ok-clause-cut_off g c = λ disk tells is sound.
    let a = (goal.at.returns-in-Ok-clause-cut_off g c).After-close in
    let d = did g a disk sound in
    let fine : c.make_commands-status.result.0 ≢ DiskFault = λ fault. (let clash : SinkFault ≡ DiskFault = sym is ∙ fault in cc) in
    let cut = d.cut is tells in
    record { over = record { first = (opened g a disk sound).first; made = made g a disk sound false (d.all fine); endured = lasts g a disk sound fine }; size = cut.0; written = cut.1 }

pub returns-in-Ok-clause-endures : goal.returns-in-Ok-clause-endures
returns-in-Ok-clause-endures g c = λ disk tells sound.
    let a = (goal.at.returns-in-Ok-clause-endures g c).After-close in
    record { now = (did g a disk sound).made.now; lasted = lasts g a disk sound (λ fault. subst TellsCounts fault tells) }

pub returns-in-Ok-clause-endures_disk : goal.returns-in-Ok-clause-endures_disk
returns-in-Ok-clause-endures_disk g c = λ disk is sound.
    let a = (goal.at.returns-in-Ok-clause-endures_disk g c).After-close in
    inr (record { now = (did g a disk sound).made.now; endured = endured g a disk sound })

pub returns-in-Err-clause-endures : goal.returns-in-Err-clause-endures
returns-in-Err-clause-endures g c = λ disk tells sound. absurd (no_counts c.in-Err.fault c.status_of_fault.result c.status_of_fault.ensures.is tells)

pub returns-in-Err-clause-endures_disk : goal.returns-in-Err-clause-endures_disk
returns-in-Err-clause-endures_disk g c = λ disk is sound. inl ((c.in-Err.ensures.images disk).images sound)

pub returns-in-Ok-clause-disk_done : goal.returns-in-Ok-clause-disk_done
returns-in-Ok-clause-disk_done g c = λ disk is. inr (λ sound.
    let a = (goal.at.returns-in-Ok-clause-disk_done g c).After-close in
    let d = did g a disk sound in
    (d.fault, record { first = (opened g a disk sound).first; made = made g a disk sound d.fault refl; endured = endured g a disk sound }))

pub returns-in-Err-clause-done : goal.returns-in-Err-clause-done
returns-in-Err-clause-done g c = λ told is. absurd (c.status_of_fault.ensures.no_script (subst AsksScript (sym is) tt))

pub returns-in-Err-clause-not_a_store : goal.returns-in-Err-clause-not_a_store
returns-in-Err-clause-not_a_store g c = λ told is. c.in-Err.ensures.none told (c.status_of_fault.ensures.none is)
