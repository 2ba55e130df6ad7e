use Rattle.std.proofs.Common.{◌≡◌, ◌≢◌, ◌∙◌, ⊎_elim, ap, sym, subst, ℕ, Option}
use Rattle.rb_lines.specs.Ends.{EndsAs}
use Rattle.rb_lines.specs.Ends as lines
use Rattle.rb_lines.specs.Faults.{IsCountedBeside}
use Rattle.rb_lines.specs.declared.lines.LinesEnd.{LinesEnd}
use Rattle.rb_lines.specs.declared.lines.LinesEnd.TheVariants as ends
use Rattle.law_crash.proofs.Crashes.{survives_on}
use Rattle.law_crash.specs.Crash.{Survives}
use Rattle.rb_shell.specs.Runs.{IsWhole, MadeLast}
use Rattle.rb_calls.specs.Since.{engine_outside}
use Rattle.rb_shell.specs.Statuses.{by_disk, by_sink, by_source}
use Rattle.rb_shell.specs.declared.status.Status.TheVariants as statuses
use Rattle.rb_shell.proofs.StatusLemmas.{cases_end, counted_as, counted_beside, counted_on, disk_of, done_by, done_of, last_sink, last_source, line_ends, sink_by, sink_of, source_of}
use Rattle.rb_shell.proofs.script.run_engine.Goals as goal

pub returns-clause-did : goal.returns-clause-did
returns-clause-did g c = λ t m is going.
    let s = g.T.Store in
    let old = c.args.engine.store in
    let mid = c.run_lines-end.new.runner.engine.store in
    let new = c.end_script-status.new.engine.store in
    let end = c.run_lines-end.result in
    let status = c.end_script-status.result in
    let e = c.end_script-status.ensures in
    let d = c.run_lines-end.ensures.did t m is going in
    let ends_as : ℕ → LinesEnd → Type 0 = λ n x. EndsAs engine_outside n m d.now (g.S.Source.left c.args.source.now) (g.S.Source.left c.run_lines-end.new.source) g.K.Sink.tells (g.K.Sink.held c.args.sink.now) (g.K.Sink.held c.run_lines-end.new.sink) x in
    let ran = subst (λ (n : ℕ). ends_as n end) c.requires.buffer d.ran in
    let crash : (s.keeps → Survives s (s.slots old) d.now.fault m.state d.now.state old new) × (s.keeps → status ≡ statuses.Done → (i : s.image) → s.left new i → IsWhole s.opens (s.slots old) d.now i) = ⊎_elim
    (λ (done : end ≡ ends.Done).
    let all = subst (ends_as _) done ran in
    let made : MadeLast s mid new d.now status = e.lasts done d.now d.reached all.1 in (
      λ kept. survives_on s (s.slots old) m.state d.now.state d.now.state old mid new all.1 (d.passed.crash kept) (subst (λ (k : _). Survives s k d.now.fault d.now.state d.now.state mid new) d.passed.same.slots (made.crash d.now.fault kept)),
      λ kept fine i here. subst (λ (k : Option ℕ). IsWhole s.opens k d.now i) d.passed.same.slots (made.last kept fine i here),
    ))
    (λ (other : end ≢ ends.Done).
    let same = e.same other in
    let store : new ≡ mid = ap (λ x. x.store) same.1 in (
      λ kept. subst (λ x. Survives s (s.slots old) d.now.fault m.state d.now.state old x) (sym store) (d.passed.crash kept),
      λ kept fine i here. absurd (other (done_of end (sym same.0 ∙ fine))),
    ))
    (cases_end end) in
    record {
      now = d.now;
      crash = λ kept. subst (λ x. Survives s (s.slots old) d.now.fault m.state d.now.state old x) (sym c.close.ensures) (crash.0 kept);
      last = λ kept fine i here. crash.1 kept fine i (subst (λ x. s.left x i) c.close.ensures here);
      still = λ cut on.
          let by_sink_is : end ≡ ends.SinkFault = sink_by end status cut e.is in
          let other : end ≢ ends.Done = λ done. let clash : ends.Done ≡ ends.SinkFault = sym done ∙ by_sink_is in cc in
          ap (λ x. s.faults x) (c.close.ensures ∙ ap (λ x. x.store) (e.same other).1) ∙ d.passed.still on;
      end = end;
      is = e.is;
      all_taken = λ done. c.run_lines-end.ensures.at_end done t;
      ends = ran;
    }

pub returns-clause-passed : goal.returns-clause-passed
returns-clause-passed g c = λ m is going.
    let s = g.T.Store in
    let old = c.args.engine.store in
    let mid = c.run_lines-end.new.runner.engine.store in
    let new = c.end_script-status.new.engine.store in
    let end = c.run_lines-end.result in
    let e = c.end_script-status.ensures in
    let d = c.run_lines-end.ensures.passed m is going in
    let status = c.end_script-status.result in
    let crash : (s.keeps → Survives s (s.slots old) d.now.fault m.state d.now.state old new) × (s.keeps → status ≡ statuses.Done → (i : s.image) → s.left new i → IsWhole s.opens (s.slots old) d.now i) = ⊎_elim
    (λ (done : end ≡ ends.Done).
    let on = d.ran done in
    let made : MadeLast s mid new d.now status = e.lasts done d.now d.reached on in (
      λ kept. survives_on s (s.slots old) m.state d.now.state d.now.state old mid new on (d.passed.crash kept) (subst (λ (k : _). Survives s k d.now.fault d.now.state d.now.state mid new) d.passed.same.slots (made.crash d.now.fault kept)),
      λ kept fine i here. subst (λ (k : Option ℕ). IsWhole s.opens k d.now i) d.passed.same.slots (made.last kept fine i here),
    ))
    (λ (other : end ≢ ends.Done).
    let same = e.same other in
    let store : new ≡ mid = ap (λ x. x.store) same.1 in (
      λ kept. subst (λ x. Survives s (s.slots old) d.now.fault m.state d.now.state old x) (sym store) (d.passed.crash kept),
      λ kept fine i here. absurd (other (done_of end (sym same.0 ∙ fine))),
    ))
    (cases_end end) in
    record {
      now = d.now;
      crash = λ kept. subst (λ x. Survives s (s.slots old) d.now.fault m.state d.now.state old x) (sym c.close.ensures) (crash.0 kept);
      last = λ kept fine i here. crash.1 kept fine i (subst (λ x. s.left x i) c.close.ensures here);
    }

pub returns-clause-source : goal.returns-clause-source
returns-clause-source g c = ⊎_elim
    (λ (done : c.run_lines-end.result ≡ ends.Done). counted_as _ _ _ _ (ap lines.ends_by_source done ∙ sym (last_source c.run_lines-end.result c.end_script-status.result done c.end_script-status.ensures.is)) c.run_lines-end.ensures.source)
    (λ (other : c.run_lines-end.result ≢ ends.Done). counted_as _ _ _ _ (source_of c.run_lines-end.result ∙ ap by_source (sym (c.end_script-status.ensures.same other).0)) c.run_lines-end.ensures.source)
    (cases_end c.run_lines-end.result)

pub returns-clause-sink : goal.returns-clause-sink
returns-clause-sink g c = ⊎_elim
    (λ (done : c.run_lines-end.result ≡ ends.Done). counted_as _ _ _ _ (ap lines.ends_by_sink done ∙ sym (last_sink c.run_lines-end.result c.end_script-status.result done c.end_script-status.ensures.is)) c.run_lines-end.ensures.sink)
    (λ (other : c.run_lines-end.result ≢ ends.Done). counted_as _ _ _ _ (sink_of c.run_lines-end.result ∙ ap by_sink (sym (c.end_script-status.ensures.same other).0)) c.run_lines-end.ensures.sink)
    (cases_end c.run_lines-end.result)

pub returns-clause-disk : goal.returns-clause-disk
returns-clause-disk g c =
    let s = g.T.Store in
    let end = c.run_lines-end.result in
    let status = c.end_script-status.result in
    let e = c.end_script-status.ensures in
    let old = s.faults c.args.engine.store in
    let mid = s.faults c.run_lines-end.new.runner.engine.store in
    let new = s.faults c.end_script-status.new.engine.store in
    subst (λ store. IsCountedBeside old (s.faults store) (by_disk status) (by_sink status)) (sym c.close.ensures)
    (⊎_elim
    (λ (done : end ≡ ends.Done). counted_on old mid new (by_disk status) (by_sink status)
    (counted_beside old mid _ _ _ _ (ap lines.ends_by_disk done) (ap lines.ends_by_sink done) c.run_lines-end.ensures.disk) (e.disk done))
    (λ (other : end ≢ ends.Done).
    let same = e.same other in
    subst (λ (x : _). IsCountedBeside old (s.faults x.store) (by_disk status) (by_sink status)) (sym same.1)
    (counted_beside old mid _ _ _ _ (disk_of end ∙ ap by_disk (sym same.0)) (sink_of end ∙ ap by_sink (sym same.0)) c.run_lines-end.ensures.disk))
    (cases_end end))

pub returns-clause-ends : goal.returns-clause-ends
returns-clause-ends g c = (line_ends c.run_lines-end.result c.end_script-status.result c.end_script-status.ensures.is).0

pub returns-clause-asks : goal.returns-clause-asks
returns-clause-asks g c = (line_ends c.run_lines-end.result c.end_script-status.result c.end_script-status.ensures.is).1

pub returns-clause-at_end : goal.returns-clause-at_end
returns-clause-at_end g c = λ is told. c.run_lines-end.ensures.at_end (done_by c.run_lines-end.result c.end_script-status.result is c.end_script-status.ensures.is) told

pub returns-clause-few : goal.returns-clause-few
returns-clause-few g c = λ is told. c.run_lines-end.ensures.few (done_by c.run_lines-end.result c.end_script-status.result is c.end_script-status.ensures.is) told
