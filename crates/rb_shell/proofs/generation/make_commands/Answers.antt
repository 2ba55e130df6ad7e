use Rattle.std.proofs.Common.{◌≡◌, ◌∙◌, refl, sym, ap, subst, ℕ, List, ◌++◌, take}
use Rattle.rb_base.specs.Counts.{IsCountedAs}
use Rattle.rb_calls.specs.Since.{engine_outside}
use Rattle.rb_shell.proofs.GenerationLemmas.{line_as, made_all, made_failed}
use Rattle.rb_shell.proofs.StatusLemmas.{fault_behind, uncounted}
use Rattle.rb_shell.specs.Generation.{MadeOn}
use Rattle.rb_shell.specs.Statuses.{EndsCommands}
use Rattle.rb_shell.specs.Statuses.{by_disk, by_sink}
use Rattle.rb_shell.specs.declared.status.Status.TheVariants.{Done, DiskFault, SinkFault}
use Rattle.rb_shell.proofs.generation.make_commands.Goals as goal

pub returns-in_default-clause-did : goal.returns-in_default-clause-did
returns-in_default-clause-did g c = λ m is going.
    subst (λ store. MadeOn g.T.Store c.args.engine.store store engine_outside c.args.commands m g.K.Sink.tells (g.K.Sink.held c.args.sink.now) (g.K.Sink.held c.args.sink.now) DiskFault) (sym c.close.ensures)
    (made_failed g.T.Store m c.args.commands c.args.engine c.generate.new.engine g.K.Sink.tells _ _ c.generate.result c.in_default.not-Ok (c.generate.ensures.did m is going))

pub returns-in_default-make_last : goal.returns-in_default-make_last
returns-in_default-make_last g c =
    let fault : c.make_last.result ≡ DiskFault = fault_behind c.make_last.result c.make_last.ensures.is c.in_default-make_last.not-Done in
    record {
      did = λ m is going.
          let d = c.in-Ok.ensures.did m is going in
          subst (λ store. MadeOn g.T.Store c.args.engine.store store engine_outside c.args.commands m g.K.Sink.tells (g.K.Sink.held c.args.sink.now) (g.K.Sink.held c.args.sink.now) c.make_last.result) (sym c.close-in_default-make_last.ensures)
          (made_all g.T.Store m c.args.commands c.args.engine c.generate.new.engine g.K.Sink.tells _ _ c.in-Ok.counts d c.make_last.new.engine.store c.make_last.result c.make_last.result
          (c.make_last.ensures.lasts d.now d.reached d.ran.ends.1) (λ other. absurd (other fault))
          (λ is. (let clash : Done ≡ DiskFault = sym is ∙ fault in cc)) (λ is. (let clash : SinkFault ≡ DiskFault = sym is ∙ fault in cc)));
      ends = subst EndsCommands (sym fault) tt;
      no_line = λ is. refl;
      disk = subst (λ store. IsCountedAs (g.T.Store.faults c.args.engine.store) (g.T.Store.faults store) (by_disk c.make_last.result)) (sym c.close-in_default-make_last.ensures)
          (subst (λ (n : ℕ). IsCountedAs n (g.T.Store.faults c.make_last.new.engine.store) (by_disk c.make_last.result)) c.in-Ok.ensures.disk.still c.make_last.ensures.disk);
      sink = uncounted _ _ _ (ap by_sink fault) refl;
    }

pub returns-in-Ok-put_summary-clause-did : goal.returns-in-Ok-put_summary-clause-did
returns-in-Ok-put_summary-clause-did g c = λ m is going.
    let d = c.in-Ok.ensures.did m is going in
    let line = line_as g.T.Store m c.args.commands c.args.engine c.generate.new.engine g.K.Sink.tells (g.K.Sink.held c.args.sink.now) (g.K.Sink.held c.put_summary.new.sink) c.in-Ok.counts c.now-now.result d (c.now-now.ensures d.now.state d.reached.engine) in
    subst (λ store. MadeOn g.T.Store c.args.engine.store store engine_outside c.args.commands m g.K.Sink.tells (g.K.Sink.held c.args.sink.now) (g.K.Sink.held c.put_summary.new.sink) Done) (sym c.close-in-Ok-put_summary.ensures)
    (made_all g.T.Store m c.args.commands c.args.engine c.generate.new.engine g.K.Sink.tells _ _ c.in-Ok.counts d c.make_last.new.engine.store Done Done
    (c.in-Done.ensures.lasts d.now d.reached d.ran.ends.1) (λ other. refl)
    (λ is t. c.in-Ok-put_summary.ensures.put t ∙ ap (λ (xs : List ℕ). g.K.Sink.held c.args.sink.now ++ xs) line) (λ is. cc))

pub returns-in-Err-clause-did : goal.returns-in-Err-clause-did
returns-in-Err-clause-did g c = λ m is going.
    let d = c.in-Ok.ensures.did m is going in
    let line = line_as g.T.Store m c.args.commands c.args.engine c.generate.new.engine g.K.Sink.tells (g.K.Sink.held c.args.sink.now) (g.K.Sink.held c.put_summary.new.sink) c.in-Ok.counts c.now-now.result d (c.now-now.ensures d.now.state d.reached.engine) in
    subst (λ store. MadeOn g.T.Store c.args.engine.store store engine_outside c.args.commands m g.K.Sink.tells (g.K.Sink.held c.args.sink.now) (g.K.Sink.held c.put_summary.new.sink) SinkFault) (sym c.close-in-Err.ensures)
    (made_all g.T.Store m c.args.commands c.args.engine c.generate.new.engine g.K.Sink.tells _ _ c.in-Ok.counts d c.make_last.new.engine.store Done SinkFault
    (c.in-Done.ensures.lasts d.now d.reached d.ran.ends.1) (λ other. refl) (λ is. cc)
    (λ is t. let p = c.in-Err.ensures.put t in (p.0, p.2 ∙ ap (λ (xs : List ℕ). g.K.Sink.held c.args.sink.now ++ take p.0 xs) line)))
