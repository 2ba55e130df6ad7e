use Rattle.std.proofs.Common.{◌≡◌, inl, Result, Err, sym, ◌∙◌, ap, subst}
use Rattle.std.proofs.lemmas.Result.{err_from_is_err_and}
use Rattle.rb_lines.proofs.Dids.{did_as}
use Rattle.rb_lines.specs.Ran.{LineBegun, RepliedAs}
use Rattle.rb_lines.specs.declared.runner.StepFault.{StepFault}
use Rattle.rb_lines.specs.declared.runner.StepFault.TheVariants.{Sink}
use Rattle.rb_model.specs.Out.{LineOut}
use Rattle.rb_calls.specs.Since.{engine_outside}
use Rattle.rb_shell.specs.Steps.{SaidAs}
use Rattle.rb_shell.proofs.SentLemmas.{ok_sent, disk_sent, disk_lost}
use Rattle.rb_shell.proofs.line.do_line.Goals as goal

pub returns-in-Ok-clause-did : goal.returns-in-Ok-clause-did
returns-in-Ok-clause-did g c = λ m is going.
    did_as _ _ m _ _ (λ n said. ok_sent _ _ n g.K.Sink.tells _ _ _ _ (λ out whole. inl whole) c.send_last.result said c.send_last.ensures.sent c.send_last.ensures.lost c.send_last.ensures.by_sink) (c.in-Ok.ensures.did m is going)

pub returns-in_ok-send_last-in-Err-Disk-clause-did : goal.returns-in_ok-send_last-in-Err-Disk-clause-did
returns-in_ok-send_last-in-Err-Disk-clause-did g c = λ m is going.
    did_as _ _ m _ _ (λ n said. disk_sent _ (LineBegun m engine_outside c.args.line.now) n g.K.Sink.tells _ _ _ _ (λ out whole. inl whole) (subst (λ (f : StepFault). SaidAs (LineOut m engine_outside c.args.line.now) (LineBegun m engine_outside c.args.line.now) n g.K.Sink.tells (g.K.Sink.held c.args.sink.now) (g.K.Sink.held c.say_line.new.sink) c.say_line.new.waiting.bytes.items (Err f)) c.in-Err-Disk.field-0-is said) c.in_ok-send_last-in-Err-Disk.ensures.sent) (c.in-Err-Disk.ensures.did m is going)

pub returns-in_err-send_last-in-Err-Disk-clause-did : goal.returns-in_err-send_last-in-Err-Disk-clause-did
returns-in_err-send_last-in-Err-Disk-clause-did g c = λ m is going.
    let p = err_from_is_err_and c.from_residual.result c.from_residual.ensures.1 in
    let sink : c.from_residual.result ≡ Err Sink = p.1 ∙ ap (λ (x : StepFault). Err x) (p.2 ∙ c.in_err-send_last-in-Err-Disk.ensures.by_sink) in
    did_as _ _ m _ _ (λ n said. subst (λ (r : Result (Unit {0}) StepFault). RepliedAs (LineOut m engine_outside c.args.line.now) (LineBegun m engine_outside c.args.line.now) n g.K.Sink.tells (g.K.Sink.held c.args.sink.now) (g.K.Sink.held c.send_last-in-Err-Disk.new.sink) r) (sym sink)
    (disk_lost _ _ n g.K.Sink.tells _ _ _ _ (λ out whole. inl whole) (subst (λ (f : StepFault). SaidAs (LineOut m engine_outside c.args.line.now) (LineBegun m engine_outside c.args.line.now) n g.K.Sink.tells (g.K.Sink.held c.args.sink.now) (g.K.Sink.held c.say_line.new.sink) c.say_line.new.waiting.bytes.items (Err f)) c.in-Err-Disk.field-0-is said) c.in_err-send_last-in-Err-Disk.ensures.lost)) (c.in-Err-Disk.ensures.did m is going)

pub returns-in-Err-Sink-clause-did : goal.returns-in-Err-Sink-clause-did
returns-in-Err-Sink-clause-did g c = λ m is going.
    did_as _ _ m _ _ (λ n said. subst (λ (f : StepFault). SaidAs (LineOut m engine_outside c.args.line.now) (LineBegun m engine_outside c.args.line.now) n g.K.Sink.tells (g.K.Sink.held c.args.sink.now) (g.K.Sink.held c.say_line.new.sink) c.say_line.new.waiting.bytes.items (Err f)) c.in-Err-Sink.field-0-is said) (c.in-Err-Sink.ensures.did m is going)
