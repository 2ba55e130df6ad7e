use Rattle.std.proofs.Common.{◌≡◌, length, Result, Err, sym, ◌∙◌, ap, subst}
use Rattle.std.proofs.lemmas.Result.{err_from_is_err_and}
use Rattle.rb_lines.proofs.Dids.{did_as, did_on}
use Rattle.rb_lines.specs.Ran.{LineBegun}
use Rattle.rb_lines.specs.declared.runner.StepFault.{StepFault}
use Rattle.rb_model.specs.Out.{LineOut, LineSaid}
use Rattle.rb_calls.specs.Since.{since_joined, engine_outside}
use Rattle.rb_shell.specs.Steps.{SaidAs}
use Rattle.rb_shell.proofs.ResumeLemmas.{line_ends, line_fails, room_all}
use Rattle.rb_shell.proofs.line.say_line.Goals as goal

pub returns-in_err-say_itself-clause-did : goal.returns-in_err-say_itself-clause-did
returns-in_err-say_itself-clause-did g c = λ m is going.
    let before = g.K.Sink.held c.args.sink.now in
    let held = g.K.Sink.held c.say_itself.new.sink in
    let p = err_from_is_err_and c.from_residual.result c.from_residual.ensures.1 in
    let fault : c.say_itself.result ≡ Err p.0 = c.in_err-say_itself.was ∙ sym (ap (λ (x : StepFault). Err x) p.2) in
    did_as _ _ m _ _
    (λ n said. subst (λ (r : Result (Unit {0}) StepFault). SaidAs (LineOut m engine_outside c.args.line.now) (LineBegun m engine_outside c.args.line.now) n g.K.Sink.tells before held c.say_itself.new.waiting.bytes.items r) (sym p.1)
    (line_fails m n engine_outside c.args.line.now g.K.Sink.tells before held c.say_itself.new.waiting.bytes.items p.0
    (subst (λ (r : Result (Unit {0}) StepFault). SaidAs (LineSaid m engine_outside c.args.line.now) (LineBegun m engine_outside c.args.line.now) n g.K.Sink.tells before held c.say_itself.new.waiting.bytes.items r) fault said)))
    (c.say_itself.ensures.did m is going)

pub returns-in-Ok-clause-did : goal.returns-in-Ok-clause-did
returns-in-Ok-clause-did g c = λ m is going.
    did_on c.args.engine.now c.say_itself.new.engine c.resume_ready.new.engine m _ _ _ (λ a b d h n k. since_joined a b d h n k) (c.in_ok-say_itself.ensures.did m is going) (λ n said. said.1)
    (λ n reached on. c.in-Ok.ensures.did n reached on)
    (λ n k said has. line_ends m n k engine_outside c.args.line.now g.K.Sink.tells _ _ _ _ _ said.0 has)

pub returns-in-Err-clause-did : goal.returns-in-Err-clause-did
returns-in-Err-clause-did g c = λ m is going.
    did_on c.args.engine.now c.say_itself.new.engine c.resume_ready.new.engine m _ _ _ (λ a b d h n k. since_joined a b d h n k) (c.in_ok-say_itself.ensures.did m is going) (λ n said. said.1)
    (λ n reached on. c.in-Err.ensures.did n reached on)
    (λ n k said has. line_ends m n k engine_outside c.args.line.now g.K.Sink.tells _ _ _ _ _ said.0 has)

pub resume_ready-requires : goal.resume_ready-requires
resume_ready-requires g c = room_all (length c.say_itself.new.waiting.bytes.items) c.in_ok-say_itself.ensures.room
