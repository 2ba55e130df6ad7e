use Rattle.std.proofs.Common.{Bool, false, sym, ap, subst, arith}
use Rattle.std.proofs.lemmas.Result.{err_from_is_err_and}
use Rattle.std.specs.Result.{is_err}
use Rattle.rb_calls.specs.Since.{since_joined, engine_outside}
use Rattle.rb_generator.specs.Answered.{CallsAnswered, CommandAnswered}
use Rattle.rb_generator.specs.Ends.{HasCounted}
use Rattle.rb_generator.proofs.AnsweredLemmas.{command_ends, command_fails, resumes_few}
use Rattle.rb_lines.proofs.Dids.{did_as, did_on}
use Rattle.rb_model.specs.Lines.{most_calls}
use Rattle.rb_script.specs.Commands.{command_of}
use Rattle.rb_generator.proofs.commands.run_command.Goals as goal

pub returns-in_err-make_calls-clause-did : goal.returns-in_err-make_calls-clause-did
returns-in_err-make_calls-clause-did g c = λ m is going.
    let command = command_of c.args.command.now in
    let p = err_from_is_err_and c.from_residual.result c.from_residual.ensures.1 in
    did_as _ _ m _ _
    (λ n has. subst (λ (failed : Bool). HasCounted (CommandAnswered m engine_outside command) n c.args.counts.now c.make_calls.new.counts failed) (sym (ap is_err p.1))
    (command_fails m n engine_outside command c.args.counts.now c.make_calls.new.counts
    (subst (λ (failed : Bool). HasCounted (CallsAnswered m engine_outside command (most_calls m.state.shape command) 0) n c.args.counts.now c.make_calls.new.counts failed) (ap is_err c.in_err-make_calls.was) has)))
    (c.make_calls.ensures.did m is going)

pub returns-clause-did : goal.returns-clause-did
returns-clause-did g c = λ m is going.
    let command = command_of c.args.command.now in
    let e = c.make_calls.ensures in
    let own = did_as c.args.engine.now c.make_calls.new.engine m _ (λ n. HasCounted (CallsAnswered m engine_outside command (most_calls m.state.shape command) 0) n c.args.counts.now c.make_calls.new.counts false)
    (λ n has. subst (λ (failed : Bool). HasCounted (CallsAnswered m engine_outside command (most_calls m.state.shape command) 0) n c.args.counts.now c.make_calls.new.counts failed) (ap is_err c.in_ok-make_calls.was) has) (e.did m is going) in
    did_on c.args.engine.now c.make_calls.new.engine c.resume_ready.new.engine m _ _ _ (λ a b d h n k. since_joined a b d h n k) own (λ n has. has.stops)
    (λ n reached on. c.resume_ready.ensures.did n reached on)
    (λ n k has more. command_ends m n k engine_outside command c.args.counts.now c.make_calls.new.counts c.resume_ready.new.listener (is_err c.resume_ready.result) has more)

pub returns-clause-few : goal.returns-clause-few
returns-clause-few g c =
    let few = c.resume_ready.ensures.few in
    let counted = resumes_few few.0 _ _ few.2 in
    omega (arith, c.make_calls.ensures.few, few.1, counted)

pub resume_ready-requires : goal.resume_ready-requires
resume_ready-requires g c = omega (arith, c.requires, c.make_calls.ensures.few)
