use Rattle.std.proofs.Common.{Result, Ok, Err, refl, sym, ◌∙◌, ap, subst}
use Rattle.std.proofs.lemmas.Result.{err_from_is_err_and}
use Rattle.rb_lines.specs.declared.runner.StepFault.{StepFault}
use Rattle.rb_calls.proofs.CallLemmas.{did_call}
use Rattle.rb_shell.proofs.SaidLemmas.{calls_as, MatchTold}
use Rattle.rb_shell.proofs.line.fetch_once.Goals as goal

pub returns-in_err-tell-clause-did : goal.returns-in_err-tell-clause-did
returns-in_err-tell-clause-did g c = λ m is going.
    let p = err_from_is_err_and c.from_residual.result c.from_residual.ensures.1 in
    did_call g.T.Store m _ _ c.args.engine.now c.answer_ahead-answer.new.engine _ is going c.answer_ahead-answer.ensures.made
    (λ now once. calls_as m now _ _ _ c.answer_ahead-answer.result c.answer_ahead-answer.new.row _ _ g.K.Sink.tells _ _ _ _ c.tell.result going once
    c.reply_of.ensures.text c.reply_of.ensures.fault c.tell.ensures.told c.from_residual.result
    (subst (λ (t : Result (Unit {0}) StepFault). MatchTold t c.answer_ahead-answer.result c.from_residual.result) (sym c.in_err-tell.was) (p.1 ∙ ap (λ (x : StepFault). Err x) p.2)))

pub returns-clause-did : goal.returns-clause-did
returns-clause-did g c = λ m is going.
    did_call g.T.Store m _ _ c.args.engine.now c.answer_ahead-answer.new.engine _ is going c.answer_ahead-answer.ensures.made
    (λ now once. calls_as m now _ _ _ c.answer_ahead-answer.result c.answer_ahead-answer.new.row _ _ g.K.Sink.tells _ _ _ _ c.tell.result going once
    c.reply_of.ensures.text c.reply_of.ensures.fault c.tell.ensures.told (Ok c.answer_ahead-answer.result)
    (subst (λ (t : Result (Unit {0}) StepFault). MatchTold t c.answer_ahead-answer.result (Ok c.answer_ahead-answer.result)) (sym c.in_ok-tell.was) refl))
