use Rattle.std.proofs.Common.{refl, ℕ, Option, None, sym, subst}
use Rattle.rb_model.specs.Answers.{answer_of}
use Rattle.rb_model.specs.Lines.{call_of, caller}
use Rattle.rb_script.specs.Commands.{command_of}
use Rattle.rb_script.specs.declared.command.Command.{Command}
use Rattle.rb_calls.specs.Fits.{FitsCaller}
use Rattle.rb_calls.specs.Made.{Made}
use Rattle.rb_calls.proofs.CallLemmas.{caller_asked, made_by}
use Rattle.rb_calls.proofs.calls.answer.Goals as goal

pub returns-in-Session-clause-made : goal.returns-in-Session-clause-made
returns-in-Session-clause-made g c = subst (λ (command : Command). Made g.T.Store (call_of (command_of command) c.args.k) (answer_of c.answer_to_request.result c.answer_to_request.new.row) c.args.engine.now c.answer_to_request.new.engine) (sym c.in-Session.is) (c.answer_to_request.ensures.made c.args.k)

pub returns-in-Marks-clause-made : goal.returns-in-Marks-clause-made
returns-in-Marks-clause-made g c = subst (λ (command : Command). Made g.T.Store (call_of (command_of command) c.args.k) (answer_of c.answer_of_segment.result c.args.row.now) c.args.engine.now c.answer_of_segment.new.engine) (sym c.in-Marks.is) (c.answer_of_segment.ensures.made c.args.row.now)

pub returns-in-Sessions-clause-made : goal.returns-in-Sessions-clause-made
returns-in-Sessions-clause-made g c = subst (λ (command : Command). Made g.T.Store (call_of (command_of command) c.args.k) (answer_of c.answer_of_session.result c.args.row.now) c.args.engine.now c.args.engine.now) (sym c.in-Sessions.is) (c.answer_of_session.ensures.made c.args.row.now)

pub returns-in-Sessions-clause-fits : goal.returns-in-Sessions-clause-fits
returns-in-Sessions-clause-fits g c = subst (λ (command : Command). FitsCaller (caller (command_of command)) c.answer_of_session.result) (sym c.in-Sessions.is) c.answer_of_session.ensures.fits

pub returns-in-Flush-clause-made : goal.returns-in-Flush-clause-made
returns-in-Flush-clause-made g c = subst (λ (command : Command). Made g.T.Store (call_of (command_of command) c.args.k) (answer_of c.answer_to_flush.result c.args.row.now) c.args.engine.now c.flush.new.self) (sym c.in-Flush.is)
    (made_by g.T.Store _ c.args.engine.now c.flush.new.self _ _ _ (λ h. refl) (c.answer_to_flush.ensures.answer c.args.row.now) (c.answer_to_flush.ensures.fault c.args.row.now) c.flush.ensures.did c.flush.ensures.makes (λ h st scn lost is. tt) c.flush.ensures.same c.flush.ensures.disk)

pub returns-in-Sweep-clause-made : goal.returns-in-Sweep-clause-made
returns-in-Sweep-clause-made g c = subst (λ (command : Command). Made g.T.Store (call_of (command_of command) c.args.k) (answer_of c.answer_to_sweep.result c.args.row.now) c.args.engine.now c.sweep.new.self) (sym c.in-Sweep.is)
    (made_by g.T.Store _ c.args.engine.now c.sweep.new.self _ _ _ (λ h. refl) (c.answer_to_sweep.ensures.answer c.args.row.now) (c.answer_to_sweep.ensures.fault c.args.row.now) c.sweep.ensures.did c.sweep.ensures.makes (λ h st scn lost is. tt) c.sweep.ensures.same c.sweep.ensures.disk)

pub returns-in-Checkpoint-clause-made : goal.returns-in-Checkpoint-clause-made
returns-in-Checkpoint-clause-made g c = subst (λ (command : Command). Made g.T.Store (call_of (command_of command) c.args.k) (answer_of c.answer_to_call.result c.args.row.now) c.args.engine.now c.checkpoint.new.self) (sym c.in-Checkpoint.is)
    (made_by g.T.Store _ c.args.engine.now c.checkpoint.new.self _ _ _ (λ h. refl) (c.answer_to_call.ensures.answer c.args.row.now) (c.answer_to_call.ensures.fault c.args.row.now) c.checkpoint.ensures.did c.checkpoint.ensures.makes (λ h st scn lost is. tt) c.checkpoint.ensures.same c.checkpoint.ensures.disk)

pub returns-in-Session-clause-fits : goal.returns-in-Session-clause-fits
returns-in-Session-clause-fits g c = subst (λ (command : Command). FitsCaller (caller (command_of command)) c.answer_to_request.result) (sym c.in-Session.is)
    (subst (λ (to : Option ℕ). FitsCaller to c.answer_to_request.result) (sym (caller_asked c.in-Session.s c.in-Session.request)) c.answer_to_request.ensures.fits)

pub returns-in-Marks-clause-fits : goal.returns-in-Marks-clause-fits
returns-in-Marks-clause-fits g c = subst (λ (command : Command). FitsCaller (caller (command_of command)) c.answer_of_segment.result) (sym c.in-Marks.is) c.answer_of_segment.ensures.fits

pub returns-in-Checkpoint-clause-fits : goal.returns-in-Checkpoint-clause-fits
returns-in-Checkpoint-clause-fits g c = subst (λ (command : Command). FitsCaller (caller (command_of command)) c.answer_to_call.result) (sym c.in-Checkpoint.is) (c.answer_to_call.ensures.fits None)

pub returns-in-Flush-clause-fits : goal.returns-in-Flush-clause-fits
returns-in-Flush-clause-fits g c = subst (λ (command : Command). FitsCaller (caller (command_of command)) c.answer_to_flush.result) (sym c.in-Flush.is) c.answer_to_flush.ensures.fits
