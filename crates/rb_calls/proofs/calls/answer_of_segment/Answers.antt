use Rattle.std.proofs.Common.{refl}
use Rattle.rb_calls.proofs.CallLemmas.{made_by}
use Rattle.rb_calls.proofs.calls.answer_of_segment.Goals as goal

pub returns-clause-made : goal.returns-clause-made
returns-clause-made g c = λ row. made_by g.T.Store _ c.args.engine.now c.marks.new.self _ _ _ (λ h. refl) (c.answer_to_marks.ensures.answer row) (c.answer_to_marks.ensures.fault row) c.marks.ensures.did c.marks.ensures.makes (λ h st scn lost is. tt) c.marks.ensures.same c.marks.ensures.disk
