use Rattle.std.proofs.Common.{refl}
use Rattle.rb_calls.proofs.CallLemmas.{made_by, old_fetch}
use Rattle.rb_calls.proofs.calls.answer_ahead.Goals as goal

pub returns-clause-made : goal.returns-clause-made
returns-clause-made g c =
    let f = c.fetch_ahead in
    let a = c.answer_to_fetch in
    made_by g.T.Store _ c.args.engine.now f.new.self _ _ _ (λ h. refl) (a.ensures.answer f.new.row) (a.ensures.fault f.new.row) f.ensures.did f.ensures.makes (λ h st scn lost is. f.ensures.lost h st scn lost (old_fetch f.result f.new.row scn lost is)) f.ensures.same f.ensures.disk
