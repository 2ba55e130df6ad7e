use Rattle.std.proofs.Common.{◌≡◌, ◌+◌, arith, ℕ, suc, false, refl, ◌∙◌, subst}
use Rattle.rb_calls.specs.Made.{Made}
use Rattle.rb_calls.proofs.CallLemmas.{made_by, shows, shows_fine}
use Rattle.rb_calls.proofs.calls.answer_of_session.Goals as goal
use Rattle.rb_model.specs.Answers.{answer_of}
use Rattle.rb_model.specs.Calls as machine

pub returns-clause-made : goal.returns-clause-made
returns-clause-made g c = λ row.
    let e = c.args.engine.now in
    let next : c.args.k + 1 ≡ suc c.args.k = omega arith in
    subst (λ (n : ℕ). Made g.T.Store (machine.Show n) (answer_of c.answer_to_activity.result row) e e) next
    (made_by g.T.Store _ e e _ _ false (λ h. refl) (c.answer_to_activity.ensures.answer row) (c.answer_to_activity.ensures.fault row ∙ shows_fine c.activity.result c.activity.ensures.other) c.activity.ensures.did
    (λ h st fine. shows h _ _ _ c.activity.result) (λ h st scn lost is. tt) (record { shape = refl; slots = refl })
    (record { no_less = omega arith; cause = λ fault. cc; still = λ a. refl }))
