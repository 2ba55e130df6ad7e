use Rattle.std.proofs.Common.{sym, subst}
use Rattle.rb_engine.specs.Does.{Does, EngineView, Stands}
use Rattle.rb_engine.specs.Makes.{Makes}
use Rattle.rb_model.specs.Answers.{sweep_answer}
use Rattle.rb_model.specs.Calls as machine
use Rattle.rb_engine.proofs.engine.Engine.sweep.Goals as goal

pub returns-clause-did : goal.returns-clause-did
returns-clause-did g c = λ h st.
    let s = g.T.Store in
    let call = c.do_sweep in
    subst (λ (e : EngineView _). Does s h (machine.Sweep c.args.changes) (sweep_answer call.result) e (record { memory = call.new.memory; store = call.new.store })) c.self.view_is (call.ensures.did h (subst (Stands s h) (sym c.self.view_is) st))

pub returns-clause-makes : goal.returns-clause-makes
returns-clause-makes g c = λ h st fine.
    let s = g.T.Store in
    let new = c.do_sweep.new.store in
    subst (λ (e : EngineView _). Makes h (machine.Sweep c.args.changes) (sweep_answer c.do_sweep.result) (s.lsn new) (s.blocks e.store) (s.blocks new)) c.self.view_is
    (c.do_sweep.ensures.makes h (subst (Stands s h) (sym c.self.view_is) st) fine)
