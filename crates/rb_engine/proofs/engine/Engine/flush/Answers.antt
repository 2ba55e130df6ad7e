use Rattle.std.proofs.Common.{sym, subst}
use Rattle.rb_engine.specs.Does.{Does, EngineView, Stands}
use Rattle.rb_model.specs.Answers.{flush_answer}
use Rattle.rb_model.specs.Calls as machine
use Rattle.rb_engine.specs.Makes.{Makes}
use Rattle.rb_engine.proofs.MakesLemmas.{makes_flushed}
use Rattle.rb_engine.proofs.engine.Engine.flush.Goals as goal

pub returns-clause-did : goal.returns-clause-did
returns-clause-did g c = λ h st.
    let s = g.T.Store in
    let call = c.do_flush in
    subst (λ e. Does s h (machine.Flush) (flush_answer call.result) e (record { memory = call.new.memory; store = call.new.store })) c.self.view_is (call.ensures.did h (subst (Stands s h) (sym c.self.view_is) st))

pub returns-clause-makes : goal.returns-clause-makes
returns-clause-makes g c = λ h st fine.
    let s = g.T.Store in
    let new = c.do_flush.new.store in
    subst (λ (e : EngineView _). Makes h machine.Flush (flush_answer c.do_flush.result) (s.lsn new) (s.blocks e.store) (s.blocks new)) c.self.view_is
    (let same = c.do_flush.ensures.blocks st.told fine in makes_flushed h (s.lsn new) (s.blocks c.self.inside.store) (s.blocks new) c.do_flush.result same)
