use Rattle.std.proofs.Common.{sym, subst}
use Rattle.rb_engine.specs.Does.{Does, EngineView, LeavesState, Stands}
use Rattle.rb_model.specs.Answers.{plain_answer}
use Rattle.rb_model.specs.Calls as machine
use Rattle.rb_engine.specs.Makes.{Makes}
use Rattle.rb_engine.proofs.MakesLemmas.{makes_plain}
use Rattle.rb_engine.proofs.engine.Engine.checkpoint.Goals as goal

pub returns-clause-did : goal.returns-clause-did
returns-clause-did g c = λ h st.
    let s = g.T.Store in
    let call = c.do_checkpoint in
    subst (λ e. Does s h (machine.Checkpoint) (plain_answer call.result) e (record { memory = call.new.memory; store = call.new.store })) c.self.view_is (call.ensures.did h (subst (Stands s h) (sym c.self.view_is) st))

pub returns-clause-leaves : goal.returns-clause-leaves
returns-clause-leaves g c = λ h st going.
    let s = g.T.Store in
    let call = c.do_checkpoint in
    subst (λ (e : EngineView _). LeavesState s h e.store call.new.store) c.self.view_is (call.ensures.leaves h (subst (Stands s h) (sym c.self.view_is) st) going)

pub returns-clause-makes : goal.returns-clause-makes
returns-clause-makes g c = λ h st fine.
    let s = g.T.Store in
    let new = c.do_checkpoint.new.store in
    subst (λ (e : EngineView _). Makes h machine.Checkpoint (plain_answer c.do_checkpoint.result) (s.lsn new) (s.blocks e.store) (s.blocks new)) c.self.view_is
    (let same = c.do_checkpoint.ensures.blocks st.told fine in makes_plain h machine.Checkpoint (s.lsn new) (s.blocks c.self.inside.store) (s.blocks new) same c.do_checkpoint.result same same)
