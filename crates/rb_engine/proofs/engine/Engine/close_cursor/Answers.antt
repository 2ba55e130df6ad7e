use Rattle.std.proofs.Common.{refl, sym, subst}
use Rattle.rb_engine.specs.Does.{Does, EngineView, Stands}
use Rattle.rb_model.specs.Answers.{plain_answer}
use Rattle.rb_model.specs.Calls as machine
use Rattle.rb_model.specs.Names.{name_text}
use Rattle.rb_engine.specs.Makes.{Makes}
use Rattle.rb_engine.proofs.MakesLemmas.{makes_plain}
use Rattle.rb_engine.proofs.engine.Engine.close_cursor.Goals as goal

pub returns-clause-did : goal.returns-clause-did
returns-clause-did g c = λ h st.
    let s = g.T.Store in
    let call = c.do_close_cursor in
    subst (λ e. Does s h (machine.CloseCursor c.args.s (name_text c.args.name.now)) (plain_answer call.result) e (record { memory = call.new.memory; store = c.self.inside.store })) c.self.view_is (call.ensures.did h (subst (Stands s h) (sym c.self.view_is) st))

pub returns-clause-makes : goal.returns-clause-makes
returns-clause-makes g c = λ h st fine.
    let s = g.T.Store in
    let new = c.self.inside.store in
    subst (λ (e : EngineView _). Makes h (machine.CloseCursor c.args.s (name_text c.args.name.now)) (plain_answer c.do_close_cursor.result) (s.lsn new) (s.blocks e.store) (s.blocks new)) c.self.view_is
    (makes_plain h (machine.CloseCursor c.args.s (name_text c.args.name.now)) (s.lsn new) (s.blocks new) (s.blocks new) refl c.do_close_cursor.result refl refl)

pub returns-clause-holds_back : goal.returns-clause-holds_back
returns-clause-holds_back g c = λ fine.
    subst (λ (e : EngineView _). g.T.Store.holds_back e.store c.self.inside.store) c.self.view_is (g.met.T.Store.holds_back_same c.self.inside.store)
