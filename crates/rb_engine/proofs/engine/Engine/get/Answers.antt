use Rattle.std.proofs.Common.{sym, subst}
use Rattle.rb_engine.specs.Getting.{GetNeedsLost}
use Rattle.rb_engine.specs.Does.{EngineView, Does, Stands}
use Rattle.rb_engine.specs.Makes.{Makes}
use Rattle.law_crash.specs.Made.{TellsLooks}
use Rattle.rb_model.specs.Answers.{get_answer}
use Rattle.rb_model.specs.Calls as machine
use Rattle.rb_engine.proofs.TellsLemmas.{tells_got}
use Rattle.rb_engine.proofs.engine.Engine.get.Goals as goal

pub returns-clause-did : goal.returns-clause-did
returns-clause-did g c = λ h st.
    let s = g.T.Store in
    let call = c.do_get in
    subst (λ e. Does s h (machine.Get c.args.s c.args.table c.args.key) (get_answer call.result call.new.row) e (record { memory = call.new.memory; store = call.new.store })) c.self.view_is (call.ensures.did h (subst (Stands s h) (sym c.self.view_is) st))

pub returns-clause-lost : goal.returns-clause-lost
returns-clause-lost g c = λ h st scn lost is.
    let s = g.T.Store in
    subst (λ (e : EngineView _). GetNeedsLost s h e c.args.s c.args.table c.args.key scn lost) c.self.view_is (c.do_get.ensures.lost h (subst (Stands s h) (sym c.self.view_is) st) scn lost is)

pub returns-clause-makes : goal.returns-clause-makes
returns-clause-makes g c = λ h st fine.
    let s = g.T.Store in
    let new = c.do_get.new.store in
    subst (λ (e : EngineView _). Makes h (machine.Get c.args.s c.args.table c.args.key) (get_answer c.do_get.result c.do_get.new.row) (s.lsn new) (s.blocks e.store) (s.blocks new)) c.self.view_is
    (c.do_get.ensures.makes h (subst (Stands s h) (sym c.self.view_is) st) fine)

pub returns-clause-tells : goal.returns-clause-tells
returns-clause-tells g c = λ h st fine.
    let s = g.T.Store in
    let call = c.do_get in
    let new = call.new.store in
    subst (λ (e : EngineView _). TellsLooks h.shape (s.blocks e.store) (s.blocks new)) c.self.view_is
    (tells_got h c.args.s c.args.table c.args.key (s.lsn new) (s.blocks c.self.inside.store) (s.blocks new) call.result call.new.row fine (call.ensures.makes h (subst (Stands s h) (sym c.self.view_is) st) fine))
