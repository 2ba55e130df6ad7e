use Rattle.std.proofs.Common.{sym, subst}
use Rattle.rb_engine.specs.Scanning.{NeedsLost}
use Rattle.rb_engine.specs.Does.{EngineView, Does, Stands}
use Rattle.rb_model.specs.Answers.{fetch_answer}
use Rattle.rb_model.specs.Calls as machine
use Rattle.rb_model.specs.Names.{name_text}
use Rattle.rb_engine.proofs.TellsLemmas.{tells_fetched}
use Rattle.law_crash.specs.Made.{TellsLooks}
use Rattle.rb_engine.specs.Makes.{Makes}
use Rattle.rb_engine.proofs.engine.Engine.fetch_ahead.Goals as goal

pub returns-clause-did : goal.returns-clause-did
returns-clause-did g c = λ h st.
    let s = g.T.Store in
    let call = c.do_fetch in
    subst (λ e. Does s h (machine.Fetch c.args.s (name_text c.args.name.now)) (fetch_answer call.result call.new.row) e (record { memory = call.new.memory; store = call.new.store })) c.self.view_is (call.ensures.did h (subst (Stands s h) (sym c.self.view_is) st))

pub returns-clause-lost : goal.returns-clause-lost
returns-clause-lost g c = λ h st scn lost is.
    let s = g.T.Store in
    subst (λ (e : EngineView _). NeedsLost s h e c.args.s (name_text c.args.name.now) scn lost) c.self.view_is (c.do_fetch.ensures.lost h (subst (Stands s h) (sym c.self.view_is) st) scn lost is)

pub returns-clause-tells : goal.returns-clause-tells
returns-clause-tells g c = λ h st fine.
    let s = g.T.Store in
    let call = c.do_fetch in
    let cleans = call.ensures.cleans h (subst (Stands s h) (sym c.self.view_is) st) in
    subst (λ (e : EngineView _). TellsLooks h.shape (s.blocks e.store) (s.blocks call.new.store)) c.self.view_is
    (tells_fetched s h call.new.store call.result cleans call.ensures.idle fine)

pub returns-clause-makes : goal.returns-clause-makes
returns-clause-makes g c = λ h st fine.
    let s = g.T.Store in
    let new = c.do_fetch.new.store in
    subst (λ (e : EngineView _). Makes h (machine.Fetch c.args.s (name_text c.args.name.now)) (fetch_answer c.do_fetch.result c.do_fetch.new.row) (s.lsn new) (s.blocks e.store) (s.blocks new)) c.self.view_is
    (c.do_fetch.ensures.makes h (subst (Stands s h) (sym c.self.view_is) st) fine)
