use Rattle.std.proofs.Common.{sym, subst}
use Rattle.rb_engine.specs.Behind.{Behind}
use Rattle.rb_engine.specs.Does.{EngineView, Stands}
use Rattle.rb_model.specs.Answers.{write_answer}
use Rattle.rb_model.specs.Calls as machine
use Rattle.rb_model.specs.Clearing.{ClearsTo}
use Rattle.rb_engine.proofs.engine.Engine.lock.Goals as goal

pub returns-clause-did : goal.returns-clause-did
returns-clause-did g c = λ h st.
    let s = g.T.Store in
    let call = c.do_write in
    let asked = machine.Write c.args.s c.args.table c.args.key machine.Lock in
    subst (λ (e : EngineView _). Behind s (ClearsTo h asked (write_answer call.result)) h asked (write_answer call.result) e (record { memory = call.new.memory; store = call.new.store })) c.self.view_is (call.ensures.did h (subst (Stands s h) (sym c.self.view_is) st))
