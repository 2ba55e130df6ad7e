use Rattle.std.proofs.Common.{ap, sym, subst, arith}
use Rattle.rb_engine.specs.Behind.{Resumes}
use Rattle.rb_engine.specs.Does.{EngineView, Stands}
use Rattle.rb_model.specs.Queue.{ready_count}
use Rattle.rb_waits.proofs.Counts.{few}
use Rattle.rb_waits.proofs.Turns.{few_ready}
use Rattle.rb_engine.proofs.engine.Engine.resume.Goals as goal

pub returns-clause-did : goal.returns-clause-did
returns-clause-did g c = λ h st.
    let s = g.T.Store in
    let call = c.do_resume in
    subst (λ e. Resumes s h call.result e (record { memory = call.new.memory; store = call.new.store })) c.self.view_is (call.ensures.did h (subst (Stands s h) (sym c.self.view_is) st))

pub returns-clause-few : goal.returns-clause-few
returns-clause-few g c =
    let waits = c.self.inside.memory.waits in
    let same = ap (λ (e : EngineView _). ready_count e.memory.waits) c.self.view_is in
    omega (arith, same, few_ready waits, few waits c.self.invariant.queue.once)
