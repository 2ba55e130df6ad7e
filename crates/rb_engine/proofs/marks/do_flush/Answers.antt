use Rattle.std.proofs.Common.{◌≡◌, [], Ok, Err, false, true, refl, sym, ◌∙◌, ap, arith}
use Rattle.rb_base.specs.Logs.{Flushes, Laws, flush_logs}
use Rattle.rb_engine.specs.Does.{EngineView, Kept}
use Rattle.rb_model.specs.Calls as machine
use Rattle.rb_model.specs.Calls.{MayAnswer}
use Rattle.rb_engine.proofs.DoesLemmas.{does_fault, does_flushed, fault_survives}
use Rattle.rb_engine.proofs.StepLemmas.{in_step_same}
use Rattle.rb_engine.proofs.marks.do_flush.Given.{Over}
use Rattle.rb_engine.proofs.marks.do_flush.Goals as goal

laws_of : (g : Over) → Laws g.T.Store
laws_of g = record {
  stable_left = λ store b n i keeps stable here. g.met.T.Store.stable_left store b n i keeps stable here;
  stable_numbered = λ store b n keeps stable. g.met.T.Store.stable_numbered store b n keeps stable;
  stable_patched = λ store b n keeps stable. g.met.T.Store.stable_patched store b n keeps stable;
  now_counts = λ store t i keeps le here. g.met.T.Store.now_counts store t i keeps le here;
  only_now = λ store i keeps here. g.met.T.Store.only_now store i keeps here;
  holds_back_same = λ store. g.met.T.Store.holds_back_same store;
  holds_back_joined = λ a b c first second. g.met.T.Store.holds_back_joined a b c first second;
}

pub returns-in-Err-clause-did : goal.returns-in-Err-clause-did
returns-in-Err-clause-did g c = rw c.fail.ensures.answer (λ h st.
    let s = g.T.Store in
    let old : EngineView _ = record { memory = c.args.memory.now; store = c.args.store.now } in
    let going : h.stopped ≡ false = sym st.knows.stopped ∙ (ap (λ (k : Kept). k.stopped) (sym c.memory.view_is) ∙ c.if-memory.false) in
    let e = c.in-Err.ensures in
    let logs : Flushes s c.args.store.now c.flush.new.self [] false = flush_logs s c.args.store.now c.flush.new.self (Err c.in-Err.field-0) e.shape e.slots e.failed e.counted e.lsn e.blocks e.settles e.any_moment in
    let goes = st.goes going in
    does_fault s st.told (laws_of g) h machine.Flush old (record { memory = c.fail.new.self; store = c.flush.new.self }) st going (rw going refl) c.fail.ensures.stopped
    (record { shape = e.shape; slots = e.slots }) (λ keeps. fault_survives s st.told (laws_of g) h goes.xids old.store c.flush.new.self st.shape goes.holds logs keeps))

pub returns-in-Ok-clause-did : goal.returns-in-Ok-clause-did
returns-in-Ok-clause-did g c = λ h st.
    let s = g.T.Store in
    let old : EngineView _ = record { memory = c.args.memory.now; store = c.args.store.now } in
    let going : h.stopped ≡ false = sym st.knows.stopped ∙ (ap (λ (k : Kept). k.stopped) (sym c.memory.view_is) ∙ c.if-memory.false) in
    let e = c.in-Ok.ensures in
    let logs : Flushes s c.args.store.now c.flush.new.self [] true = flush_logs s c.args.store.now c.flush.new.self (Ok c.in-Ok.field-0) e.shape e.slots e.failed e.counted e.lsn e.blocks e.settles e.any_moment in
    does_flushed s st.told (laws_of g) h machine.Flush (machine.Flushed c.memory.inside.scn) old (record { memory = c.args.memory.now; store = c.flush.new.self }) st going
    (MayAnswer.later [] (rw going refl) refl (ap machine.Flushed (ap (λ (k : Kept). k.scn) c.memory.view_is ∙ st.knows.scn))) refl refl (λ s t k a is done. cc) refl logs e.flushed (record { shape = e.shape; slots = e.slots })

pub returns-in-Ok-clause-step : goal.returns-in-Ok-clause-step
returns-in-Ok-clause-step g c =
    let s = g.T.Store in
    let e = c.in-Ok.ensures in
    let logs : Flushes s c.args.store.now c.flush.new.self [] true = flush_logs s c.args.store.now c.flush.new.self (Ok c.in-Ok.field-0) e.shape e.slots e.failed e.counted e.lsn e.blocks e.settles e.any_moment in
    in_step_same s c.args.memory.now c.args.memory.now c.args.store.now c.flush.new.self c.requires.step e.shape refl refl refl (λ going. (logs.failed, (let n = logs.number refl in omega (arith, n)), going))
