use Rattle.std.proofs.Common.{◌≡◌, [], ◌<◌, not, Bool, false, true, refl, sym, ◌∙◌, ap, subst, arith}
use Rattle.std.specs.Result.{is_err}
use Rattle.rb_base.specs.Blocks.{header_block}
use Rattle.rb_base.specs.Logs.{Laws, Logs, load_logs}
use Rattle.rb_base.specs.declared.shape.Shape.{Shape}
use Rattle.rb_engine.specs.Does.{EngineView, Kept}
use Rattle.rb_model.specs.Calls as machine
use Rattle.rb_model.specs.Calls.{MayAnswer}
use Rattle.rb_restart.proofs.SlotEnded.{block_read}
use Rattle.rb_engine.proofs.DoesLemmas.{does_fault, does_loaded, fault_survives, marks_told, ok_of}
use Rattle.rb_engine.proofs.StepLemmas.{in_step_same}
use Rattle.rb_engine.proofs.marks.do_marks.Given.{Over}
use Rattle.rb_engine.proofs.marks.do_marks.Goals as goal

laws_of : (g : Over) → Laws g.T.Store
laws_of g = record {
  stable_left = λ store b n i keeps stable here. g.met.T.Store.stable_left store b n i keeps stable here;
  stable_numbered = λ store b n keeps stable. g.met.T.Store.stable_numbered store b n keeps stable;
  stable_patched = λ store b n keeps stable. g.met.T.Store.stable_patched store b n keeps stable;
  now_counts = λ store t i keeps le here. g.met.T.Store.now_counts store t i keeps le here;
  only_now = λ store i keeps here. g.met.T.Store.only_now store i keeps here;
  holds_back_same = λ store. g.met.T.Store.holds_back_same store;
  holds_back_joined = λ a b c first second. g.met.T.Store.holds_back_joined a b c first second;
}

pub returns-then-is_err-clause-did : goal.returns-then-is_err-clause-did
returns-then-is_err-clause-did g c = rw c.fail.ensures.answer (λ h st.
    let s = g.T.Store in
    let old : EngineView _ = record { memory = c.args.memory.now; store = c.args.store.now } in
    let going : h.stopped ≡ false = sym st.knows.stopped ∙ (ap (λ (k : Kept). k.stopped) (sym c.memory.view_is) ∙ c.if-memory.false) in
    let e = c.load.ensures in
    let failed : is_err c.load.result ≡ true = sym c.is_err.ensures.value ∙ c.if-is_err.true in
    let logs = subst (λ (b : Bool). Logs s c.args.store.now c.load.new.self [] (not b)) failed (load_logs s c.args.store.now c.load.new.self c.load.result e.shape e.slots e.failed e.counted e.lsn e.blocks e.settles e.any_moment e.holds_back) in
    let goes = st.goes going in
    does_fault s st.told (laws_of g) h (machine.Marks c.args.seg) old (record { memory = c.fail.new.self; store = c.load.new.self }) st going (rw going refl) c.fail.ensures.stopped
    (record { shape = e.shape; slots = e.slots }) (λ keeps. fault_survives s st.told (laws_of g) h goes.xids old.store c.load.new.self st.shape goes.holds logs keeps))

pub returns-clause-step : goal.returns-clause-step
returns-clause-step g c =
    let s = g.T.Store in
    let e = c.load.ensures in
    let fine : is_err c.load.result ≡ false = sym c.is_err.ensures.value ∙ c.if-is_err.false in
    let logs : Logs s c.args.store.now c.load.new.self [] true = subst (λ (b : Bool). Logs s c.args.store.now c.load.new.self [] (not b)) fine (load_logs s c.args.store.now c.load.new.self c.load.result e.shape e.slots e.failed e.counted e.lsn e.blocks e.settles e.any_moment e.holds_back) in
    in_step_same s c.args.memory.now c.args.memory.now c.args.store.now c.load.new.self c.requires.step e.shape refl refl refl (λ going. (logs.failed, (let n = logs.number refl in omega (arith, n)), going))

pub returns-clause-did : goal.returns-clause-did
returns-clause-did g c = λ h st.
    let s = g.T.Store in
    let old : EngineView _ = record { memory = c.args.memory.now; store = c.args.store.now } in
    let going : h.stopped ≡ false = sym st.knows.stopped ∙ (ap (λ (k : Kept). k.stopped) (sym c.memory.view_is) ∙ c.if-memory.false) in
    let e = c.load.ensures in
    let fine : is_err c.load.result ≡ false = sym c.is_err.ensures.value ∙ c.if-is_err.false in
    let logs : Logs s c.args.store.now c.load.new.self [] true = subst (λ (b : Bool). Logs s c.args.store.now c.load.new.self [] (not b)) fine (load_logs s c.args.store.now c.load.new.self c.load.result e.shape e.slots e.failed e.counted e.lsn e.blocks e.settles e.any_moment e.holds_back) in
    let goes = st.goes going in
    let shape_is : c.shape.result ≡ h.shape = c.shape.ensures.shape ∙ st.shape in
    let at : c.header_block-header.result ≡ header_block h.shape c.args.seg = c.header_block-header.ensures.number ∙ ap (λ (k : Shape). header_block k c.args.seg) shape_is in
    let there : c.args.seg < h.shape.segments = subst (λ (k : Shape). c.args.seg < k.segments) st.shape c.requires.there in
    let answer = marks_told h goes.xids (s.blocks c.args.store.now) goes.holds.blocks c.args.seg there c.block-block.result.now
    (block_read s c.args.store.now c.load.new.self c.header_block-header.result (header_block h.shape c.args.seg) c.block-block.result.now st.told (logs.blocks st.told refl) c.block-block.ensures.block (ok_of c.load.result fine e.loaded) at) c.writes.result c.lost.result c.writes.ensures c.lost.ensures in
    does_loaded s st.told (laws_of g) h (machine.Marks c.args.seg) (machine.Marked c.args.seg c.writes.result c.lost.result) old (record { memory = c.args.memory.now; store = c.load.new.self }) st
    (MayAnswer.later [] (rw going refl) refl answer) refl refl (λ s t k a is done. cc) refl (λ _. logs) (record { shape = e.shape; slots = e.slots })

pub returns-clause-blocks : goal.returns-clause-blocks
returns-clause-blocks g c = λ tells fine.
    ok_of c.load.result (sym c.is_err.ensures.value ∙ c.if-is_err.false) (c.load.ensures.blocks tells)

pub returns-then-memory-clause-holds_back : goal.returns-then-memory-clause-holds_back
returns-then-memory-clause-holds_back g c = λ fine. g.met.T.Store.holds_back_same c.args.store.now

pub returns-then-is_err-clause-holds_back : goal.returns-then-is_err-clause-holds_back
returns-then-is_err-clause-holds_back g c = rw c.fail.ensures.answer (λ fine. (let clash : true ≡ false = fine in absurd cc))

pub returns-clause-holds_back : goal.returns-clause-holds_back
returns-clause-holds_back g c = λ _.
    let s = g.T.Store in
    let e = c.load.ensures in
    let fine : is_err c.load.result ≡ false = sym c.is_err.ensures.value ∙ c.if-is_err.false in
    let logs : Logs s c.args.store.now c.load.new.self [] true = subst (λ (b : Bool). Logs s c.args.store.now c.load.new.self [] (not b)) fine (load_logs s c.args.store.now c.load.new.self c.load.result e.shape e.slots e.failed e.counted e.lsn e.blocks e.settles e.any_moment e.holds_back) in
    logs.between refl (laws_of g)
