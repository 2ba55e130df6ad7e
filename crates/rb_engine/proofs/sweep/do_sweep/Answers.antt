use Rattle.std.proofs.Common.{◌≡◌, ◌-◌, ℕ, false, [], Some, refl, sym, ◌∙◌, ap, subst, arith}
use Rattle.rb_base.specs.Logs.{Laws}
use Rattle.rb_dead.specs.Takes.{HasDead}
use Rattle.rb_engine.specs.Behind.{Led}
use Rattle.rb_engine.specs.Does.{Does, EngineView, Kept, Stands}
use Rattle.rb_engine.proofs.DoesLemmas.{does_by, does_fault}
use Rattle.rb_engine.proofs.LedLemmas.{has_dead, led_by}
use Rattle.rb_model.specs.Calls as machine
use Rattle.rb_model.specs.Calls.{MayAnswer}
use Rattle.rb_model.specs.Dead.{all_slots, dead_owed, swept}
use Rattle.rb_model.specs.State.{State}
use Rattle.rb_engine.proofs.sweep.do_sweep.Given.{Over}
use Rattle.rb_engine.proofs.sweep.do_sweep.Goals as goal

laws_of : (g : Over) → Laws g.T.Store
laws_of g = record {
  stable_left = λ store b n i keeps stable here. g.met.T.Store.stable_left store b n i keeps stable here;
  stable_numbered = λ store b n keeps stable. g.met.T.Store.stable_numbered store b n keeps stable;
  stable_patched = λ store b n keeps stable. g.met.T.Store.stable_patched store b n keeps stable;
  now_counts = λ store t i keeps le here. g.met.T.Store.now_counts store t i keeps le here;
  only_now = λ store i keeps here. g.met.T.Store.only_now store i keeps here;
  holds_back_same = λ store. g.met.T.Store.holds_back_same store;
  holds_back_joined = λ a b c first second. g.met.T.Store.holds_back_joined a b c first second;
}

pub returns-in-Ok-clause-did : goal.returns-in-Ok-clause-did
returns-in-Ok-clause-did g c = λ h st.
    let s = g.T.Store in
    let store = c.args.store.now in
    let inside : Kept = record { sessions = c.memory.inside.sessions; waits = c.memory.inside.waits; scn = c.memory.inside.scn; stopped = c.memory.inside.stopped; copies = c.memory.inside.copies; dead = c.memory.inside.dead } in
    let kept : Kept = record { sessions = c.memory.inside.sessions; waits = c.memory.inside.waits; scn = c.memory.inside.scn; stopped = c.memory.inside.stopped; copies = c.memory.inside.copies; dead = c.sweep.new.owed } in
    let old : EngineView _ = record { memory = inside; store = store } in
    let new : EngineView _ = record { memory = kept; store = c.sweep.new.store } in
    let here : Stands s h old = subst (λ (k : Kept). Stands s h (record { memory = k; store = store })) (sym c.memory.view_is) st in
    let on : h.stopped ≡ false = sym here.knows.stopped ∙ c.if-memory.false in
    let logs = c.in-Ok.ensures.gives.1 in
    let swept_so = c.in-Ok.ensures.swept st.told h (here.goes on).xids (has_dead s h old here on) in
    let now : State = swept c.args.changes (all_slots h) h in
    let led : Led s h now old new = led_by s h now old new here on swept_so.1 refl (record { shape = logs.same_shape; slots = logs.same_slots }) in
    subst (λ (k : Kept). Does s h (machine.Sweep c.args.changes) (machine.Swept c.in-Ok.swept) (record { memory = k; store = store }) new) c.memory.view_is
    (does_by s h now (machine.Sweep c.args.changes) (machine.Swept c.in-Ok.swept) old new (dead_owed h - dead_owed now) here
    (MayAnswer.later [] (rw on refl) refl (ap machine.Swept swept_so.0)) refl (λ _ s t k a is done. cc) led.stands.knows led.same
    (λ going. (refl, led.lsn, led.stands.goes going)) led.stands.owes (λ before going keeps. led.survives before going keeps))

pub returns-in-Ok-clause-holds_back : goal.returns-in-Ok-clause-holds_back
returns-in-Ok-clause-holds_back g c = λ fine. c.in-Ok.ensures.gives.1.between refl (laws_of g)

pub returns-in-Err-clause-did : goal.returns-in-Err-clause-did
returns-in-Err-clause-did g c = rw c.fail.ensures.answer (λ h st.
    let s = g.T.Store in
    let old : EngineView _ = record { memory = c.args.memory.now; store = c.args.store.now } in
    let new : EngineView _ = record { memory = c.fail.new.self; store = c.sweep.new.store } in
    let on : h.stopped ≡ false = sym st.knows.stopped ∙ (ap (λ (k : Kept). k.stopped) (sym c.memory.view_is) ∙ c.if-memory.false) in
    let logs = c.in-Err.ensures.gives.1 in
    let has = subst (λ (k : Kept). HasDead s h (st.goes on).xids k.sessions k.dead c.args.store.now) (sym c.memory.view_is) (has_dead s h old st on) in
    let fails = c.in-Err.ensures.swept st.told h (st.goes on).xids has in
    does_fault s st.told (laws_of g) h (machine.Sweep c.args.changes) old new st on (rw on refl) c.fail.ensures.stopped (record { shape = logs.same_shape; slots = logs.same_slots }) (λ keeps. fails (Some (machine.Sweep c.args.changes)) keeps))
