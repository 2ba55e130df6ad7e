use Rattle.std.proofs.Common.{◌≡◌, ◌≤◌, ℕ, false, refl, sym, ◌∙◌, ap, subst, arith}
use Rattle.rb_base.specs.Blocks.{home_block}
use Rattle.rb_base.specs.Logs.{Laws}
use Rattle.rb_base.specs.declared.shape.Shape.{Shape}
use Rattle.law_dead.proofs.Owing.{home_calm}
use Rattle.rb_engine.specs.Behind.{Led}
use Rattle.rb_engine.specs.Does.{EngineView, IsInStep, Kept, Stands}
use Rattle.rb_engine.proofs.BehindLemmas.{nowhere}
use Rattle.rb_engine.proofs.LedLemmas.{has_dead, led_by, step_led, step_stopped}
use Rattle.rb_model.specs.Dead.{dead_owed, home_cleared, segment_cleared}
use Rattle.rb_model.specs.State.{State}
use Rattle.rb_engine.proofs.dead.free_segment.Given.{Over}
use Rattle.rb_engine.proofs.dead.free_segment.Goals as goal

laws_of : (g : Over) → Laws g.T.Store
laws_of g = record {
  stable_left = λ store b n i keeps stable here. g.met.T.Store.stable_left store b n i keeps stable here;
  stable_numbered = λ store b n keeps stable. g.met.T.Store.stable_numbered store b n keeps stable;
  stable_patched = λ store b n keeps stable. g.met.T.Store.stable_patched store b n keeps stable;
  now_counts = λ store t i keeps le here. g.met.T.Store.now_counts store t i keeps le here;
  only_now = λ store i keeps here. g.met.T.Store.only_now store i keeps here;
  holds_back_same = λ store. g.met.T.Store.holds_back_same store;
  holds_back_joined = λ a b c first second. g.met.T.Store.holds_back_joined a b c first second;
}

pub returns-in-Ok-clause-step : goal.returns-in-Ok-clause-step
returns-in-Ok-clause-step g c =
    let s = g.T.Store in
    let inside : Kept = record { sessions = c.memory.inside.sessions; waits = c.memory.inside.waits; scn = c.memory.inside.scn; stopped = c.memory.inside.stopped; copies = c.memory.inside.copies; dead = c.memory.inside.dead } in
    let now : Kept = record { sessions = c.memory.inside.sessions; waits = c.memory.inside.waits; scn = c.memory.inside.scn; stopped = c.memory.inside.stopped; copies = c.memory.inside.copies; dead = c.clear_segment.new.owed } in
    let is : IsInStep s inside c.args.store.now = subst (λ (k : Kept). IsInStep s k c.args.store.now) (sym c.memory.view_is) c.requires.step in
    step_led s inside now c.args.store.now c.clear_segment.new.store is c.clear_segment.new.owed c.in-Ok.ensures.gives refl (ap (λ (k : Kept). k.stopped) c.memory.view_is ∙ c.requires.going)

pub returns-in-Ok-clause-led : goal.returns-in-Ok-clause-led
returns-in-Ok-clause-led g c = λ h st.
    let s = g.T.Store in
    let store = c.args.store.now in
    let inside : Kept = record { sessions = c.memory.inside.sessions; waits = c.memory.inside.waits; scn = c.memory.inside.scn; stopped = c.memory.inside.stopped; copies = c.memory.inside.copies; dead = c.memory.inside.dead } in
    let now : Kept = record { sessions = c.memory.inside.sessions; waits = c.memory.inside.waits; scn = c.memory.inside.scn; stopped = c.memory.inside.stopped; copies = c.memory.inside.copies; dead = c.clear_segment.new.owed } in
    let old : EngineView _ = record { memory = inside; store = store } in
    let new : EngineView _ = record { memory = now; store = c.clear_segment.new.store } in
    let here : Stands s h old = subst (λ (k : Kept). Stands s h (record { memory = k; store = store })) (sym c.memory.view_is) st in
    let on : h.stopped ≡ false = sym st.knows.stopped ∙ c.requires.going in
    let logs = c.in-Ok.ensures.gives.1 in
    subst (λ (k : Kept). Led s h (segment_cleared c.args.seg h) (record { memory = k; store = store }) new) c.memory.view_is
    (led_by s h (segment_cleared c.args.seg h) old new here on
    (c.in-Ok.ensures.cleared st.told h (here.goes on).xids (has_dead s h old here on)) refl (record { shape = logs.same_shape; slots = logs.same_slots }))

pub returns-in-Ok-clause-holds_back : goal.returns-in-Ok-clause-holds_back
returns-in-Ok-clause-holds_back g c = λ fine. c.in-Ok.ensures.gives.1.between refl (laws_of g)
