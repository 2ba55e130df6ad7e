use Rattle.std.proofs.Common.{◌≡◌, ◌≤◌, ◌<◌, inl, ℕ, Bool, true, false, not, List, [], Ok, refl, sym, ◌∙◌, ap, subst, arith}
use Rattle.rb_base.specs.Logs.{Laws, Logs}
use Rattle.rb_base.specs.declared.shape.Shape.{Shape}
use Rattle.rb_engine.specs.Behind.{Tried}
use Rattle.rb_engine.specs.Does.{EngineView, IsInStep, Kept, Stands}
use Rattle.rb_model.specs.Answers.{action_by}
use Rattle.rb_model.specs.Calls.{is_disk_fault}
use Rattle.rb_model.specs.declared.wrote.Wrote.TheVariants as wrotes
use Rattle.rb_sessions.specs.Kept.{KeptSession, kept_at, wrote}
use Rattle.rb_engine.proofs.OnceLemmas.{once_made, once_unmade}
use Rattle.rb_engine.proofs.StepLemmas.{few_wrote, fit_at, fit_wrote, in_step_moved, queue_moved}
use Rattle.rb_engine.proofs.WriteLemmas.{failed_is, few_group}
use Rattle.rb_engine.proofs.WriteOrder.{loaded_in_step}
use Rattle.rb_engine.proofs.write.write_once.Given.{Over}
use Rattle.rb_engine.proofs.write.write_once.Goals as goal

laws_of : (g : Over) → Laws g.T.Store
laws_of g = record {
  stable_left = λ store b n i keeps stable here. g.met.T.Store.stable_left store b n i keeps stable here;
  stable_numbered = λ store b n keeps stable. g.met.T.Store.stable_numbered store b n keeps stable;
  stable_patched = λ store b n keeps stable. g.met.T.Store.stable_patched store b n keeps stable;
  now_counts = λ store t i keeps le here. g.met.T.Store.now_counts store t i keeps le here;
  only_now = λ store i keeps here. g.met.T.Store.only_now store i keeps here;
  holds_back_same = λ store. g.met.T.Store.holds_back_same store;
  holds_back_joined = λ a b c first second. g.met.T.Store.holds_back_joined a b c first second;
}

pub returns-in-Ok-clause-step : goal.returns-in-Ok-clause-step
returns-in-Ok-clause-step g c =
    let s = g.T.Store in
    let inside : Kept = record { sessions = c.memory.inside.sessions; waits = c.memory.inside.waits; scn = c.memory.inside.scn; stopped = c.memory.inside.stopped; copies = c.memory.inside.copies; dead = c.memory.inside.dead } in
    let now : Kept = record { sessions = c.wrote.new.self; waits = c.memory.inside.waits; scn = c.memory.inside.scn; stopped = c.memory.inside.stopped; copies = c.memory.inside.copies; dead = c.memory.inside.dead } in
    let old = c.args.store.now in
    let new = c.write_step.new.store in
    let u = c.args.s in
    let there = c.requires.session in
    let is : IsInStep s inside old = subst (λ (k : Kept). IsInStep s k old) (sym c.memory.view_is) c.requires.step in
    let k : KeptSession = wrote c.in-Ok.xid (kept_at inside.sessions u) in
    let logs = c.in-Ok.ensures.logs in
    let young = c.in-Ok.ensures.numbers in
    let fit = fit_wrote (s.shape_of old) c.in-Ok.xid (kept_at inside.sessions u) (fit_at s inside old is u) c.in-Ok.ensures.there in
    let number = logs.1.number refl in
    let one = few_group logs.0 in
    in_step_moved s inside now old new is logs.1.same_shape refl u there k fit c.wrote.ensures
    (queue_moved s inside now old new is logs.1.same_shape refl u there k fit c.wrote.ensures refl (inl refl))
    (λ _. (logs.1.failed, few_wrote s inside now old new is logs.1.same_shape refl u there k fit c.wrote.ensures (omega (arith, number, one, young)) fit.small))

pub returns-in-Ok-clause-did : goal.returns-in-Ok-clause-did
returns-in-Ok-clause-did g c = λ h st early may.
    let s = g.T.Store in
    let store = c.args.store.now in
    let inside : Kept = record { sessions = c.memory.inside.sessions; waits = c.memory.inside.waits; scn = c.memory.inside.scn; stopped = c.memory.inside.stopped; copies = c.memory.inside.copies; dead = c.memory.inside.dead } in
    let old : EngineView _ = record { memory = inside; store = store } in
    let new : EngineView _ = record { memory = record { sessions = c.wrote.new.self; waits = c.memory.inside.waits; scn = c.memory.inside.scn; stopped = c.memory.inside.stopped; copies = c.memory.inside.copies; dead = c.memory.inside.dead }; store = c.write_step.new.store } in
    let here : Stands s h old = subst (λ (k : Kept). Stands s h (record { memory = k; store = store })) (sym c.memory.view_is) st in
    let on : h.stopped ≡ false = sym st.knows.stopped ∙ c.requires.going in
    let logs = c.in-Ok.ensures.logs.1 in
    let action = action_by c.args.op in
    subst (λ (k : Kept). Tried s h c.args.s c.args.table c.args.key action (Ok wrotes.Done) (record { memory = k; store = store }) new) c.memory.view_is
    (once_made s st.told (laws_of g) h old here on (c.requires.step.going c.requires.going) c.args.s c.args.table c.args.key action c.requires.session early may c.session.result.own c.session.ensures.own new
    (record { shape = logs.same_shape; slots = logs.same_slots }) c.in-Ok.xid (λ xids. c.in-Ok.ensures.gives st.told h xids c.args.s) c.wrote.ensures refl refl refl refl refl
    (subst (λ (z : Shape). (1 ≤ c.args.table) × (c.args.table ≤ z.tables)) st.shape c.requires.table))

pub returns-in-Ok-clause-holds_back : goal.returns-in-Ok-clause-holds_back
returns-in-Ok-clause-holds_back g c = λ fine. c.in-Ok.ensures.logs.1.between refl (laws_of g)

-- where it is refused, the store was only loaded from
unmade : (g : Over) (c : goal.After-refusal g) → is_disk_fault c.refusal.result ≡ false → Logs g.T.Store c.args.store.now c.write_step.new.store [] true
unmade g c fine = c.in-Err.ensures.unchanged (sym (failed_is c.in-Err.fault) ∙ (ap is_disk_fault (sym c.refusal.ensures.why) ∙ fine))

pub returns-in-Err-clause-step : goal.returns-in-Err-clause-step
returns-in-Err-clause-step g c =
    loaded_in_step g.T.Store c.args.memory.now c.refusal.new.memory c.args.store.now c.write_step.new.store c.requires.step c.requires.going c.in-Err.ensures.logs.1.same_shape (is_disk_fault c.refusal.result) c.refusal.ensures.stops (unmade g c)

pub returns-in-Err-clause-did : goal.returns-in-Err-clause-did
returns-in-Err-clause-did g c = λ h st early may.
    let s = g.T.Store in
    let old : EngineView _ = record { memory = c.args.memory.now; store = c.args.store.now } in
    let new : EngineView _ = record { memory = c.refusal.new.memory; store = c.write_step.new.store } in
    let on : h.stopped ≡ false = sym st.knows.stopped ∙ c.requires.going in
    let logs = c.in-Err.ensures.logs.1 in
    let own = c.session.ensures.own ∙ ap (λ (m : Kept). (kept_at m.sessions c.args.s).own) c.memory.view_is in
    once_unmade s st.told (laws_of g) h old st on (c.requires.step.going c.requires.going) c.args.s c.args.table c.args.key (action_by c.args.op) c.requires.session early may c.session.result.own own new
    (record { shape = logs.same_shape; slots = logs.same_slots }) c.in-Err.fault c.refusal.result c.refusal.ensures.why c.refusal.ensures.stops
    (λ fails xids. c.in-Err.ensures.failed st.told fails h xids c.args.s) (λ goes xids. c.in-Err.ensures.refused st.told goes h xids c.args.s) c.in-Err.ensures.unchanged

pub returns-in-Err-clause-stays : goal.returns-in-Err-clause-stays
returns-in-Err-clause-stays g c = λ other.
    (subst (λ (b : Bool). Rattle.rb_engine.specs.Does.StopsIf b c.args.memory.now c.refusal.new.memory) other c.refusal.ensures.stops, unmade g c other)
