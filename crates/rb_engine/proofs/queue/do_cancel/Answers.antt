use Rattle.std.proofs.Common.{◌≡◌, List, false, refl, sym, ◌∙◌, ap, subst, arith}
use Rattle.std.proofs.lemmas.Result.{err_from_is_err_and}
use Rattle.rb_base.specs.Logs.{Laws}
use Rattle.rb_engine.specs.Does.{Does, IsInStep, Kept, Stands}
use Rattle.rb_model.specs.Calls as machine
use Rattle.rb_model.specs.Queue.{Waiter, is_queued, left_by}
use Rattle.rb_engine.proofs.DoesLemmas.{does_refused}
use Rattle.rb_engine.proofs.QueueLemmas.{queue_left}
use Rattle.rb_engine.proofs.StepLemmas.{in_step_queue}
use Rattle.rb_engine.proofs.WaitLemmas.{does_cancelled, not_waiting}
use Rattle.rb_engine.proofs.queue.do_cancel.Given.{Over}
use Rattle.rb_engine.proofs.queue.do_cancel.Goals as goal

laws_of : (g : Over) → Laws g.T.Store
laws_of g = record {
  stable_left = λ store b n i keeps stable here. g.met.T.Store.stable_left store b n i keeps stable here;
  stable_numbered = λ store b n keeps stable. g.met.T.Store.stable_numbered store b n keeps stable;
  stable_patched = λ store b n keeps stable. g.met.T.Store.stable_patched store b n keeps stable;
  now_counts = λ store t i keeps le here. g.met.T.Store.now_counts store t i keeps le here;
  only_now = λ store i keeps here. g.met.T.Store.only_now store i keeps here;
  holds_back_same = λ store. g.met.T.Store.holds_back_same store;
  holds_back_joined = λ a b c first second. g.met.T.Store.holds_back_joined a b c first second;
}

pub returns-in_err-check_number-clause-did : goal.returns-in_err-check_number-clause-did
returns-in_err-check_number-clause-did g c =
    let p = err_from_is_err_and c.from_residual.result c.from_residual.ensures.1 in
    rw (p.1, p.2) (λ h st.
    does_refused g.T.Store (laws_of g) h (machine.Cancel c.args.s) c.in_err-check_number.field-0.0 (record { memory = c.args.memory.now; store = c.args.store.now }) st c.requires.step.going
    (c.in_err-check_number.ensures.refused h st.knows) c.in_err-check_number.ensures.other)

pub returns-then-not-waits-clause-did : goal.returns-then-not-waits-clause-did
returns-then-not-waits-clause-did g c = λ h st.
    let waits : c.memory.inside.waits ≡ c.args.memory.now.waits = ap (λ (k : Kept). k.waits) c.memory.view_is in
    let out : is_queued c.args.s c.args.memory.now.waits ≡ false = ap (is_queued c.args.s) (sym waits) ∙ (sym c.waits.ensures ∙ c.if-not-waits.true) in
    not_waiting g.T.Store (laws_of g) h c.args.s (record { memory = c.args.memory.now; store = c.args.store.now }) st c.requires.step.going (sym st.knows.stopped ∙ c.in_ok-check_number.ensures.going)
    (c.in_ok-check_number.ensures.granted h st.knows) out

pub returns-clause-step : goal.returns-clause-step
returns-clause-step g c =
    let s = g.T.Store in
    let store = c.args.store.now in
    let old : Kept = record { sessions = c.memory.inside.sessions; waits = c.memory.inside.waits; scn = c.memory.inside.scn; stopped = c.memory.inside.stopped; copies = c.memory.inside.copies; dead = c.memory.inside.dead } in
    let now : Kept = record { sessions = c.memory.inside.sessions; waits = c.leave.new.self; scn = c.memory.inside.scn; stopped = c.memory.inside.stopped; copies = c.memory.inside.copies; dead = c.memory.inside.dead } in
    let is : IsInStep s old store = subst (λ (k : Kept). IsInStep s k store) (sym c.memory.view_is) c.requires.step in
    in_step_queue s old now store store is refl refl refl (queue_left old now c.args.s is.queue c.leave.ensures refl) (λ going. (is.going going, omega arith, going))

pub returns-clause-did : goal.returns-clause-did
returns-clause-did g c = λ h st.
    let s = g.T.Store in
    let store = c.args.store.now in
    let old : Kept = record { sessions = c.memory.inside.sessions; waits = c.memory.inside.waits; scn = c.memory.inside.scn; stopped = c.memory.inside.stopped; copies = c.memory.inside.copies; dead = c.memory.inside.dead } in
    let now : Kept = record { sessions = c.memory.inside.sessions; waits = c.leave.new.self; scn = c.memory.inside.scn; stopped = c.memory.inside.stopped; copies = c.memory.inside.copies; dead = c.memory.inside.dead } in
    let is : IsInStep s old store = subst (λ (k : Kept). IsInStep s k store) (sym c.memory.view_is) c.requires.step in
    let here : Stands s h (record { memory = old; store = store }) = subst (λ (k : Kept). Stands s h (record { memory = k; store = store })) (sym c.memory.view_is) st in
    let going = sym st.knows.stopped ∙ c.in_ok-check_number.ensures.going in
    let left : now ≡ record old { waits = left_by c.args.s old.waits } = ap (λ (l : List Waiter). let k : Kept = record { sessions = c.memory.inside.sessions; waits = l; scn = c.memory.inside.scn; stopped = c.memory.inside.stopped; copies = c.memory.inside.copies; dead = c.memory.inside.dead } in k) c.leave.ensures in
    subst (λ (k : Kept). Does s h (machine.Cancel c.args.s) machine.Done (record { memory = k; store = store }) (record { memory = now; store = store })) c.memory.view_is
    (does_cancelled s h c.args.s old now store here left st.told (laws_of g) (is.going (ap (λ (k : Kept). k.stopped) c.memory.view_is ∙ c.in_ok-check_number.ensures.going)) going (c.in_ok-check_number.ensures.granted h st.knows) (sym c.waits.ensures ∙ c.if-not-waits.false))
