use Rattle.std.proofs.Common.{inr, ◌≡◌, Some, false, true, refl, sym, ◌∙◌, ap, subst, arith}
use Rattle.rb_base.specs.Logs.{Laws}
use Rattle.rb_engine.specs.Does.{Does, EngineView, IsInStep, Kept, Stands, slots_had}
use Rattle.rb_model.specs.Calls as machine
use Rattle.rb_model.specs.Calls.{MayAnswer, is_empty}
use Rattle.rb_model.specs.declared.refusal.Refusal.TheVariants.{DiskFault}
use Rattle.rb_sessions.specs.Kept.{KeptSession, kept_at}
use Rattle.rb_sessions.specs.Kept as table
use Rattle.rb_model.specs.Queue.{is_queued}
use Rattle.rb_engine.proofs.FinishLemmas.{count_is, does_not, goes, no_early, own_id, who_in}
use Rattle.rb_engine.proofs.RollbackLemmas.{does_back}
use Rattle.rb_engine.proofs.StepLemmas.{few_less, fit_at, fit_rolled_back, in_step_moved, queue_moved}
use Rattle.rb_engine.proofs.MakesLemmas.{makes_back}
use Rattle.rb_engine.proofs.finish.roll_back_changes.Given.{Over}
use Rattle.rb_engine.proofs.finish.roll_back_changes.Goals as goal

laws_of : (g : Over) → Laws g.T.Store
laws_of g = record {
  stable_left = λ store b n i keeps stable here. g.met.T.Store.stable_left store b n i keeps stable here;
  stable_numbered = λ store b n keeps stable. g.met.T.Store.stable_numbered store b n keeps stable;
  stable_patched = λ store b n keeps stable. g.met.T.Store.stable_patched store b n keeps stable;
  now_counts = λ store t i keeps le here. g.met.T.Store.now_counts store t i keeps le here;
  only_now = λ store i keeps here. g.met.T.Store.only_now store i keeps here;
  holds_back_same = λ store. g.met.T.Store.holds_back_same store;
  holds_back_joined = λ a b c first second. g.met.T.Store.holds_back_joined a b c first second;
}

pub returns-in-Ok-clause-step : goal.returns-in-Ok-clause-step
returns-in-Ok-clause-step g c =
    let s = g.T.Store in
    let store = c.args.store.now in
    let new = c.put_all_back.new.store in
    let inside : Kept = record { sessions = c.memory.inside.sessions; waits = c.memory.inside.waits; scn = c.memory.inside.scn; stopped = c.memory.inside.stopped; copies = c.memory.inside.copies; dead = c.memory.inside.dead } in
    let now : Kept = record { sessions = c.rollback.new.self; waits = c.free.new.self; scn = c.memory.inside.scn; stopped = c.memory.inside.stopped; copies = c.memory.inside.copies; dead = c.memory.inside.dead } in
    let is : IsInStep s inside store = subst (λ (k : Kept). IsInStep s k store) (sym c.memory.view_is) c.requires.step in
    let own : (kept_at inside.sessions c.args.s).own ≡ Some c.args.xid = ap (λ (k : Kept). (kept_at k.sessions c.args.s).own) c.memory.view_is ∙ c.requires.own in
    let k = kept_at inside.sessions c.args.s in
    let fit = fit_rolled_back (s.shape_of store) k (fit_at s inside store is c.args.s) in
    let shape = c.put_all_back.ensures.same.shape in
    let slot : slots_had k.own ≡ 1 = ap slots_had own in
    let lsn = c.in-Ok.ensures.lsn in
    let length_is = c.session-count.ensures.length in
    in_step_moved s inside now store new is shape refl c.args.s c.requires.session (table.rolled_back k) fit c.rollback.ensures
    (queue_moved s inside now store new is shape refl c.args.s c.requires.session (table.rolled_back k) fit c.rollback.ensures refl (inr c.free.ensures))
    (λ going. (c.in-Ok.ensures.failed, few_less s inside now store new is shape refl c.args.s c.requires.session (table.rolled_back k) fit c.rollback.ensures going (omega (arith, lsn, slot, length_is))))

pub returns-in-Ok-clause-did : goal.returns-in-Ok-clause-did
returns-in-Ok-clause-did g c = λ h st.
    let s = g.T.Store in
    let store = c.args.store.now in
    let inside : Kept = record { sessions = c.memory.inside.sessions; waits = c.memory.inside.waits; scn = c.memory.inside.scn; stopped = c.memory.inside.stopped; copies = c.memory.inside.copies; dead = c.memory.inside.dead } in
    let old : EngineView _ = record { memory = inside; store = store } in
    let here : Stands s h old = subst (λ (k : Kept). Stands s h (record { memory = k; store = store })) (sym c.memory.view_is) st in
    let own : (kept_at inside.sessions c.args.s).own ≡ Some c.args.xid = ap (λ (k : Kept). (kept_at k.sessions c.args.s).own) c.memory.view_is ∙ c.requires.own in
    let going : h.stopped ≡ false = sym st.knows.stopped ∙ c.requires.going in
    let there = c.requires.session in
    let out : is_queued c.args.s inside.waits ≡ false = ap (λ (k : Kept). is_queued c.args.s k.waits) c.memory.view_is ∙ c.requires.free in
    let low = (subst (λ (k : Kept). IsInStep s k store) (sym c.memory.view_is) c.requires.step) in
    let count = count_is s st.told (laws_of g) h old c.args.s c.args.xid here going there own in
    let new : EngineView _ = record { memory = record { sessions = c.rollback.new.self; waits = c.free.new.self; scn = c.memory.inside.scn; stopped = c.memory.inside.stopped; copies = c.memory.inside.copies; dead = c.memory.inside.dead }; store = c.put_all_back.new.store } in
    let held = goes s st.told (laws_of g) h old c.args.s c.args.xid here going there own in
    let who = who_in s st.told (laws_of g) h old c.args.s c.args.xid here going there own in
    subst (λ (k : Kept). Does s h (machine.Rollback c.args.s) machine.Done (record { memory = k; store = store }) new) c.memory.view_is
    (does_back s st.told (laws_of g) h old c.args.s c.args.xid here going there own new c.put_all_back.ensures.same out
    (c.in-Ok.ensures.puts_back st.told h held.xids c.args.s st.shape held.holds who.0 who.1 (own_id s st.told (laws_of g) h old c.args.s c.args.xid here going there own) going (sym count ∙ sym c.session-count.ensures.length))
    c.rollback.ensures c.free.ensures refl refl refl refl)

pub returns-in-Err-clause-did : goal.returns-in-Err-clause-did
returns-in-Err-clause-did g c = rw c.fail.ensures.answer (λ h st.
    let s = g.T.Store in
    let store = c.args.store.now in
    let inside : Kept = record { sessions = c.memory.inside.sessions; waits = c.memory.inside.waits; scn = c.memory.inside.scn; stopped = c.memory.inside.stopped; copies = c.memory.inside.copies; dead = c.memory.inside.dead } in
    let old : EngineView _ = record { memory = inside; store = store } in
    let here : Stands s h old = subst (λ (k : Kept). Stands s h (record { memory = k; store = store })) (sym c.memory.view_is) st in
    let own : (kept_at inside.sessions c.args.s).own ≡ Some c.args.xid = ap (λ (k : Kept). (kept_at k.sessions c.args.s).own) c.memory.view_is ∙ c.requires.own in
    let going : h.stopped ≡ false = sym st.knows.stopped ∙ c.requires.going in
    let there = c.requires.session in
    let out : is_queued c.args.s inside.waits ≡ false = ap (λ (k : Kept). is_queued c.args.s k.waits) c.memory.view_is ∙ c.requires.free in
    let low = (subst (λ (k : Kept). IsInStep s k store) (sym c.memory.view_is) c.requires.step) in
    let count = count_is s st.told (laws_of g) h old c.args.s c.args.xid here going there own in
    let new : EngineView _ = record { memory = c.fail.new.self; store = c.put_all_back.new.store } in
    let held = goes s st.told (laws_of g) h old c.args.s c.args.xid here going there own in
    let who = who_in s st.told (laws_of g) h old c.args.s c.args.xid here going there own in
    subst (λ (k : Kept). Does s h (machine.Rollback c.args.s) (machine.Refused DiskFault) (record { memory = k; store = store }) new) c.memory.view_is
    (does_not s st.told (laws_of g) h old c.args.s c.args.xid here going there own new c.put_all_back.ensures.same (machine.Rollback c.args.s) (no_early h inside c.args.s here.knows going there out)
    (c.in-Err.ensures.puts_back st.told h held.xids c.args.s st.shape held.holds who.0 who.1 (own_id s st.told (laws_of g) h old c.args.s c.args.xid here going there own) going (sym count ∙ sym c.session-count.ensures.length) (Some (machine.Rollback c.args.s)))
    (c.fail.ensures.stopped ∙ ap (λ (k : Kept). let n : Kept = record k { stopped = true } in n) (sym c.memory.view_is))))

pub returns-in-Ok-clause-makes : goal.returns-in-Ok-clause-makes
returns-in-Ok-clause-makes g c = λ h st fine.
    let s = g.T.Store in
    let store = c.args.store.now in
    let inside : Kept = record { sessions = c.memory.inside.sessions; waits = c.memory.inside.waits; scn = c.memory.inside.scn; stopped = c.memory.inside.stopped; copies = c.memory.inside.copies; dead = c.memory.inside.dead } in
    let old : EngineView _ = record { memory = inside; store = store } in
    let here : Stands s h old = subst (λ (k : Kept). Stands s h (record { memory = k; store = store })) (sym c.memory.view_is) st in
    let own : (kept_at inside.sessions c.args.s).own ≡ Some c.args.xid = ap (λ (k : Kept). (kept_at k.sessions c.args.s).own) c.memory.view_is ∙ c.requires.own in
    let going : h.stopped ≡ false = sym st.knows.stopped ∙ c.requires.going in
    let there = c.requires.session in
    let count = count_is s st.told (laws_of g) h old c.args.s c.args.xid here going there own in
    let held = goes s st.told (laws_of g) h old c.args.s c.args.xid here going there own in
    let who = who_in s st.told (laws_of g) h old c.args.s c.args.xid here going there own in
    let id = own_id s st.told (laws_of g) h old c.args.s c.args.xid here going there own in
    let new = c.put_all_back.new.store in
    makes_back s st.told (laws_of g) h old c.args.s c.args.xid here going there own (s.lsn new) new
    (c.in-Ok.ensures.puts_back st.told h held.xids c.args.s st.shape held.holds who.0 who.1 id going (sym count ∙ sym c.session-count.ensures.length))

pub returns-in-Ok-clause-holds_back : goal.returns-in-Ok-clause-holds_back
returns-in-Ok-clause-holds_back g c = λ fine. c.in-Ok.ensures.holds_back

pub returns-in-Err-clause-holds_back : goal.returns-in-Err-clause-holds_back
returns-in-Err-clause-holds_back g c = rw c.fail.ensures.answer (λ fine. (let clash : true ≡ false = fine in absurd cc))
