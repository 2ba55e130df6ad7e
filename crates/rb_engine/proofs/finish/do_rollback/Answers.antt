use Rattle.std.proofs.Common.{◌≡◌, inr, [], None, false, refl, sym, ◌∙◌, ap, subst, arith, List, map, ◌-◌}
use Rattle.std.proofs.lemmas.Result.{err_from_is_err_and}
use Rattle.rb_base.specs.Logs.{Laws}
use Rattle.rb_engine.specs.Does.{Does, EngineView, IsInStep, Kept, Stands}
use Rattle.rb_model.specs.Calls as machine
use Rattle.rb_model.specs.Calls.{MayAnswer, is_empty}
use Rattle.rb_model.specs.NextState.{cursors_of, ended, freeing, left_open}
use Rattle.rb_sessions.specs.Kept.{KeptSession, kept_at}
use Rattle.rb_sessions.specs.Kept as table
use Rattle.law_blocks.specs.Standing.{env_of}
use Rattle.law_sessions.proofs.Ended.{back_remembered}
use Rattle.rb_engine.proofs.QueueLemmas.{all_asked}
use Rattle.rb_engine.proofs.DoesLemmas.{does_refused}
use Rattle.rb_engine.proofs.FinishLemmas.{does_ended}
use Rattle.rb_engine.proofs.StepLemmas.{few_less, fit_at, fit_rolled_back, in_step_moved, queue_moved}
use Rattle.law_sessions.specs.Views.{Remembers}
use Rattle.rb_engine.proofs.MakesLemmas.{makes_refused, no_slot}
use Rattle.rb_engine.proofs.finish.do_rollback.Given.{Over}
use Rattle.rb_engine.proofs.finish.do_rollback.Goals as goal

laws_of : (g : Over) → Laws g.T.Store
laws_of g = record {
  stable_left = λ store b n i keeps stable here. g.met.T.Store.stable_left store b n i keeps stable here;
  stable_numbered = λ store b n keeps stable. g.met.T.Store.stable_numbered store b n keeps stable;
  stable_patched = λ store b n keeps stable. g.met.T.Store.stable_patched store b n keeps stable;
  now_counts = λ store t i keeps le here. g.met.T.Store.now_counts store t i keeps le here;
  only_now = λ store i keeps here. g.met.T.Store.only_now store i keeps here;
  holds_back_same = λ store. g.met.T.Store.holds_back_same store;
  holds_back_joined = λ a b c first second. g.met.T.Store.holds_back_joined a b c first second;
}

pub returns-in_err-check_session-clause-did : goal.returns-in_err-check_session-clause-did
returns-in_err-check_session-clause-did g c =
    let p = err_from_is_err_and c.from_residual.result c.from_residual.ensures.1 in
    rw (p.1, p.2) (λ h st.
    does_refused g.T.Store (laws_of g) h (machine.Rollback c.args.s) c.in_err-check_session.field-0.0 (record { memory = c.args.memory.now; store = c.args.store.now }) st c.requires.step.going
    (c.in_err-check_session.ensures.refused h st.knows) c.in_err-check_session.ensures.other)

pub returns-in-None-clause-step : goal.returns-in-None-clause-step
returns-in-None-clause-step g c =
    let s = g.T.Store in
    let store = c.args.store.now in
    let inside : Kept = record { sessions = c.memory.inside.sessions; waits = c.memory.inside.waits; scn = c.memory.inside.scn; stopped = c.memory.inside.stopped; copies = c.memory.inside.copies; dead = c.memory.inside.dead } in
    let is : IsInStep s inside store = subst (λ (k : Kept). IsInStep s k store) (sym c.memory.view_is) c.requires.step in
    let now : Kept = record { sessions = c.rollback.new.self; waits = c.free.new.self; scn = c.memory.inside.scn; stopped = c.memory.inside.stopped; copies = c.memory.inside.copies; dead = c.memory.inside.dead } in
    let k = kept_at inside.sessions c.args.s in
    let fit = fit_rolled_back (s.shape_of store) k (fit_at s inside store is c.args.s) in
    in_step_moved s inside now store store is refl refl c.args.s c.in_ok-check_session.ensures.session (table.rolled_back k) fit c.rollback.ensures
    (queue_moved s inside now store store is refl refl c.args.s c.in_ok-check_session.ensures.session (table.rolled_back k) fit c.rollback.ensures refl (inr c.free.ensures))
    (λ going. (is.going going, few_less s inside now store store is refl refl c.args.s c.in_ok-check_session.ensures.session (table.rolled_back k) fit c.rollback.ensures going (omega arith)))

pub returns-in-None-clause-did : goal.returns-in-None-clause-did
returns-in-None-clause-did g c = λ h st.
    let s = g.T.Store in
    let store = c.args.store.now in
    let inside : Kept = record { sessions = c.memory.inside.sessions; waits = c.memory.inside.waits; scn = c.memory.inside.scn; stopped = c.memory.inside.stopped; copies = c.memory.inside.copies; dead = c.memory.inside.dead } in
    let is : IsInStep s inside store = subst (λ (k : Kept). IsInStep s k store) (sym c.memory.view_is) c.requires.step in
    let now : Kept = record { sessions = c.rollback.new.self; waits = c.free.new.self; scn = c.memory.inside.scn; stopped = c.memory.inside.stopped; copies = c.memory.inside.copies; dead = c.memory.inside.dead } in
    let old : EngineView _ = record { memory = inside; store = store } in
    let new : EngineView _ = record { memory = now; store = store } in
    let here : Stands s h old = subst (λ (k : Kept). Stands s h (record { memory = k; store = store })) (sym c.memory.view_is) st in
    let going : h.stopped ≡ false = sym st.knows.stopped ∙ c.in_ok-check_session.ensures.going in
    let there = c.in_ok-check_session.ensures.session in
    let own : (kept_at inside.sessions c.args.s).own ≡ None = sym c.session.ensures.own ∙ c.in-None.is in
    let early = c.in_ok-check_session.ensures.granted h st.knows in
    subst (λ (k : Kept). Does s h (machine.Rollback c.args.s) machine.Done (record { memory = k; store = store }) new) c.memory.view_is
    (does_ended s (laws_of g) h (machine.Rollback c.args.s) c.args.s (left_open 0 (cursors_of h c.args.s)) old new here going there (is.going (ap (λ (k : Kept). k.stopped) c.memory.view_is ∙ c.in_ok-check_session.ensures.going)) (λ now s t k a is done. cc) own (is.idle c.args.s own) early
    (λ free none. MayAnswer.later [] early refl refl) (λ free none. inr (free, refl)) (λ free none. inr (free, refl))
    (λ free empty xids stand knows. subst (Remembers (freeing (ended h c.args.s (left_open 0 (cursors_of h c.args.s))) c.args.s) xids (env_of h.shape (s.blocks store))) (sym c.rollback.ensures) (back_remembered h (freeing (ended h c.args.s (left_open 0 (cursors_of h c.args.s))) c.args.s) xids (s.blocks store) (env_of h.shape (s.blocks store)) inside.sessions c.args.s stand knows there.0 there.1 (inr (free, refl)) (λ u t owns. refl)))
    (ap (λ (l : List KeptSession). map (λ k. k.asked) l) c.rollback.ensures ∙ all_asked inside.sessions (c.args.s - 1) (table.rolled_back (kept_at inside.sessions c.args.s)) refl) c.free.ensures
    refl refl refl refl (λ k is. cc) refl)

pub returns-in-None-clause-makes : goal.returns-in-None-clause-makes
returns-in-None-clause-makes g c = λ h st fine.
    let s = g.T.Store in
    let store = c.args.store.now in
    let inside : Kept = record { sessions = c.memory.inside.sessions; waits = c.memory.inside.waits; scn = c.memory.inside.scn; stopped = c.memory.inside.stopped; copies = c.memory.inside.copies; dead = c.memory.inside.dead } in
    let old : EngineView _ = record { memory = inside; store = store } in
    let here : Stands s h old = subst (λ (k : Kept). Stands s h (record { memory = k; store = store })) (sym c.memory.view_is) st in
    let going : h.stopped ≡ false = sym st.knows.stopped ∙ c.in_ok-check_session.ensures.going in
    let own : (kept_at inside.sessions c.args.s).own ≡ None = sym c.session.ensures.own ∙ c.in-None.is in
    inr (no_slot s h old (here.goes going) c.args.s c.in_ok-check_session.ensures.session own, refl)

pub returns-in_err-check_session-clause-makes : goal.returns-in_err-check_session-clause-makes
returns-in_err-check_session-clause-makes g c =
    let p = err_from_is_err_and c.from_residual.result c.from_residual.ensures.1 in
    rw (p.1, p.2) (λ h st fine.
    let s = g.T.Store in
    let store = c.args.store.now in
    makes_refused h (machine.Rollback c.args.s) (s.lsn store) (s.blocks store) (s.blocks store) refl c.in_err-check_session.field-0.0 (λ scn lost is. refl))

pub returns-in_err-check_session-clause-holds_back : goal.returns-in_err-check_session-clause-holds_back
returns-in_err-check_session-clause-holds_back g c =
    let p = err_from_is_err_and c.from_residual.result c.from_residual.ensures.1 in
    rw (p.1, p.2) (λ fine. g.met.T.Store.holds_back_same c.args.store.now)

pub returns-in-None-clause-holds_back : goal.returns-in-None-clause-holds_back
returns-in-None-clause-holds_back g c = λ fine. g.met.T.Store.holds_back_same c.args.store.now
