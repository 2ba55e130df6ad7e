use Rattle.std.proofs.Common.{inl, ◌≡◌, ◌-◌, ℕ, List, length, map, true, false, refl, sym, ◌∙◌, ap, subst, arith}
use Rattle.std.proofs.lemmas.Result.{err_from_is_err_and}
use Rattle.rb_base.specs.Logs.{Laws, no_logs}
use Rattle.rb_engine.specs.Does.{Does, Goes, IsInStep, Kept, Stands}
use Rattle.rb_model.specs.Calls as machine
use Rattle.rb_model.specs.Calls.{MayAnswer, is_unbegun, name_tests}
use Rattle.rb_model.specs.Isolation.{isolation_at}
use Rattle.rb_model.specs.NextState as next
use Rattle.rb_model.specs.Rows.{last_scn}
use Rattle.rb_model.specs.State.{Savepoint, session_of}
use Rattle.rb_model.specs.declared.mode.Isolation.{Isolation}
use Rattle.rb_model.specs.declared.refusal.Refusal.TheVariants.{NotFirst}
use Rattle.rb_sessions.specs.Kept.{KeptSession, isolated, kept_at, with_kept}
use Rattle.law_blocks.specs.Standing.{env_of}
use Rattle.law_sessions.proofs.Modes.{isolated_remembered}
use Rattle.law_sessions.specs.Views.{Remembers}
use Rattle.rb_engine.proofs.QueueLemmas.{all_asked}
use Rattle.rb_engine.proofs.DoesLemmas.{does_refused, does_refused_late, does_session}
use Rattle.rb_engine.proofs.ModeLemmas.{idle_is}
use Rattle.rb_engine.proofs.StepLemmas.{few_less, fit_at, fit_isolated, in_step_moved, queue_moved}
use Rattle.rb_engine.proofs.modes.do_set.Given.{Over}
use Rattle.rb_engine.proofs.modes.do_set.Goals as goal

laws_of : (g : Over) → Laws g.T.Store
laws_of g = record {
  stable_left = λ store b n i keeps stable here. g.met.T.Store.stable_left store b n i keeps stable here;
  stable_numbered = λ store b n keeps stable. g.met.T.Store.stable_numbered store b n keeps stable;
  stable_patched = λ store b n keeps stable. g.met.T.Store.stable_patched store b n keeps stable;
  now_counts = λ store t i keeps le here. g.met.T.Store.now_counts store t i keeps le here;
  only_now = λ store i keeps here. g.met.T.Store.only_now store i keeps here;
  holds_back_same = λ store. g.met.T.Store.holds_back_same store;
  holds_back_joined = λ a b c first second. g.met.T.Store.holds_back_joined a b c first second;
}

pub returns-in_err-check_session-clause-did : goal.returns-in_err-check_session-clause-did
returns-in_err-check_session-clause-did g c =
    let p = err_from_is_err_and c.from_residual.result c.from_residual.ensures.1 in
    rw (p.1, p.2) (λ h st.
    does_refused g.T.Store (laws_of g) h (machine.SetMode c.args.s c.args.mode) c.in_err-check_session.field-0.0 (record { memory = c.args.memory.now; store = c.args.store.now }) st c.requires.step.going
    (c.in_err-check_session.ensures.refused h st.knows) c.in_err-check_session.ensures.other)

pub returns-then-not-is_unbegun-clause-did : goal.returns-then-not-is_unbegun-clause-did
returns-then-not-is_unbegun-clause-did g c = λ h st.
    let s = g.T.Store in
    let there = c.in_ok-check_session.ensures.session in
    let going = sym st.knows.stopped ∙ c.in_ok-check_session.ensures.going in
    let call = machine.SetMode c.args.s c.args.mode in
    let goes : Goes s h (record { memory = c.args.memory.now; store = c.args.store.now }) = st.goes going in
    let sessions = ap (λ (k : Kept). k.sessions) c.memory.view_is in
    let is = goes.remembers.each c.args.s there.0 there.1 in
    let begun : is_unbegun (session_of h c.args.s) ≡ false =
    sym (idle_is c.session.result (session_of h c.args.s) (c.session.ensures.isolation ∙ (ap (λ (l : List KeptSession). (kept_at l c.args.s).isolation) sessions ∙ is.isolation)) (c.session.ensures.length ∙ (ap (λ (l : List KeptSession). (kept_at l c.args.s).count) sessions ∙ is.count)) (c.session.ensures.savepoints.0 ∙ (ap (λ (l : List KeptSession). length (kept_at l c.args.s).savepoints) sessions ∙ ap (λ (l : List Savepoint). length l) is.savepoints)))
    ∙ (sym c.is_unbegun.ensures ∙ c.if-not-is_unbegun.true) in
    does_refused_late s (laws_of g) h call NotFirst (record { memory = c.args.memory.now; store = c.args.store.now }) st c.requires.step.going
    (MayAnswer.later (name_tests h call) (c.in_ok-check_session.ensures.granted h st.knows) refl (rw begun refl)) (λ clash. cc)

pub returns-clause-step : goal.returns-clause-step
returns-clause-step g c =
    let s = g.T.Store in
    let store = c.args.store.now in
    let old : Kept = record { sessions = c.memory.inside.sessions; waits = c.memory.inside.waits; scn = c.memory.inside.scn; stopped = c.memory.inside.stopped; copies = c.memory.inside.copies; dead = c.memory.inside.dead } in
    let now : Kept = record { sessions = c.set_isolation.new.self; waits = c.memory.inside.waits; scn = c.memory.inside.scn; stopped = c.memory.inside.stopped; copies = c.memory.inside.copies; dead = c.memory.inside.dead } in
    let is : IsInStep s old store = subst (λ (k : Kept). IsInStep s k store) (sym c.memory.view_is) c.requires.step in
    let k = kept_at c.memory.inside.sessions c.args.s in
    let i = c.isolation_at.result in
    let fit = fit_isolated (s.shape_of store) i k (fit_at s old store is c.args.s) in
    in_step_moved s old now store store is refl refl c.args.s c.in_ok-check_session.ensures.session (isolated i k) fit c.set_isolation.ensures
    (queue_moved s old now store store is refl refl c.args.s c.in_ok-check_session.ensures.session (isolated i k) fit c.set_isolation.ensures refl (inl refl))
    (λ going. (is.going going, few_less s old now store store is refl refl c.args.s c.in_ok-check_session.ensures.session (isolated i k) fit c.set_isolation.ensures going (omega arith)))

pub returns-clause-did : goal.returns-clause-did
returns-clause-did g c = λ h st.
    let s = g.T.Store in
    let store = c.args.store.now in
    let old : Kept = record { sessions = c.memory.inside.sessions; waits = c.memory.inside.waits; scn = c.memory.inside.scn; stopped = c.memory.inside.stopped; copies = c.memory.inside.copies; dead = c.memory.inside.dead } in
    let now : Kept = record { sessions = c.set_isolation.new.self; waits = c.memory.inside.waits; scn = c.memory.inside.scn; stopped = c.memory.inside.stopped; copies = c.memory.inside.copies; dead = c.memory.inside.dead } in
    let here : Stands s h (record { memory = old; store = store }) = subst (λ (k : Kept). Stands s h (record { memory = k; store = store })) (sym c.memory.view_is) st in
    let there = c.in_ok-check_session.ensures.session in
    let going = sym st.knows.stopped ∙ c.in_ok-check_session.ensures.going in
    let call = machine.SetMode c.args.s c.args.mode in
    let goes : Goes s h (record { memory = old; store = store }) = here.goes going in
    let is = goes.remembers.each c.args.s there.0 there.1 in
    let unbegun : is_unbegun (session_of h c.args.s) ≡ true =
    sym (idle_is c.session.result (session_of h c.args.s) (c.session.ensures.isolation ∙ is.isolation) (c.session.ensures.length ∙ is.count) (c.session.ensures.savepoints.0 ∙ ap (λ (l : List Savepoint). length l) is.savepoints))
    ∙ (sym c.is_unbegun.ensures ∙ c.if-not-is_unbegun.false) in
    let mode : Isolation = isolation_at (last_scn h.commits) c.args.mode in
    let taken : c.isolation_at.result ≡ mode = c.isolation_at.ensures ∙ ap (λ (n : ℕ). isolation_at n c.args.mode) here.knows.scn in
    let moved : c.set_isolation.new.self ≡ with_kept old.sessions c.args.s (isolated mode (kept_at old.sessions c.args.s)) = c.set_isolation.ensures ∙ ap (λ (i : Isolation). with_kept old.sessions c.args.s (isolated i (kept_at old.sessions c.args.s))) taken in
    subst (λ (k : Kept). Does s h call machine.Done (record { memory = k; store = store }) (record { memory = now; store = store })) c.memory.view_is
    (does_session s st.told (laws_of g) h call machine.Done c.args.s (record (session_of h c.args.s) { isolation = mode }) (record { memory = old; store = store }) (record { memory = now; store = store }) here going
    (there.0, (let n = st.knows.sixteen in omega (arith, there, n))) refl
    (MayAnswer.later (name_tests h call) (c.in_ok-check_session.ensures.granted h st.knows) refl (rw unbegun refl)) refl refl (λ s t k a is done. cc) refl refl refl refl refl refl (λ k is. cc)
    (ap (λ (l : List KeptSession). map (λ k. k.asked) l) moved ∙ all_asked old.sessions (c.args.s - 1) (isolated mode (kept_at old.sessions c.args.s)) refl)
    (λ xids stand is. subst (Remembers (next.with_isolation h c.args.s mode) xids (env_of h.shape (s.blocks store))) (sym moved) (isolated_remembered h xids (env_of h.shape (s.blocks store)) old.sessions c.args.s c.args.mode is there.0 there.1))
    (no_logs s store ((subst (λ (k : Kept). IsInStep s k store) (sym c.memory.view_is) c.requires.step).going (ap (λ (k : Kept). k.stopped) c.memory.view_is ∙ c.in_ok-check_session.ensures.going)))
    (record { shape = refl; slots = refl }))
