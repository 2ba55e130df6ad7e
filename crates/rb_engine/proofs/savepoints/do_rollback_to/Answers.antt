use Rattle.std.proofs.Common.{inl, inr, ◌≡◌, ℕ, zero, suc, List, length, [], Some, None, Option, take, refl, sym, ◌∙◌, ap, subst, arith, map, ◌-◌}
use Rattle.std.proofs.lemmas.Result.{err_from_is_err_and}
use Rattle.rb_base.specs.Logs.{Laws, no_logs}
use Rattle.rb_engine.specs.Does.{Does, EngineView, Goes, IsInStep, Kept, Stands}
use Rattle.rb_model.specs.Calls as machine
use Rattle.rb_model.specs.Calls.{MayAnswer, name_tests}
use Rattle.rb_model.specs.Change.{Change}
use Rattle.rb_model.specs.Names.{name_text}
use Rattle.rb_model.specs.NextState as next
use Rattle.rb_model.specs.State.{Savepoint, Session, savepoint_named, savepoint_of, session_of, session_own}
use Rattle.rb_model.specs.declared.refusal.Refusal.TheVariants.{NoSavepoint}
use Rattle.rb_sessions.specs.Kept.{KeptSession, back_at, kept_at, rolled_to, with_kept}
use Rattle.law_blocks.specs.Standing.{env_of}
use Rattle.law_sessions.proofs.Savepoints.{cut_remembered}
use Rattle.law_sessions.specs.Views.{Remembers}
use Rattle.rb_engine.proofs.QueueLemmas.{all_asked}
use Rattle.rb_engine.proofs.DoesLemmas.{does_refused, does_refused_late, does_session}
use Rattle.rb_engine.proofs.FinishLemmas.{no_items}
use Rattle.rb_engine.proofs.SavepointLemmas.{kept_none, kept_some}
use Rattle.rb_engine.proofs.StepLemmas.{few_less, fit_at, fit_rolled_to, in_step_moved, queue_moved}
use Rattle.rb_engine.proofs.MakesLemmas.{makes_refused, no_slot}
use Rattle.rb_engine.proofs.savepoints.do_rollback_to.Given.{Over}
use Rattle.rb_engine.proofs.savepoints.do_rollback_to.Goals as goal

laws_of : (g : Over) → Laws g.T.Store
laws_of g = record {
  stable_left = λ store b n i keeps stable here. g.met.T.Store.stable_left store b n i keeps stable here;
  stable_numbered = λ store b n keeps stable. g.met.T.Store.stable_numbered store b n keeps stable;
  stable_patched = λ store b n keeps stable. g.met.T.Store.stable_patched store b n keeps stable;
  now_counts = λ store t i keeps le here. g.met.T.Store.now_counts store t i keeps le here;
  only_now = λ store i keeps here. g.met.T.Store.only_now store i keeps here;
  holds_back_same = λ store. g.met.T.Store.holds_back_same store;
  holds_back_joined = λ a b c first second. g.met.T.Store.holds_back_joined a b c first second;
}

pub returns-in_err-check_session-clause-did : goal.returns-in_err-check_session-clause-did
returns-in_err-check_session-clause-did g c =
    let p = err_from_is_err_and c.from_residual.result c.from_residual.ensures.1 in
    rw (p.1, p.2) (λ h st.
    does_refused g.T.Store (laws_of g) h (machine.RollbackTo c.args.s (name_text c.args.name.now)) c.in_err-check_session.field-0.0 (record { memory = c.args.memory.now; store = c.args.store.now }) st c.requires.step.going
    (c.in_err-check_session.ensures.refused h st.knows) c.in_err-check_session.ensures.other)

pub returns-in_default-clause-did : goal.returns-in_default-clause-did
returns-in_default-clause-did g c = λ h st.
    let s = g.T.Store in
    let there = c.in_ok-check_session.ensures.session in
    let going = sym st.knows.stopped ∙ c.in_ok-check_session.ensures.going in
    let name = name_text c.args.name.now in
    let call = machine.RollbackTo c.args.s name in
    let goes : Goes s h (record { memory = c.args.memory.now; store = c.args.store.now }) = st.goes going in
    let kept = (kept_at c.memory.inside.sessions c.args.s).savepoints in
    let same : kept ≡ (session_of h c.args.s).savepoints = ap (λ (k : Kept). (kept_at k.sessions c.args.s).savepoints) c.memory.view_is ∙ (goes.remembers.each c.args.s there.0 there.1).savepoints in
    let none : savepoint_of h c.args.s name ≡ None = ap (savepoint_named name) (sym same) ∙ kept_none (savepoint_named name kept) (sym c.savepoint.ensures ∙ c.in_default.is) in
    does_refused_late s (laws_of g) h call NoSavepoint (record { memory = c.args.memory.now; store = c.args.store.now }) st c.requires.step.going
    (MayAnswer.later (name_tests h call) (c.in_ok-check_session.ensures.granted h st.knows) refl (rw none refl)) (λ clash. cc)

pub returns-in-None-clause-step : goal.returns-in-None-clause-step
returns-in-None-clause-step g c =
    let s = g.T.Store in
    let store = c.args.store.now in
    let inside : Kept = record { sessions = c.memory.inside.sessions; waits = c.memory.inside.waits; scn = c.memory.inside.scn; stopped = c.memory.inside.stopped; copies = c.memory.inside.copies; dead = c.memory.inside.dead } in
    let now : Kept = record { sessions = c.rollback_to.new.self; waits = c.memory.inside.waits; scn = c.memory.inside.scn; stopped = c.memory.inside.stopped; copies = c.memory.inside.copies; dead = c.memory.inside.dead } in
    let is : IsInStep s inside store = subst (λ (k : Kept). IsInStep s k store) (sym c.memory.view_is) c.requires.step in
    let k = kept_at inside.sessions c.args.s in
    let name = name_text c.args.name.now in
    let found = kept_some (savepoint_named name k.savepoints) c.in-Some.kept (sym c.savepoint.ensures ∙ c.in-Some.is) in
    let first = found.0.kept in
    let fit = fit_rolled_to (s.shape_of store) name first k (fit_at s inside store is c.args.s) in
    let moved : now.sessions ≡ with_kept inside.sessions c.args.s (rolled_to name first k) = c.rollback_to.ensures ∙ ap (λ (o : Option Savepoint). with_kept inside.sessions c.args.s (back_at name o k)) found.1 in
    in_step_moved s inside now store store is refl refl c.args.s c.in_ok-check_session.ensures.session (rolled_to name first k) fit moved
    (queue_moved s inside now store store is refl refl c.args.s c.in_ok-check_session.ensures.session (rolled_to name first k) fit moved refl (inl refl))
    (λ going. (is.going going, few_less s inside now store store is refl refl c.args.s c.in_ok-check_session.ensures.session (rolled_to name first k) fit moved going (omega arith)))

pub returns-in-None-clause-did : goal.returns-in-None-clause-did
returns-in-None-clause-did g c = λ h st.
    let s = g.T.Store in
    let store = c.args.store.now in
    let inside : Kept = record { sessions = c.memory.inside.sessions; waits = c.memory.inside.waits; scn = c.memory.inside.scn; stopped = c.memory.inside.stopped; copies = c.memory.inside.copies; dead = c.memory.inside.dead } in
    let now : Kept = record { sessions = c.rollback_to.new.self; waits = c.memory.inside.waits; scn = c.memory.inside.scn; stopped = c.memory.inside.stopped; copies = c.memory.inside.copies; dead = c.memory.inside.dead } in
    let is : IsInStep s inside store = subst (λ (k : Kept). IsInStep s k store) (sym c.memory.view_is) c.requires.step in
    let here : Stands s h (record { memory = inside; store = store }) = subst (λ (k : Kept). Stands s h (record { memory = k; store = store })) (sym c.memory.view_is) st in
    let there = c.in_ok-check_session.ensures.session in
    let going = sym st.knows.stopped ∙ c.in_ok-check_session.ensures.going in
    let name = name_text c.args.name.now in
    let call = machine.RollbackTo c.args.s name in
    let goes : Goes s h (record { memory = inside; store = store }) = here.goes going in
    let k = kept_at inside.sessions c.args.s in
    let of_session = goes.remembers.each c.args.s there.0 there.1 in
    let found = kept_some (savepoint_named name k.savepoints) c.in-Some.kept (sym c.savepoint.ensures ∙ c.in-Some.is) in
    let p = found.0 in
    let at : savepoint_of h c.args.s name ≡ Some p = ap (savepoint_named name) (sym of_session.savepoints) ∙ found.1 in
    let idle : k.count ≡ 0 = is.idle c.args.s (sym c.session.ensures.own ∙ c.in-None.is) in
    let empty : session_own h c.args.s ≡ [] = no_items (session_own h c.args.s) (sym of_session.count ∙ idle) in
    let moved : now.sessions ≡ with_kept inside.sessions c.args.s (rolled_to name p.kept k) = c.rollback_to.ensures ∙ ap (λ (o : Option Savepoint). with_kept inside.sessions c.args.s (back_at name o k)) found.1 in
    let session : Session = record (session_of h c.args.s) { own = take p.kept (session_own h c.args.s); savepoints = next.up_to name (session_of h c.args.s).savepoints; cursors = next.left_open p.kept (next.cursors_of h c.args.s) } in
    let own : take p.kept (session_own h c.args.s) ≡ session_own h c.args.s = ap (take p.kept) empty ∙ (nothing p.kept ∙ sym empty) in
    subst (λ (k : Kept). Does s h call machine.Done (record { memory = k; store = store }) (record { memory = now; store = store })) c.memory.view_is
    (does_session s st.told (laws_of g) h call machine.Done c.args.s session (record { memory = inside; store = store }) (record { memory = now; store = store }) here going
    (there.0, (let n = st.knows.sixteen in omega (arith, there, n))) own
    (MayAnswer.later (name_tests h call) (c.in_ok-check_session.ensures.granted h st.knows) refl (rw at refl)) (p, at, refl) (p, at, (let none = ap (λ (l : List Change). length l) empty in omega (arith, none))) (λ s t k a is done. cc) refl refl refl refl refl refl (λ k is. cc)
    (ap (λ (l : List KeptSession). map (λ k. k.asked) l) moved ∙ all_asked inside.sessions (c.args.s - 1) (rolled_to name p.kept k) refl)
    (λ xids stand knows. subst (Remembers (next.rolled_to h c.args.s name p.kept) xids (env_of h.shape (s.blocks store))) (sym moved)
    (cut_remembered h xids (env_of h.shape (s.blocks store)) (env_of h.shape (s.blocks store)) c.args.s name p.kept there.0 (λ u t owns. refl) inside.sessions there.1 knows))
    (no_logs s store (is.going (ap (λ (k : Kept). k.stopped) c.memory.view_is ∙ c.in_ok-check_session.ensures.going)))
    (record { shape = refl; slots = refl }))
  where
    nothing : (n : ℕ) → ◌≡◌ {A = List Change} (take n []) []
    nothing zero = refl
    nothing (suc n) = refl

pub returns-in-None-clause-makes : goal.returns-in-None-clause-makes
returns-in-None-clause-makes g c = λ h st fine.
    let s = g.T.Store in
    let store = c.args.store.now in
    let inside : Kept = record { sessions = c.memory.inside.sessions; waits = c.memory.inside.waits; scn = c.memory.inside.scn; stopped = c.memory.inside.stopped; copies = c.memory.inside.copies; dead = c.memory.inside.dead } in
    let old : EngineView _ = record { memory = inside; store = store } in
    let here : Stands s h old = subst (λ (k : Kept). Stands s h (record { memory = k; store = store })) (sym c.memory.view_is) st in
    let there = c.in_ok-check_session.ensures.session in
    let goes : Goes s h old = here.goes (sym st.knows.stopped ∙ c.in_ok-check_session.ensures.going) in
    let name = name_text c.args.name.now in
    let found = kept_some (savepoint_named name (kept_at inside.sessions c.args.s).savepoints) c.in-Some.kept (sym c.savepoint.ensures ∙ c.in-Some.is) in
    let at : savepoint_of h c.args.s name ≡ Some found.0 = ap (savepoint_named name) (sym (goes.remembers.each c.args.s there.0 there.1).savepoints) ∙ found.1 in
    (found.0, at, inr (no_slot s h old goes c.args.s there (sym c.session.ensures.own ∙ c.in-None.is), refl))

pub returns-in_err-check_session-clause-makes : goal.returns-in_err-check_session-clause-makes
returns-in_err-check_session-clause-makes g c =
    let p = err_from_is_err_and c.from_residual.result c.from_residual.ensures.1 in
    rw (p.1, p.2) (λ h st fine.
    let s = g.T.Store in
    let store = c.args.store.now in
    makes_refused h (machine.RollbackTo c.args.s (name_text c.args.name.now)) (s.lsn store) (s.blocks store) (s.blocks store) refl c.in_err-check_session.field-0.0 (λ scn lost is. refl))

pub returns-in_err-check_session-clause-holds_back : goal.returns-in_err-check_session-clause-holds_back
returns-in_err-check_session-clause-holds_back g c =
    let p = err_from_is_err_and c.from_residual.result c.from_residual.ensures.1 in
    rw (p.1, p.2) (λ fine. g.met.T.Store.holds_back_same c.args.store.now)

pub returns-in_default-clause-holds_back : goal.returns-in_default-clause-holds_back
returns-in_default-clause-holds_back g c = λ fine. g.met.T.Store.holds_back_same c.args.store.now

pub returns-in-None-clause-holds_back : goal.returns-in-None-clause-holds_back
returns-in-None-clause-holds_back g c = λ fine. g.met.T.Store.holds_back_same c.args.store.now
