use Rattle.std.proofs.Common.{inl, ◌≡◌, ◌<◌, List, length, None, refl, sym, ◌∙◌, ap, subst, arith, map, ◌-◌}
use Rattle.std.proofs.lemmas.Bool.{le-leb, lt-leb}
use Rattle.std.proofs.lemmas.Result.{err_from_is_err_and}
use Rattle.rb_sessions.specs.declared.savepoint.TheConstants.{SAVEPOINTS}
use Rattle.rb_base.specs.Logs.{Laws, no_logs}
use Rattle.rb_engine.specs.Does.{Does, Goes, IsInStep, Kept, Stands}
use Rattle.rb_model.specs.Calls as machine
use Rattle.rb_model.specs.Calls.{MayAnswer, name_tests, without_savepoint}
use Rattle.rb_model.specs.Names.{name_text}
use Rattle.rb_model.specs.NextState as next
use Rattle.rb_model.specs.State.{Savepoint, savepoint_named, session_of, session_own}
use Rattle.rb_model.specs.declared.refusal.Refusal.TheVariants.{TooManySavepoints}
use Rattle.rb_sessions.specs.Kept.{KeptSession, kept_at, with_savepoint}
use Rattle.law_blocks.specs.Standing.{env_of}
use Rattle.law_sessions.proofs.Savepoints.{savepoint_remembered}
use Rattle.law_sessions.specs.Views.{Remembers}
use Rattle.rb_engine.proofs.QueueLemmas.{all_asked}
use Rattle.rb_engine.proofs.DoesLemmas.{does_refused, does_refused_late, does_session, none_of, some_of}
use Rattle.rb_engine.proofs.SavepointLemmas.{kept_none, kept_some, others_all, others_few, others_fewer}
use Rattle.rb_engine.proofs.StepLemmas.{few_less, fit_at, fit_savepoint, in_step_moved, queue_moved}
use Rattle.rb_engine.proofs.savepoints.do_savepoint.Given.{Over}
use Rattle.rb_engine.proofs.savepoints.do_savepoint.Goals as goal
use Rattle.rb_engine.proofs.savepoints.do_savepoint.Goals.{else-count-ge-SAVEPOINTS-via-then-count-ge-SAVEPOINTS+else-is_none, else-count-ge-SAVEPOINTS-via-else-count-ge-SAVEPOINTS}

laws_of : (g : Over) → Laws g.T.Store
laws_of g = record {
  stable_left = λ store b n i keeps stable here. g.met.T.Store.stable_left store b n i keeps stable here;
  stable_numbered = λ store b n keeps stable. g.met.T.Store.stable_numbered store b n keeps stable;
  stable_patched = λ store b n keeps stable. g.met.T.Store.stable_patched store b n keeps stable;
  now_counts = λ store t i keeps le here. g.met.T.Store.now_counts store t i keeps le here;
  only_now = λ store i keeps here. g.met.T.Store.only_now store i keeps here;
  holds_back_same = λ store. g.met.T.Store.holds_back_same store;
  holds_back_joined = λ a b c first second. g.met.T.Store.holds_back_joined a b c first second;
}

pub returns-in_err-check_session-clause-did : goal.returns-in_err-check_session-clause-did
returns-in_err-check_session-clause-did g c =
    let p = err_from_is_err_and c.from_residual.result c.from_residual.ensures.1 in
    rw (p.1, p.2) (λ h st.
    does_refused g.T.Store (laws_of g) h (machine.SetSavepoint c.args.s (name_text c.args.name.now)) c.in_err-check_session.field-0.0 (record { memory = c.args.memory.now; store = c.args.store.now }) st c.requires.step.going
    (c.in_err-check_session.ensures.refused h st.knows) c.in_err-check_session.ensures.other)

pub returns-then-is_none-clause-did : goal.returns-then-is_none-clause-did
returns-then-is_none-clause-did g c = λ h st.
    let s = g.T.Store in
    let there = c.in_ok-check_session.ensures.session in
    let going = sym st.knows.stopped ∙ c.in_ok-check_session.ensures.going in
    let name = name_text c.args.name.now in
    let call = machine.SetSavepoint c.args.s name in
    let goes : Goes s h (record { memory = c.args.memory.now; store = c.args.store.now }) = st.goes going in
    let sessions = ap (λ (k : Kept). k.sessions) c.memory.view_is in
    let kept = (kept_at c.memory.inside.sessions c.args.s).savepoints in
    let same : kept ≡ (session_of h c.args.s).savepoints = ap (λ (l : List KeptSession). (kept_at l c.args.s).savepoints) sessions ∙ (goes.remembers.each c.args.s there.0 there.1).savepoints in
    let missing : savepoint_named name kept ≡ None = kept_none (savepoint_named name kept) (sym c.savepoint.ensures ∙ none_of c.savepoint.result c.is_none.result c.is_none.ensures c.if-is_none.true) in
    let others : without_savepoint name (session_of h c.args.s).savepoints ≡ kept = ap (without_savepoint name) (sym same) ∙ others_all name kept missing in
    let count = ap (λ (l : List Savepoint). length l) others in
    let told = c.session-count.ensures.savepoints.0 in
    does_refused_late s (laws_of g) h call TooManySavepoints (record { memory = c.args.memory.now; store = c.args.store.now }) st c.requires.step.going
    (MayAnswer.later (name_tests h call) (c.in_ok-check_session.ensures.granted h st.knows) refl (rw (le-leb SAVEPOINTS (length (without_savepoint name (session_of h c.args.s).savepoints)) (omega (arith, count, told, c.if-count-ge-SAVEPOINTS.true))) refl)) (λ clash. cc)

pub set_savepoint-requires-clause-room : goal.set_savepoint-requires-clause-room
set_savepoint-requires-clause-room g c =
    let name = name_text c.args.name.now in
    let kept = (kept_at c.memory.inside.sessions c.args.s).savepoints in
    let told = c.session-count.ensures.savepoints in
    elim c.else-count-ge-SAVEPOINTS.branch [
      | else-count-ge-SAVEPOINTS-via-then-count-ge-SAVEPOINTS+else-is_none w ↦
          let found = some_of w.savepoint.result w.is_none.result w.is_none.ensures w.if-is_none.false in
          let named = kept_some (savepoint_named name kept) found.0 (sym w.savepoint.ensures ∙ found.1) in
          let fewer = others_fewer name kept named.0 named.1 in
          omega (arith, fewer, told)
      | else-count-ge-SAVEPOINTS-via-else-count-ge-SAVEPOINTS w ↦ let few = others_few name kept in omega (arith, few, told, w.if-count-ge-SAVEPOINTS.false)
    ]

pub returns-clause-step : goal.returns-clause-step
returns-clause-step g c =
    let s = g.T.Store in
    let store = c.args.store.now in
    let old : Kept = record { sessions = c.memory.inside.sessions; waits = c.memory.inside.waits; scn = c.memory.inside.scn; stopped = c.memory.inside.stopped; copies = c.memory.inside.copies; dead = c.memory.inside.dead } in
    let now : Kept = record { sessions = c.set_savepoint.new.self; waits = c.memory.inside.waits; scn = c.memory.inside.scn; stopped = c.memory.inside.stopped; copies = c.memory.inside.copies; dead = c.memory.inside.dead } in
    let is : IsInStep s old store = subst (λ (k : Kept). IsInStep s k store) (sym c.memory.view_is) c.requires.step in
    let k = kept_at c.memory.inside.sessions c.args.s in
    let name = name_text c.args.name.now in
    let fit = fit_savepoint (s.shape_of store) name k (fit_at s old store is c.args.s) in
    in_step_moved s old now store store is refl refl c.args.s c.in_ok-check_session.ensures.session (with_savepoint name k) fit c.set_savepoint.ensures
    (queue_moved s old now store store is refl refl c.args.s c.in_ok-check_session.ensures.session (with_savepoint name k) fit c.set_savepoint.ensures refl (inl refl))
    (λ going. (is.going going, few_less s old now store store is refl refl c.args.s c.in_ok-check_session.ensures.session (with_savepoint name k) fit c.set_savepoint.ensures going (omega arith)))

pub returns-clause-did : goal.returns-clause-did
returns-clause-did g c = λ h st.
    let s = g.T.Store in
    let store = c.args.store.now in
    let old : Kept = record { sessions = c.memory.inside.sessions; waits = c.memory.inside.waits; scn = c.memory.inside.scn; stopped = c.memory.inside.stopped; copies = c.memory.inside.copies; dead = c.memory.inside.dead } in
    let now : Kept = record { sessions = c.set_savepoint.new.self; waits = c.memory.inside.waits; scn = c.memory.inside.scn; stopped = c.memory.inside.stopped; copies = c.memory.inside.copies; dead = c.memory.inside.dead } in
    let here : Stands s h (record { memory = old; store = store }) = subst (λ (k : Kept). Stands s h (record { memory = k; store = store })) (sym c.memory.view_is) st in
    let there = c.in_ok-check_session.ensures.session in
    let going = sym st.knows.stopped ∙ c.in_ok-check_session.ensures.going in
    let name = name_text c.args.name.now in
    let call = machine.SetSavepoint c.args.s name in
    let goes : Goes s h (record { memory = old; store = store }) = here.goes going in
    let kept = (kept_at old.sessions c.args.s).savepoints in
    let same : kept ≡ (session_of h c.args.s).savepoints = (goes.remembers.each c.args.s there.0 there.1).savepoints in
    let few : length (without_savepoint name (session_of h c.args.s).savepoints) < SAVEPOINTS = subst (λ (l : List Savepoint). length (without_savepoint name l) < SAVEPOINTS) same (set_savepoint-requires-clause-room g c.before) in
    let savepoints = next.with_savepoint name (length (session_own h c.args.s)) (session_of h c.args.s).savepoints in
    subst (λ (k : Kept). Does s h call machine.Done (record { memory = k; store = store }) (record { memory = now; store = store })) c.memory.view_is
    (does_session s st.told (laws_of g) h call machine.Done c.args.s (record (session_of h c.args.s) { savepoints = savepoints }) (record { memory = old; store = store }) (record { memory = now; store = store }) here going
    (there.0, (let n = st.knows.sixteen in omega (arith, there, n))) refl
    (MayAnswer.later (name_tests h call) (c.in_ok-check_session.ensures.granted h st.knows) refl (rw (lt-leb SAVEPOINTS (length (without_savepoint name (session_of h c.args.s).savepoints)) few) refl)) refl refl (λ s t k a is done. cc) refl refl refl refl refl refl (λ k is. cc)
    (ap (λ (l : List KeptSession). map (λ k. k.asked) l) c.set_savepoint.ensures ∙ all_asked old.sessions (c.args.s - 1) (with_savepoint name (kept_at old.sessions c.args.s)) refl)
    (λ xids stand is. subst (Remembers (next.with_savepoints h c.args.s savepoints) xids (env_of h.shape (s.blocks store))) (sym c.set_savepoint.ensures) (savepoint_remembered h xids (env_of h.shape (s.blocks store)) old.sessions c.args.s name is there.0 there.1))
    (no_logs s store ((subst (λ (k : Kept). IsInStep s k store) (sym c.memory.view_is) c.requires.step).going (ap (λ (k : Kept). k.stopped) c.memory.view_is ∙ c.in_ok-check_session.ensures.going)))
    (record { shape = refl; slots = refl }))
