use Rattle.std.proofs.Common.{inl, ◌≡◌, List, None, refl, sym, ◌∙◌, ap, subst, arith, map, ◌-◌}
use Rattle.std.proofs.lemmas.Result.{err_from_is_err_and}
use Rattle.rb_base.specs.Logs.{Laws, no_logs}
use Rattle.rb_engine.specs.Does.{Does, Goes, IsInStep, Kept, Stands}
use Rattle.rb_model.specs.Calls as machine
use Rattle.rb_model.specs.Calls.{MayAnswer, name_tests, early_tests, none_applies}
use Rattle.rb_model.specs.Names.{name_text}
use Rattle.rb_model.specs.NextState as next
use Rattle.rb_model.specs.NextState.{cursors_of, opened_cursor, without_cursor}
use Rattle.rb_model.specs.State.{cursor_of}
use Rattle.rb_model.specs.declared.refusal.Refusal.TheVariants.{NoCursor}
use Rattle.rb_sessions.specs.Kept.{KeptSession, kept_at, named, with_cursors, without}
use Rattle.law_blocks.specs.Standing.{env_of}
use Rattle.law_sessions.proofs.Cursors as views
use Rattle.law_sessions.specs.Views.{Remembers}
use Rattle.rb_engine.proofs.QueueLemmas.{all_asked}
use Rattle.rb_engine.proofs.DoesLemmas.{does_cursors, does_refused, does_refused_late, none_of, some_of}
use Rattle.rb_engine.proofs.StepLemmas.{few_less, fit_at, fit_closed, in_step_moved, queue_moved}
use Rattle.rb_engine.proofs.cursors.do_close_cursor.Given.{Over}
use Rattle.rb_engine.proofs.cursors.do_close_cursor.Goals as goal

laws_of : (g : Over) → Laws g.T.Store
laws_of g = record {
  stable_left = λ store b n i keeps stable here. g.met.T.Store.stable_left store b n i keeps stable here;
  stable_numbered = λ store b n keeps stable. g.met.T.Store.stable_numbered store b n keeps stable;
  stable_patched = λ store b n keeps stable. g.met.T.Store.stable_patched store b n keeps stable;
  now_counts = λ store t i keeps le here. g.met.T.Store.now_counts store t i keeps le here;
  only_now = λ store i keeps here. g.met.T.Store.only_now store i keeps here;
  holds_back_same = λ store. g.met.T.Store.holds_back_same store;
  holds_back_joined = λ a b c first second. g.met.T.Store.holds_back_joined a b c first second;
}

pub returns-in_err-check_session-clause-did : goal.returns-in_err-check_session-clause-did
returns-in_err-check_session-clause-did g c =
    let p = err_from_is_err_and c.from_residual.result c.from_residual.ensures.1 in
    rw (p.1, p.2) (λ h st.
    does_refused g.T.Store (laws_of g) h (machine.CloseCursor c.args.s (name_text c.args.name.now)) c.in_err-check_session.field-0.0 (record { memory = c.args.memory.now; store = c.args.store.now }) st c.requires.step.going
    (c.in_err-check_session.ensures.refused h st.knows) c.in_err-check_session.ensures.other)

pub returns-then-is_none-clause-did : goal.returns-then-is_none-clause-did
returns-then-is_none-clause-did g c = λ h st.
    let s = g.T.Store in
    let there = c.in_ok-check_session.ensures.session in
    let going = sym st.knows.stopped ∙ c.in_ok-check_session.ensures.going in
    let name = name_text c.args.name.now in
    let call = machine.CloseCursor c.args.s name in
    let goes : Goes s h (record { memory = c.args.memory.now; store = c.args.store.now }) = st.goes going in
    let sessions = ap (λ (k : Kept). k.sessions) c.memory.view_is in
    let missing : named name (kept_at c.args.memory.now.sessions c.args.s).cursors ≡ None = ap (λ (l : List KeptSession). named name (kept_at l c.args.s).cursors) (sym sessions) ∙ (sym c.cursor.ensures ∙ none_of c.cursor.result c.is_none.result c.is_none.ensures c.if-is_none.true) in
    let none : cursor_of h c.args.s name ≡ None = (views.named_is h goes.xids (env_of h.shape (s.blocks c.args.store.now)) c.args.s name c.args.memory.now.sessions goes.remembers there.0 there.1).0 missing in
    does_refused_late s (laws_of g) h call NoCursor (record { memory = c.args.memory.now; store = c.args.store.now }) st c.requires.step.going
    (MayAnswer.later (name_tests h call) (c.in_ok-check_session.ensures.granted h st.knows) refl (rw none refl)) (λ clash. cc)

pub returns-clause-step : goal.returns-clause-step
returns-clause-step g c =
    let s = g.T.Store in
    let store = c.args.store.now in
    let old : Kept = record { sessions = c.memory.inside.sessions; waits = c.memory.inside.waits; scn = c.memory.inside.scn; stopped = c.memory.inside.stopped; copies = c.memory.inside.copies; dead = c.memory.inside.dead } in
    let now : Kept = record { sessions = c.close_cursor.new.self; waits = c.memory.inside.waits; scn = c.memory.inside.scn; stopped = c.memory.inside.stopped; copies = c.memory.inside.copies; dead = c.memory.inside.dead } in
    let is : IsInStep s old store = subst (λ (k : Kept). IsInStep s k store) (sym c.memory.view_is) c.requires.step in
    let k = kept_at c.memory.inside.sessions c.args.s in
    let name = name_text c.args.name.now in
    let fit = fit_closed (s.shape_of store) name k (fit_at s old store is c.args.s) in
    let moved = with_cursors k (without name k.cursors) in
    in_step_moved s old now store store is refl refl c.args.s c.in_ok-check_session.ensures.session moved fit c.close_cursor.ensures
    (queue_moved s old now store store is refl refl c.args.s c.in_ok-check_session.ensures.session moved fit c.close_cursor.ensures refl (inl refl))
    (λ going. (is.going going, few_less s old now store store is refl refl c.args.s c.in_ok-check_session.ensures.session moved fit c.close_cursor.ensures going (omega arith)))

pub returns-clause-did : goal.returns-clause-did
returns-clause-did g c = λ h st.
    let s = g.T.Store in
    let store = c.args.store.now in
    let old : Kept = record { sessions = c.memory.inside.sessions; waits = c.memory.inside.waits; scn = c.memory.inside.scn; stopped = c.memory.inside.stopped; copies = c.memory.inside.copies; dead = c.memory.inside.dead } in
    let now : Kept = record { sessions = c.close_cursor.new.self; waits = c.memory.inside.waits; scn = c.memory.inside.scn; stopped = c.memory.inside.stopped; copies = c.memory.inside.copies; dead = c.memory.inside.dead } in
    let here : Stands s h (record { memory = old; store = store }) = subst (λ (k : Kept). Stands s h (record { memory = k; store = store })) (sym c.memory.view_is) st in
    let there = c.in_ok-check_session.ensures.session in
    let going = sym st.knows.stopped ∙ c.in_ok-check_session.ensures.going in
    let name = name_text c.args.name.now in
    let call = machine.CloseCursor c.args.s name in
    let goes = here.goes going in
    let found = some_of c.cursor.result c.is_none.result c.is_none.ensures c.if-is_none.false in
    let its = (views.named_is h goes.xids (env_of h.shape (s.blocks store)) c.args.s name old.sessions goes.remembers there.0 there.1).1 found.0 (sym c.cursor.ensures ∙ found.1) in
    subst (λ (k : Kept). Does s h call machine.Done (record { memory = k; store = store }) (record { memory = now; store = store })) c.memory.view_is
    (does_cursors s st.told (laws_of g) h call machine.Done c.args.s (without_cursor name (cursors_of h c.args.s)) (record { memory = old; store = store }) (record { memory = now; store = store }) here going
    (there.0, (let n = st.knows.sixteen in omega (arith, there, n)))
    (MayAnswer.later (name_tests h call) (c.in_ok-check_session.ensures.granted h st.knows) refl (rw its.1 refl)) refl refl (λ s t k a is done. cc) refl refl refl refl refl refl (λ k is. cc)
    (ap (λ (l : List KeptSession). map (λ k. k.asked) l) c.close_cursor.ensures ∙ all_asked old.sessions (c.args.s - 1) (with_cursors (kept_at old.sessions c.args.s) (without name (kept_at old.sessions c.args.s).cursors)) refl)
    (λ xids stand is. subst (Remembers (next.with_cursors h c.args.s (without_cursor name (cursors_of h c.args.s))) xids (env_of h.shape (s.blocks store))) (sym c.close_cursor.ensures) (views.closed h xids (env_of h.shape (s.blocks store)) old.sessions c.args.s name is there.0 there.1))
    (no_logs s store ((subst (λ (k : Kept). IsInStep s k store) (sym c.memory.view_is) c.requires.step).going (ap (λ (k : Kept). k.stopped) c.memory.view_is ∙ c.in_ok-check_session.ensures.going)))
    (record { shape = refl; slots = refl }))
