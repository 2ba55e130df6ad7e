use Rattle.std.proofs.Common.{inl, ◌≡◌, ◌++◌, ◌∷◌, [], ◌≤◌, ◌<◌, ℕ, List, length, nat_le, ◌&&◌, None, Some, true, refl, sym, ◌∙◌, ap, subst, arith, map, ◌-◌}
use Rattle.std.proofs.lemmas.Bool.{le-leb, lt-leb, and_from}
use Rattle.std.proofs.lemmas.Result.{err_from_is_err_and}
use Rattle.rb_base.specs.Logs.{Laws, no_logs}
use Rattle.rb_base.specs.declared.shape.Shape.{Shape}
use Rattle.rb_engine.specs.declared.cursors.TheConstants.{CURSORS}
use Rattle.rb_engine.specs.Does.{Does, Goes, IsInStep, Kept, Stands}
use Rattle.rb_model.specs.Calls as machine
use Rattle.rb_model.specs.Calls.{MayAnswer, name_tests}
use Rattle.rb_model.specs.Names.{name_text}
use Rattle.rb_model.specs.NextState as next
use Rattle.rb_model.specs.NextState.{cursors_of, opened_cursor}
use Rattle.rb_model.specs.State.{cursor_of, is_table}
use Rattle.rb_model.specs.declared.refusal.Refusal.TheVariants.{CursorThere, TooManyCursors}
use Rattle.rb_sessions.specs.Kept.{KeptSession, kept_at, named, with_cursor, with_kept}
use Rattle.rb_sessions.specs.declared.cursor.Cursor.{Cursor}
use Rattle.law_blocks.specs.Standing.{env_of}
use Rattle.law_sessions.proofs.Cursors as views
use Rattle.law_sessions.specs.Laws.{cursor_opened}
use Rattle.law_sessions.specs.Views.{Remembers}
use Rattle.rb_engine.proofs.QueueLemmas.{all_asked}
use Rattle.rb_engine.proofs.DoesLemmas.{does_cursors, does_refused, does_refused_late, is_some_of, not_some}
use Rattle.rb_engine.proofs.GetLemmas.{opened_at}
use Rattle.rb_engine.specs.Scanning.{opened_now}
use Rattle.rb_engine.proofs.StepLemmas.{few_less, fit_at, fit_opened, in_step_moved, queue_moved}
use Rattle.rb_engine.proofs.cursors.do_open_cursor.Given.{Over}
use Rattle.rb_engine.proofs.cursors.do_open_cursor.Goals as goal

laws_of : (g : Over) → Laws g.T.Store
laws_of g = record {
  stable_left = λ store b n i keeps stable here. g.met.T.Store.stable_left store b n i keeps stable here;
  stable_numbered = λ store b n keeps stable. g.met.T.Store.stable_numbered store b n keeps stable;
  stable_patched = λ store b n keeps stable. g.met.T.Store.stable_patched store b n keeps stable;
  now_counts = λ store t i keeps le here. g.met.T.Store.now_counts store t i keeps le here;
  only_now = λ store i keeps here. g.met.T.Store.only_now store i keeps here;
  holds_back_same = λ store. g.met.T.Store.holds_back_same store;
  holds_back_joined = λ a b c first second. g.met.T.Store.holds_back_joined a b c first second;
}

pub returns-in_err-check_table-clause-did : goal.returns-in_err-check_table-clause-did
returns-in_err-check_table-clause-did g c =
    let p = err_from_is_err_and c.from_residual.result c.from_residual.ensures.1 in
    rw (p.1, p.2) (λ h st.
    does_refused g.T.Store (laws_of g) h (machine.OpenCursor c.args.s (name_text c.args.name.now) c.args.table c.args.lo c.args.hi) c.in_err-check_table.field-0.0 (record { memory = c.args.memory.now; store = c.args.store.now }) st c.requires.step.going
    (c.in_err-check_table.ensures.refused h (name_text c.args.name.now) c.args.lo c.args.hi st.knows (c.shape.ensures.shape ∙ st.shape)) c.in_err-check_table.ensures.other)

pub returns-then-is_some-clause-did : goal.returns-then-is_some-clause-did
returns-then-is_some-clause-did g c = λ h st.
    let s = g.T.Store in
    let there = c.in_ok-check_table.ensures.session in
    let going = sym st.knows.stopped ∙ c.in_ok-check_table.ensures.going in
    let name = name_text c.args.name.now in
    let call = machine.OpenCursor c.args.s name c.args.table c.args.lo c.args.hi in
    let goes : Goes s h (record { memory = c.args.memory.now; store = c.args.store.now }) = st.goes going in
    let sessions = ap (λ (k : Kept). k.sessions) c.memory.view_is in
    let found = is_some_of c.cursor.result (sym c.is_some.ensures ∙ c.if-is_some.true) in
    let here : named name (kept_at c.args.memory.now.sessions c.args.s).cursors ≡ Some found.0 = ap (λ (l : List KeptSession). named name (kept_at l c.args.s).cursors) (sym sessions) ∙ (sym c.cursor.ensures ∙ found.1) in
    let its = (views.named_is h goes.xids (env_of h.shape (s.blocks c.args.store.now)) c.args.s name c.args.memory.now.sessions goes.remembers there.0 there.1).1 found.0 here in
    does_refused_late s (laws_of g) h call CursorThere (record { memory = c.args.memory.now; store = c.args.store.now }) st c.requires.step.going
    (MayAnswer.later (name_tests h call) (c.in_ok-check_table.ensures.granted h (name_text c.args.name.now) c.args.lo c.args.hi st.knows (c.shape.ensures.shape ∙ st.shape)) refl (rw its.1 refl)) (λ clash. cc)

pub returns-then-session-ge-CURSORS-clause-did : goal.returns-then-session-ge-CURSORS-clause-did
returns-then-session-ge-CURSORS-clause-did g c = λ h st.
    let s = g.T.Store in
    let there = c.in_ok-check_table.ensures.session in
    let going = sym st.knows.stopped ∙ c.in_ok-check_table.ensures.going in
    let name = name_text c.args.name.now in
    let call = machine.OpenCursor c.args.s name c.args.table c.args.lo c.args.hi in
    let goes : Goes s h (record { memory = c.args.memory.now; store = c.args.store.now }) = st.goes going in
    let its = views.named_is h goes.xids (env_of h.shape (s.blocks c.args.store.now)) c.args.s name c.args.memory.now.sessions goes.remembers there.0 there.1 in
    let sessions = ap (λ (k : Kept). k.sessions) c.memory.view_is in
    let count : c.session.result.cursors ≡ length (kept_at c.args.memory.now.sessions c.args.s).cursors = c.session.ensures.cursors ∙ ap (λ (l : List KeptSession). length (kept_at l c.args.s).cursors) sessions in
    let many : CURSORS ≤ length (cursors_of h c.args.s) = let full = c.if-session-ge-CURSORS.true in let same = its.2 in omega (arith, full, count, same) in
    let none : cursor_of h c.args.s name ≡ None = its.0 (ap (λ (l : List KeptSession). named name (kept_at l c.args.s).cursors) (sym sessions) ∙ (sym c.cursor.ensures ∙ not_some c.cursor.result (sym c.is_some.ensures ∙ c.if-is_some.false))) in
    does_refused_late s (laws_of g) h call TooManyCursors (record { memory = c.args.memory.now; store = c.args.store.now }) st c.requires.step.going
    (MayAnswer.later (name_tests h call) (c.in_ok-check_table.ensures.granted h (name_text c.args.name.now) c.args.lo c.args.hi st.knows (c.shape.ensures.shape ∙ st.shape)) refl (rw (none, le-leb CURSORS (length (cursors_of h c.args.s)) many) refl)) (λ clash. cc)

pub returns-clause-step : goal.returns-clause-step
returns-clause-step g c =
    let s = g.T.Store in
    let store = c.args.store.now in
    let old : Kept = record { sessions = c.memory.inside.sessions; waits = c.memory.inside.waits; scn = c.memory.inside.scn; stopped = c.memory.inside.stopped; copies = c.memory.inside.copies; dead = c.memory.inside.dead } in
    let now : Kept = record { sessions = c.open_cursor.new.self; waits = c.memory.inside.waits; scn = c.memory.inside.scn; stopped = c.memory.inside.stopped; copies = c.memory.inside.copies; dead = c.memory.inside.dead } in
    let is : IsInStep s old store = subst (λ (k : Kept). IsInStep s k store) (sym c.memory.view_is) c.requires.step in
    let k = kept_at c.memory.inside.sessions c.args.s in
    let name = name_text c.args.name.now in
    let opened : Cursor = c.cursor_over-cursor.result in
    let here : (1 ≤ c.args.table) × (c.args.table ≤ (s.shape_of store).tables) = subst (λ (z : Shape). (1 ≤ c.args.table) × (c.args.table ≤ z.tables)) c.shape.ensures.shape c.in_ok-check_table.ensures.table in
    let of_table = subst (λ (t : ℕ). (1 ≤ t) × (t ≤ (s.shape_of store).tables)) (sym (ap (λ (m : Cursor). m.table) c.cursor_over-cursor.ensures)) here in
    let fit = fit_opened (s.shape_of store) name opened k (fit_at s old store is c.args.s) of_table in
    let moved = with_cursor name opened k in
    in_step_moved s old now store store is refl refl c.args.s c.in_ok-check_table.ensures.session moved fit c.open_cursor.ensures
    (queue_moved s old now store store is refl refl c.args.s c.in_ok-check_table.ensures.session moved fit c.open_cursor.ensures refl (inl refl))
    (λ going. (is.going going, few_less s old now store store is refl refl c.args.s c.in_ok-check_table.ensures.session moved fit c.open_cursor.ensures going (omega arith)))

pub returns-clause-did : goal.returns-clause-did
returns-clause-did g c = λ h st.
    let s = g.T.Store in
    let store = c.args.store.now in
    let old : Kept = record { sessions = c.memory.inside.sessions; waits = c.memory.inside.waits; scn = c.memory.inside.scn; stopped = c.memory.inside.stopped; copies = c.memory.inside.copies; dead = c.memory.inside.dead } in
    let now : Kept = record { sessions = c.open_cursor.new.self; waits = c.memory.inside.waits; scn = c.memory.inside.scn; stopped = c.memory.inside.stopped; copies = c.memory.inside.copies; dead = c.memory.inside.dead } in
    let here : Stands s h (record { memory = old; store = store }) = subst (λ (k : Kept). Stands s h (record { memory = k; store = store })) (sym c.memory.view_is) st in
    let there = c.in_ok-check_table.ensures.session in
    let going = sym st.knows.stopped ∙ c.in_ok-check_table.ensures.going in
    let name = name_text c.args.name.now in
    let call = machine.OpenCursor c.args.s name c.args.table c.args.lo c.args.hi in
    let goes = here.goes going in
    let k = kept_at old.sessions c.args.s in
    let its = views.named_is h goes.xids (env_of h.shape (s.blocks store)) c.args.s name old.sessions goes.remembers there.0 there.1 in
    let none : cursor_of h c.args.s name ≡ None = its.0 (sym c.cursor.ensures ∙ not_some c.cursor.result (sym c.is_some.ensures ∙ c.if-is_some.false)) in
    let few : length (cursors_of h c.args.s) < CURSORS = let room = c.if-session-ge-CURSORS.false in let count = c.session.ensures.cursors in let same = its.2 in omega (arith, room, count, same) in
    let in_tables : is_table h c.args.table ≡ true =
    subst (λ (z : Shape). nat_le 1 c.args.table && nat_le c.args.table z.tables ≡ true) (c.shape.ensures.shape ∙ st.shape)
    (and_from (nat_le 1 c.args.table) (nat_le c.args.table c.shape.result.tables) (le-leb 1 c.args.table c.in_ok-check_table.ensures.table.0) (le-leb c.args.table c.shape.result.tables c.in_ok-check_table.ensures.table.1)) in
    let opened : Cursor = c.cursor_over-cursor.result in
    let same : opened ≡ cursor_opened h k c.args.table c.args.lo c.args.hi = c.cursor_over-cursor.ensures ∙ (ap (λ (m : Kept). opened_now m c.args.s c.args.table c.args.lo c.args.hi) (sym c.memory.view_is) ∙ opened_at h old c.args.s c.args.table c.args.lo c.args.hi here.knows.scn) in
    subst (λ (m : Kept). Does s h call machine.Done (record { memory = m; store = store }) (record { memory = now; store = store })) c.memory.view_is
    (does_cursors s st.told (laws_of g) h call machine.Done c.args.s (cursors_of h c.args.s ++ opened_cursor h c.args.s name c.args.table c.args.lo c.args.hi ∷ []) (record { memory = old; store = store }) (record { memory = now; store = store }) here going
    (there.0, (let n = st.knows.sixteen in omega (arith, there, n)))
    (MayAnswer.later (name_tests h call) (c.in_ok-check_table.ensures.granted h (name_text c.args.name.now) c.args.lo c.args.hi st.knows (c.shape.ensures.shape ∙ st.shape)) refl (rw (none, lt-leb CURSORS (length (cursors_of h c.args.s)) few) refl)) refl refl (λ s t k a is done. cc) refl refl refl refl refl refl (λ k is. cc)
    (ap (λ (l : List KeptSession). map (λ k. k.asked) l) c.open_cursor.ensures ∙ all_asked old.sessions (c.args.s - 1) (with_cursor name opened k) refl)
    (λ xids stand is. subst (Remembers (next.with_cursors h c.args.s (cursors_of h c.args.s ++ opened_cursor h c.args.s name c.args.table c.args.lo c.args.hi ∷ [])) xids (env_of h.shape (s.blocks store)))
    (ap (λ (m : Cursor). with_kept old.sessions c.args.s (with_cursor name m k)) (sym same) ∙ sym c.open_cursor.ensures) (views.opened h xids (s.blocks store) old.sessions c.args.s name c.args.table c.args.lo c.args.hi stand is there.0 there.1 in_tables))
    (no_logs s store ((subst (λ (m : Kept). IsInStep s m store) (sym c.memory.view_is) c.requires.step).going (ap (λ (m : Kept). m.stopped) c.memory.view_is ∙ c.in_ok-check_table.ensures.going)))
    (record { shape = refl; slots = refl }))
