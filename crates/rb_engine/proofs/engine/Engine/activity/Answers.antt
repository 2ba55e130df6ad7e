use Rattle.std.proofs.Common.{◌≡◌, length, sym, ◌∙◌, ap, subst}
use Rattle.std.proofs.lemmas.Result.{err_from_is_err_and}
use Rattle.rb_base.specs.Logs.{Laws}
use Rattle.rb_engine.proofs.ActivityLemmas.{does_idle, does_shown}
use Rattle.rb_engine.proofs.DoesLemmas.{does_refused}
use Rattle.rb_engine.specs.Does.{Does, EngineView, Kept, Stands}
use Rattle.rb_engine.specs.declared.engine.Engine.TheInside.{Inside}
use Rattle.rb_model.specs.Calls as machine
use Rattle.rb_model.specs.Calls.{wait_by}
use Rattle.rb_model.specs.Queue.{place_of}
use Rattle.rb_model.specs.declared.mode.Mode.{Mode}
use Rattle.rb_sessions.specs.Kept.{kept_at}
use Rattle.rb_engine.proofs.engine.Engine.activity.Given.{Over}
use Rattle.rb_engine.proofs.engine.Engine.activity.Goals as goal

laws_of : (g : Over) → Laws g.T.Store
laws_of g = record {
  stable_left = λ store b n i keeps stable here. g.met.T.Store.stable_left store b n i keeps stable here;
  stable_numbered = λ store b n keeps stable. g.met.T.Store.stable_numbered store b n keeps stable;
  stable_patched = λ store b n keeps stable. g.met.T.Store.stable_patched store b n keeps stable;
  now_counts = λ store t i keeps le here. g.met.T.Store.now_counts store t i keeps le here;
  only_now = λ store i keeps here. g.met.T.Store.only_now store i keeps here;
  holds_back_same = λ store. g.met.T.Store.holds_back_same store;
  holds_back_joined = λ a b c first second. g.met.T.Store.holds_back_joined a b c first second;
}

pub returns-in_err-check_number-clause-did : goal.returns-in_err-check_number-clause-did
returns-in_err-check_number-clause-did g c =
    let p = err_from_is_err_and c.from_residual.result c.from_residual.ensures.1 in
    rw (p.1, p.2) (λ h st.
    let s = g.T.Store in
    let e : EngineView _ = record { memory = c.self.inside.memory; store = c.self.inside.store } in
    subst (λ (x : EngineView _). Does s h (machine.Show c.args.s) (machine.Refused c.in_err-check_number.field-0.0) x x) c.self.view_is
    (does_refused s (laws_of g) h (machine.Show c.args.s) c.in_err-check_number.field-0.0 e (subst (Stands s h) (sym c.self.view_is) st) c.self.invariant.going
    (c.in_err-check_number.ensures.refused h (subst (Stands s h) (sym c.self.view_is) st).knows) c.in_err-check_number.ensures.other))

pub returns-then-has_nothing-clause-did : goal.returns-then-has_nothing-clause-did
returns-then-has_nothing-clause-did g c = λ h st.
    let s = g.T.Store in
    let e : EngineView _ = record { memory = c.self.inside.memory; store = c.self.inside.store } in
    let here : Stands s h e = subst (Stands s h) (sym c.self.view_is) st in
    let ok = c.in_ok-check_number.ensures in
    let of = c.session-session.ensures in
    let kept : _ ≡ c.self.inside.memory = ap (λ (i : Inside _). i.memory) c.self-inside.view_is in
    subst (λ (x : EngineView _). Does s h (machine.Show c.args.s) machine.Idle x x) c.self.view_is
    (does_idle s (laws_of g) h e here (sym here.knows.stopped ∙ ok.going) (c.self.invariant.going ok.going) c.args.s ok.session (ok.granted h here.knows) c.session-session.result c.wait_of-wait.result
    (of.isolation ∙ ap (λ (k : Kept). (kept_at k.sessions c.args.s).isolation) kept) (of.length ∙ ap (λ (k : Kept). (kept_at k.sessions c.args.s).count) kept) (of.savepoints.0 ∙ ap (λ (k : Kept). length (kept_at k.sessions c.args.s).savepoints) kept) (of.cursors ∙ ap (λ (k : Kept). length (kept_at k.sessions c.args.s).cursors) kept)
    (c.wait_of-wait.ensures ∙ ap (λ (k : Kept). wait_by (place_of c.args.s k.waits)) kept) (sym c.has_nothing.ensures ∙ c.if-has_nothing.true))

pub returns-clause-did : goal.returns-clause-did
returns-clause-did g c = λ h st.
    let s = g.T.Store in
    let e : EngineView _ = record { memory = c.self.inside.memory; store = c.self.inside.store } in
    let here : Stands s h e = subst (Stands s h) (sym c.self.view_is) st in
    let ok = c.in_ok-check_number.ensures in
    let of = c.session-session.ensures in
    let kept : _ ≡ c.self.inside.memory = ap (λ (i : Inside _). i.memory) c.self-inside.view_is in
    subst (λ (x : EngineView _). Does s h (machine.Show c.args.s) (machine.Shown c.args.s (record { changes = c.session-session.result.length; cursors = c.session-session.result.cursors; mode = c.mode.result; wait = c.wait_of-wait.result })) x x) c.self.view_is
    (subst (λ (m : Mode). Does s h (machine.Show c.args.s) (machine.Shown c.args.s (record { changes = c.session-session.result.length; cursors = c.session-session.result.cursors; mode = m; wait = c.wait_of-wait.result })) e e) (sym c.mode.ensures)
    (does_shown s (laws_of g) h e here (sym here.knows.stopped ∙ ok.going) (c.self.invariant.going ok.going) c.args.s ok.session (ok.granted h here.knows) c.session-session.result c.wait_of-wait.result
    (of.isolation ∙ ap (λ (k : Kept). (kept_at k.sessions c.args.s).isolation) kept) (of.length ∙ ap (λ (k : Kept). (kept_at k.sessions c.args.s).count) kept) (of.savepoints.0 ∙ ap (λ (k : Kept). length (kept_at k.sessions c.args.s).savepoints) kept) (of.cursors ∙ ap (λ (k : Kept). length (kept_at k.sessions c.args.s).cursors) kept)
    (c.wait_of-wait.ensures ∙ ap (λ (k : Kept). wait_by (place_of c.args.s k.waits)) kept) (sym c.has_nothing.ensures ∙ c.if-has_nothing.false)))
