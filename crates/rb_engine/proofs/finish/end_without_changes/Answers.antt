use Rattle.std.proofs.lemmas.Bool.{false≢true}
use Rattle.std.proofs.Common.{inr, Bool, true, [], ◌≡◌, ◌+◌, ◌*◌, ◌/◌, ℕ, List, Some, length, false, refl, sym, ◌∙◌, ap, subst, arith}
use Rattle.rb_base.specs.declared.sizes.TheConstants.{SLOTS}
use Rattle.rb_base.specs.Logs.{Laws}
use Rattle.rb_engine.specs.Does.{Does, EngineView, IsInStep, Kept, Stands, slots_had}
use Rattle.rb_engine.specs.Finishing.{commit_call}
use Rattle.law_crash.proofs.Kept.{rows_kept}
use Rattle.law_crash.specs.Made.{BackOver}
use Rattle.rb_model.specs.Calls as machine
use Rattle.rb_model.specs.Calls.{Answer, MayAnswer, is_empty, none_applies}
use Rattle.rb_model.specs.Queue.{is_queued}
use Rattle.rb_model.specs.State.{session_own}
use Rattle.rb_sessions.specs.Kept.{KeptSession, kept_at}
use Rattle.rb_sessions.specs.Kept as table
use Rattle.law_blocks.specs.Groups.{IsEnded}
use Rattle.rb_engine.proofs.FinishLemmas.{count_is, does_not, early_commit, goes, no_early, no_items, own_id, who_in}
use Rattle.rb_engine.proofs.RollbackLemmas.{does_left}
use Rattle.rb_engine.proofs.StepLemmas.{few_less, fit_at, fit_committed, in_step_moved, queue_moved}
use Rattle.rb_engine.proofs.MakesLemmas.{makes_left}
use Rattle.rb_engine.proofs.finish.end_without_changes.Given.{Over}
use Rattle.rb_engine.proofs.finish.end_without_changes.Goals as goal

laws_of : (g : Over) → Laws g.T.Store
laws_of g = record {
  stable_left = λ store b n i keeps stable here. g.met.T.Store.stable_left store b n i keeps stable here;
  stable_numbered = λ store b n keeps stable. g.met.T.Store.stable_numbered store b n keeps stable;
  stable_patched = λ store b n keeps stable. g.met.T.Store.stable_patched store b n keeps stable;
  now_counts = λ store t i keeps le here. g.met.T.Store.now_counts store t i keeps le here;
  only_now = λ store i keeps here. g.met.T.Store.only_now store i keeps here;
  holds_back_same = λ store. g.met.T.Store.holds_back_same store;
  holds_back_joined = λ a b c first second. g.met.T.Store.holds_back_joined a b c first second;
}

pub returns-clause-step : goal.returns-clause-step
returns-clause-step g c =
    let s = g.T.Store in
    let store = c.args.store.now in
    let new = c.put_all_back.new.store in
    let inside : Kept = record { sessions = c.memory.inside.sessions; waits = c.memory.inside.waits; scn = c.memory.inside.scn; stopped = c.memory.inside.stopped; copies = c.memory.inside.copies; dead = c.memory.inside.dead } in
    let now : Kept = record { sessions = c.commit.new.self; waits = c.free.new.self; scn = c.memory.inside.scn; stopped = c.memory.inside.stopped; copies = c.memory.inside.copies; dead = c.memory.inside.dead } in
    let is : IsInStep s inside store = subst (λ (k : Kept). IsInStep s k store) (sym c.memory.view_is) c.requires.step in
    let own : (kept_at inside.sessions c.args.s).own ≡ Some c.args.xid = ap (λ (k : Kept). (kept_at k.sessions c.args.s).own) c.memory.view_is ∙ c.requires.own in
    let k = kept_at inside.sessions c.args.s in
    let fit = fit_committed (s.shape_of store) k (fit_at s inside store is c.args.s) in
    let shape = c.put_all_back.ensures.same.shape in
    let slot : slots_had k.own ≡ 1 = ap slots_had own in
    let lsn = c.in-Ok.ensures.lsn in
    in_step_moved s inside now store new is shape refl c.args.s c.requires.session (table.committed k) fit c.commit.ensures
    (queue_moved s inside now store new is shape refl c.args.s c.requires.session (table.committed k) fit c.commit.ensures refl (inr c.free.ensures))
    (λ going. (c.in-Ok.ensures.failed, few_less s inside now store new is shape refl c.args.s c.requires.session (table.committed k) fit c.commit.ensures going (omega (arith, lsn, slot))))

pub returns-clause-did : goal.returns-clause-did
returns-clause-did g c = λ l h st.
    let s = g.T.Store in
    let store = c.args.store.now in
    let inside : Kept = record { sessions = c.memory.inside.sessions; waits = c.memory.inside.waits; scn = c.memory.inside.scn; stopped = c.memory.inside.stopped; copies = c.memory.inside.copies; dead = c.memory.inside.dead } in
    let old : EngineView _ = record { memory = inside; store = store } in
    let here : Stands s h old = subst (λ (k : Kept). Stands s h (record { memory = k; store = store })) (sym c.memory.view_is) st in
    let own : (kept_at inside.sessions c.args.s).own ≡ Some c.args.xid = ap (λ (k : Kept). (kept_at k.sessions c.args.s).own) c.memory.view_is ∙ c.requires.own in
    let going : h.stopped ≡ false = sym st.knows.stopped ∙ c.requires.going in
    let there = c.requires.session in
    let out : is_queued c.args.s inside.waits ≡ false = ap (λ (k : Kept). is_queued c.args.s k.waits) c.memory.view_is ∙ c.requires.free in
    let low = (subst (λ (k : Kept). IsInStep s k store) (sym c.memory.view_is) c.requires.step) in
    let count = count_is s st.told (laws_of g) h old c.args.s c.args.xid here going there own in
    let none : length (session_own h c.args.s) ≡ 0 = sym count ∙ (ap (λ (k : Kept). (kept_at k.sessions c.args.s).count) c.memory.view_is ∙ c.requires.none) in
    let new : EngineView _ = record { memory = record { sessions = c.commit.new.self; waits = c.free.new.self; scn = c.memory.inside.scn; stopped = c.memory.inside.stopped; copies = c.memory.inside.copies; dead = c.memory.inside.dead }; store = c.put_all_back.new.store } in
    let held = goes s st.told (laws_of g) h old c.args.s c.args.xid here going there own in
    let who = who_in s st.told (laws_of g) h old c.args.s c.args.xid here going there own in
    subst (λ (k : Kept). Does s h (commit_call l c.args.s) machine.Done (record { memory = k; store = store }) new) c.memory.view_is
    (does_left s st.told (laws_of g) h old c.args.s c.args.xid here going there own new c.put_all_back.ensures.same l out (no_items (session_own h c.args.s) none)
    (c.in-Ok.ensures.puts_back st.told h held.xids c.args.s st.shape held.holds who.0 who.1 (own_id s st.told (laws_of g) h old c.args.s c.args.xid here going there own) going none)
    c.commit.ensures c.free.ensures refl refl refl refl)

pub returns-clause-rows : goal.returns-clause-rows
returns-clause-rows g c = λ h st.
    let s = g.T.Store in
    let store = c.args.store.now in
    let inside : Kept = record { sessions = c.memory.inside.sessions; waits = c.memory.inside.waits; scn = c.memory.inside.scn; stopped = c.memory.inside.stopped; copies = c.memory.inside.copies; dead = c.memory.inside.dead } in
    let old : EngineView _ = record { memory = inside; store = store } in
    let here : Stands s h old = subst (λ (k : Kept). Stands s h (record { memory = k; store = store })) (sym c.memory.view_is) st in
    let own : (kept_at inside.sessions c.args.s).own ≡ Some c.args.xid = ap (λ (k : Kept). (kept_at k.sessions c.args.s).own) c.memory.view_is ∙ c.requires.own in
    let going : h.stopped ≡ false = sym st.knows.stopped ∙ c.requires.going in
    let there = c.requires.session in
    let count = count_is s st.told (laws_of g) h old c.args.s c.args.xid here going there own in
    let none : length (session_own h c.args.s) ≡ 0 = sym count ∙ (ap (λ (k : Kept). (kept_at k.sessions c.args.s).count) c.memory.view_is ∙ c.requires.none) in
    let held = goes s st.told (laws_of g) h old c.args.s c.args.xid here going there own in
    let who = who_in s st.told (laws_of g) h old c.args.s c.args.xid here going there own in
    let slot = SLOTS * c.args.xid.seg + c.args.xid.slot in
    let now = s.blocks c.put_all_back.new.store in
    let did = c.in-Ok.ensures.puts_back st.told h held.xids c.args.s st.shape held.holds who.0 who.1 (own_id s st.told (laws_of g) h old c.args.s c.args.xid here going there own) going none in
    let last = (did []).4 in
    let back : last.0 ≡ s.blocks store = subst (λ n. BackOver h.shape slot n (s.blocks store) last.0) none last.1 in
    rows_kept h.shape (slot / SLOTS) (s.blocks store) now (subst (λ (blocks : List (List ℕ)). IsEnded h.shape slot blocks now) back last.2).group

pub returns-in-Err-clause-did : goal.returns-in-Err-clause-did
returns-in-Err-clause-did g c = rw c.fail.ensures.answer (λ l h st.
    let s = g.T.Store in
    let old : EngineView _ = record { memory = c.args.memory.now; store = c.args.store.now } in
    let own = c.requires.own in
    let going : h.stopped ≡ false = sym st.knows.stopped ∙ c.requires.going in
    let there = c.requires.session in
    let count = count_is s st.told (laws_of g) h old c.args.s c.args.xid st going there own in
    let none : length (session_own h c.args.s) ≡ 0 = sym count ∙ c.requires.none in
    let new : EngineView _ = record { memory = c.fail.new.self; store = c.put_all_back.new.store } in
    let held = goes s st.told (laws_of g) h old c.args.s c.args.xid st going there own in
    let who = who_in s st.told (laws_of g) h old c.args.s c.args.xid st going there own in
    does_not s st.told (laws_of g) h old c.args.s c.args.xid st going there own new c.put_all_back.ensures.same (commit_call l c.args.s) (subst (λ (tests : List (Bool × Answer)). none_applies tests ≡ true) (sym (early_commit l h c.args.s)) (no_early h c.args.memory.now c.args.s st.knows going there c.requires.free))
    (c.in-Err.ensures.puts_back st.told h held.xids c.args.s st.shape held.holds who.0 who.1 (own_id s st.told (laws_of g) h old c.args.s c.args.xid st going there own) going none (Some (commit_call l c.args.s)))
    c.fail.ensures.stopped)

pub returns-clause-makes : goal.returns-clause-makes
returns-clause-makes g c = λ l h st fine.
    let s = g.T.Store in
    let store = c.args.store.now in
    let inside : Kept = record { sessions = c.memory.inside.sessions; waits = c.memory.inside.waits; scn = c.memory.inside.scn; stopped = c.memory.inside.stopped; copies = c.memory.inside.copies; dead = c.memory.inside.dead } in
    let old : EngineView _ = record { memory = inside; store = store } in
    let here : Stands s h old = subst (λ (k : Kept). Stands s h (record { memory = k; store = store })) (sym c.memory.view_is) st in
    let own : (kept_at inside.sessions c.args.s).own ≡ Some c.args.xid = ap (λ (k : Kept). (kept_at k.sessions c.args.s).own) c.memory.view_is ∙ c.requires.own in
    let going : h.stopped ≡ false = sym st.knows.stopped ∙ c.requires.going in
    let there = c.requires.session in
    let count = count_is s st.told (laws_of g) h old c.args.s c.args.xid here going there own in
    let held = goes s st.told (laws_of g) h old c.args.s c.args.xid here going there own in
    let who = who_in s st.told (laws_of g) h old c.args.s c.args.xid here going there own in
    let id = own_id s st.told (laws_of g) h old c.args.s c.args.xid here going there own in
    let none : length (session_own h c.args.s) ≡ 0 = sym count ∙ (ap (λ (k : Kept). (kept_at k.sessions c.args.s).count) c.memory.view_is ∙ c.requires.none) in
    let new = c.put_all_back.new.store in
    makes_left s st.told (laws_of g) h old c.args.s c.args.xid here going there own (s.lsn new) new l none
    (c.in-Ok.ensures.puts_back st.told h held.xids c.args.s st.shape held.holds who.0 who.1 id going none)

pub returns-clause-holds_back : goal.returns-clause-holds_back
returns-clause-holds_back g c = λ fine. c.in-Ok.ensures.holds_back

pub returns-in-Err-clause-holds_back : goal.returns-in-Err-clause-holds_back
returns-in-Err-clause-holds_back g c = rw c.fail.ensures.answer (λ fault. absurd (false≢true (sym fault)))
