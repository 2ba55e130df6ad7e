use Rattle.std.proofs.lemmas.Bool.{false≢true}
use Rattle.std.proofs.Common.{inr, Bool, List, ◌≡◌, ◌<◌, ◌+◌, ◌*◌, ◌/◌, length, Some, false, true, refl, sym, ◌∙◌, ap, subst, arith}
use Rattle.rb_base.specs.declared.sizes.TheConstants.{SLOTS}
use Rattle.rb_base.specs.Logs.{Laws}
use Rattle.rb_engine.specs.Does.{Does, EngineView, IsInStep, Kept, Stands}
use Rattle.rb_engine.specs.Finishing.{commit_call, number_told}
use Rattle.law_crash.proofs.Kept.{rows_kept}
use Rattle.rb_model.specs.Calls as machine
use Rattle.rb_model.specs.Calls.{Answer, MayAnswer, is_empty, none_applies}
use Rattle.rb_model.specs.Queue.{is_queued}
use Rattle.rb_model.specs.State.{session_own}
use Rattle.rb_model.specs.declared.refusal.Refusal.TheVariants.{DiskFault}
use Rattle.rb_sessions.specs.Kept.{KeptSession, kept_at}
use Rattle.rb_sessions.specs.Kept as table
use Rattle.rb_engine.proofs.FinishLemmas.{count_is, does_committed, early_commit, does_not, goes, next_known, no_early, own_id, who_in}
use Rattle.rb_engine.proofs.StepLemmas.{few_less, fit_at, fit_committed, in_step_moved, queue_moved}
use Rattle.rb_engine.proofs.MakesLemmas.{makes_committed}
use Rattle.rb_engine.proofs.finish.commit_changes.Given.{Over}
use Rattle.rb_engine.proofs.finish.commit_changes.Goals as goal

laws_of : (g : Over) → Laws g.T.Store
laws_of g = record {
  stable_left = λ store b n i keeps stable here. g.met.T.Store.stable_left store b n i keeps stable here;
  stable_numbered = λ store b n keeps stable. g.met.T.Store.stable_numbered store b n keeps stable;
  stable_patched = λ store b n keeps stable. g.met.T.Store.stable_patched store b n keeps stable;
  now_counts = λ store t i keeps le here. g.met.T.Store.now_counts store t i keeps le here;
  only_now = λ store i keeps here. g.met.T.Store.only_now store i keeps here;
  holds_back_same = λ store. g.met.T.Store.holds_back_same store;
  holds_back_joined = λ a b c first second. g.met.T.Store.holds_back_joined a b c first second;
}

pub returns-in-Ok-clause-step : goal.returns-in-Ok-clause-step
returns-in-Ok-clause-step g c =
    let s = g.T.Store in
    let store = c.args.store.now in
    let new = c.give_commit.new.store in
    let inside : Kept = record { sessions = c.memory.inside.sessions; waits = c.memory.inside.waits; scn = c.memory.inside.scn; stopped = c.memory.inside.stopped; copies = c.memory.inside.copies; dead = c.memory.inside.dead } in
    let now : Kept = record { sessions = c.commit.new.self; waits = c.free.new.self; scn = c.saturating_add-scn.result; stopped = c.memory.inside.stopped; copies = c.memory.inside.copies; dead = c.memory.inside.dead } in
    let is : IsInStep s inside store = subst (λ (k : Kept). IsInStep s k store) (sym c.memory.view_is) c.requires.step in
    let own : (kept_at inside.sessions c.args.s).own ≡ Some c.args.xid = ap (λ (k : Kept). (kept_at k.sessions c.args.s).own) c.memory.view_is ∙ c.requires.own in
    let k = kept_at inside.sessions c.args.s in
    let fit = fit_committed (s.shape_of store) k (fit_at s inside store is c.args.s) in
    let shape = c.give_commit.ensures.same.shape in
    let some : 0 < (kept_at inside.sessions c.args.s).count = subst (λ (k : Kept). 0 < (kept_at k.sessions c.args.s).count) (sym c.memory.view_is) c.requires.some in
    let lsn = c.in-Ok.ensures.lsn in
    in_step_moved s inside now store new is shape refl c.args.s c.requires.session (table.committed k) fit c.commit.ensures
    (queue_moved s inside now store new is shape refl c.args.s c.requires.session (table.committed k) fit c.commit.ensures refl (inr c.free.ensures))
    (λ going. (c.in-Ok.ensures.failed, few_less s inside now store new is shape refl c.args.s c.requires.session (table.committed k) fit c.commit.ensures going (omega (arith, lsn, some))))

pub returns-in-Ok-clause-did : goal.returns-in-Ok-clause-did
returns-in-Ok-clause-did g c = λ h st.
    let s = g.T.Store in
    let store = c.args.store.now in
    let inside : Kept = record { sessions = c.memory.inside.sessions; waits = c.memory.inside.waits; scn = c.memory.inside.scn; stopped = c.memory.inside.stopped; copies = c.memory.inside.copies; dead = c.memory.inside.dead } in
    let old : EngineView _ = record { memory = inside; store = store } in
    let here : Stands s h old = subst (λ (k : Kept). Stands s h (record { memory = k; store = store })) (sym c.memory.view_is) st in
    let own : (kept_at inside.sessions c.args.s).own ≡ Some c.args.xid = ap (λ (k : Kept). (kept_at k.sessions c.args.s).own) c.memory.view_is ∙ c.requires.own in
    let going : h.stopped ≡ false = sym st.knows.stopped ∙ c.requires.going in
    let there = c.requires.session in
    let out : is_queued c.args.s inside.waits ≡ false = ap (λ (k : Kept). is_queued c.args.s k.waits) c.memory.view_is ∙ c.requires.free in
    let low = (subst (λ (k : Kept). IsInStep s k store) (sym c.memory.view_is) c.requires.step) in
    let count = count_is s st.told (laws_of g) h old c.args.s c.args.xid here going there own in
    let new : EngineView _ = record { memory = record { sessions = c.commit.new.self; waits = c.free.new.self; scn = c.saturating_add-scn.result; stopped = c.memory.inside.stopped; copies = c.memory.inside.copies; dead = c.memory.inside.dead }; store = c.give_commit.new.store } in
    let held = goes s st.told (laws_of g) h old c.args.s c.args.xid here going there own in
    let busy : 0 < (kept_at inside.sessions c.args.s).count = subst (λ (k : Kept). 0 < (kept_at k.sessions c.args.s).count) (sym c.memory.view_is) c.requires.some in
    let some : 0 < length (session_own h c.args.s) = omega (arith, busy, count) in
    let number = next_known s st.told (laws_of g) h old c.args.s c.args.xid here going there own c.saturating_add-scn.result (let few = low.few (ap (λ (k : Kept). k.stopped) c.memory.view_is ∙ c.requires.going) in omega (arith, few)) c.saturating_add-scn.ensures in
    let who = who_in s st.told (laws_of g) h old c.args.s c.args.xid here going there own in
    subst (λ (k : Kept). Does s h (commit_call c.args.lasting c.args.s) (number_told c.args.lasting c.saturating_add-scn.result) (record { memory = k; store = store }) new) c.memory.view_is
    (does_committed s st.told (laws_of g) h old c.args.s c.args.xid here going there own some new c.give_commit.ensures.same c.args.lasting out c.saturating_add-scn.result number
    (c.in-Ok.ensures.commits st.told h held.xids c.args.s st.shape held.holds who.0 who.1 (own_id s st.told (laws_of g) h old c.args.s c.args.xid here going there own) some going number)
    c.commit.ensures c.free.ensures refl refl refl refl)

pub returns-in-Ok-clause-rows : goal.returns-in-Ok-clause-rows
returns-in-Ok-clause-rows g c = λ h st.
    let s = g.T.Store in
    let store = c.args.store.now in
    let inside : Kept = record { sessions = c.memory.inside.sessions; waits = c.memory.inside.waits; scn = c.memory.inside.scn; stopped = c.memory.inside.stopped; copies = c.memory.inside.copies; dead = c.memory.inside.dead } in
    let old : EngineView _ = record { memory = inside; store = store } in
    let here : Stands s h old = subst (λ (k : Kept). Stands s h (record { memory = k; store = store })) (sym c.memory.view_is) st in
    let own : (kept_at inside.sessions c.args.s).own ≡ Some c.args.xid = ap (λ (k : Kept). (kept_at k.sessions c.args.s).own) c.memory.view_is ∙ c.requires.own in
    let going : h.stopped ≡ false = sym st.knows.stopped ∙ c.requires.going in
    let there = c.requires.session in
    let low = (subst (λ (k : Kept). IsInStep s k store) (sym c.memory.view_is) c.requires.step) in
    let count = count_is s st.told (laws_of g) h old c.args.s c.args.xid here going there own in
    let held = goes s st.told (laws_of g) h old c.args.s c.args.xid here going there own in
    let busy : 0 < (kept_at inside.sessions c.args.s).count = subst (λ (k : Kept). 0 < (kept_at k.sessions c.args.s).count) (sym c.memory.view_is) c.requires.some in
    let some : 0 < length (session_own h c.args.s) = omega (arith, busy, count) in
    let number = next_known s st.told (laws_of g) h old c.args.s c.args.xid here going there own c.saturating_add-scn.result (let few = low.few (ap (λ (k : Kept). k.stopped) c.memory.view_is ∙ c.requires.going) in omega (arith, few)) c.saturating_add-scn.ensures in
    let who = who_in s st.told (laws_of g) h old c.args.s c.args.xid here going there own in
    let did = c.in-Ok.ensures.commits st.told h held.xids c.args.s st.shape held.holds who.0 who.1 (own_id s st.told (laws_of g) h old c.args.s c.args.xid here going there own) some going number in
    rows_kept h.shape ((SLOTS * c.args.xid.seg + c.args.xid.slot) / SLOTS) (s.blocks store) (s.blocks c.give_commit.new.store) did.4.group

pub returns-in-Err-clause-did : goal.returns-in-Err-clause-did
returns-in-Err-clause-did g c = rw c.fail.ensures.answer (λ h st.
    let s = g.T.Store in
    let store = c.args.store.now in
    let inside : Kept = record { sessions = c.memory.inside.sessions; waits = c.memory.inside.waits; scn = c.memory.inside.scn; stopped = c.memory.inside.stopped; copies = c.memory.inside.copies; dead = c.memory.inside.dead } in
    let old : EngineView _ = record { memory = inside; store = store } in
    let here : Stands s h old = subst (λ (k : Kept). Stands s h (record { memory = k; store = store })) (sym c.memory.view_is) st in
    let own : (kept_at inside.sessions c.args.s).own ≡ Some c.args.xid = ap (λ (k : Kept). (kept_at k.sessions c.args.s).own) c.memory.view_is ∙ c.requires.own in
    let going : h.stopped ≡ false = sym st.knows.stopped ∙ c.requires.going in
    let there = c.requires.session in
    let out : is_queued c.args.s inside.waits ≡ false = ap (λ (k : Kept). is_queued c.args.s k.waits) c.memory.view_is ∙ c.requires.free in
    let low = (subst (λ (k : Kept). IsInStep s k store) (sym c.memory.view_is) c.requires.step) in
    let count = count_is s st.told (laws_of g) h old c.args.s c.args.xid here going there own in
    let new : EngineView _ = record { memory = c.fail.new.self; store = c.give_commit.new.store } in
    let held = goes s st.told (laws_of g) h old c.args.s c.args.xid here going there own in
    let busy : 0 < (kept_at inside.sessions c.args.s).count = subst (λ (k : Kept). 0 < (kept_at k.sessions c.args.s).count) (sym c.memory.view_is) c.requires.some in
    let some : 0 < length (session_own h c.args.s) = omega (arith, busy, count) in
    let number = next_known s st.told (laws_of g) h old c.args.s c.args.xid here going there own c.saturating_add-scn.result (let few = low.few (ap (λ (k : Kept). k.stopped) c.memory.view_is ∙ c.requires.going) in omega (arith, few)) c.saturating_add-scn.ensures in
    let who = who_in s st.told (laws_of g) h old c.args.s c.args.xid here going there own in
    subst (λ (k : Kept). Does s h (commit_call c.args.lasting c.args.s) (machine.Refused DiskFault) (record { memory = k; store = store }) new) c.memory.view_is
    (does_not s st.told (laws_of g) h old c.args.s c.args.xid here going there own new c.give_commit.ensures.same (commit_call c.args.lasting c.args.s) (subst (λ (tests : List (Bool × Answer)). none_applies tests ≡ true) (sym (early_commit c.args.lasting h c.args.s)) (no_early h inside c.args.s here.knows going there out))
    (c.in-Err.ensures.commits st.told h held.xids c.args.s st.shape held.holds who.0 who.1 (own_id s st.told (laws_of g) h old c.args.s c.args.xid here going there own) some going number)
    (c.fail.ensures.stopped ∙ ap (λ (k : Kept). let n : Kept = record k { stopped = true } in n) (sym c.memory.view_is))))

pub returns-in-Ok-clause-makes : goal.returns-in-Ok-clause-makes
returns-in-Ok-clause-makes g c = λ h st fine.
    let s = g.T.Store in
    let store = c.args.store.now in
    let inside : Kept = record { sessions = c.memory.inside.sessions; waits = c.memory.inside.waits; scn = c.memory.inside.scn; stopped = c.memory.inside.stopped; copies = c.memory.inside.copies; dead = c.memory.inside.dead } in
    let old : EngineView _ = record { memory = inside; store = store } in
    let here : Stands s h old = subst (λ (k : Kept). Stands s h (record { memory = k; store = store })) (sym c.memory.view_is) st in
    let own : (kept_at inside.sessions c.args.s).own ≡ Some c.args.xid = ap (λ (k : Kept). (kept_at k.sessions c.args.s).own) c.memory.view_is ∙ c.requires.own in
    let going : h.stopped ≡ false = sym st.knows.stopped ∙ c.requires.going in
    let there = c.requires.session in
    let count = count_is s st.told (laws_of g) h old c.args.s c.args.xid here going there own in
    let held = goes s st.told (laws_of g) h old c.args.s c.args.xid here going there own in
    let who = who_in s st.told (laws_of g) h old c.args.s c.args.xid here going there own in
    let id = own_id s st.told (laws_of g) h old c.args.s c.args.xid here going there own in
    let low = subst (λ (k : Kept). IsInStep s k store) (sym c.memory.view_is) c.requires.step in
    let busy : 0 < (kept_at inside.sessions c.args.s).count = subst (λ (k : Kept). 0 < (kept_at k.sessions c.args.s).count) (sym c.memory.view_is) c.requires.some in
    let some : 0 < length (session_own h c.args.s) = omega (arith, busy, count) in
    let scn = c.saturating_add-scn.result in
    let number = next_known s st.told (laws_of g) h old c.args.s c.args.xid here going there own scn (let few = low.few (ap (λ (k : Kept). k.stopped) c.memory.view_is ∙ c.requires.going) in omega (arith, few)) c.saturating_add-scn.ensures in
    let new = c.give_commit.new.store in
    makes_committed s st.told (laws_of g) h old c.args.s c.args.xid here going there own (s.lsn new) new c.args.lasting scn some
    (c.in-Ok.ensures.commits st.told h held.xids c.args.s st.shape held.holds who.0 who.1 id some going number)

pub returns-in-Ok-clause-waits : goal.returns-in-Ok-clause-waits
returns-in-Ok-clause-waits g c = λ later fine. c.in-Ok.ensures.holds_back later

pub returns-in-Err-clause-waits : goal.returns-in-Err-clause-waits
returns-in-Err-clause-waits g c = rw c.fail.ensures.answer (λ later fault. absurd (false≢true (sym fault)))

pub returns-in-Ok-clause-holds_back : goal.returns-in-Ok-clause-holds_back
returns-in-Ok-clause-holds_back g c = λ none. absurd none

pub returns-in-Err-clause-holds_back : goal.returns-in-Err-clause-holds_back
returns-in-Err-clause-holds_back g c = rw c.fail.ensures.answer (λ none. absurd none)
