use Rattle.std.proofs.Common.{◌≡◌, ◌≤◌, ◌<◌, inl, inr, ℕ, Bool, true, false, not, List, [], Option, Some, None, Result, Ok, Err, refl, sym, ◌∙◌, ap, subst, arith}
use Rattle.std.proofs.lemmas.Result.{IfErr-weaker, IfOk-weaker, err_from_is_err_and}
use Rattle.rb_base.specs.Logs.{Laws, Logs, more_logs}
use Rattle.rb_base.specs.declared.ids.Xid.{Xid}
use Rattle.law_blocks.specs.Standing.{env_of}
use Rattle.law_blocks.specs.States.{BlocksStand}
use Rattle.law_sessions.specs.Views.{Remembers}
use Rattle.rb_engine.specs.Behind.{Behind, Led, LedOr, LessDead}
use Rattle.rb_engine.specs.Does.{EngineView, IsInStep, Kept, Stands}
use Rattle.rb_engine.specs.Lateness.{IsTimely}
use Rattle.rb_engine.specs.Scanning.{OtherHolds}
use Rattle.law_crash.proofs.Tells.{tells_same}
use Rattle.rb_model.specs.Answers.{action_by, write_answer}
use Rattle.rb_model.specs.Calls as machine
use Rattle.rb_model.specs.Calls.{Refused, is_disk_fault, none_applies}
use Rattle.rb_model.specs.Clearing.{ClearsTo, Readies}
use Rattle.rb_model.specs.Dead.{home_cleared}
use Rattle.rb_model.specs.Queue.{is_queued}
use Rattle.rb_model.specs.State.{State}
use Rattle.rb_model.specs.declared.refusal.Refusal.{Refusal}
use Rattle.rb_model.specs.declared.refusal.Refusal.TheVariants.{DiskFault, TooOld}
use Rattle.rb_model.specs.declared.wrote.Wrote.{Wrote}
use Rattle.rb_model.specs.declared.wrote.Wrote.TheVariants as wrotes
use Rattle.rb_sessions.specs.Kept.{asked_of_pending}
use Rattle.rb_engine.proofs.BehindLemmas.{behind_after, behind_plain, led_loaded, led_on}
use Rattle.rb_engine.proofs.DoesLemmas.{does_fault, does_refused}
use Rattle.rb_engine.proofs.HomeLemmas.{clear_home, late_ready, living_holds, waits_ready}
use Rattle.rb_engine.proofs.LateLemmas.{young_not_old}
use Rattle.rb_engine.proofs.MakesLemmas.{makes_refused, makes_waited}
use Rattle.rb_engine.proofs.ModeLemmas.{knows_modes}
use Rattle.rb_engine.proofs.RoomLemmas.{early_stay}
use Rattle.rb_engine.proofs.TellsLemmas.{tells_logged}
use Rattle.rb_engine.proofs.WriteLemmas.{stands_loaded, waited_in_step}
use Rattle.rb_engine.proofs.WriteOrder.{holder_unread, holder_waited, loaded_in_step, lost_late, may_write, refused_late, refused_why, stops_before}
use Rattle.rb_engine.proofs.write.do_write.Given.{Over}
use Rattle.rb_engine.proofs.write.do_write.Goals as goal

laws_of : (g : Over) → Laws g.T.Store
laws_of g = record {
  stable_left = λ store b n i keeps stable here. g.met.T.Store.stable_left store b n i keeps stable here;
  stable_numbered = λ store b n keeps stable. g.met.T.Store.stable_numbered store b n keeps stable;
  stable_patched = λ store b n keeps stable. g.met.T.Store.stable_patched store b n keeps stable;
  now_counts = λ store t i keeps le here. g.met.T.Store.now_counts store t i keeps le here;
  only_now = λ store i keeps here. g.met.T.Store.only_now store i keeps here;
  holds_back_same = λ store. g.met.T.Store.holds_back_same store;
  holds_back_joined = λ a b c first second. g.met.T.Store.holds_back_joined a b c first second;
}

-- an outcome by its answer
old_told : (r : Result Wrote Refusal) (scn lost : ℕ) → write_answer r ≡ Refused (TooOld scn lost) → r ≡ Err (TooOld scn lost)
old_told (Ok wrotes.Done) scn lost is = cc
old_told (Ok (wrotes.Waits on)) scn lost is = cc
old_told (Err why) scn lost is = let same : why ≡ TooOld scn lost = cc in ap (λ (w : Refusal). Err w) same

-- THE EARLY TESTS: where one applies, nothing is done.

pub returns-in_err-check_write-clause-did : goal.returns-in_err-check_write-clause-did
returns-in_err-check_write-clause-did g c =
    let p = err_from_is_err_and c.from_residual.result c.from_residual.ensures.1 in
    rw (p.1, p.2) (λ h st.
    let s = g.T.Store in
    let store = c.args.store.now in
    let why : Refusal = c.in_err-check_write.field-0.0 in
    let call = machine.Write c.args.s c.args.table c.args.key (action_by c.args.op) in
    let old : EngineView _ = record { memory = c.args.memory.now; store = store } in
    let refuses = c.in_err-check_write.ensures.refused h c.args.key st.knows (knows_modes s h _ st) (c.shape.ensures.shape ∙ st.shape) in
    behind_plain s (laws_of g) h call (Refused why) old old st (λ on. c.requires.step.going (st.knows.stopped ∙ on)) (inl (refuses.0, refl))
    (does_refused s (laws_of g) h call why old st c.requires.step.going refuses c.in_err-check_write.ensures.other)
    (λ fine. makes_refused h call (s.lsn store) (s.blocks store) (s.blocks store) refl why (λ scn lost is. refl))
    (λ w fine. tells_same h.shape (s.blocks store) (s.blocks store) refl)
    (λ scn lost is. absurd (c.in_err-check_write.ensures.young scn lost (let same : why ≡ TooOld scn lost = cc in same))))

-- THE DEAD OF THE HOME couldn't be put back.

pub returns-in_err-free_home-clause-did : goal.returns-in_err-free_home-clause-did
returns-in_err-free_home-clause-did g c =
    let p = err_from_is_err_and c.from_residual-in_err-free_home.result c.from_residual-in_err-free_home.ensures.1 in
    rw (p.1, p.2, c.in_err-free_home.ensures.fault) (λ h st.
    let s = g.T.Store in
    let store = c.args.store.now in
    let action = action_by c.args.op in
    let call = machine.Write c.args.s c.args.table c.args.key action in
    let old : EngineView _ = record { memory = c.args.memory.now; store = store } in
    let early = c.in_ok-check_write.ensures.granted h c.args.key st.knows (knows_modes s h _ st) (c.shape.ensures.shape ∙ st.shape) in
    let on : h.stopped ≡ false = sym st.knows.stopped ∙ c.in_ok-check_write.ensures.going in
    let there = c.in_ok-check_write.ensures.session in
    let new : EngineView _ = record { memory = c.free_home.new.memory; store = c.free_home.new.store } in
    let failed : is_disk_fault c.in_err-free_home.field-0.0 ≡ true = ap is_disk_fault c.in_err-free_home.ensures.fault in
    let fails = subst (λ (b : Bool). LedOr s h (home_cleared c.args.table c.args.key h) old new b) failed (c.in_err-free_home.ensures.led h st) in
    let stops = subst (λ (b : Bool). LessDead b c.args.memory.now c.free_home.new.memory) failed c.in_err-free_home.ensures.less in
    behind_plain s (laws_of g) h call (Refused DiskFault) old new st (λ on. c.requires.step.going (st.knows.stopped ∙ on)) (inr (early, inl (refl, refl)))
    (does_fault s st.told (laws_of g) h call old new st on early stops c.in_err-free_home.ensures.same (λ keeps. fails (Some call) keeps))
    (λ fine. let clash : true ≡ false = fine in absurd cc) (λ w fine. let clash : true ≡ false = fine in absurd cc) (λ scn lost is. cc))

-- THE HOLDER COULDN'T BE READ

pub returns-in_err-on-clause-did : goal.returns-in_err-on-clause-did
returns-in_err-on-clause-did g c =
    let p = err_from_is_err_and c.from_residual-in_err-on.result c.from_residual-in_err-on.ensures.1 in
    rw (p.1, p.2, c.in_err-on.ensures.fault) (λ h st.
    let s = g.T.Store in
    let store = c.args.store.now in
    let action = action_by c.args.op in
    let call = machine.Write c.args.s c.args.table c.args.key action in
    let old : EngineView _ = record { memory = c.args.memory.now; store = store } in
    let early = c.in_ok-check_write.ensures.granted h c.args.key st.knows (knows_modes s h _ st) (c.shape.ensures.shape ∙ st.shape) in
    let on : h.stopped ≡ false = sym st.knows.stopped ∙ c.in_ok-check_write.ensures.going in
    let there = c.in_ok-check_write.ensures.session in
    let kept : Kept = c.free_home.new.memory in
    let cleared = c.free_home.new.store in
    let home : EngineView _ = record { memory = kept; store = cleared } in
    let now : State = home_cleared c.args.table c.args.key h in
    let led : Led s h now old home = c.in_ok-free_home.ensures.led h st in
    let on1 : now.stopped ≡ false = led.rest.stopped ∙ on in
    let here : Stands s now home = led.stands in
    let clear = clear_home h (st.goes on).xids (here.goes on1).xids (s.blocks store) (s.blocks cleared) c.args.table c.args.key (st.goes on).holds.blocks (here.goes on1).holds.blocks in
    let first = ap none_applies (early_stay h now c.args.s c.args.table c.args.key action led.rest there.0 there.1) ∙ early in
    let runs : s.failed cleared ≡ false = c.in_ok-free_home.ensures.step.going (here.knows.stopped ∙ on1) in
    let new : EngineView _ = record { memory = c.other_holder.new.memory; store = c.other_holder.new.store } in
    behind_after s (laws_of g) h now c.args.s c.args.table c.args.key action (Refused DiskFault) old home new st on led
    (behind_plain s (laws_of g) now call (Refused DiskFault) home new here (λ _. runs) (let is : Readies c.args.s now (Refused DiskFault) now = inl refl in is)
    (holder_unread s st.told (laws_of g) now kept cleared here on1 c.args.s c.args.table c.args.key action there first new c.in_err-on.ensures.logs c.in_err-on.ensures.stops)
    (λ fine. let clash : true ≡ false = fine in absurd cc) (λ w fine. let clash : true ≡ false = fine in absurd cc) (λ scn lost is. cc))
    (λ x is. inr (early, inr is)))

-- ANOTHER SESSION HOLDS THE KEY, and is waited for

pub returns-in-Some-clause-did : goal.returns-in-Some-clause-did
returns-in-Some-clause-did g c = λ h st.
    let s = g.T.Store in
    let store = c.args.store.now in
    let action = action_by c.args.op in
    let call = machine.Write c.args.s c.args.table c.args.key action in
    let old : EngineView _ = record { memory = c.args.memory.now; store = store } in
    let early = c.in_ok-check_write.ensures.granted h c.args.key st.knows (knows_modes s h _ st) (c.shape.ensures.shape ∙ st.shape) in
    let on : h.stopped ≡ false = sym st.knows.stopped ∙ c.in_ok-check_write.ensures.going in
    let there = c.in_ok-check_write.ensures.session in
    let kept : Kept = c.free_home.new.memory in
    let cleared = c.free_home.new.store in
    let home : EngineView _ = record { memory = kept; store = cleared } in
    let now : State = home_cleared c.args.table c.args.key h in
    let led : Led s h now old home = c.in_ok-free_home.ensures.led h st in
    let on1 : now.stopped ≡ false = led.rest.stopped ∙ on in
    let here : Stands s now home = led.stands in
    let clear = clear_home h (st.goes on).xids (here.goes on1).xids (s.blocks store) (s.blocks cleared) c.args.table c.args.key (st.goes on).holds.blocks (here.goes on1).holds.blocks in
    let first = ap none_applies (early_stay h now c.args.s c.args.table c.args.key action led.rest there.0 there.1) ∙ early in
    let runs : s.failed cleared ≡ false = c.in_ok-free_home.ensures.step.going (here.knows.stopped ∙ on1) in
    let new : EngineView _ = record { memory = c.wait_for.new.memory; store = c.other_holder.new.store } in
    let logs : Logs s cleared c.other_holder.new.store [] true = c.in_ok-on.ensures.logs in
    let same = logs.blocks st.told refl in
    behind_after s (laws_of g) h now c.args.s c.args.table c.args.key action (write_answer c.wait_for.result) old home new st on led
    (behind_plain s (laws_of g) now call (write_answer c.wait_for.result) home new here (λ _. runs)
    (waits_ready now c.args.s c.in-Some.on c.wait_for.result (IfErr-weaker c.wait_for.result _ _ (λ why is. is.0) c.wait_for.ensures.ring) (IfOk-weaker c.wait_for.result _ _ (λ w is. is.0) c.wait_for.ensures.waits))
    (holder_waited s st.told (laws_of g) now kept cleared here on1 c.args.s c.args.table c.args.key action there first c.other_holder.new.memory new c.in-Some.on c.in_ok-on.ensures.stops logs
    (λ xids stand shape knows. subst (λ (o : Option ℕ). OtherHolds now c.args.s c.args.table c.args.key o) c.in-Some.is (c.in_ok-on.ensures.other st.told now xids stand shape knows (λ u held. living_holds now c.args.table c.args.key clear u held)))
    c.wait_for.result (asked_of_pending c.new.result) c.new.ensures c.wait_for.ensures.ring c.wait_for.ensures.waits)
    (λ fine. makes_waited now call (s.lsn c.other_holder.new.store) (s.blocks cleared) (s.blocks c.other_holder.new.store) same c.in-Some.on c.wait_for.result (λ w is. is.0) c.wait_for.ensures.waits same)
    (λ w fine. tells_logged s st.told now.shape cleared c.other_holder.new.store logs)
    (λ scn lost is. absurd (young_not_old c.wait_for.result c.wait_for.ensures.young scn lost (old_told c.wait_for.result scn lost is))))
    (λ x is. inr (early, inr is))

pub returns-in-Some-clause-step : goal.returns-in-Some-clause-step
returns-in-Some-clause-step g c =
    let s = g.T.Store in
    let kept : Kept = c.free_home.new.memory in
    let same = c.in_ok-on.ensures.stops in
    let less : kept ≡ record c.args.memory.now { dead = kept.dead } = c.in_ok-free_home.ensures.less in
    waited_in_step s c.other_holder.new.memory c.wait_for.new.memory c.free_home.new.store c.other_holder.new.store (subst (λ (k : Kept). IsInStep s k c.free_home.new.store) (sym same) c.in_ok-free_home.ensures.step) (ap (λ (k : Kept). k.stopped) same ∙ (ap (λ (k : Kept). k.stopped) less ∙ c.in_ok-check_write.ensures.going)) c.in_ok-on.ensures.logs c.args.s c.in-Some.on
    c.in_ok-check_write.ensures.session (ap (λ (k : Kept). is_queued c.args.s k.waits) same ∙ (ap (λ (k : Kept). is_queued c.args.s k.waits) less ∙ c.in_ok-check_write.ensures.free)) (asked_of_pending c.new.result) c.wait_for.result c.wait_for.ensures.ring c.wait_for.ensures.waits

-- THE WRITE COMES TOO LATE, OR THAT CAN'T BE TOLD

pub returns-in_err-check_late-clause-step : goal.returns-in_err-check_late-clause-step
returns-in_err-check_late-clause-step g c =
    let s = g.T.Store in
    let kept : Kept = c.free_home.new.memory in
    let old = c.free_home.new.store in
    let mid = c.other_holder.new.store in
    let new = c.check_late.new.store in
    let fault = is_disk_fault c.in_err-check_late.field-0.0 in
    let logs : Logs s old new [] (not fault) = more_logs s old mid new [] [] (not fault) c.in_ok-on.ensures.logs c.in_err-check_late.ensures.logs in
    let less : kept ≡ record c.args.memory.now { dead = kept.dead } = c.in_ok-free_home.ensures.less in
    loaded_in_step s kept c.check_late.new.memory old new c.in_ok-free_home.ensures.step (ap (λ (k : Kept). k.stopped) less ∙ c.in_ok-check_write.ensures.going) logs.same_shape fault
    (stops_before kept c.other_holder.new.memory c.check_late.new.memory fault c.in_ok-on.ensures.stops c.in_err-check_late.ensures.stops)
    (λ fine. subst (λ (b : Bool). Logs s old new [] (not b)) fine logs)

pub returns-in_err-check_late-clause-did : goal.returns-in_err-check_late-clause-did
returns-in_err-check_late-clause-did g c =
    let p = err_from_is_err_and c.from_residual-in_err-check_late.result c.from_residual-in_err-check_late.ensures.1 in
    rw (p.1, p.2) (λ h st.
    let s = g.T.Store in
    let store = c.args.store.now in
    let action = action_by c.args.op in
    let call = machine.Write c.args.s c.args.table c.args.key action in
    let old : EngineView _ = record { memory = c.args.memory.now; store = store } in
    let early = c.in_ok-check_write.ensures.granted h c.args.key st.knows (knows_modes s h _ st) (c.shape.ensures.shape ∙ st.shape) in
    let on : h.stopped ≡ false = sym st.knows.stopped ∙ c.in_ok-check_write.ensures.going in
    let there = c.in_ok-check_write.ensures.session in
    let kept : Kept = c.free_home.new.memory in
    let cleared = c.free_home.new.store in
    let home : EngineView _ = record { memory = kept; store = cleared } in
    let now : State = home_cleared c.args.table c.args.key h in
    let led : Led s h now old home = c.in_ok-free_home.ensures.led h st in
    let on1 : now.stopped ≡ false = led.rest.stopped ∙ on in
    let here : Stands s now home = led.stands in
    let clear = clear_home h (st.goes on).xids (here.goes on1).xids (s.blocks store) (s.blocks cleared) c.args.table c.args.key (st.goes on).holds.blocks (here.goes on1).holds.blocks in
    let first = ap none_applies (early_stay h now c.args.s c.args.table c.args.key action led.rest there.0 there.1) ∙ early in
    let runs : s.failed cleared ≡ false = c.in_ok-free_home.ensures.step.going (here.knows.stopped ∙ on1) in
    let why : Refusal = c.in_err-check_late.field-0.0 in
    let fault = is_disk_fault why in
    let mid = c.other_holder.new.store in
    let loads : Logs s cleared mid [] true = c.in_ok-on.ensures.logs in
    let held : EngineView _ = record { memory = c.other_holder.new.memory; store = mid } in
    let new : EngineView _ = record { memory = c.check_late.new.memory; store = c.check_late.new.store } in
    let all : (b : Bool) → fault ≡ b → Logs s cleared c.check_late.new.store [] (not b) = λ b is. more_logs s cleared mid c.check_late.new.store [] [] (not b) loads (subst (λ (x : Bool). Logs s mid c.check_late.new.store [] (not x)) is c.in_err-check_late.ensures.logs) in
    let other : (xids : List Xid) → BlocksStand now xids (s.blocks cleared) → s.shape_of cleared ≡ now.shape → Remembers now xids (env_of now.shape (s.blocks cleared)) kept.sessions → OtherHolds now c.args.s c.args.table c.args.key None = λ xids stand shape knows. subst (λ (o : Option ℕ). OtherHolds now c.args.s c.args.table c.args.key o) c.in_default.is (c.in_ok-on.ensures.other st.told now xids stand shape knows (λ u holds. living_holds now c.args.table c.args.key clear u holds)) in
    behind_after s (laws_of g) h now c.args.s c.args.table c.args.key action (Refused why) old home new st on led
    (behind_plain s (laws_of g) now call (Refused why) home new here (λ _. runs)
    (late_ready now _ (s.blocks mid) c.args.s c.args.table c.args.key why (refused_why s st.told (laws_of g) now kept cleared here on1 c.args.s c.args.table c.args.key action there first held c.in_ok-on.ensures.stops loads other why (c.in_err-check_late.ensures.timely st.told now)))
    (refused_late s st.told (laws_of g) now kept cleared here on1 c.args.s c.args.table c.args.key action there first held c.in_ok-on.ensures.stops loads other new why (c.in_err-check_late.ensures.timely st.told now) c.in_err-check_late.ensures.stops c.in_err-check_late.ensures.logs)
    (λ fine. let same = (all false fine).blocks st.told refl in makes_refused now call (s.lsn c.check_late.new.store) (s.blocks cleared) (s.blocks c.check_late.new.store) same why (λ scn lost is. same))
    (λ w fine. tells_logged s st.told now.shape cleared c.check_late.new.store (all false fine))
    (λ scn lost is. lost_late s st.told (laws_of g) now kept cleared here on1 c.args.s c.args.table c.args.key action there first held c.in_ok-on.ensures.stops loads other scn lost
    (let at : why ≡ TooOld scn lost = cc in λ xids stand shape knows. subst (λ (w : Refusal). IsTimely now xids (s.blocks mid) c.args.s c.args.table c.args.key (Err w)) at (c.in_err-check_late.ensures.timely st.told now xids stand shape knows))))
    (λ x is. inr (early, inr is)))

-- IT MAY BE MADE

pub returns-clause-did : goal.returns-clause-did
returns-clause-did g c = λ h st.
    let s = g.T.Store in
    let store = c.args.store.now in
    let action = action_by c.args.op in
    let call = machine.Write c.args.s c.args.table c.args.key action in
    let old : EngineView _ = record { memory = c.args.memory.now; store = store } in
    let early = c.in_ok-check_write.ensures.granted h c.args.key st.knows (knows_modes s h _ st) (c.shape.ensures.shape ∙ st.shape) in
    let on : h.stopped ≡ false = sym st.knows.stopped ∙ c.in_ok-check_write.ensures.going in
    let there = c.in_ok-check_write.ensures.session in
    let kept : Kept = c.free_home.new.memory in
    let cleared = c.free_home.new.store in
    let home : EngineView _ = record { memory = kept; store = cleared } in
    let now : State = home_cleared c.args.table c.args.key h in
    let led : Led s h now old home = c.in_ok-free_home.ensures.led h st in
    let on1 : now.stopped ≡ false = led.rest.stopped ∙ on in
    let here : Stands s now home = led.stands in
    let clear = clear_home h (st.goes on).xids (here.goes on1).xids (s.blocks store) (s.blocks cleared) c.args.table c.args.key (st.goes on).holds.blocks (here.goes on1).holds.blocks in
    let first = ap none_applies (early_stay h now c.args.s c.args.table c.args.key action led.rest there.0 there.1) ∙ early in
    let runs : s.failed cleared ≡ false = c.in_ok-free_home.ensures.step.going (here.knows.stopped ∙ on1) in
    let mid = c.other_holder.new.store in
    let loads : Logs s cleared mid [] true = c.in_ok-on.ensures.logs in
    let held : EngineView _ = record { memory = c.other_holder.new.memory; store = mid } in
    let ready : EngineView _ = record { memory = c.check_late.new.memory; store = c.check_late.new.store } in
    let new : EngineView _ = record { memory = c.write_with_room.new.memory; store = c.write_with_room.new.store } in
    let all : Logs s cleared c.check_late.new.store [] true = more_logs s cleared mid c.check_late.new.store [] [] true loads c.in_ok-check_late.ensures.logs in
    let same = c.in_ok-check_late.ensures.stops ∙ c.in_ok-on.ensures.stops in
    let may = may_write s st.told (laws_of g) now kept cleared here on1 c.args.s c.args.table c.args.key action there first held c.in_ok-on.ensures.stops loads
    (λ xids stand shape knows. subst (λ (o : Option ℕ). OtherHolds now c.args.s c.args.table c.args.key o) c.in_default.is (c.in_ok-on.ensures.other st.told now xids stand shape knows (λ u holds. living_holds now c.args.table c.args.key clear u holds)))
    (c.in_ok-check_late.ensures.timely st.told now) in
    behind_after s (laws_of g) h now c.args.s c.args.table c.args.key action (write_answer c.write_with_room.result) old ready new st on
    (led_on s (laws_of g) h now now old home ready on1 led (led_loaded s (laws_of g) now home ready here same all))
    (c.write_with_room.ensures.did now (stands_loaded s st.told (laws_of g) now home ready here same all) first may clear)
    (λ x is. inr (early, inr is))
