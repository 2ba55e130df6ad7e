-- The tests of a write in their order, and the write behind them: those that come first only load blocks.
use Rattle.std.proofs.Common.{◌≡◌, ◌≤◌, ⊎_elim, ℕ, Bool, true, false, not, List, [], length, Option, None, Some, Result, Ok, Err, IfErr, IfOk, refl, sym, ◌∙◌, ap, subst, arith}
use Rattle.std.proofs.lemmas.Bool.{cases_Bool, false≢true}
use Rattle.rb_sessions.specs.declared.sessions.TheConstants.{SESSIONS}
use Rattle.rb_write.specs.Refusals.{has_failed}
use Rattle.rb_write.specs.declared.ask.AttemptFault.{AttemptFault}
use Rattle.rb_base.specs.Logs.{Laws, Logs}
use Rattle.rb_base.specs.declared.ids.Xid.{Xid}
use Rattle.rb_base.specs.declared.store.Store.{Ghosts}
use Rattle.rb_engine.specs.Does.{Does, EngineView, Goes, IsInStep, Kept, Stands, StopsIf}
use Rattle.rb_engine.specs.Lateness.{IsRefusedLate, IsTimely, WriteNeedsLost}
use Rattle.rb_engine.specs.Makes.{Makes}
use Rattle.rb_engine.specs.Scanning.{OtherHolds}
use Rattle.rb_engine.proofs.DoesLemmas.{does_fault, fault_survives}
use Rattle.rb_engine.proofs.LateLemmas.{needs_lost_before, step_late}
use Rattle.rb_engine.proofs.MakesLemmas.{makes_loaded, makes_written}
use Rattle.rb_engine.proofs.StepLemmas.{in_step_same}
use Rattle.rb_engine.proofs.TellsLemmas.{tells_written}
use Rattle.rb_engine.proofs.WriteLemmas.{about, does_after, failed_is, stands_loaded, step_done, step_failed, step_refused, step_waited, the_failure}
use Rattle.law_crash.specs.Made.{GivesOne, TellsLooks, WriteMade}
use Rattle.rb_model.specs.Answers.{write_answer}
use Rattle.rb_model.specs.Calls.{Action, Refused, Write, WritesAt, early_tests, is_disk_fault, none_applies}
use Rattle.rb_model.specs.Change.{Asked}
use Rattle.rb_model.specs.Queue.{closes, waiting}
use Rattle.rb_model.specs.State.{State}
use Rattle.rb_model.specs.declared.refusal.Refusal.{Refusal}
use Rattle.rb_model.specs.declared.refusal.Refusal.TheVariants.{Deadlock, DiskFault, TooOld}
use Rattle.rb_model.specs.declared.wrote.Wrote.{Wrote}
use Rattle.rb_model.specs.declared.wrote.Wrote.TheVariants as wrotes
use Rattle.rb_sessions.specs.Kept.{holding, kept_at, with_kept, wrote}
use Rattle.law_blocks.specs.Standing.{env_of, logged_of}
use Rattle.law_blocks.specs.States.{BlocksStand}
use Rattle.rb_steps.proofs.Somewhere.{somewhere}
use Rattle.rb_steps.specs.Steps.{IsAbout, MayWrite, NotOthers, refusal_of}
use Rattle.law_sessions.specs.Views.{Remembers}
use Rattle.rb_rollback.specs.Backs.{SameStore}

-- The engine stays in order where a call that only loads fails, by which it is stopped, or doesn't.
pub loaded_in_step : {S : Type 0} (s : Ghosts S) (kept now : Kept) (old new : S) → IsInStep s kept old → kept.stopped ≡ false → s.shape_of new ≡ s.shape_of old → (fault : Bool) → StopsIf fault kept now → (fault ≡ false → Logs s old new [] true) → IsInStep s now new
loaded_in_step s kept now old new is going shape true stopped logs =
    in_step_same s kept now old new is shape (ap (λ (k : Kept). k.dead) stopped) (ap (λ (k : Kept). k.sessions) stopped) (ap (λ (k : Kept). k.waits) stopped)
    (λ goes. absurd (false≢true (sym goes ∙ ap (λ (k : Kept). k.stopped) stopped)))
loaded_in_step s kept now old new is going shape false same logs =
    let loaded = logs refl in
    in_step_same s kept now old new is shape (ap (λ (k : Kept). k.dead) same) (ap (λ (k : Kept). k.sessions) same) (ap (λ (k : Kept). k.waits) same)
    (λ _. (loaded.failed, (let n = loaded.number refl in omega (arith, n)), going))

pub stops_before : (kept mid now : Kept) (fault : Bool) → mid ≡ kept → StopsIf fault mid now → StopsIf fault kept now
stops_before kept mid now fault same stops = subst (λ (k : Kept). StopsIf fault k now) same stops

module _ {S : Type 0} (s : Ghosts S) (told : s.tells) (laws : Laws s) (h : State) (kept : Kept) (old : S) (st : Stands s h (record { memory = kept; store = old })) (on : h.stopped ≡ false) (who table key : ℕ) (action : Action)
    (there : (1 ≤ who) × (who ≤ SESSIONS)) (early : none_applies (early_tests h (Write who table key action)) ≡ true) where
  abbrev View : EngineView S
  View = record { memory = kept; store = old }

  -- the session writes in some segment of the machine
  place : (g : ℕ) × WritesAt h who g
  place = somewhere h (st.goes on).xids (s.blocks old) who (kept_at kept.sessions who).own (about s told laws h View st on who table key action there early)

  -- THE HOLDER: it couldn't be read,
  pub holder_unread : (new : EngineView S) → Logs s old new.store [] false → new.memory ≡ record kept { stopped = true } → Does s h (Write who table key action) (Refused DiskFault) View new
  holder_unread new logs stops = does_fault s told laws h (Write who table key action) View new st on early stops (record { shape = logs.same_shape; slots = logs.same_slots })
      (fault_survives s told laws h (st.goes on).xids old new.store st.shape (st.goes on).holds logs)

  -- or it is another session's, which is waited for
  pub holder_waited : (mid : Kept) (new : EngineView S) (u : ℕ) → mid ≡ kept → Logs s old new.store [] true
      → ((xids : List Xid) → BlocksStand h xids (s.blocks old) → s.shape_of old ≡ h.shape → Remembers h xids (env_of h.shape (s.blocks old)) kept.sessions → OtherHolds h who table key (Some u))
      → (r : Result Wrote Refusal) (asked : Asked) → asked ≡ record { table = table; key = key; action = action }
      → IfErr r (λ why. (why ≡ Deadlock u) × (closes mid.waits who u ≡ true) × (new.memory ≡ mid))
      → IfOk r (λ w. (w ≡ wrotes.Waits u) × (closes mid.waits who u ≡ false) × (new.memory ≡ record mid { sessions = with_kept mid.sessions who (holding asked (kept_at mid.sessions who)); waits = waiting who u mid.waits }))
      → Does s h (Write who table key action) (write_answer r) View new
  holder_waited mid new u same logs held r asked is ring waits =
      let goes : Goes s h View = st.goes on in
      step_waited s told laws h View st on who table key action there early new (record { shape = logs.same_shape; slots = logs.same_slots }) u (held goes.xids goes.holds.blocks st.shape goes.remembers) place mid same logs r asked is ring waits

  -- or no other session's: the store was only loaded from, and the memory is as it was
  module _ (first : EngineView S) (same : first.memory ≡ kept) (loads : Logs s old first.store [] true) (other : (xids : List Xid) → BlocksStand h xids (s.blocks old) → s.shape_of old ≡ h.shape → Remembers h xids (env_of h.shape (s.blocks old)) kept.sessions → OtherHolds h who table key None) where
    abbrev pub First : Stands s h first
    First = stands_loaded s told laws h View first st same loads

    others : NotOthers h who table key
    others = let goes : Goes s h View = st.goes on in other goes.xids goes.holds.blocks st.shape goes.remembers

    abbrev AsTimely : Result (Unit {0}) Refusal → Type 0
    AsTimely r = (xids : List Xid) → BlocksStand h xids (s.blocks first.store) → s.shape_of first.store ≡ h.shape → Remembers h xids (env_of h.shape (s.blocks first.store)) first.memory.sessions → IsTimely h xids (s.blocks first.store) who table key r

    timely_at : (r : Result (Unit {0}) Refusal) → AsTimely r → IsTimely h (First.goes on).xids (s.blocks first.store) who table key r
    timely_at r timely = let goes : Goes s h first = First.goes on in timely goes.xids goes.holds.blocks First.shape goes.remembers

    -- neither another session nor a later commit stands in its way
    pub may_write : AsTimely (Ok tt) → MayWrite h who table key
    may_write timely = (others, timely_at (Ok tt) timely)

    pub refused_why : (why : Refusal) → AsTimely (Err why) → IsRefusedLate h (First.goes on).xids (s.blocks first.store) who table key why
    refused_why why timely = timely_at (Err why) timely

    -- THE LATE TEST refuses it, or a call of the store failed,
    pub refused_late : (new : EngineView S) (why : Refusal) → AsTimely (Err why) → StopsIf (is_disk_fault why) first.memory new.memory → Logs s first.store new.store [] (not (is_disk_fault why)) → Does s h (Write who table key action) (Refused why) View new
    refused_late new why timely stops logs =
        does_after s told laws h View first st same loads (Write who table key action) (Refused why) new
        (step_late s told laws h first First on who table key action there early others place new (record { shape = logs.same_shape; slots = logs.same_slots }) why (timely_at (Err why) timely)
        (λ fault. subst (λ (b : Bool). StopsIf b first.memory new.memory) fault stops) (λ fine. subst (λ (b : Bool). StopsIf b first.memory new.memory) fine stops) logs)

    pub lost_late : (scn lost : ℕ) → AsTimely (Err (TooOld scn lost)) → WriteNeedsLost s h View who table key scn lost
    lost_late scn lost timely =
        let goes : Goes s h first = First.goes on in
        needs_lost_before s told h old first.store kept who table key scn lost loads (goes.xids, record { stand = goes.holds.blocks; old = timely_at (Err (TooOld scn lost)) timely })
