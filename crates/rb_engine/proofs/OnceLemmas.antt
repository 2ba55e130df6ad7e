-- A write that no session and no commit stands in the way of, tried once: it is made, refused, or lacks a slot.
use Rattle.std.proofs.Common.{◌≡◌, ◌⊎◌, inl, inr, ◌≤◌, ⊎_elim, ℕ, Bool, true, false, not, List, [], length, Option, Result, Ok, Err, refl, sym, ◌∙◌, ap, subst, arith}
use Rattle.std.proofs.lemmas.Bool.{cases_Bool}
use Rattle.rb_sessions.specs.declared.sessions.TheConstants.{SESSIONS}
use Rattle.rb_write.specs.Refusals.{has_failed}
use Rattle.rb_write.specs.declared.ask.AttemptFault.{AttemptFault}
use Rattle.rb_write.specs.declared.ask.AttemptFault.TheVariants as attempts
use Rattle.rb_base.specs.Logs.{Laws, Logs}
use Rattle.rb_base.specs.declared.ids.Xid.{Xid}
use Rattle.rb_base.specs.declared.store.Store.{Ghosts}
use Rattle.rb_engine.specs.Behind.{Behind, HasPlace, LacksSlot, Tried}
use Rattle.rb_engine.specs.Does.{Does, EngineView, Kept, Stands, StopsIf}
use Rattle.rb_engine.proofs.BehindLemmas.{behind_plain}
use Rattle.rb_engine.proofs.LateLemmas.{attempt_not_old}
use Rattle.rb_engine.proofs.MakesLemmas.{makes_refused, makes_written}
use Rattle.rb_engine.proofs.RoomLemmas.{spare_told}
use Rattle.rb_engine.proofs.TellsLemmas.{tells_logged, tells_written}
use Rattle.rb_engine.proofs.WriteLemmas.{about, failed_is, step_done, step_failed, step_refused, the_failure}
use Rattle.law_crash.specs.Made.{GivesOne, WriteMade}
use Rattle.rb_model.specs.Answers.{write_answer}
use Rattle.rb_model.specs.Calls.{Action, Done, Refused, Write, early_tests, is_disk_fault, none_applies}
use Rattle.rb_model.specs.State.{State}
use Rattle.rb_model.specs.declared.refusal.Refusal.{Refusal}
use Rattle.rb_model.specs.declared.refusal.Refusal.TheVariants.{DiskFault, RollbackFull}
use Rattle.rb_model.specs.declared.wrote.Wrote.{Wrote}
use Rattle.rb_model.specs.declared.wrote.Wrote.TheVariants as wrotes
use Rattle.rb_sessions.specs.Kept.{kept_at, with_kept, wrote}
use Rattle.law_blocks.specs.Standing.{logged_of}
use Rattle.rb_steps.proofs.Somewhere.{in_segment}
use Rattle.rb_steps.specs.Steps.{IsAbout, IsRefusedAs, MayWrite, refusal_of}
use Rattle.rb_rollback.specs.Backs.{SameStore}

module _ {S : Type 0} (s : Ghosts S) (told : s.tells) (laws : Laws s) (h : State) (old : EngineView S) (st : Stands s h old) (on : h.stopped ≡ false) (runs : s.failed old.store ≡ false) (who table key : ℕ) (action : Action)
    (there : (1 ≤ who) × (who ≤ SESSIONS)) (early : none_applies (early_tests h (Write who table key action)) ≡ true) (may : MayWrite h who table key) (own : Option Xid) (own_is : own ≡ (kept_at old.memory.sessions who).own) where
  high : who ≤ length h.sessions
  high = let sixteen = st.knows.sixteen in omega (arith, sixteen, there.1)

  -- what a step of the store says of the machine's state, asked so
  abbrev pub AsStep : (List Xid → Type 0) → Type 0
  AsStep P = (xids : List Xid) → IsAbout h xids who own (s.blocks old.store) → s.shape_of old.store ≡ h.shape → who ≤ length h.sessions → MayWrite h who table key → P xids

  abbrev pub AsLogged : (List Xid → Type 0) → Type 0
  AsLogged P = AsStep (λ xids. s.lsn old.store ≡ logged_of h.shape (s.blocks old.store) → P xids)

  at_step : (P : List Xid → Type 0) → AsStep P → P (st.goes on).xids
  at_step P step =
      step (st.goes on).xids (subst (λ (o : Option Xid). IsAbout h (st.goes on).xids who o (s.blocks old.store)) (sym own_is) (about s told laws h old st on who table key action there early)) st.shape high may

  at_logged : (P : List Xid → Type 0) → AsLogged P → P (st.goes on).xids
  at_logged P step = at_step (λ xids. s.lsn old.store ≡ logged_of h.shape (s.blocks old.store) → P xids) step (st.goes on).holds.logged

  abbrev pub Plain : Result Wrote Refusal → EngineView S → Type 0
  Plain result new = Behind s (λ (ready : State). (ready ≡ h) × HasPlace h who (write_answer result)) h (Write who table key action) (write_answer result) old new

  module _ (new : EngineView S) (stays : SameStore s old.store new.store) where
    abbrev pub Gives : Bool → Xid → List Xid → Type 0
    Gives well x xids = GivesOne s old.store new.store well (λ now. WriteMade h xids who table key action x (s.blocks old.store) now)

    -- it is made,
    pub once_made : (x : Xid) → AsLogged (Gives true x) → new.memory.sessions ≡ with_kept old.memory.sessions who (wrote x (kept_at old.memory.sessions who)) → new.memory.waits ≡ old.memory.waits → new.memory.scn ≡ old.memory.scn → new.memory.stopped ≡ old.memory.stopped → new.memory.copies ≡ old.memory.copies → new.memory.dead ≡ old.memory.dead
        → (1 ≤ table) × (table ≤ h.shape.tables) → Tried s h who table key action (Ok wrotes.Done) old new
    once_made x gives sessions waits scn stopped copies dead tabled =
        let one = at_logged (Gives true x) gives in
        let single = one.one refl in
        let made = one.made (omega (arith, single)) in
        inl (behind_plain s laws h (Write who table key action) Done old new st (λ _. runs)
        (refl, (x.seg, x.slot, made.in_slot, spare_told h (logged_of h.shape (s.blocks old.store)) x.seg who table key action Done refl (λ seg since is. cc) made.granted))
        (step_done s told laws h old st on who table key action there early new stays x one sessions waits scn stopped copies dead tabled)
        (λ fine. makes_written s told h (st.goes on).xids who table key action x (s.lsn new.store) old.store new.store one)
        (λ w fine. tells_written s told h (st.goes on).xids who table key action x old.store new.store one)
        (λ scn lost is. cc))

    refused_plain : (why : Refusal) → is_disk_fault why ≡ false → ((scn lost : ℕ) → why ≡ Rattle.rb_model.specs.declared.refusal.Refusal.TheVariants.TooOld scn lost → ⊥) → HasPlace h who (Refused why) → Logs s old.store new.store [] true → Does s h (Write who table key action) (Refused why) old new → Plain (Err why) new
    refused_plain why other young place logs does =
        let same = logs.blocks told refl in
        behind_plain s laws h (Write who table key action) (Refused why) old new st (λ _. runs) (refl, place) does
        (λ fine. makes_refused h (Write who table key action) (s.lsn new.store) (s.blocks old.store) (s.blocks new.store) same why (λ scn lost is. same))
        (λ w fine. tells_logged s told h.shape old.store new.store logs)
        (λ scn lost is. absurd (young scn lost (let same : why ≡ Rattle.rb_model.specs.declared.refusal.Refusal.TheVariants.TooOld scn lost = cc in same)))

    failed_plain : Does s h (Write who table key action) (Refused DiskFault) old new → Plain (Err DiskFault) new
    failed_plain does =
        behind_plain s laws h (Write who table key action) (Refused DiskFault) old new st (λ _. runs) (refl, tt) does
        (λ fine. let clash : true ≡ false = fine in absurd cc) (λ w fine. let clash : true ≡ false = fine in absurd cc)
        (λ scn lost is. cc)

    refused_as : (fault : AttemptFault) → is_disk_fault (refusal_of fault) ≡ false → new.memory ≡ old.memory → Logs s old.store new.store [] true
        → IsRefusedAs h (s.lsn old.store) who table key action fault → Tried s h who table key action (Err (refusal_of fault)) old new
    refused_as attempts.Failed other memory logs why = (let clash : true ≡ false = other in absurd cc)
    refused_as (attempts.NoSlot seg) other memory logs why = inr (seg, refl, record { none = why.0; fewest = why.1; full = why.2; passed = why.3 })
    refused_as (attempts.RollbackFull seg since) other memory logs why =
        inl (refused_plain (RollbackFull seg since) other (attempt_not_old (attempts.RollbackFull seg since)) tt logs
        (step_refused s told laws h old st on who table key action there early new stays (RollbackFull seg since) other why.0.seg (in_segment h who why.0.seg why.0.slot why.1) why.2 memory logs))
    refused_as attempts.WornOut other memory logs why =
        inl (refused_plain (refusal_of attempts.WornOut) other (attempt_not_old attempts.WornOut) (why.0.seg, why.0.slot, why.1, spare_told h (s.lsn old.store) why.0.seg who table key action (Refused (refusal_of attempts.WornOut)) refl (λ seg since is. cc) why.2) logs
        (step_refused s told laws h old st on who table key action there early new stays (refusal_of attempts.WornOut) other why.0.seg (in_segment h who why.0.seg why.0.slot why.1) why.2 memory logs))
    refused_as attempts.Duplicate other memory logs why = inl (refused_plain (refusal_of attempts.Duplicate) other (attempt_not_old attempts.Duplicate) tt logs (step_refused s told laws h old st on who table key action there early new stays (refusal_of attempts.Duplicate) other why.0 why.1 why.2 memory logs))
    refused_as attempts.NotFound other memory logs why = inl (refused_plain (refusal_of attempts.NotFound) other (attempt_not_old attempts.NotFound) tt logs (step_refused s told laws h old st on who table key action there early new stays (refusal_of attempts.NotFound) other why.0 why.1 why.2 memory logs))
    refused_as attempts.BlockFull other memory logs why = inl (refused_plain (refusal_of attempts.BlockFull) other (attempt_not_old attempts.BlockFull) tt logs (step_refused s told laws h old st on who table key action there early new stays (refusal_of attempts.BlockFull) other why.0 why.1 why.2 memory logs))
    refused_as attempts.SlotsFull other memory logs why = inl (refused_plain (refusal_of attempts.SlotsFull) other (attempt_not_old attempts.SlotsFull) tt logs (step_refused s told laws h old st on who table key action there early new stays (refusal_of attempts.SlotsFull) other why.0 why.1 why.2 memory logs))

    -- or refused, or a call of the store failed
    pub once_unmade : (fault : AttemptFault) (why : Refusal) → why ≡ refusal_of fault → StopsIf (is_disk_fault why) old.memory new.memory
        → (has_failed {T = Xid} (Err fault) ≡ true → AsLogged (λ xids. (x : Xid) × Gives false x xids))
        → (has_failed {T = Xid} (Err fault) ≡ false → AsStep (λ xids. IsRefusedAs h (s.lsn old.store) who table key action fault))
        → (has_failed {T = Xid} (Err fault) ≡ false → Logs s old.store new.store [] true) → Tried s h who table key action (Err why) old new
    once_unmade fault why is stops failed refused unchanged =
        let kind = failed_is fault in
        subst (λ (w : Refusal). Tried s h who table key action (Err w) old new) (sym is)
        (⊎_elim
        (λ (fails : is_disk_fault (refusal_of fault) ≡ true).
        let one = at_logged (λ xids. (x : Xid) × Gives false x xids) (failed (sym kind ∙ fails)) in
        subst (λ (w : Refusal). Tried s h who table key action (Err w) old new) (sym (the_failure fault fails))
        (inl (failed_plain (step_failed s told laws h old st on who table key action there early new stays one.0 one.1 (subst (λ (b : Bool). StopsIf b old.memory new.memory) (ap is_disk_fault is ∙ fails) stops)))))
        (λ (other : is_disk_fault (refusal_of fault) ≡ false).
        refused_as fault other (subst (λ (b : Bool). StopsIf b old.memory new.memory) (ap is_disk_fault is ∙ other) stops) (unchanged (sym kind ∙ other)) (at_step (λ xids. IsRefusedAs h (s.lsn old.store) who table key action fault) (refused (sym kind ∙ other))))
        (cases_Bool (is_disk_fault (refusal_of fault))))
