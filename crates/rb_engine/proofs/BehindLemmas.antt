-- What a write does behind the dead that are put back before it, from what it does without them.
use Rattle.std.proofs.Common.{◌≡◌, ◌⊎◌, inl, inr, ◌<◌, ◌≤◌, ◌+◌, ◌-◌, ◌^◌, ℕ, Bool, true, false, List, [], Option, Some, None, refl, sym, ◌∙◌, ap, subst, arith}
use Rattle.rb_base.specs.Logs.{Laws, Logs, no_logs}
use Rattle.rb_base.specs.declared.shape.Shape.{Shape}
use Rattle.rb_base.specs.declared.store.Store.{Ghosts}
use Rattle.rb_dead.proofs.Leads.{back_joined}
use Rattle.rb_engine.specs.Behind.{Behind, IsWrite, Led}
use Rattle.rb_engine.specs.Does.{Does, EngineView, Goes, Kept, Stands}
use Rattle.rb_engine.specs.Makes.{Makes}
use Rattle.rb_engine.specs.Worn.{CallNeedsLost}
use Rattle.rb_engine.proofs.LedLemmas.{led_nowhere}
use Rattle.rb_engine.proofs.WriteLemmas.{stands_loaded}
use Rattle.law_crash.proofs.Crashes.{survives_on}
use Rattle.law_crash.specs.Crash.{Survives}
use Rattle.law_crash.specs.Made.{BackBy, TellsLooks}
use Rattle.rb_model.proofs.DeadLemmas.{rest_on}
use Rattle.rb_model.specs.Calls.{Action, Answer, Call, Write, failed_in, is_fault}
use Rattle.rb_model.specs.Calls.{Absent, Committed, Done, End, Flushed, Given, Idle, Marked, Numbered, Refused, Shown, Swept, Waits}
use Rattle.rb_model.specs.Dead.{dead_owed}
use Rattle.rb_model.specs.NextState.{Grows, RefusedBy}
use Rattle.rb_model.specs.Out.{cleared_by}
use Rattle.rb_model.specs.State.{State}
use Rattle.rb_model.specs.declared.refusal.Refusal.{Refusal}
use Rattle.rb_model.specs.declared.refusal.Refusal.TheVariants as refusals
use Rattle.rb_model.specs.declared.refusal.Refusal.TheVariants.{TooOld}
use Rattle.rb_model.proofs.Stops.{went_on}
use Rattle.rb_rollback.proofs.Backs.{survives_same}
use Rattle.rb_steps.proofs.Owed.{dead_few}

-- a write gives the log one group at most
refused_few : (h : State) (who table key : ℕ) (action : Action) (why : Refusal) (n : ℕ) → RefusedBy h (Write who table key action) why n → n ≤ 1
refused_few h who table key action (refusals.TooOld scn lost) n is = omega (arith, is)
refused_few h who table key action (refusals.Deadlock on) n is = omega (arith, is)
refused_few h who table key action (refusals.CantSerialize scn by) n is = omega (arith, is)
refused_few h who table key action (refusals.RollbackFull seg since) n is = omega (arith, is)
refused_few h who table key action refusals.NoSession n is = omega (arith, is)
refused_few h who table key action refusals.Waiting n is = omega (arith, is)
refused_few h who table key action refusals.NotFirst n is = omega (arith, is)
refused_few h who table key action refusals.ReadOnly n is = omega (arith, is)
refused_few h who table key action refusals.NoTable n is = omega (arith, is)
refused_few h who table key action refusals.ValueTooLong n is = omega (arith, is)
refused_few h who table key action refusals.Duplicate n is = omega (arith, is)
refused_few h who table key action refusals.NotFound n is = omega (arith, is)
refused_few h who table key action refusals.BlockFull n is = omega (arith, is)
refused_few h who table key action refusals.SlotsFull n is = omega (arith, is)
refused_few h who table key action refusals.NoSavepoint n is = omega (arith, is)
refused_few h who table key action refusals.TooManySavepoints n is = omega (arith, is)
refused_few h who table key action refusals.NoCursor n is = omega (arith, is)
refused_few h who table key action refusals.CursorThere n is = omega (arith, is)
refused_few h who table key action refusals.TooManyCursors n is = omega (arith, is)
refused_few h who table key action refusals.WornOut n is = omega (arith, is)
refused_few h who table key action refusals.NotWaiting n is = omega (arith, is)
refused_few h who table key action refusals.DiskFault n is = omega (arith, is)
refused_few h who table key action refusals.Stopped n is = omega (arith, is)

pub write_few : (h : State) (who table key : ℕ) (action : Action) (r : Answer) (n : ℕ) → Grows h (Write who table key action) r n → n ≤ 1
write_few h who table key action (Refused why) n is = refused_few h who table key action why n is
write_few h who table key action Done n is = omega (arith, is)
write_few h who table key action (Waits on) n is = omega (arith, is)
write_few h who table key action (Committed m) n is = omega (arith, is)
write_few h who table key action (Numbered m) n is = omega (arith, is)
write_few h who table key action (Flushed m) n is = omega (arith, is)
write_few h who table key action (Swept m) n is = omega (arith, is)
write_few h who table key action (Given k value) n is = omega (arith, is)
write_few h who table key action End n is = omega (arith, is)
write_few h who table key action Absent n is = omega (arith, is)
write_few h who table key action (Marked seg writes lost) n is = omega (arith, is)
write_few h who table key action (Shown s activity) n is = omega (arith, is)
write_few h who table key action Idle n is = omega (arith, is)

module _ {S : Type 0} (s : Ghosts S) (laws : Laws s) where
  -- where nothing is put back the engine is led nowhere
  pub nowhere : (h : State) (e : EngineView S) → Stands s h e → (h.stopped ≡ false → s.failed e.store ≡ false) → Led s h h e e
  nowhere h e st runs = led_nowhere s h e st (λ going keeps before. survives_same s st.told laws h h (st.goes going).xids e.store e.store true st.shape refl refl refl refl (st.goes going).holds (no_logs s e.store (runs going)) keeps)

  -- where blocks were loaded, neither
  pub led_loaded : (h : State) (old mid : EngineView S) → Stands s h old → mid.memory ≡ old.memory → Logs s old.store mid.store [] true → Led s h h old mid
  led_loaded h old mid st memory logs = record {
    rest = Rattle.rb_model.proofs.DeadLemmas.rest_same h;
    fewer = omega arith;
    stands = stands_loaded s st.told laws h old mid st memory logs;
    same = record { shape = logs.same_shape; slots = logs.same_slots };
    lsn = let n = logs.number refl in omega (arith, n);
    back = let none : dead_owed h - dead_owed h ≡ 0 = omega arith in subst (λ (n : ℕ). BackBy h.shape n (s.blocks old.store) (s.blocks mid.store)) (sym none) (logs.blocks st.told refl);
    survives = λ before going keeps. survives_same s st.told laws h h (st.goes going).xids old.store mid.store true st.shape refl refl refl refl (st.goes going).holds logs keeps;
  }

  -- a call that puts back nothing
  pub behind_plain : {R : State → Type 0} (h : State) (call : Call) (answer : Answer) (old new : EngineView S) → Stands s h old → (h.stopped ≡ false → s.failed old.store ≡ false) → R h → Does s h call answer old new
      → (is_fault answer ≡ false → Makes h call answer (s.lsn new.store) (s.blocks old.store) (s.blocks new.store))
      → (IsWrite call → is_fault answer ≡ false → TellsLooks h.shape (s.blocks old.store) (s.blocks new.store))
      → ((scn lost : ℕ) → answer ≡ Refused (TooOld scn lost) → CallNeedsLost s h old call scn lost) → Behind s R h call answer old new
  behind_plain h call answer old new st runs here does makes tells lost = record {
    ready = h;
    clears = here;
    mid = old;
    led = nowhere h old st runs;
    does = does;
    makes = makes;
    tells = tells;
    lost = lost;
    few = λ began on. let n = does.lsn on in let few = does.few began on in omega (arith, n, few);
    survives = does.survives;
  }

  -- one state led to, and another from there
  pub led_on : (h h1 h2 : State) (old mid new : EngineView S) → (h1.stopped ≡ false) → Led s h h1 old mid → Led s h1 h2 mid new → Led s h h2 old new
  led_on h h1 h2 old mid new going a b =
      let both : cleared_by h h2 ≡ cleared_by h h1 + cleared_by h1 h2 = let x = a.fewer in let y = b.fewer in omega (arith, x, y) in record {
        rest = rest_on h h1 h2 a.rest b.rest;
        fewer = let x = a.fewer in let y = b.fewer in omega (arith, x, y);
        stands = b.stands;
        same = record { shape = b.same.shape ∙ a.same.shape; slots = b.same.slots ∙ a.same.slots };
        lsn = let x = a.lsn in let y = b.lsn in omega (arith, x, y, both);
        back = back_joined h.shape (cleared_by h h1) (cleared_by h1 h2) (cleared_by h h2) (s.blocks old.store) (s.blocks mid.store) (s.blocks new.store) both a.back (subst (λ (z : Shape). BackBy z (cleared_by h1 h2) (s.blocks mid.store) (s.blocks new.store)) a.rest.shape b.back);
        survives = λ before began keeps. survives_on s (s.slots old.store) {first = None} {fault = before} h h1 h2 old.store mid.store new.store going (a.survives None began keeps)
            (subst (λ (k : Option ℕ). Survives s k before h1 h2 mid.store new.store) a.same.slots (b.survives before going keeps));
      }

  -- A write behind what was put back before it.
  pub behind_after : {R1 R : State → Type 0} (h h1 : State) (who table key : ℕ) (action : Action) (answer : Answer) (old mid new : EngineView S) → Stands s h old → h.stopped ≡ false → Led s h h1 old mid
      → Behind s R1 h1 (Write who table key action) answer mid new → ((x : State) → R1 x → R x) → Behind s R h (Write who table key action) answer old new
  behind_after h h1 who table key action answer old mid new st began led b weaker =
      let going1 : h1.stopped ≡ false = led.rest.stopped ∙ began in
      let going : b.ready.stopped ≡ false = b.led.rest.stopped ∙ going1 in
      let both = led_on h h1 b.ready old mid b.mid going1 led b.led in record {
        ready = b.ready;
        clears = weaker b.ready b.clears;
        mid = b.mid;
        led = both;
        does = b.does;
        makes = b.makes;
        tells = b.tells;
        lost = b.lost;
        few = λ _ on.
            let n = b.does.lsn on in
            let one = write_few b.ready who table key action answer b.does.groups (b.does.grows on) in
            let all = dead_few h (st.goes began).xids (s.blocks old.store) (st.goes began).holds.blocks in
            let number = both.lsn in
            omega (arith, n, one, all, number);
        survives = λ before _ keeps. survives_on s (s.slots old.store) {first = None} {fault = failed_in (Write who table key action) answer before} h b.ready b.does.now old.store b.mid.store new.store going (both.survives None began keeps)
            (subst (λ (k : Option ℕ). Survives s k (failed_in (Write who table key action) answer before) b.ready b.does.now b.mid.store new.store) both.same.slots (b.does.survives before going keeps));
      }

  -- the same by a weaker word on the state that is ready
  pub behind_as : {R1 R : State → Type 0} (h : State) (call : Call) (answer : Answer) (old new : EngineView S) → ((x : State) → R1 x → R x) → Behind s R1 h call answer old new → Behind s R h call answer old new
  behind_as h call answer old new weaker b = record {
    ready = b.ready;
    clears = weaker b.ready b.clears;
    mid = b.mid;
    led = b.led;
    does = b.does;
    makes = b.makes;
    tells = b.tells;
    lost = b.lost;
    few = b.few;
    survives = b.survives;
  }

-- What is done of an engine's store is done of it under another memory.
pub behind_from : {S : Type 0} {R : State → Type 0} (s : Ghosts S) (h : State) (call : Call) (answer : Answer) (kept mid : Kept) (store : S) (new : EngineView S) → Behind s R h call answer (record { memory = mid; store = store }) new → Behind s R h call answer (record { memory = kept; store = store }) new
behind_from s h call answer kept mid store new b = record {
  ready = b.ready;
  clears = b.clears;
  mid = b.mid;
  led = record { rest = b.led.rest; fewer = b.led.fewer; stands = b.led.stands; same = b.led.same; lsn = b.led.lsn; back = b.led.back; survives = b.led.survives };
  does = b.does;
  makes = b.makes;
  tells = b.tells;
  lost = b.lost;
  few = b.few;
  survives = b.survives;
}
