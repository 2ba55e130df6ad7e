-- What a call on an engine makes.
use Rattle.std.specs.Prelude.{◌≡◌, ◌≤◌, ◌+◌, ◌^◌, ℕ, false, Option}
use Rattle.rb_base.specs.Counts.{IsCountedAs}
use Rattle.rb_base.specs.declared.store.Store.{Ghosts}
use Rattle.rb_engine.specs.Does.{Does, EngineView, Stands}
use Rattle.rb_engine.specs.Makes.{Makes}
use Rattle.rb_engine.specs.Worn.{CallNeedsLost}
use Rattle.law_crash.specs.Crash.{Survives}
use Rattle.law_crash.specs.Made.{BackBy}
use Rattle.rb_model.specs.Calls.{Answer, Call, Refused, failed_in, is_fault}
use Rattle.rb_model.specs.Clearing.{ClearsTo}
use Rattle.rb_model.specs.Out.{cleared_by}
use Rattle.rb_model.specs.State.{State}
use Rattle.rb_model.specs.declared.refusal.Refusal.TheVariants.{TooOld}
use Rattle.rb_rollback.specs.Backs.{SameStore}

-- A call was made, with that answer, on an engine that stood for h: the dead that stood in its way were put back, and
-- then it did what it does in a state that is ready for it, by 2^14 groups at most. A crash leaves no more than the
-- states before and after all.
pub record MadeFrom {S : Type 0} (s : Ghosts S) (h : State) (call : Call) (answer : Answer) (old new : EngineView S) : Type
    0 where
  pub ready : State
  pub clears : ClearsTo h call answer ready
  pub mid : EngineView S
  pub lsn : s.lsn mid.store ≡ s.lsn old.store + cleared_by h ready
  pub back : BackBy h.shape (cleared_by h ready) (s.blocks old.store) (s.blocks mid.store)
  pub does : Does s ready call answer mid new
  pub makes : is_fault answer ≡ false
      → Makes ready call answer (s.lsn new.store) (s.blocks mid.store) (s.blocks new.store)
  pub lost : (scn lost : ℕ) → answer ≡ Refused (TooOld scn lost) → CallNeedsLost s ready mid call scn lost
  pub few : h.stopped ≡ false → does.now.stopped ≡ false → s.lsn new.store ≤ s.lsn old.store + 2 ^ 14
  pub survives : (before : Option Call) → h.stopped ≡ false → s.keeps
      → Survives s (s.slots old.store) (failed_in call answer before) h does.now old.store new.store

-- A call was made, with that answer: what it made, for each state that the engine stood for, and how its disk is since.
pub record Made {S : Type 0} (s : Ghosts S) (call : Call) (answer : Answer) (old new : EngineView S) : Type 0 where
  pub did : (h : State) → Stands s h old → MadeFrom s h call answer old new
  pub same : SameStore s old.store new.store
  pub disk : IsCountedAs (s.faults old.store) (s.faults new.store) (is_fault answer)
