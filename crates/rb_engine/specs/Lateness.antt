-- What the test of a serializable transaction's write finds, and why it can't be made.
use Rattle.std.specs.Prelude.{◌≡◌, ℕ, List, Option, None, Some, Result, Ok, Err}
use Rattle.rb_base.specs.Blocks.{home_block}
use Rattle.rb_base.specs.declared.ids.Xid.{Xid}
use Rattle.rb_base.specs.declared.store.Store.{Ghosts}
use Rattle.rb_cr.specs.Faults.{Because}
use Rattle.rb_cr.specs.declared.faults.CrFault.{CrFault}
use Rattle.rb_cr.specs.declared.faults.CrFault.TheVariants as faults
use Rattle.rb_engine.specs.Does.{EngineView}
use Rattle.rb_model.specs.Change.{Asked}
use Rattle.rb_model.specs.Late.{late}
use Rattle.rb_model.specs.State.{State, asked_of, isolation_of}
use Rattle.rb_model.specs.declared.mode.Isolation.TheVariants.{Serializable}
use Rattle.rb_model.specs.declared.refusal.Refusal.{Refusal}
use Rattle.rb_model.specs.declared.refusal.Refusal.TheVariants as refusals
use Rattle.law_read.specs.Reading.{Worn}
use Rattle.law_blocks.specs.Standing.{env_of, homes_of}
use Rattle.law_blocks.specs.States.{BlocksStand}
use Rattle.rb_steps.specs.Steps.{NotLate}
use Rattle.law_sessions.specs.Views.{history}

-- the home of a key can't be read at a snapshot, for what a segment lost above it
abbrev pub IsKeyWorn : State → List Xid → List (List ℕ) → ℕ → ℕ → ℕ → CrFault → Type 0
IsKeyWorn h xids blocks table key snapshot = Because (env_of h.shape blocks) snapshot (Worn (env_of h.shape blocks)
    (history h xids blocks (home_block h.shape table key) None) snapshot
    (homes_of h.shape blocks (home_block h.shape table key)))

-- the transaction is serializable, and its snapshot needs for the key's home what a segment lost above it
abbrev pub IsWriteOld : State → List Xid → List (List ℕ) → (s table key scn lost : ℕ) → Type 0
IsWriteOld h xids blocks s table key scn lost =
    (isolation_of h s ≡ Serializable scn) × IsKeyWorn h xids blocks table key scn (faults.TooOld scn lost)

abbrev pub IsRefusedLate : State → List Xid → List (List ℕ) → (s table key : ℕ) → Refusal → Type 0
IsRefusedLate h xids blocks s table key (refusals.TooOld scn lost) = IsWriteOld h xids blocks s table key scn lost
IsRefusedLate h xids blocks s table key (refusals.CantSerialize scn by) =
    (isolation_of h s ≡ Serializable scn) × (late h.commits scn table key ≡ Some by)
IsRefusedLate h xids blocks s table key refusals.DiskFault = Unit {0}
IsRefusedLate h xids blocks s table key _ = ⊥

-- what a write is refused by where that was found above its snapshot
abbrev pub LateAs : ℕ → Result (Option ℕ) CrFault → Refusal → Type 0
LateAs scn (Ok None) why = ⊥
LateAs scn (Ok (Some by)) why = why ≡ refusals.CantSerialize scn by
LateAs scn (Err (faults.TooOld n lost)) why = why ≡ refusals.TooOld n lost
LateAs scn (Err faults.Failed) why = why ≡ refusals.DiskFault

-- No commit above the snapshot has changed the row, or there is no such snapshot; else why it can't be written.
abbrev pub IsTimely : State → List Xid → List (List ℕ) → (s table key : ℕ) → Result (Unit {0}) Refusal
    → Type 0
IsTimely h xids blocks s table key (Ok done) = NotLate h s table key
IsTimely h xids blocks s table key (Err why) = IsRefusedLate h xids blocks s table key why

-- A write of a session is too old over blocks that stand for the state: its transaction is serializable, and the key's
-- home can't be read at the snapshot, for what a segment lost above it.
pub record IsWriteWorn (h : State) (xids : List Xid) (blocks : List (List ℕ)) (s table key scn lost : ℕ) : Type 0
  where
    pub stand : BlocksStand h xids blocks
    pub old : IsWriteOld h xids blocks s table key scn lost

-- So it is over an engine that stands for h.
abbrev pub WriteNeedsLost : {S : Type 0} → Ghosts S → State → EngineView S → (s table key scn lost : ℕ)
    → Type 0
WriteNeedsLost store h e s table key scn lost =
    (xids : List Xid) × IsWriteWorn h xids (store.blocks e.store) s table key scn lost
