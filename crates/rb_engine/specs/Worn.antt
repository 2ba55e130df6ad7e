-- What may stand behind a call that is too old.
use Rattle.std.specs.Prelude.{ℕ, List}
use Rattle.rb_base.specs.declared.ids.Xid.{Xid}
use Rattle.rb_base.specs.declared.store.Store.{Ghosts}
use Rattle.rb_engine.specs.Does.{EngineView}
use Rattle.rb_engine.specs.Getting.{GetNeedsLost, IsGetOld}
use Rattle.rb_engine.specs.Lateness.{IsWriteWorn, WriteNeedsLost}
use Rattle.rb_engine.specs.Scanning.{IsFetchOld, NeedsLost}
use Rattle.rb_model.specs.Calls.{Call, Fetch, Get, Write}
use Rattle.rb_model.specs.State.{State}

-- What a call in a state reads at a snapshot is worn: these blocks, which stand for the state, can't tell it any more,
-- for what a segment lost above the snapshot. No other call reads at one.
abbrev pub IsWorn : State → List (List ℕ) → Call → (scn lost : ℕ) → Type 0
IsWorn h blocks (Fetch who name) scn lost = (xids : List Xid) × IsFetchOld h xids blocks who name scn lost
IsWorn h blocks (Get who table key) scn lost = (xids : List Xid) × IsGetOld h xids blocks who table key scn lost
IsWorn h blocks (Write who table key action) scn lost =
    (xids : List Xid) × IsWriteWorn h xids blocks who table key scn lost
IsWorn h blocks call scn lost = Unit {0}

-- and so can't those of an engine that stands for it
abbrev pub CallNeedsLost : {S : Type 0} → Ghosts S → State → EngineView S → Call → (scn lost : ℕ) → Type 0
CallNeedsLost s h e (Fetch who name) scn lost = NeedsLost s h e who name scn lost
CallNeedsLost s h e (Get who table key) scn lost = GetNeedsLost s h e who table key scn lost
CallNeedsLost s h e (Write who table key action) scn lost = WriteNeedsLost s h e who table key scn lost
CallNeedsLost s h e call scn lost = Unit {0}
