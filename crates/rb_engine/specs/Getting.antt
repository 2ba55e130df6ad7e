-- A read of one key: why it is too old, and what it cleans.
use Rattle.std.specs.Prelude.{◌≡◌, ◌<◌, ◌%◌, ℕ, List, []}
use Rattle.rb_base.specs.Blocks.{home_block}
use Rattle.rb_base.specs.declared.ids.Xid.{Xid}
use Rattle.rb_base.specs.declared.sizes.TheConstants.{WORN}
use Rattle.rb_base.specs.declared.store.Store.{Ghosts}
use Rattle.rb_cr.specs.declared.faults.CrFault.TheVariants as faults
use Rattle.rb_engine.specs.Cleaning.{IsClean, OnlyCleaned}
use Rattle.rb_engine.specs.Does.{EngineView}
use Rattle.rb_engine.specs.Scanning.{IsBehind}
use Rattle.rb_model.specs.NextState.{opened_cursor}
use Rattle.rb_model.specs.State.{State}
use Rattle.rb_sessions.specs.declared.cursor.Cursor.{Cursor}
use Rattle.law_blocks.specs.Standing.{env_of}
use Rattle.law_blocks.specs.States.{BlocksStand}
use Rattle.law_sessions.specs.Views.{IsCursor}

-- A read of a key by a session is too old over blocks that stand for the state: a cursor over the key alone that is
-- opened now couldn't read the key's home, for what a segment lost above its snapshot.
pub record IsGetOld (h : State) (xids : List Xid) (blocks : List (List ℕ)) (who table key scn lost : ℕ) : Type 0
  where
    pub stand : BlocksStand h xids blocks
    pub kept : Cursor
    pub is : IsCursor h xids (env_of h.shape blocks) who (record { name = []; cursor = kept })
        (opened_cursor h who [] table key key)
    pub behind : IsBehind h xids blocks kept (key % h.shape.blocks) (faults.TooOld scn lost)

-- So it is over an engine that stands for h.
abbrev pub GetNeedsLost : {S : Type 0} → Ghosts S → State → EngineView S → (who table key scn lost : ℕ)
    → Type 0
GetNeedsLost s h e who table key scn lost =
    (xids : List Xid) × IsGetOld h xids (s.blocks e.store) who table key scn lost

-- A read of a key cleans no block but the key's, and that one where it went well and the log, which has come to that
-- number, isn't worn out.
pub record KeyRead (h : State) (table key : ℕ) (well : Type 0) (lsn : ℕ) (before now : List (List ℕ)) : Type 0
  where
    pub only : OnlyCleaned h.shape (λ b. b ≡ home_block h.shape table key) before now
    pub all : well → lsn < WORN → IsClean h.shape before now (home_block h.shape table key)
