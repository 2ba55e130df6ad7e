-- What the put back of a transaction's changes leaves of a store that has a state, or of which a call failed on the
-- way.
use Rattle.std.specs.Prelude.{◌≡◌, ◌+◌, ◌-◌, ◌*◌, ℕ, Bool, true, false}
use Rattle.std.specs.Prelude.{length, take, List, Option}
use Rattle.rb_base.specs.declared.ids.Xid.{Xid}
use Rattle.rb_base.specs.declared.store.Store.{Ghosts}
use Rattle.law_aging.specs.Kept.{SegmentsAge}
use Rattle.law_blocks.specs.Groups.{IsEnded}
use Rattle.rb_model.specs.NextState.{with_own}
use Rattle.law_blocks.specs.Standing.{env_of, segments_of}
use Rattle.law_crash.specs.Crash.{Survives}
use Rattle.law_crash.specs.Holds.{Holds}
use Rattle.law_crash.specs.Made.{BackOver, KeepsIds}
use Rattle.rb_model.specs.Calls.{Call}
use Rattle.rb_model.specs.NextState.{ended, without_owner}
use Rattle.rb_model.specs.State.{Cursor, State, session_own}

-- no call changes the shape of a store, or the slots of its log
pub record SameStore {S : Type 0} (s : Ghosts S) (old new : S) : Type 0 where
  pub shape : s.shape_of new ≡ s.shape_of old
  pub slots : s.slots new ≡ s.slots old

-- where the disk failed in a call, a crash leaves the state or what such a call may have left
abbrev pub Fails : {S : Type 0} → Ghosts S → Option Call → State → S → S → Type 0
Fails s fault h old new = s.keeps → Survives s (s.slots old) fault h (record h { stopped = true }) old new

-- the slots that are owned keep their transactions over calls of a store
abbrev pub SameIds : {S : Type 0} → Ghosts S → State → S → S → Type 0
SameIds s h old new = KeepsIds h (env_of h.shape (s.blocks old)) (env_of h.shape (s.blocks new))

-- the put back of its changes but for so many, its first ones, by the transaction of that id; the segments are older
-- then
abbrev pub PutsBack : {S : Type 0} → Ghosts S → State → List Xid → ℕ → ℕ → Xid → S → S → Bool
    → Type 0
PutsBack s h xids who kept x old new true = Holds s (with_own h who (take kept (session_own h who))) xids new
    × SameIds s h old new × (s.lsn new ≡ s.lsn old + (length (session_own h who) - kept))
    × ((before : Option Call) → s.keeps
    → Survives s (s.slots old) before h (with_own h who (take kept (session_own h who))) old new)
    × BackOver h.shape (16 * x.seg + x.slot) (length (session_own h who) - kept) (s.blocks old) (s.blocks new)
    × SegmentsAge (segments_of h.shape (s.blocks old)) (segments_of h.shape (s.blocks new))
PutsBack s h xids who kept x old new false = (fault : Option Call) → Fails s fault h old new

-- its rollback, whatever cursors it keeps
abbrev pub PutsAllBack : {S : Type 0} → Ghosts S → State → List Xid → ℕ → Xid → S → S → Bool
    → Type 0
PutsAllBack s h xids who x old new true = (cursors : List Cursor)
    → Holds s (without_owner x.seg x.slot (ended h who cursors)) xids new
    × SameIds s h old new × (s.lsn new ≡ s.lsn old + (length (session_own h who) + 1))
    × ((before : Option Call) → s.keeps
    → Survives s (s.slots old) before h (without_owner x.seg x.slot (ended h who cursors)) old new)
    × ((middle : List (List ℕ))
    × BackOver h.shape (16 * x.seg + x.slot) (length (session_own h who)) (s.blocks old) middle
    × IsEnded h.shape (16 * x.seg + x.slot) middle (s.blocks new))
    × SegmentsAge (segments_of h.shape (s.blocks old)) (segments_of h.shape (s.blocks new))
PutsAllBack s h xids who x old new false = (fault : Option Call) → Fails s fault h old new
