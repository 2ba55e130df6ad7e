-- What calls over a store leave that put back dead transactions, beside a table of the sessions that live.
use Rattle.std.specs.Prelude.{◌≡◌, ◌≤◌, ◌+◌, ◌-◌, ℕ, Bool, true, false}
use Rattle.std.specs.Prelude.{List, length, Option, Some, None, Result, Ok, Err}
use Rattle.rb_base.specs.Groups.{Patch}
use Rattle.rb_base.specs.Logs.{Logs}
use Rattle.rb_base.specs.declared.ids.Xid.{Xid}
use Rattle.rb_base.specs.declared.faults.Failed.{Failed}
use Rattle.rb_base.specs.declared.store.Store.{Ghosts}
use Rattle.law_aging.specs.Kept.{SegmentsAge}
use Rattle.law_blocks.specs.Standing.{env_of, segments_of}
use Rattle.law_crash.specs.Crash.{Survives}
use Rattle.law_crash.specs.Holds.{Holds}
use Rattle.law_crash.specs.Made.{BackBy}
use Rattle.rb_model.specs.Dead.{KeepsRest, all_slots, dead_at, dead_owed, swept}
use Rattle.rb_model.specs.Dead.{swept_at, swept_count, swept_from}
use Rattle.law_sessions.specs.Views.{Remembers}
use Rattle.law_write.specs.Verdict.{IsOwnId}
use Rattle.rb_dead.specs.declared.slot.Dead.{Dead}
use Rattle.rb_model.specs.Calls.{Call}
use Rattle.rb_model.specs.State.{State, session_own}
use Rattle.rb_rollback.specs.Backs.{Fails}
use Rattle.rb_sessions.specs.Kept.{KeptSession}

-- The store and the table have a state that goes on, and so many groups put back its dead.
pub record HasDead {S : Type 0} (s : Ghosts S) (h : State) (xids : List Xid) (sessions : List KeptSession) (owed : ℕ)
    (store : S) : Type 0 where
  pub shape : s.shape_of store ≡ h.shape
  pub going : h.stopped ≡ false
  pub holds : Holds s h xids store
  pub remembers : Remembers h xids (env_of h.shape (s.blocks store)) sessions
  pub all : owed ≡ dead_owed h

-- Calls that went well led from one state to another, in which some of the dead are gone, whole or in part: by as many
-- groups as are owed less, each of which a crash may leave with those before it.
pub record Leads {S : Type 0} (s : Ghosts S) (h h2 : State) (xids : List Xid) (sessions : List KeptSession) (left : ℕ)
    (old new : S) : Type 0 where
  pub rest : KeepsRest h h2
  pub has : HasDead s h2 xids sessions left new
  pub fewer : dead_owed h2 ≤ dead_owed h
  pub lsn : s.lsn new ≡ s.lsn old + (dead_owed h - dead_owed h2)
  pub back : BackBy h.shape (dead_owed h - dead_owed h2) (s.blocks old) (s.blocks new)
  pub survives : (before : Option Call) → s.keeps → Survives s (s.slots old) before h h2 old new
  pub ages : SegmentsAge (segments_of h.shape (s.blocks old)) (segments_of h.shape (s.blocks new))

-- calls that put back so many at most gave as many groups as are owed less, where they went well
abbrev pub Gives : {S : Type 0} → Ghosts S → (owed left : ℕ) → S → S → Bool → Type 0
Gives s owed left old new going = (groups : List (List Patch)) × Logs s old new groups going
    × (length groups ≤ owed) × (going ≡ true → length groups + left ≡ owed)

-- they led there, or the disk failed on the way
abbrev pub LeadsTo : {S : Type 0} → Ghosts S → (h h2 : State) → List Xid → List KeptSession → ℕ → S → S
    → Bool → Type 0
LeadsTo s h h2 xids sessions left old new true = Leads s h h2 xids sessions left old new
LeadsTo s h h2 xids sessions left old new false = (fault : Option Call) → Fails s fault h old new

-- what is found in a slot: its dead transaction under its id, with so many changes, or that it has none
abbrev pub FoundDead : State → List (List ℕ) → ℕ → Option Dead → Type 0
FoundDead h blocks t None = dead_at h t ≡ None
FoundDead h blocks t (Some found) = (who : ℕ) × (dead_at h t ≡ Some who)
    × IsOwnId h (env_of h.shape blocks) who (Some found.xid) × (length (session_own h who) ≡ found.live)

-- Up to so many changes of the dead transaction of a slot were taken, and it went whole where none was left.
abbrev pub Takes : {S : Type 0} → Ghosts S → State → List Xid → List KeptSession → (most t left : ℕ)
    → S → S → Result ℕ Failed → Type 0
Takes s h xids sessions most t left old new (Ok n) = (n ≡ swept_from most h (dead_at h t))
    × Leads s h (swept_at most t (dead_at h t) h) xids sessions left old new
Takes s h xids sessions most t left old new (Err fault) = (kind : Option Call) → Fails s kind h old new

-- A sweep of so many changes over all slots.
abbrev pub Sweeps : {S : Type 0} → Ghosts S → State → List Xid → List KeptSession → (most left : ℕ)
    → S → S → Result ℕ Failed → Type 0
Sweeps s h xids sessions most left old new (Ok n) = (n ≡ swept_count most (all_slots h) h)
    × Leads s h (swept most (all_slots h) h) xids sessions left old new
Sweeps s h xids sessions most left old new (Err fault) = (kind : Option Call) → Fails s kind h old new
