-- For which states an engine stands, and what a call does with each of them.
use Rattle.std.specs.Prelude.{◌≡◌, ◌<◌, ◌≤◌, ◌+◌, ◌^◌, ℕ, Bool, true, false, List}
use Rattle.std.specs.Prelude.{length, map, Option, None, Some, Result}
use Rattle.std.specs.List.{AllByRecursion, sum_by}
use Rattle.rb_base.specs.Counts.{err_is}
use Rattle.rb_base.specs.declared.ids.Xid.{Xid}
use Rattle.rb_base.specs.declared.shape.Shape.{Shape}
use Rattle.rb_base.specs.declared.sizes.TheConstants.{SLOTS}
use Rattle.rb_base.specs.declared.store.Store.{Ghosts}
use Rattle.rb_copies.specs.Copies.{CopyTable}
use Rattle.rb_engine.specs.Retains.{Retains}
use Rattle.law_crash.specs.Crash.{Survives}
use Rattle.law_crash.specs.Holds.{Holds}
use Rattle.rb_model.specs.Answers.{write_answer}
use Rattle.rb_model.specs.Calls.{Action, Answer, Call, Done, MayAnswer, Write, failed_in, is_disk_fault}
use Rattle.rb_model.specs.Change.{Asked}
use Rattle.rb_model.specs.Dead.{dead_owed}
use Rattle.rb_model.specs.NextState.{After, Grows, unqueued}
use Rattle.rb_model.specs.Queue.{Waiter, first_ready, is_queued}
use Rattle.rb_model.specs.Rows.{last_scn}
use Rattle.rb_model.specs.State.{State, asked_of, isolation_of}
use Rattle.rb_model.specs.declared.refusal.Refusal.{Refusal}
use Rattle.rb_model.specs.declared.wrote.Wrote.{Wrote}
use Rattle.law_copies.specs.Copies.{CopiesStand}
use Rattle.rb_sessions.specs.Kept.{KeptSession, kept_at}
use Rattle.rb_sessions.specs.declared.sessions.TheConstants.{SESSIONS}
use Rattle.law_blocks.specs.Standing.{env_of}
use Rattle.law_sessions.specs.Views.{Remembers}
use Rattle.rb_waits.specs.Room.{AreQueuedOnce}

-- what the engine has in memory: the table of sessions, the queue of those that wait, the last commit number, whether
-- the disk has failed, the homes that are kept for readers, and how many groups put back the dead transactions
pub record Kept : Type 0 where
  pub sessions : List KeptSession
  pub waits : List Waiter
  pub scn : ℕ
  pub stopped : Bool
  pub copies : CopyTable
  pub dead : ℕ

-- the same memory with these homes kept
abbrev pub with_copies : CopyTable → Kept → Kept
with_copies copies kept = record kept { copies = copies }

-- the engine is stopped where a call of the store failed, and else its memory is as it was
abbrev pub StopsIf : Bool → (old new : Kept) → Type 0
StopsIf true old new = new ≡ record old { stopped = true }
StopsIf false old new = new ≡ old

-- an engine: its memory, and the store
pub record EngineView (S : Type 0) : Type 0 where
  pub memory : Kept
  pub store : S

-- the session's open cursors are of tables that there are
abbrev pub InTables : Shape → KeptSession → Type 0
InTables shape k = AllByRecursion (λ c. (1 ≤ c.cursor.table) × (c.cursor.table ≤ shape.tables)) k.cursors

-- a transaction of that id has a slot
abbrev pub slots_had : Option Xid → ℕ
slots_had None = 0
slots_had (Some x) = 1

-- how many groups end a session's transaction: one for each live change, and one for its slot
abbrev pub owed_by : KeptSession → ℕ
owed_by k = k.count + slots_had k.own

-- and all of them
abbrev pub owed_kept : List KeptSession → ℕ
owed_kept sessions = sum_by owed_by sessions

-- each session in the queue is there once, and the table has the write that it waits with
pub record IsQueue (kept : Kept) : Type 0 where
  pub once : AreQueuedOnce kept.waits
  pub held : (u : ℕ) → is_queued u kept.waits ≡ true
      → (a : Asked) × ((kept_at kept.sessions u).asked ≡ Some a)

-- What keeps an engine in order, whatever its store tells: each transaction's id is of a slot that there is, and a
-- session without one has no changes. As long as the engine isn't stopped, its store goes on and has numbers for the
-- end of each transaction, and of all the dead, which are as many as a file may have.
pub record IsInStep {S : Type 0} (s : Ghosts S) (kept : Kept) (store : S) : Type 0 where
  pub counted : length kept.sessions ≡ SESSIONS
  pub tables : (u : ℕ) → InTables (s.shape_of store) (kept_at kept.sessions u)
  pub own : (u : ℕ) (x : Xid) → (kept_at kept.sessions u).own ≡ Some x
      → (x.seg < (s.shape_of store).segments) × (x.slot < SLOTS)
  pub small : (u : ℕ) → (kept_at kept.sessions u).count < 2 ^ 32
  pub idle : (u : ℕ) → (kept_at kept.sessions u).own ≡ None → (kept_at kept.sessions u).count ≡ 0
  pub queue : IsQueue kept
  pub going : kept.stopped ≡ false → s.failed store ≡ false
  pub few : kept.stopped ≡ false → s.lsn store + owed_kept kept.sessions + kept.dead ≤ 2 ^ 61 + 2 ^ 60
  pub owed : kept.dead ≤ 2 ^ 42

-- the queue and the writes that sessions wait with, in memory and in a state
pub record KnowsQueue (h : State) (kept : Kept) : Type 0 where
  pub waits : kept.waits ≡ h.queue
  pub asked : map (λ k. k.asked) kept.sessions ≡ h.asked

-- what memory alone says of a state
pub record Knows (h : State) (kept : Kept) : Type 0 where
  pub sixteen : SESSIONS ≤ length h.sessions
  pub stopped : kept.stopped ≡ h.stopped
  pub scn : kept.scn ≡ last_scn h.commits
  pub queue : h.stopped ≡ false → KnowsQueue h kept

-- each session's transaction reads in memory as in a state
abbrev pub KnowsModes : State → Kept → Type 0
KnowsModes h kept = h.stopped ≡ false → (u : ℕ) → 1 ≤ u → u ≤ SESSIONS
    → (kept_at kept.sessions u).isolation ≡ isolation_of h u

-- An engine that goes on stands for a state: its store's blocks do, the table of sessions remembers it, and each home
-- that is kept stands for what it had at the home's number.
pub record Goes {S : Type 0} (s : Ghosts S) (h : State) (e : EngineView S) : Type 0 where
  pub xids : List Xid
  pub holds : Holds s h xids e.store
  pub remembers : Remembers h xids (env_of h.shape (s.blocks e.store)) e.memory.sessions
  pub copies : CopiesStand h xids (s.blocks e.store) e.memory.copies.kept

-- An engine stands for a state. Of one that is stopped only the answers that are left are told, and of one that isn't
-- memory has how many groups put back the dead. An engine over a store that tells nothing stands for none.
pub record Stands {S : Type 0} (s : Ghosts S) (h : State) (e : EngineView S) : Type 0 where
  pub told : s.tells
  pub shape : s.shape_of e.store ≡ h.shape
  pub knows : Knows h e.memory
  pub goes : h.stopped ≡ false → Goes s h e
  pub owes : h.stopped ≡ false → e.memory.dead ≡ dead_owed h

-- what a call keeps for readers, where it is a write that is done
abbrev pub Keeps : State → Call → Answer → State → Type 0
Keeps h call answer now = (s table key : ℕ) (action : Action)
    → call ≡ Write s table key action → answer ≡ Done → Retains h s now

-- A call with that answer on an engine that stood for h: the machine allows the answer, and the engine stands for the
-- state after it. Unless it is stopped then, the log has so many groups more, 2^14 at most. A crash in it leaves no
-- more than the states before and after it; where the call answers a fault of the disk, what such a call may have left
-- besides.
pub record Does {S : Type 0} (s : Ghosts S) (h : State) (call : Call) (answer : Answer) (old new : EngineView S) : Type
    0 where
  pub reply : MayAnswer h (s.lsn old.store) call answer
  pub now : State
  pub after : After h call answer now
  pub keeps : h.stopped ≡ false → Keeps h call answer now
  pub stands : Stands s now new
  pub groups : ℕ
  pub grows : now.stopped ≡ false → Grows h call answer groups
  pub few : h.stopped ≡ false → now.stopped ≡ false → groups ≤ 2 ^ 14
  pub lsn : now.stopped ≡ false → s.lsn new.store ≡ s.lsn old.store + groups
  pub survives : (before : Option Call) → h.stopped ≡ false → s.keeps
      → Survives s (s.slots old.store) (failed_in call answer before) h now old.store new.store

-- whether a resumed write tells of a fault of the disk
abbrev pub resume_fault : Option (ℕ × Result Wrote Refusal) → Bool
resume_fault None = false
resume_fault (Some (w, outcome)) = err_is is_disk_fault outcome

-- A crash in calls over a store, or after them, leaves a state's commits, and no more marks than its books say:
-- whether the disk failed in one of them or not.
abbrev pub LeavesState : {S : Type 0} → Ghosts S → State → S → S → Type 0
LeavesState s h old new = (fault : Option Call) → s.keeps → Survives s (s.slots old) fault h h old new
