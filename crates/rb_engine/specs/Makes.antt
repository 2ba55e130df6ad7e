-- What a call with an answer makes of the blocks.
use Rattle.std.specs.Prelude.{◌≡◌, ◌⊎◌, ◌<◌, ◌+◌, ◌-◌, ◌*◌, ℕ}
use Rattle.std.specs.Prelude.{true, false, List, length, Option, None, Some, Result}
use Rattle.rb_base.specs.Blocks.{home_block}
use Rattle.rb_base.specs.declared.ids.Uba.{Uba}
use Rattle.rb_base.specs.declared.ids.Xid.{Xid}
use Rattle.rb_base.specs.declared.sizes.TheConstants.{WORN}
use Rattle.rb_engine.specs.Cleaning.{IsClean, OnlyCleaned, ReadIn}
use Rattle.rb_engine.specs.Getting.{KeyRead}
use Rattle.law_crash.specs.Made.{BackBy, BackOver}
use Rattle.rb_model.specs.Answers.{write_answer}
use Rattle.rb_model.specs.Calls.{Absent, Action, Answer, Call, Commit, CommitLater, Committed, Done, End, Fetch}
use Rattle.rb_model.specs.Calls.{Flushed, Get, Given, HasNoSlot, Idle, Marked, Numbered, Owned, Refused, Rollback}
use Rattle.rb_model.specs.Calls.{RollbackTo, Shown, Sweep, Swept, Waits, Write, WritesIn, adds_now, is_empty}
use Rattle.rb_model.specs.Change.{Asked}
use Rattle.rb_model.specs.Dead.{all_slots, dead_owed, swept}
use Rattle.rb_model.specs.NextState.{kind_by, unqueued}
use Rattle.rb_model.specs.Rows.{last_scn}
use Rattle.rb_model.specs.State as machine
use Rattle.rb_model.specs.State.{Savepoint, State, asked_of, savepoint_of, session_own}
use Rattle.rb_model.specs.declared.refusal.Refusal.{Refusal}
use Rattle.rb_model.specs.declared.refusal.Refusal.TheVariants.{TooOld}
use Rattle.rb_model.specs.declared.wrote.Wrote.{Wrote}
use Rattle.rb_sessions.specs.declared.cursor.Cursor.{Cursor}
use Rattle.law_blocks.specs.Groups.{IsCommitted, IsEnded}
use Rattle.law_blocks.specs.Standing.{env_of}
use Rattle.law_blocks.specs.States.{BlocksStand}
use Rattle.law_blocks.specs.Writing.{IsWritten}
use Rattle.rb_undoblock.specs.declared.record.UndoRecord.{UndoRecord}
use Rattle.law_sessions.specs.Views.{IsCursor}

-- So many changes of a session are put back, the newest first, and then its slot ends, where it has one.
abbrev pub EndOver : State → (s n : ℕ) → (before now : List (List ℕ)) → Type 0
EndOver h s n before now =
    ((g : ℕ) × (i : ℕ) × Owned h s g i × (middle : List (List ℕ))
    × BackOver h.shape (16 * g + i) n before middle × IsEnded h.shape (16 * g + i) middle now)
    ⊎ (HasNoSlot h s × (now ≡ before))

-- a write of session s in slot i of segment g, with the record of its change
pub record WritesOne (h : State) (s g i table key : ℕ) (action : Action) (before now : List (List ℕ)) : Type 0 where
  pub address : Uba
  pub undo : UndoRecord
  pub of_table : undo.table ≡ table
  pub of_key : undo.key ≡ key
  pub of_home : undo.home ≡ home_block h.shape table key
  pub group : IsWritten h.shape (16 * g + i) (adds_now h s table key action) (kind_by action) address undo before now

-- a commit: its number in a header where the session has changes, and else the end of its transaction
abbrev pub CommitMakes : State → ℕ → (before now : List (List ℕ)) → Type 0
CommitMakes h s before now =
    ((is_empty (session_own h s) ≡ false) × ((g : ℕ) × (i : ℕ) × Owned h s g i
    × IsCommitted h.shape (16 * g + i) (last_scn h.commits + 1) before now))
    ⊎ ((is_empty (session_own h s) ≡ true) × EndOver h s 0 before now)

-- What a call makes that did what it was asked for, but for one that reads rows: a write its change, a commit its
-- number in a header, a rollback its changes back, a sweep those of the dead. No other call changes a block.
abbrev pub MadeBy : State → Call → (before now : List (List ℕ)) → Type 0
MadeBy h (Write s table key action) before now =
    (g : ℕ) × (i : ℕ) × WritesIn h s g i × WritesOne h s g i table key action before now
MadeBy h (Commit s) before now = CommitMakes h s before now
MadeBy h (CommitLater s) before now = CommitMakes h s before now
MadeBy h (Rollback s) before now = EndOver h s (length (session_own h s)) before now
MadeBy h (RollbackTo s name) before now = (p : Savepoint) × (savepoint_of h s name ≡ Some p)
    × (((g : ℕ) × (i : ℕ) × Owned h s g i
    × BackOver h.shape (16 * g + i) (length (session_own h s) - p.kept) before now)
    ⊎ (HasNoSlot h s × (now ≡ before)))
MadeBy h (Sweep k) before now = BackBy h.shape (dead_owed h - dead_owed (swept k (all_slots h) h)) before now
MadeBy h call before now = now ≡ before

-- A fetch cleans no block but those that it reads, and all of them where it went well and the log, which has come to
-- that number, isn't worn out.
pub record ReadBy (h : State) (who : ℕ) (name : List ℕ) (well : Type 0) (lsn : ℕ)
    (before now : List (List ℕ)) : Type 0 where
  pub xids : List Xid
  pub cursor : machine.Cursor
  pub named : machine.cursor_of h who name ≡ Some cursor
  pub kept : Cursor
  pub is : IsCursor h xids (env_of h.shape before) who (record { name = name; cursor = kept }) cursor
  pub only : OnlyCleaned h.shape (ReadIn h xids before kept) before now
  pub all : well → (b : ℕ) → ReadIn h xids before kept b → lsn < WORN → IsClean h.shape before now b

abbrev pub MadeReading : State → Call → Type 0 → ℕ → (before now : List (List ℕ)) → Type 0
MadeReading h (Fetch who name) well lsn before now = ReadBy h who name well lsn before now
MadeReading h (Get who table key) well lsn before now = KeyRead h table key well lsn before now
MadeReading h call well lsn before now = now ≡ before

-- a refused call changes no block, but one that reads rows and is too old may have cleaned some
abbrev pub MadeRefused : State → Call → Refusal → ℕ → (before now : List (List ℕ)) → Type 0
MadeRefused h call (TooOld scn lost) lsn before now = MadeReading h call ⊥ lsn before now
MadeRefused h call why lsn before now = now ≡ before

-- A call in a state with that answer, other than a fault of the disk, makes these blocks of those before, over a log
-- that has come to that number.
abbrev pub Makes : State → Call → Answer → ℕ → (before now : List (List ℕ)) → Type 0
Makes h call Done lsn before now = MadeBy h call before now
Makes h call (Committed n) lsn before now = MadeBy h call before now
Makes h call (Numbered n) lsn before now = MadeBy h call before now
Makes h call (Flushed n) lsn before now = MadeBy h call before now
Makes h call (Swept n) lsn before now = MadeBy h call before now
Makes h call (Waits on) lsn before now = now ≡ before
Makes h call (Given key value) lsn before now = MadeReading h call (Unit {0}) lsn before now
Makes h call End lsn before now = MadeReading h call (Unit {0}) lsn before now
Makes h call Absent lsn before now = MadeReading h call (Unit {0}) lsn before now
Makes h call (Marked seg writes lost) lsn before now = now ≡ before
Makes h call (Shown s activity) lsn before now = now ≡ before
Makes h call Idle lsn before now = now ≡ before
Makes h call (Refused why) lsn before now = MadeRefused h call why lsn before now

-- blocks stand for a state
abbrev pub StandFor : State → List (List ℕ) → Type 0
StandFor h blocks = (xids : List Xid) × BlocksStand h xids blocks
