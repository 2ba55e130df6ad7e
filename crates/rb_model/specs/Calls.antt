-- The calls of the machine: their tests in their order, their answers, and what its refusals are called.
use Rattle.std.specs.Prelude.{◌≡◌, ◌≢◌, ◌⊎◌, ℕ, ◌+◌, ◌*◌}
use Rattle.std.specs.Prelude.{◌<◌, ◌≤◌, Bool, true, false, not, ◌&&◌}
use Rattle.std.specs.Prelude.{nat_lt, nat_le, if◌then◌else◌, is_some, is_none, List, [], ◌∷◌, ◌++◌}
use Rattle.std.specs.Prelude.{length, codes}
use Rattle.std.specs.Prelude.{filter, slice_get, Option, None, Some}
use Rattle.std.specs.Fmt.{decimal}
use Rattle.std.specs.Str.{bytes_eq}
use Rattle.rb_base.specs.declared.sizes.TheConstants.{VALUE_BYTES, WORN}
use Rattle.rb_model.specs.Book.{Book, Owner, IsBegun, book_at, is_full, owners}
pub use Rattle.rb_model.specs.Change.{Action, Insert, Update, Upsert, Delete, Lock}
use Rattle.rb_model.specs.Dead.{all_slots, swept_count}
use Rattle.rb_model.specs.Full.{full_block}
use Rattle.rb_model.specs.Isolation.{is_read_committed, is_read_only, mode_of, snapshot_at}
use Rattle.rb_model.specs.Late.{late}
use Rattle.rb_model.specs.Queue.{Waiter, closes, place_of}
use Rattle.rb_model.specs.Rows.{Commits, TableRow, has_row, last_scn, over, rows_at, value_of}
use Rattle.rb_model.specs.State.{State, Session, Cursor, Savepoint, session_of, session_own, isolation_of, owner_at}
use Rattle.rb_model.specs.State.{is_session, is_table}
use Rattle.rb_model.specs.State.{is_waiting, savepoint_of, cursor_of, cursor_rows}
use Rattle.rb_model.specs.Tests.{holder, full_slots, made_since}
use Rattle.rb_model.specs.declared.activity.Activity.{Activity}
use Rattle.rb_model.specs.declared.activity.Wait.{Wait}
use Rattle.rb_model.specs.declared.activity.Wait.TheVariants as wait
use Rattle.rb_model.specs.declared.mode.Isolation.{Isolation}
use Rattle.rb_model.specs.declared.mode.Isolation.TheVariants as isolation
use Rattle.rb_model.specs.declared.mode.Mode.{Mode}
use Rattle.rb_model.specs.declared.refusal.Refusal.{Refusal}
use Rattle.rb_model.specs.declared.refusal.Refusal.TheVariants.{NoSession, Waiting, NotFirst, ReadOnly, NoTable}
use Rattle.rb_model.specs.declared.refusal.Refusal.TheVariants.{ValueTooLong, Deadlock, TooOld, CantSerialize}
use Rattle.rb_model.specs.declared.refusal.Refusal.TheVariants.{Duplicate, NotFound, BlockFull, SlotsFull}
use Rattle.rb_model.specs.declared.refusal.Refusal.TheVariants.{RollbackFull, NotWaiting}
use Rattle.rb_model.specs.declared.refusal.Refusal.TheVariants.{NoSavepoint, TooManySavepoints, NoCursor, CursorThere}
use Rattle.rb_model.specs.declared.refusal.Refusal.TheVariants.{TooManyCursors, WornOut, DiskFault, Stopped}

-- a call of one session, or of none
pub data Call : Type 0 where
  Write : (session table key : ℕ) (action : Action) → Call
  Commit : (session : ℕ) → Call
  -- a commit that is made last by a later call
  CommitLater : (session : ℕ) → Call
  Rollback : (session : ℕ) → Call
  SetMode : (session : ℕ) (mode : Mode) → Call
  SetSavepoint : (session : ℕ) (name : List ℕ) → Call
  RollbackTo : (session : ℕ) (name : List ℕ) → Call
  OpenCursor : (session : ℕ) (name : List ℕ) (table lo hi : ℕ) → Call
  Fetch : (session : ℕ) (name : List ℕ) → Call
  CloseCursor : (session : ℕ) (name : List ℕ) → Call
  -- a row by its key, without a cursor
  Get : (session table key : ℕ) → Call
  -- the session's write is given up
  Cancel : (session : ℕ) → Call
  Marks : (seg : ℕ) → Call
  -- what a session has under way
  Show : (session : ℕ) → Call
  -- all that waits is made last
  Flush : Call
  -- so many changes of dead transactions are put back, in the order of their slots
  Sweep : (changes : ℕ) → Call
  Checkpoint : Call

pub data Answer : Type 0 where
  -- done, with nothing to tell
  Done : Answer
  -- a write that waits for that session
  Waits : ℕ → Answer
  -- a commit that took this number, and is acknowledged
  Committed : ℕ → Answer
  -- one that took it, and isn't acknowledged yet
  Numbered : ℕ → Answer
  -- all commits are acknowledged, and this is the number of the last
  Flushed : ℕ → Answer
  -- so many changes of dead transactions were put back
  Swept : ℕ → Answer
  -- the next row has this key and value
  Given : (key : ℕ) (value : List ℕ) → Answer
  -- all rows are given
  End : Answer
  -- the key has no row
  Absent : Answer
  -- how many records that segment has made, and the greatest commit number that it gave up
  Marked : (seg writes lost : ℕ) → Answer
  -- what that session has under way
  Shown : (session : ℕ) (activity : Activity) → Answer
  -- a session has nothing under way
  Idle : Answer
  Refused : Refusal → Answer

-- Whether an action makes a row, by whether its key has one: an insert does, an upsert does where there is none, and
-- each other write needs the one that is there.
abbrev pub adds : Action → Bool → Bool
adds (Insert value) present = true
adds (Update value) present = false
adds (Upsert value) present = not present
adds Delete present = false
adds Lock present = false

-- the value has more bytes than a row
abbrev pub is_too_long : Action → Bool
is_too_long (Insert value) = nat_lt VALUE_BYTES (length value)
is_too_long (Update value) = nat_lt VALUE_BYTES (length value)
is_too_long (Upsert value) = nat_lt VALUE_BYTES (length value)
is_too_long Delete = false
is_too_long Lock = false

-- the rows that a session sees now: the committed ones with its own changes over them
abbrev pub rows_now : State → ℕ → List TableRow
rows_now h s = over h.shape.blocks (rows_at h.shape.blocks h.commits (last_scn h.commits)) (session_own h s)

abbrev pub is_empty : {X : Type 0} → List X → Bool
is_empty [] = true
is_empty (x ∷ xs) = false

-- the words of a refusal
abbrev pub refusal_words : Refusal → List ℕ
refusal_words NoSession = codes "no session"
refusal_words Waiting = codes "waiting"
refusal_words NotFirst = codes "not first"
refusal_words ReadOnly = codes "read only"
refusal_words NoTable = codes "no table"
refusal_words ValueTooLong = codes "value too long"
refusal_words (Deadlock on) = codes "deadlock"
refusal_words (TooOld scn lost) = codes "too old"
refusal_words (CantSerialize scn by) = codes "cannot serialize"
refusal_words Duplicate = codes "duplicate"
refusal_words NotFound = codes "not found"
refusal_words BlockFull = codes "block full"
refusal_words SlotsFull = codes "slots full"
refusal_words (RollbackFull seg since) = codes "rollback full"
refusal_words NoSavepoint = codes "no savepoint"
refusal_words TooManySavepoints = codes "too many savepoints"
refusal_words NoCursor = codes "no cursor"
refusal_words CursorThere = codes "cursor there"
refusal_words TooManyCursors = codes "too many cursors"
refusal_words WornOut = codes "worn out"
refusal_words NotWaiting = codes "not waiting"
refusal_words DiskFault = codes "disk fault"
refusal_words Stopped = codes "stopped"

-- a space and a number
abbrev pub number_text : ℕ → List ℕ
number_text n = 32 ∷ decimal n

-- the numbers that a refusal tells
abbrev pub refusal_numbers : Refusal → List ℕ
refusal_numbers (Deadlock on) = number_text on
refusal_numbers (TooOld scn lost) = number_text scn ++ number_text lost
refusal_numbers (CantSerialize scn by) = number_text scn ++ number_text by
refusal_numbers (RollbackFull seg since) = number_text seg ++ number_text since
refusal_numbers _ = []

-- what a refusal is called
abbrev pub refusal_text : Refusal → List ℕ
refusal_text why = refusal_words why ++ refusal_numbers why

-- the one refusal after which nothing goes on
abbrev pub is_disk_fault : Refusal → Bool
is_disk_fault DiskFault = true
is_disk_fault _ = false

-- the answer tells of a fault of the disk
abbrev pub is_fault : Answer → Bool
is_fault (Refused why) = is_disk_fault why
is_fault _ = false

-- the call in which the disk failed, where that is what the answer tells; else it is the one of before, if any
abbrev pub failed_in : Call → Answer → Option Call → Option Call
failed_in call answer before = if is_fault answer then Some call else before

-- Segment g and slot i are those of a session: it has that slot, one of sixteen, or has none and would begin there.
abbrev pub Owned : State → ℕ → ℕ → ℕ → Type 0
Owned h s g i = (i < 16) × (o : Owner) × (owner_at h (16 * g + i) ≡ Some o) × (o.session ≡ s)

abbrev pub HasNoSlot : State → ℕ → Type 0
HasNoSlot h s = (t : ℕ) (o : Owner) → owner_at h t ≡ Some o → o.session ≢ s

abbrev pub WritesIn : State → ℕ → ℕ → ℕ → Type 0
WritesIn h s g i = Owned h s g i ⊎ (HasNoSlot h s × IsBegun h.books g i)

-- The segment in which a session that has none begins: the one with the fewest owners, and the first of these.
pub record IsFewest (books : List Book) (g : ℕ) : Type 0 where
  pub within : g < length books
  pub least : (k : ℕ) → k < length books → owners (book_at books g) ≤ owners (book_at books k)
  pub first : (k : ℕ) → k < g → owners (book_at books k) ≢ owners (book_at books g)

-- the segment in which it writes: that of its slot, or else where it would begin
abbrev pub WritesAt : State → ℕ → ℕ → Type 0
WritesAt h s g = ((i : ℕ) × Owned h s g i) ⊎ (HasNoSlot h s × IsFewest h.books g)

abbrev pub is_owner : ℕ → Option Owner → Bool
is_owner s None = false
is_owner s (Some o) = nat_le o.session s && nat_le s o.session

-- whether the session has that slot
abbrev pub has_slot : State → ℕ → ℕ → ℕ → Bool
has_slot h s g i = is_owner s (owner_at h (16 * g + i))

-- The session that is to be waited for, where it is another. Where they would wait in a ring, the write is refused.
abbrev pub waited : List Waiter → ℕ → Option ℕ → List (Bool × Answer)
waited queue s None = []
waited queue s (Some u) =
    (not (nat_le u s && nat_le s u) && closes queue s u, Refused (Deadlock u))
    ∷ (not (nat_le u s && nat_le s u), Waits u) ∷ []

-- a serializable transaction can't write a row that a commit above its snapshot has changed
abbrev pub refused_by : ℕ → Option ℕ → List (Bool × Answer)
refused_by snapshot None = []
refused_by snapshot (Some by) = (true, Refused (CantSerialize snapshot by)) ∷ []

abbrev pub serial_tests : Commits → Isolation → ℕ → ℕ → List (Bool × Answer)
serial_tests commits isolation.ReadCommitted table key = []
serial_tests commits (isolation.ReadOnly snapshot) table key = []
serial_tests commits (isolation.Serializable snapshot) table key = refused_by snapshot (late commits snapshot table key)

-- the transaction has neither a mode of its own nor changes nor savepoints
abbrev pub is_unbegun : Session → Bool
is_unbegun session = is_read_committed session.isolation && (is_empty session.own && is_empty session.savepoints)

-- the tests of a call that names a session
abbrev pub number_tests : State → ℕ → List (Bool × Answer)
number_tests h s = (h.stopped, Refused Stopped) ∷ (not (is_session s), Refused NoSession) ∷ []

-- and of each one that a session that waits can't make
abbrev pub session_tests : State → ℕ → List (Bool × Answer)
session_tests h s = number_tests h s ++ (is_waiting h s, Refused Waiting) ∷ []

-- The tests of a call in their order, each with the answer that it gives.
-- After the early ones the disk may have failed.
abbrev pub early_tests : State → Call → List (Bool × Answer)
early_tests h (Write s table key action) =
    session_tests h s ++ (is_read_only (isolation_of h s), Refused ReadOnly)
    ∷ (not (is_table h table), Refused NoTable) ∷ (is_too_long action, Refused ValueTooLong) ∷ []
early_tests h (Commit s) = session_tests h s
early_tests h (CommitLater s) = session_tests h s
early_tests h (Rollback s) = session_tests h s
early_tests h (SetMode s mode) = session_tests h s
early_tests h (SetSavepoint s name) = session_tests h s
early_tests h (RollbackTo s name) = session_tests h s
early_tests h (OpenCursor s name table lo hi) =
    session_tests h s ++ (not (is_table h table), Refused NoTable) ∷ []
early_tests h (Fetch s name) = session_tests h s
early_tests h (CloseCursor s name) = session_tests h s
early_tests h (Get s table key) = session_tests h s ++ (not (is_table h table), Refused NoTable) ∷ []
early_tests h (Cancel s) = number_tests h s
early_tests h (Marks seg) = (h.stopped, Refused Stopped) ∷ []
early_tests h (Show s) = number_tests h s
early_tests h Flush = (h.stopped, Refused Stopped) ∷ []
early_tests h (Sweep k) = (h.stopped, Refused Stopped) ∷ []
early_tests h Checkpoint = (h.stopped, Refused Stopped) ∷ []

-- the write makes a row, as its session sees the key now
abbrev pub adds_now : State → (s table key : ℕ) → Action → Bool
adds_now h s table key action = adds action (has_row table key (rows_now h s))

-- the tests of a write that ask for its key and the key's home
abbrev pub key_tests : State → (s table key : ℕ) → Action → List (Bool × Answer)
key_tests h s table key action =
    waited h.queue s (holder h table key)
    ++ serial_tests h.commits (isolation_of h s) table key
    ++ (adds_now h s table key action && has_row table key (rows_now h s), Refused Duplicate)
    ∷ (not (adds_now h s table key action) && not (has_row table key (rows_now h s)), Refused NotFound)
    ∷ (adds_now h s table key action && full_block h table key, Refused BlockFull)
    ∷ (full_slots h s table key, Refused SlotsFull) ∷ []

-- and those of one in segment g, behind that log number, that ask for room
abbrev pub room_tests : State → (logged g : ℕ) → List (Bool × Answer)
room_tests h logged g =
    (is_full (book_at h.books g), Refused (RollbackFull g (made_since (book_at h.books g))))
    ∷ (nat_le WORN logged, Refused WornOut) ∷ []

abbrev pub write_tests : State → (logged g s table key : ℕ) → Action → List (Bool × Answer)
write_tests h logged g s table key action = key_tests h s table key action ++ room_tests h logged g

-- the savepoints of other names
abbrev pub without_savepoint : List ℕ → List Savepoint → List Savepoint
without_savepoint name savepoints = filter (λ savepoint. not (bytes_eq savepoint.name name)) savepoints

-- the later tests of a call that is no write
abbrev pub name_tests : State → Call → List (Bool × Answer)
name_tests h (SetMode s mode) = (not (is_unbegun (session_of h s)), Refused NotFirst) ∷ []
name_tests h (SetSavepoint s name) =
    (nat_le 16 (length (without_savepoint name (session_of h s).savepoints)), Refused TooManySavepoints) ∷ []
name_tests h (RollbackTo s name) = (is_none (savepoint_of h s name), Refused NoSavepoint) ∷ []
name_tests h (OpenCursor s name table lo hi) =
    (is_some (cursor_of h s name), Refused CursorThere)
    ∷ (nat_le 16 (length (session_of h s).cursors), Refused TooManyCursors) ∷ []
name_tests h (Fetch s name) = (is_none (cursor_of h s name), Refused NoCursor) ∷ []
name_tests h (CloseCursor s name) = (is_none (cursor_of h s name), Refused NoCursor) ∷ []
name_tests h (Cancel s) = (not (is_waiting h s), Refused NotWaiting) ∷ []
name_tests h (Write s table key action) = []
name_tests h (Commit s) = []
name_tests h (CommitLater s) = []
name_tests h (Rollback s) = []
name_tests h (Get s table key) = []
name_tests h (Marks seg) = []
name_tests h (Show s) = []
name_tests h Flush = []
name_tests h (Sweep k) = []
name_tests h Checkpoint = []

-- a row as the answer to a fetch, or the end
abbrev pub given : Option TableRow → Answer
given None = End
given (Some row) = Given row.key row.value

abbrev pub next_row : State → Option Cursor → Answer
next_row h None = End
next_row h (Some cursor) = given (slice_get (cursor_rows h cursor) cursor.taken)

-- the number at which a query of the session reads that begins now
abbrev pub snapshot_of : State → ℕ → ℕ
snapshot_of h s = snapshot_at (last_scn h.commits) (isolation_of h s)

-- the rows that it sees: those at that number, with the session's own changes over them
abbrev pub rows_seen : State → ℕ → List TableRow
rows_seen h s = over h.shape.blocks (rows_at h.shape.blocks h.commits (snapshot_of h s)) (session_own h s)

-- a row as the answer to a read of its key
abbrev pub got : ℕ → Option (List ℕ) → Answer
got key None = Absent
got key (Some value) = Given key value

-- how a session's write waits, by its place in the queue
abbrev pub wait_by : Option (Option ℕ) → Wait
wait_by None = wait.Free
wait_by (Some None) = wait.Ready
wait_by (Some (Some u)) = wait.On u

-- what the session has under way
abbrev pub activity_of : State → ℕ → Activity
activity_of h s = record {
  changes = length (session_own h s);
  cursors = length (session_of h s).cursors;
  mode = mode_of (isolation_of h s);
  wait = wait_by (place_of s h.queue);
}

-- it has nothing under way: no mode of its own, change, savepoint or cursor, and no place in the queue
abbrev pub is_idle : State → ℕ → Bool
is_idle h s = is_unbegun (session_of h s) && (is_empty (session_of h s).cursors && is_none (place_of s h.queue))

-- what a call answers that no test refuses
abbrev pub granted : State → Call → Answer
granted h (Write s table key action) = Done
granted h (Commit s) = if is_empty (session_own h s) then Done else Committed (last_scn h.commits + 1)
granted h (CommitLater s) = if is_empty (session_own h s) then Done else Numbered (last_scn h.commits + 1)
granted h (Rollback s) = Done
granted h (SetMode s mode) = Done
granted h (SetSavepoint s name) = Done
granted h (RollbackTo s name) = Done
granted h (OpenCursor s name table lo hi) = Done
granted h (Fetch s name) = next_row h (cursor_of h s name)
granted h (CloseCursor s name) = Done
granted h (Get s table key) = got key (value_of table key (rows_seen h s))
granted h (Cancel s) = Done
granted h (Marks seg) = Marked seg (book_at h.books seg).writes (book_at h.books seg).lost
granted h (Show s) = if is_idle h s then Idle else Shown s (activity_of h s)
granted h Flush = Flushed (last_scn h.commits)
granted h (Sweep k) = Swept (swept_count k (all_slots h) h)
granted h Checkpoint = Done

-- the answer of the first test that applies, or else the good one
abbrev pub first_of : List (Bool × Answer) → Answer → Answer
first_of [] good = good
first_of (test ∷ tests) good = if test.0 then test.1 else first_of tests good

abbrev pub none_applies : List (Bool × Answer) → Bool
none_applies [] = true
none_applies (test ∷ tests) = not test.0 && none_applies tests

-- the later tests of a call; those of a write go by where it writes
abbrev pub LaterTests : State → ℕ → Call → List (Bool × Answer) → Type 0
LaterTests h logged (Write s table key action) tests =
    (g : ℕ) × WritesAt h s g × (tests ≡ write_tests h logged g s table key action)
LaterTests h logged call tests = tests ≡ name_tests h call

-- The call reads at that snapshot: a fetch at its cursor's, a read of one key at that of a query which begins now, and
-- a write of a serializable transaction, where no other session is waited for, at the transaction's.
abbrev pub ReadsAt : State → Call → ℕ → Type 0
ReadsAt h (Fetch s name) snapshot =
    (cursor : Cursor) × (cursor_of h s name ≡ Some cursor) × (cursor.number ≡ snapshot)
ReadsAt h (Get s table key) snapshot = snapshot ≡ snapshot_of h s
ReadsAt h (Write s table key action) snapshot = (isolation_of h s ≡ isolation.Serializable snapshot)
    × (none_applies (waited h.queue s (holder h table key)) ≡ true)
ReadsAt h call snapshot = ⊥

-- It is refused as too old: a segment has given up a number above the snapshot, and both are told.
pub record IsTooOld (h : State) (call : Call) (r : Answer) : Type 0 where
  pub snapshot : ℕ
  pub reads : ReadsAt h call snapshot
  pub seg : ℕ
  pub there : seg < length h.books
  pub above : snapshot < (book_at h.books seg).lost
  pub answer : r ≡ Refused (TooOld snapshot (book_at h.books seg).lost)

-- The call may have this answer: that of the first test that applies, or else the good one; a fault of the disk in the
-- place of any answer that comes after the early tests; or, where it reads at a snapshot, that this is too old.
pub data MayAnswer (h : State) (logged : ℕ) (call : Call) (r : Answer) : Type 0 where
  early : none_applies (early_tests h call) ≡ false → r ≡ first_of (early_tests h call) Done
      → MayAnswer h logged call r
  later : (tests : List (Bool × Answer)) → none_applies (early_tests h call) ≡ true
      → LaterTests h logged call tests → r ≡ first_of tests (granted h call) → MayAnswer h logged call r
  fault : none_applies (early_tests h call) ≡ true → r ≡ Refused DiskFault → MayAnswer h logged call r
  old : none_applies (early_tests h call) ≡ true → IsTooOld h call r → MayAnswer h logged call r
