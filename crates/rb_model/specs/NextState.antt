-- The state of the machine after each call, and how many groups the call gives the log.
use Rattle.std.specs.Prelude.{◌≡◌, ◌⊎◌, ◌≤◌, ℕ, suc, ◌+◌, ◌-◌, Bool, true, false, not}
use Rattle.std.specs.Prelude.{◌&&◌, nat_lt}
use Rattle.std.specs.Prelude.{if◌then◌else◌, cond, List, [], ◌∷◌, ◌++◌, length, set, filter, take}
use Rattle.std.specs.Prelude.{Some}
use Rattle.std.specs.Str.{bytes_eq}
use Rattle.rb_model.specs.Book.{Book, book_at, finished, left, marked, taken}
use Rattle.rb_model.specs.Calls.{Call, Write, Commit, CommitLater, Rollback, OpenCursor, Fetch, CloseCursor, Get}
use Rattle.rb_model.specs.Calls.{Marks, Show, Flush, Sweep, Checkpoint}
use Rattle.rb_model.specs.Calls.{Answer, Done, Waits, Committed, Numbered, Flushed, Given, End, Absent}
use Rattle.rb_model.specs.Calls.{Marked, Shown, Swept, Idle, Refused}
use Rattle.rb_model.specs.Calls.{is_disk_fault}
use Rattle.rb_model.specs.Calls.{Action, Insert, Update, Upsert, Delete, Lock}
use Rattle.rb_model.specs.Calls.{SetMode, SetSavepoint, RollbackTo, Cancel}
use Rattle.rb_model.specs.Calls.{is_empty, without_savepoint}
use Rattle.rb_model.specs.Calls.{Owned, HasNoSlot, WritesIn, has_slot}
use Rattle.rb_model.specs.Change.{Asked, Change, Kind, Put, Gone, Held}
use Rattle.rb_model.specs.Dead.{all_slots, dead_owed, swept}
pub use Rattle.rb_model.specs.Ended.{not_present, ended, without_owner, with_own}
use Rattle.rb_model.specs.Isolation.{isolation_at, snapshot_at}
use Rattle.rb_model.specs.Queue.{freed_by, left_by, waiting}
use Rattle.rb_model.specs.State.{State, Cursor, Savepoint, isolation_of, savepoint_of, session_of}
use Rattle.rb_model.specs.State.{all_safe, session_own, with_changes}
use Rattle.rb_model.specs.Rows.{last_scn}
use Rattle.rb_model.specs.declared.mode.Isolation.{Isolation}
use Rattle.rb_model.specs.declared.refusal.Refusal.{Refusal}
use Rattle.rb_model.specs.declared.refusal.Refusal.TheVariants.{TooOld}

abbrev pub kind_by : Action → Kind
kind_by (Insert value) = Put value
kind_by (Update value) = Put value
kind_by (Upsert value) = Put value
kind_by Delete = Gone
kind_by Lock = Held

-- the change of a write of that session, which makes the next record of segment g
abbrev pub change_in : State → ℕ → ℕ → ℕ → Action → Change
change_in h g table key action = record {
  table = table;
  key = key;
  kind = kind_by action;
  place = record { seg = g; index = (book_at h.books g).writes + 1 };
}

-- the books with one record more, of slot i of segment g, which the session takes where it doesn't have it yet
abbrev pub books_written : ℕ → ℕ → ℕ → Bool → List Book → List Book
books_written s g i has books =
    set books g (marked i (if has then book_at books g else taken s i (book_at books g)))

-- the state after a write that is done
abbrev pub written : State → ℕ → ℕ → ℕ → Change → State
written h s g i c = record h {
  sessions = set h.sessions (s - 1) (with_changes h s (session_own h s ++ c ∷ []));
  books = books_written s g i (has_slot h s g i) h.books;
}

abbrev pub cursors_of : State → ℕ → List Cursor
cursors_of h s = (session_of h s).cursors

-- the cursors that stay as the changes behind the first `kept` go: those of the present transaction that see more close
abbrev pub left_open : ℕ → List Cursor → List Cursor
left_open kept cursors = filter (λ c. not (c.present && nat_lt kept (length c.own))) cursors

-- the state after a commit of a session with changes, whose slot is i of segment g
abbrev pub committed : State → ℕ → ℕ → ℕ → State
committed h s g i = record (ended h s (cursors_of h s)) {
  commits = record h.commits { list = h.commits.list ++ session_own h s ∷ [] };
  books = set h.books g (finished (last_scn h.commits + 1) i (book_at h.books g));
}

-- who waited for the session is ready
abbrev pub freeing : State → ℕ → State
freeing h s = record h { queue = freed_by s h.queue }

-- the session waits for u, behind all others, to make that write
abbrev pub queued : State → ℕ → Asked → ℕ → State
queued h s asked u = record h { queue = waiting s u h.queue; asked = set h.asked (s - 1) (Some asked) }

-- it has left the queue
abbrev pub unqueued : State → ℕ → State
unqueued h s = record h { queue = left_by s h.queue }

-- After the end of a session's transaction without a number, with these cursors: its slot, if it has one, has no owner,
-- and who waited for it is ready.
abbrev pub EndsAs : State → ℕ → List Cursor → State → Type 0
EndsAs h s cursors h2 =
    ((g : ℕ) × (i : ℕ) × Owned h s g i × (h2 ≡ freeing (without_owner g i (ended h s cursors)) s))
    ⊎ (HasNoSlot h s × (h2 ≡ freeing (ended h s cursors) s))

-- After a commit: where the session has changes, the state with one commit more as `made` gives it; else that after the
-- end of its transaction.
abbrev pub CommitsAs : State → ℕ → (State → State) → State → Type 0
CommitsAs h s made h2 =
    ((is_empty (session_own h s) ≡ false)
    × ((g : ℕ) × (i : ℕ) × Owned h s g i × (h2 ≡ made (freeing (committed h s g i) s))))
    ⊎ ((is_empty (session_own h s) ≡ true) × EndsAs h s (cursors_of h s) h2)

abbrev pub with_cursors : State → ℕ → List Cursor → State
with_cursors h s cursors = record h {
  sessions = set h.sessions (s - 1) (record (session_of h s) { cursors = cursors });
}

-- the session with a transaction that reads so
abbrev pub with_isolation : State → ℕ → Isolation → State
with_isolation h s isolation = record h {
  sessions = set h.sessions (s - 1) (record (session_of h s) { isolation = isolation });
}

-- the session with these savepoints
abbrev pub with_savepoints : State → ℕ → List Savepoint → State
with_savepoints h s savepoints = record h {
  sessions = set h.sessions (s - 1) (record (session_of h s) { savepoints = savepoints });
}

-- the savepoints with one set behind so many changes, after all others: a name that is set again moves
abbrev pub with_savepoint : List ℕ → ℕ → List Savepoint → List Savepoint
with_savepoint name kept savepoints = without_savepoint name savepoints ++ record { name = name; kept = kept } ∷ []

-- the savepoints up to the one of that name
abbrev pub up_to : List ℕ → List Savepoint → List Savepoint
up_to name [] = []
up_to name (p ∷ savepoints) = cond (bytes_eq p.name name) (p ∷ []) (p ∷ up_to name savepoints)

-- The session with so many changes of its transaction: those behind them are put back, which frees what they hold, the
-- later savepoints are erased, and the cursors that see more are closed. It keeps its slot.
abbrev pub rolled_to : State → ℕ → List ℕ → ℕ → State
rolled_to h s name kept = record h {
  sessions = set h.sessions (s - 1) (record (session_of h s) {
    own = take kept (session_own h s);
    savepoints = up_to name (session_of h s).savepoints;
    cursors = left_open kept (cursors_of h s);
  });
}

-- a cursor as it is opened
abbrev pub opened_cursor : State → ℕ → List ℕ → ℕ → ℕ → ℕ → Cursor
opened_cursor h s name table lo hi = record {
  name = name;
  table = table;
  lo = lo;
  hi = hi;
  number = snapshot_at (last_scn h.commits) (isolation_of h s);
  own = session_own h s;
  taken = 0;
  present = true;
}

-- the cursors with one more row taken at the first of that name, and without it
abbrev pub with_taken : List ℕ → List Cursor → List Cursor
with_taken name [] = []
with_taken name (c ∷ cursors) =
    cond (bytes_eq c.name name) (record c { taken = suc c.taken } ∷ cursors) (c ∷ with_taken name cursors)

abbrev pub without_cursor : List ℕ → List Cursor → List Cursor
without_cursor name [] = []
without_cursor name (c ∷ cursors) = cond (bytes_eq c.name name) cursors (c ∷ without_cursor name cursors)

-- after a call that did what it was asked for
abbrev pub AfterGrant : State → Call → State → Type 0
AfterGrant h (Write s table key action) h2 =
    (g : ℕ) × (i : ℕ) × WritesIn h s g i × (h2 ≡ written h s g i (change_in h g table key action))
AfterGrant h (Commit s) h2 = CommitsAs h s all_safe h2
AfterGrant h (CommitLater s) h2 = CommitsAs h s (λ h. h) h2
AfterGrant h (Rollback s) h2 = EndsAs h s (left_open 0 (cursors_of h s)) h2
AfterGrant h (SetMode s mode) h2 = h2 ≡ with_isolation h s (isolation_at (last_scn h.commits) mode)
AfterGrant h (SetSavepoint s name) h2 =
    h2 ≡ with_savepoints h s (with_savepoint name (length (session_own h s)) (session_of h s).savepoints)
AfterGrant h (RollbackTo s name) h2 =
    (p : Savepoint) × (savepoint_of h s name ≡ Some p) × (h2 ≡ rolled_to h s name p.kept)
AfterGrant h (OpenCursor s name table lo hi) h2 =
    h2 ≡ with_cursors h s (cursors_of h s ++ opened_cursor h s name table lo hi ∷ [])
AfterGrant h (Fetch s name) h2 = h2 ≡ with_cursors h s (with_taken name (cursors_of h s))
AfterGrant h (CloseCursor s name) h2 = h2 ≡ with_cursors h s (without_cursor name (cursors_of h s))
AfterGrant h (Get s table key) h2 = h2 ≡ h
AfterGrant h (Cancel s) h2 = h2 ≡ unqueued h s
AfterGrant h (Marks seg) h2 = h2 ≡ h
AfterGrant h (Show s) h2 = h2 ≡ h
AfterGrant h Flush h2 = h2 ≡ all_safe h
AfterGrant h (Sweep k) h2 = h2 ≡ swept k (all_slots h) h
AfterGrant h Checkpoint h2 = h2 ≡ all_safe h

-- after a call that has to wait for that session: a write
abbrev pub AfterWait : State → Call → ℕ → State → Type 0
AfterWait h (Write s table key action) on h2 =
    h2 ≡ queued h s (record { table = table; key = key; action = action }) on
AfterWait h call on h2 = h2 ≡ h

-- After a call with that answer. A refusal changes nothing, but a fault of the disk stops.
abbrev pub After : State → Call → Answer → State → Type 0
After h call Done h2 = AfterGrant h call h2
After h call (Waits on) h2 = AfterWait h call on h2
After h call (Committed n) h2 = AfterGrant h call h2
After h call (Numbered n) h2 = AfterGrant h call h2
After h call (Flushed n) h2 = AfterGrant h call h2
After h call (Swept n) h2 = AfterGrant h call h2
After h call (Given key value) h2 = AfterGrant h call h2
After h call End h2 = h2 ≡ h
After h call Absent h2 = h2 ≡ h
After h call (Marked seg writes lost) h2 = h2 ≡ h
After h call (Shown s activity) h2 = h2 ≡ h
After h call Idle h2 = h2 ≡ h
After h call (Refused why) h2 = h2 ≡ (if is_disk_fault why then record h { stopped = true } else h)

-- How many groups a call with that answer gives the log: a write that is done one; a commit with changes one; the end
-- of a transaction without one, one for each change that is put back and one for its slot; a rollback to a savepoint
-- one for each change that is put back; a sweep one for each change, and one for each slot that it ends.
abbrev pub Ends : State → ℕ → ℕ → ℕ → Type 0
Ends h s back n =
    ((g : ℕ) × (i : ℕ) × Owned h s g i × (n ≡ back + 1)) ⊎ (HasNoSlot h s × (n ≡ 0))

abbrev pub CommitGrows : State → ℕ → ℕ → Type 0
CommitGrows h s n = ((is_empty (session_own h s) ≡ false) × (n ≡ 1))
    ⊎ ((is_empty (session_own h s) ≡ true) × Ends h s 0 n)

abbrev pub GrowsBy : State → Call → ℕ → Type 0
GrowsBy h (Write s table key action) n = n ≡ 1
GrowsBy h (Commit s) n = CommitGrows h s n
GrowsBy h (CommitLater s) n = CommitGrows h s n
GrowsBy h (Rollback s) n = Ends h s (length (session_own h s)) n
GrowsBy h (SetMode s mode) n = n ≡ 0
GrowsBy h (SetSavepoint s name) n = n ≡ 0
GrowsBy h (RollbackTo s name) n =
    (p : Savepoint) × (savepoint_of h s name ≡ Some p) × (n ≡ length (session_own h s) - p.kept)
GrowsBy h (OpenCursor s name table lo hi) n = n ≡ 0
GrowsBy h (Fetch s name) n = n ≡ 0
GrowsBy h (CloseCursor s name) n = n ≡ 0
GrowsBy h (Get s table key) n = n ≡ 0
GrowsBy h (Cancel s) n = n ≡ 0
GrowsBy h (Marks seg) n = n ≡ 0
GrowsBy h (Show s) n = n ≡ 0
GrowsBy h Flush n = n ≡ 0
GrowsBy h (Sweep k) n = n ≡ dead_owed h - dead_owed (swept k (all_slots h) h)
GrowsBy h Checkpoint n = n ≡ 0

-- A fetch may clean the blocks that it reads, by one group each: so it gives the log any number of groups up to the
-- blocks of a table. A read of one key may clean its block. No other call that only reads gives the log a group.
abbrev pub ReadsBy : State → Call → ℕ → Type 0
ReadsBy h (Fetch s name) n = n ≤ h.shape.blocks
ReadsBy h (Get s table key) n = n ≤ 1
ReadsBy h call n = n ≡ 0

-- One that is refused has read only where it is too old.
abbrev pub RefusedBy : State → Call → Refusal → ℕ → Type 0
RefusedBy h call (TooOld scn lost) n = ReadsBy h call n
RefusedBy h call why n = n ≡ 0

abbrev pub Grows : State → Call → Answer → ℕ → Type 0
Grows h call Done n = GrowsBy h call n
Grows h call (Committed m) n = GrowsBy h call n
Grows h call (Numbered m) n = GrowsBy h call n
Grows h call (Flushed m) n = GrowsBy h call n
Grows h call (Swept m) n = GrowsBy h call n
Grows h call (Waits on) n = n ≡ 0
Grows h call (Given key value) n = ReadsBy h call n
Grows h call End n = ReadsBy h call n
Grows h call Absent n = ReadsBy h call n
Grows h call (Marked seg writes lost) n = n ≡ 0
Grows h call (Shown s activity) n = n ≡ 0
Grows h call Idle n = n ≡ 0
Grows h call (Refused why) n = RefusedBy h call why n
