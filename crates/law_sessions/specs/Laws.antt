-- What holds of a table of sessions that remembers a state for which blocks stand.
use Rattle.std.specs.Prelude.{◌≡◌, ◌<◌, ◌≤◌, ℕ, true, List, [], ◌∷◌, ◌++◌}
use Rattle.std.specs.Prelude.{length, replicate, Option, Some, None}
use Rattle.rb_base.specs.Blocks.{home_block}
use Rattle.rb_base.specs.declared.ids.Xid.{Xid}
use Rattle.law_crash.specs.Made.{KeepsIds}
use Rattle.rb_model.specs.Book.{Book, book_at}
use Rattle.rb_model.specs.Change.{Asked}
use Rattle.rb_model.specs.Isolation.{isolation_at, snapshot_at}
use Rattle.rb_model.specs.Late.{late}
use Rattle.rb_model.specs.Queue.{Waiter}
use Rattle.rb_model.specs.Calls.{Action, End, Given, HasNoSlot, WritesIn, next_row}
use Rattle.rb_model.specs.NextState.{EndsAs, change_in, cursors_of, left_open, opened_cursor, rolled_to, with_cursors}
use Rattle.rb_model.specs.NextState.{with_isolation, with_savepoint, with_savepoints, with_taken, without_cursor}
use Rattle.rb_model.specs.NextState.{written}
use Rattle.rb_model.specs.NextState as machine
use Rattle.rb_model.specs.Rows.{TableRow, last_scn}
use Rattle.rb_model.specs.State as model
use Rattle.rb_model.specs.State.{Session, State, cursor_of, is_table, opened, session_count, session_of, session_own}
use Rattle.rb_model.specs.declared.mode.Mode.{Mode}
use Rattle.rb_base.specs.declared.shape.Shape.{Shape}
use Rattle.law_read.specs.Copies.{IsTold}
use Rattle.law_read.specs.Late.{late_above}
use Rattle.law_read.specs.Reading.{Reading, answer}
use Rattle.rb_sessions.specs.Kept as kept
use Rattle.rb_sessions.specs.Kept.{KeptSession, fresh, kept_at, named, with_cursor, with_kept, with_last, without}
use Rattle.rb_sessions.specs.declared.cursor.Cursor.{Cursor}
use Rattle.rb_sessions.specs.declared.sessions.TheConstants.{SESSIONS}
use Rattle.law_blocks.specs.Standing.{env_of, homes_of}
use Rattle.law_blocks.specs.States.{BlocksStand}
use Rattle.law_write.specs.Verdict.{IsOwnId}
use Rattle.law_sessions.specs.Scan.{IsNextIn, NoneIn}
use Rattle.law_sessions.specs.Views.{IsCursor, Remembers, history, home_in}
use Rattle.law_home.specs.Walk.{Env, Rows}

-- A new table remembers the state that a file opens to, where none of the sixteen sessions has a slot.
abbrev pub FirstIsRemembered : Type 0
FirstIsRemembered = (shape : Shape) (number : ℕ) (rows : List TableRow) (books : List Book) (dead : List Session)
    (env : Env) → ((s : ℕ) → s ≤ session_count → HasNoSlot (opened shape number rows books dead) s)
    → Remembers (opened shape number rows books dead) [] env (replicate SESSIONS fresh)

-- A write of session s that is done, after which its transaction has the id x.
abbrev pub WrittenIsRemembered : Type 0
WrittenIsRemembered = (h : State) (xids : List Xid) (blocks now : List (List ℕ)) (table_of : List KeptSession)
    (s g i table key : ℕ) (action : Action) (x : Xid)
    → BlocksStand h xids blocks → Remembers h xids (env_of h.shape blocks) table_of → 1 ≤ s → s ≤ SESSIONS
    → WritesIn h s g i
    → BlocksStand (written h s g i (change_in h g table key action)) xids now
    → IsOwnId (written h s g i (change_in h g table key action)) (env_of h.shape now) s (Some x)
    → KeepsIds h (env_of h.shape blocks) (env_of h.shape now)
    → Remembers (written h s g i (change_in h g table key action)) xids (env_of h.shape now)
    (with_kept table_of s (kept.wrote x (kept_at table_of s)))

-- A commit of session s, whose transaction has the id x.
abbrev pub CommittedIsRemembered : Type 0
CommittedIsRemembered = (h : State) (xids : List Xid) (blocks now : List (List ℕ)) (table_of : List KeptSession)
    (s : ℕ) (x : Xid)
    → BlocksStand h xids blocks → Remembers h xids (env_of h.shape blocks) table_of → 1 ≤ s → s ≤ SESSIONS
    → (kept_at table_of s).own ≡ Some x
    → KeepsIds h (env_of h.shape blocks) (env_of h.shape now)
    → Remembers (machine.freeing (machine.committed h s x.seg x.slot) s) (xids ++ x ∷ []) (env_of h.shape now)
    (with_kept table_of s (kept.committed (kept_at table_of s)))

-- The end of a transaction of session s without changes, whose cursors stay open.
abbrev pub EndedIsRemembered : Type 0
EndedIsRemembered = (h h2 : State) (xids : List Xid) (blocks now : List (List ℕ)) (table_of : List KeptSession)
    (s : ℕ)
    → BlocksStand h xids blocks → Remembers h xids (env_of h.shape blocks) table_of → 1 ≤ s → s ≤ SESSIONS
    → session_own h s ≡ [] → EndsAs h s (cursors_of h s) h2
    → KeepsIds h (env_of h.shape blocks) (env_of h.shape now)
    → Remembers h2 xids (env_of h.shape now) (with_kept table_of s (kept.committed (kept_at table_of s)))

-- A rollback of session s.
abbrev pub RolledBackIsRemembered : Type 0
RolledBackIsRemembered = (h h2 : State) (xids : List Xid) (blocks now : List (List ℕ))
    (table_of : List KeptSession) (s : ℕ)
    → BlocksStand h xids blocks → Remembers h xids (env_of h.shape blocks) table_of → 1 ≤ s → s ≤ SESSIONS
    → EndsAs h s (left_open 0 (cursors_of h s)) h2
    → KeepsIds h (env_of h.shape blocks) (env_of h.shape now)
    → Remembers h2 xids (env_of h.shape now) (with_kept table_of s (kept.rolled_back (kept_at table_of s)))

-- Another queue, other writes that sessions wait with, and other commits acknowledged.
abbrev pub QueueIsRemembered : Type 0
QueueIsRemembered = (h : State) (queue : List Waiter) (asked : List (Option Asked)) (safe : ℕ) (xids : List Xid)
    (env : Env)
    (table_of : List KeptSession) → Remembers h xids env table_of
    → Remembers (record h { queue = queue; asked = asked; safe = safe }) xids env table_of

-- A write that session s waits with.
abbrev pub HeldIsRemembered : Type 0
HeldIsRemembered = (h : State) (xids : List Xid) (env : Env) (table_of : List KeptSession) (s : ℕ) (asked : Asked)
    → 1 ≤ s → s ≤ SESSIONS → Remembers h xids env table_of
    → Remembers h xids env (with_kept table_of s (kept.holding asked (kept_at table_of s)))

-- A mode that session s sets, by what it means now.
abbrev pub IsolatedIsRemembered : Type 0
IsolatedIsRemembered = (h : State) (xids : List Xid) (env : Env) (table_of : List KeptSession) (s : ℕ) (mode : Mode)
    → Remembers h xids env table_of → 1 ≤ s → s ≤ SESSIONS
    → Remembers (with_isolation h s (isolation_at (last_scn h.commits) mode)) xids env
    (with_kept table_of s (kept.isolated (isolation_at (last_scn h.commits) mode) (kept_at table_of s)))

-- the cursor in memory that session s opens now
abbrev pub cursor_opened : State → KeptSession → ℕ → ℕ → ℕ → Cursor
cursor_opened h k table lo hi = record {
  table = table;
  lo = lo;
  hi = hi;
  scn = snapshot_at (last_scn h.commits) k.isolation;
  own = k.own;
  upto = k.count;
  last = None;
  present = true;
}

abbrev pub OpenedIsRemembered : Type 0
OpenedIsRemembered = (h : State) (xids : List Xid) (blocks : List (List ℕ)) (table_of : List KeptSession)
    (s : ℕ) (name : List ℕ) (table lo hi : ℕ)
    → BlocksStand h xids blocks → Remembers h xids (env_of h.shape blocks) table_of → 1 ≤ s → s ≤ SESSIONS
    → is_table h table ≡ true
    → Remembers (with_cursors h s (cursors_of h s ++ opened_cursor h s name table lo hi ∷ [])) xids
    (env_of h.shape blocks)
    (with_kept table_of s (with_cursor name (cursor_opened h (kept_at table_of s) table lo hi) (kept_at table_of s)))

-- A savepoint of session s set now.
abbrev pub SavepointIsRemembered : Type 0
SavepointIsRemembered = (h : State) (xids : List Xid) (env : Env) (table_of : List KeptSession) (s : ℕ)
    (name : List ℕ)
    → Remembers h xids env table_of → 1 ≤ s → s ≤ SESSIONS
    → Remembers
    (with_savepoints h s (with_savepoint name (length (session_own h s)) (session_of h s).savepoints)) xids env
    (with_kept table_of s (kept.with_savepoint name (kept_at table_of s)))

-- A rollback of session s to a savepoint that keeps so many changes.
abbrev pub CutIsRemembered : Type 0
CutIsRemembered = (h : State) (xids : List Xid) (blocks now : List (List ℕ)) (table_of : List KeptSession) (s : ℕ)
    (name : List ℕ) (first : ℕ)
    → BlocksStand h xids blocks → Remembers h xids (env_of h.shape blocks) table_of → 1 ≤ s → s ≤ SESSIONS
    → KeepsIds h (env_of h.shape blocks) (env_of h.shape now)
    → Remembers (rolled_to h s name first) xids (env_of h.shape now)
    (with_kept table_of s (kept.rolled_to name first (kept_at table_of s)))

abbrev pub ClosedIsRemembered : Type 0
ClosedIsRemembered = (h : State) (xids : List Xid) (env : Env) (table_of : List KeptSession) (s : ℕ)
    (name : List ℕ)
    → Remembers h xids env table_of → 1 ≤ s → s ≤ SESSIONS
    → Remembers (with_cursors h s (without_cursor name (cursors_of h s))) xids env
    (with_kept table_of s (kept.with_cursors (kept_at table_of s) (without name (kept_at table_of s).cursors)))

-- The cursor of a name is in memory exactly where it is in the machine, and there are as many cursors in both.
abbrev pub CursorIsNamed : Type 0
CursorIsNamed = (h : State) (xids : List Xid) (env : Env) (table_of : List KeptSession) (s : ℕ) (name : List ℕ)
    → Remembers h xids env table_of → 1 ≤ s → s ≤ SESSIONS
    → (named name (kept_at table_of s).cursors ≡ None → cursor_of h s name ≡ None)
    × ((m : Cursor) → named name (kept_at table_of s).cursors ≡ Some m → (c : model.Cursor)
    × (cursor_of h s name ≡ Some c) × IsCursor h xids env s (record { name = name; cursor = m }) c)
    × (length (kept_at table_of s).cursors ≡ length (cursors_of h s))

-- Block g of a cursor's table may be read at its snapshot.
abbrev pub CursorReads : Type 0
CursorReads = (h : State) (xids : List Xid) (blocks : List (List ℕ)) (s : ℕ) (name : List ℕ) (m : Cursor)
    (c : model.Cursor) (g : ℕ)
    → BlocksStand h xids blocks → IsCursor h xids (env_of h.shape blocks) s (record { name = name; cursor = m }) c
    → 1 ≤ s → g < h.shape.blocks
    → Reading (env_of h.shape blocks) (history h xids blocks (home_in h.shape m.table g) m.own) m.own m.upto m.scn
    (homes_of h.shape blocks (home_in h.shape m.table g))

-- And there the state tells of its transaction: changes are numbered from 1, and where the transaction goes on and the
-- cursor sees changes of it, it has the reader's slot and made no commit above its snapshot.
abbrev pub CursorIsTold : Type 0
CursorIsTold = (h : State) (xids : List Xid) (blocks : List (List ℕ)) (s : ℕ) (name : List ℕ) (m : Cursor)
    (c : model.Cursor) (g : ℕ)
    → BlocksStand h xids blocks → IsCursor h xids (env_of h.shape blocks) s (record { name = name; cursor = m }) c
    → 1 ≤ s → g < h.shape.blocks
    → IsTold (env_of h.shape blocks) (history h xids blocks (home_in h.shape m.table g) m.own) m.own m.upto m.scn

-- the rows of block g of a cursor's table, as it sees them
abbrev pub rows_seen : State → List Xid → List (List ℕ) → Cursor → ℕ → Rows
rows_seen h xids blocks m g =
    answer (history h xids blocks (home_in h.shape m.table g) m.own) m.own m.upto m.scn

-- The least key behind the last one, in the first home that has one, is the cursor's next row.
abbrev pub FetchGives : Type 0
FetchGives = (h : State) (xids : List Xid) (blocks : List (List ℕ)) (s : ℕ) (name : List ℕ) (m : Cursor)
    (c : model.Cursor) (g key : ℕ) (value : List ℕ)
    → BlocksStand h xids blocks → IsCursor h xids (env_of h.shape blocks) s (record { name = name; cursor = m }) c
    → 1 ≤ s → g < h.shape.blocks
    → ((f : ℕ) → f < g → NoneIn h.shape.blocks m.lo m.hi m.last (rows_seen h xids blocks m f) f)
    → IsNextIn h.shape.blocks m.lo m.hi m.last (rows_seen h xids blocks m g) g key value
    → next_row h (Some c) ≡ Given key value

-- And the table remembers that it was given.
abbrev pub TakenIsRemembered : Type 0
TakenIsRemembered = (h : State) (xids : List Xid) (blocks : List (List ℕ)) (table_of : List KeptSession) (s : ℕ)
    (name : List ℕ) (m : Cursor) (g key : ℕ) (value : List ℕ)
    → BlocksStand h xids blocks → Remembers h xids (env_of h.shape blocks) table_of → 1 ≤ s → s ≤ SESSIONS
    → named name (kept_at table_of s).cursors ≡ Some m → g < h.shape.blocks
    → ((f : ℕ) → f < g → NoneIn h.shape.blocks m.lo m.hi m.last (rows_seen h xids blocks m f) f)
    → IsNextIn h.shape.blocks m.lo m.hi m.last (rows_seen h xids blocks m g) g key value
    → Remembers (with_cursors h s (with_taken name (cursors_of h s))) xids (env_of h.shape blocks)
    (with_kept table_of s (kept.with_cursors (kept_at table_of s) (with_last name key (kept_at table_of s).cursors)))

-- Where no home has one, all rows are given.
abbrev pub FetchEnds : Type 0
FetchEnds = (h : State) (xids : List Xid) (blocks : List (List ℕ)) (s : ℕ) (name : List ℕ) (m : Cursor)
    (c : model.Cursor)
    → BlocksStand h xids blocks → IsCursor h xids (env_of h.shape blocks) s (record { name = name; cursor = m }) c
    → 1 ≤ s
    → ((g : ℕ) → g < h.shape.blocks → NoneIn h.shape.blocks m.lo m.hi m.last (rows_seen h xids blocks m g) g)
    → next_row h (Some c) ≡ End

-- The home of a key may be read at each number since the file was opened, without changes of the reader's own: so a
-- write reads it at its transaction's snapshot.
abbrev pub WriteReads : Type 0
WriteReads = (h : State) (xids : List Xid) (blocks : List (List ℕ)) (table key n : ℕ)
    → BlocksStand h xids blocks → 1 ≤ table → table ≤ h.shape.tables
    → h.commits.base ≤ n → n ≤ last_scn h.commits
    → Reading (env_of h.shape blocks) (history h xids blocks (home_block h.shape table key) None) None 0 n
    (homes_of h.shape blocks (home_block h.shape table key))

-- The first commit above such a number that changed the key there is the first one that changed the key of that table.
abbrev pub LateIsMachines : Type 0
LateIsMachines = (h : State) (xids : List Xid) (blocks : List (List ℕ)) (table key n : ℕ)
    → BlocksStand h xids blocks → 1 ≤ table → table ≤ h.shape.tables
    → h.commits.base ≤ n → n ≤ last_scn h.commits
    → late_above n key (history h xids blocks (home_block h.shape table key) None).list ≡ late h.commits n table key

-- What a segment lost is what its book says; one that there isn't lost nothing.
abbrev pub LostIsBooks : Type 0
LostIsBooks = (h : State) (xids : List Xid) (blocks : List (List ℕ)) (seg n : ℕ)
    → BlocksStand h xids blocks → n < (env_of h.shape blocks).lost seg
    → (seg < length h.books) × ((book_at h.books seg).lost ≡ (env_of h.shape blocks).lost seg)
