-- The state that the sessions share, as the abstract machine sees it: commits, sessions, the books of the segments that
-- keep what was before their changes, and the queue of those that wait for one another.
use Rattle.std.specs.Prelude.{ℕ, ◌-◌, ◌/◌, ◌%◌, ◌++◌, Bool, false, ◌&&◌, nat_le, List, [], length}
use Rattle.std.specs.Prelude.{replicate, get_or, find, Option, None}
use Rattle.std.specs.Str.{bytes_eq}
use Rattle.rb_base.specs.declared.shape.Shape.{Shape}
use Rattle.rb_model.specs.Book.{Owner, Book, book_at, slot_owner}
use Rattle.rb_model.specs.Change.{Asked, Change}
use Rattle.rb_model.specs.Queue.{Waiter, is_queued}
use Rattle.rb_model.specs.Rows.{Commits, TableRow, answer, last_scn}
use Rattle.rb_model.specs.declared.mode.Isolation.{Isolation}
use Rattle.rb_model.specs.declared.mode.Isolation.TheVariants.{ReadCommitted}

pub record Cursor : Type 0 where
  pub name : List ℕ
  pub table : ℕ
  pub lo : ℕ
  pub hi : ℕ
  -- its snapshot
  pub number : ℕ
  -- its transaction's changes as it was opened
  pub own : List Change
  -- how many rows it has given
  pub taken : ℕ
  -- whether it was opened in the present transaction
  pub present : Bool

-- a position in a transaction's live changes, under a name
pub record Savepoint : Type 0 where
  pub name : List ℕ
  -- how many live changes there were as it was set
  pub kept : ℕ

pub record Session : Type 0 where
  -- how its transaction reads
  pub isolation : Isolation
  -- the live changes of its transaction, oldest first
  pub own : List Change
  -- its transaction's savepoints, in order of setting
  pub savepoints : List Savepoint
  -- its open cursors, in order of opening
  pub cursors : List Cursor

pub record State : Type 0 where
  pub shape : Shape
  pub commits : Commits
  -- Numbered from 1: the sixteen that calls name, and behind them each transaction that had a table slot as the file
  -- was opened.
  pub sessions : List Session
  -- one for each segment, numbered from 0
  pub books : List Book
  -- who waits or is ready, in order of arrival
  pub queue : List Waiter
  -- the write with which each session waits, or has waited last
  pub asked : List (Option Asked)
  -- the number up to which commits are acknowledged: each of these is in the file, whatever happens
  pub safe : ℕ
  -- a call has answered that the disk failed
  pub stopped : Bool

-- how many sessions there are
abbrev pub session_count : ℕ
session_count = 16

abbrev pub no_session : Session
no_session = record { isolation = ReadCommitted; own = []; savepoints = []; cursors = [] }

-- there is a session of this number, which a call may name
abbrev pub is_session : ℕ → Bool
is_session s = nat_le 1 s && nat_le s session_count

abbrev pub session_of : State → ℕ → Session
session_of h s = get_or h.sessions (s - 1) no_session

-- the live changes of the session of that number
abbrev pub session_own : State → ℕ → List Change
session_own h s = (session_of h s).own

-- the session with these changes in the place of its own
abbrev pub with_changes : State → ℕ → List Change → Session
with_changes h s own = record (session_of h s) { own = own }

-- how its transaction reads
abbrev pub isolation_of : State → ℕ → Isolation
isolation_of h s = (session_of h s).isolation

-- the session waits, or is ready
abbrev pub is_waiting : State → ℕ → Bool
is_waiting h s = is_queued s h.queue

-- the write with which it does
abbrev pub asked_of : State → ℕ → Option Asked
asked_of h s = get_or h.asked (s - 1) None

-- who has table slot t, the slots of all segments counted in order
abbrev pub owner_at : State → ℕ → Option Owner
owner_at h t = slot_owner (book_at h.books (t / 16)) (t % 16)

-- there is a table of this number
abbrev pub is_table : State → ℕ → Bool
is_table h table = nat_le 1 table && nat_le table h.shape.tables

-- the session's open cursor of that name
abbrev pub cursor_of : State → ℕ → List ℕ → Option Cursor
cursor_of h s name = find (λ cursor. bytes_eq cursor.name name) (session_of h s).cursors

-- the savepoint of that name
abbrev pub savepoint_named : List ℕ → List Savepoint → Option Savepoint
savepoint_named name savepoints = find (λ savepoint. bytes_eq savepoint.name name) savepoints

abbrev pub savepoint_of : State → ℕ → List ℕ → Option Savepoint
savepoint_of h s name = savepoint_named name (session_of h s).savepoints

-- the rows that a cursor answers, in the order in which it gives them
abbrev pub cursor_rows : State → Cursor → List TableRow
cursor_rows h cursor =
    answer h.shape.blocks h.commits cursor.table cursor.lo cursor.hi cursor.number cursor.own

-- all commits are acknowledged
abbrev pub all_safe : State → State
all_safe h = record h { safe = last_scn h.commits }

-- The state that a file of that commit number, these rows, these books and these dead transactions opens to: the rows
-- are the base, and nothing of the sixteen sessions is under way.
abbrev pub opened : Shape → ℕ → List TableRow → List Book → List Session → State
opened shape number rows books dead = record {
  shape = shape;
  commits = record { base = number; rows = rows; list = [] };
  sessions = replicate session_count no_session ++ dead;
  books = books;
  queue = [];
  asked = replicate session_count None;
  safe = number;
  stopped = false;
}
