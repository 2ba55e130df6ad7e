-- What a table of sessions is to the machine's state, by what the segments of its blocks say.
use Rattle.std.specs.Prelude.{◌≡◌, ◌<◌, ◌≤◌, ◌+◌, ◌*◌, ◌-◌, ℕ, true}
use Rattle.std.specs.Prelude.{List, [], ◌∷◌, length, map, take, get_or, Option, Some, None}
use Rattle.rb_base.specs.declared.ids.Xid.{Xid}
use Rattle.rb_base.specs.declared.shape.Shape.{Shape}
use Rattle.rb_model.specs.Isolation.{snapshot_at}
use Rattle.rb_model.specs.Next.{given_count}
use Rattle.rb_model.specs.Rows.{Commits, last_scn}
use Rattle.rb_model.specs.State as machine
use Rattle.rb_model.specs.State.{State, cursor_rows, isolation_of, session_of, session_own}
use Rattle.rb_model.specs.declared.mode.Isolation.{Isolation}
use Rattle.law_read.specs.Keeping.{kept_room}
use Rattle.law_read.specs.Reading.{History}
use Rattle.rb_sessions.specs.Kept.{KeptCursor, KeptSession, kept_at}
use Rattle.rb_sessions.specs.declared.cursor.Cursor.{Cursor}
use Rattle.rb_sessions.specs.declared.sessions.TheConstants.{SESSIONS}
use Rattle.law_blocks.specs.Standing.{env_of}
use Rattle.law_blocks.specs.States.{Owns, lives_of, no_xid, past_of}
use Rattle.law_blocks.specs.Values.{rows_here}
use Rattle.law_write.specs.Verdict.{IsOwnId}
use Rattle.law_home.specs.Homes.{here, narrow}
use Rattle.law_home.specs.Walk.{Env}

-- Which changes of its session's transaction a cursor sees: none; or the first ones of those that are live, where it
-- was opened in the present transaction; or the first ones of a commit above its snapshot.
pub data Frozen (h : State) (xids : List Xid) (env : Env) (s : ℕ) (m : Cursor) (c : machine.Cursor) : Type 0 where
  none : m.upto ≡ 0 → Frozen h xids env s m c
  live : (t : ℕ) → m.present ≡ true → Owns h s t → m.own ≡ Some (env.xid t)
      → c.own ≡ take m.upto (session_own h s) → Frozen h xids env s m c
  done : (i : ℕ) → i < length h.commits.list → c.number ≤ h.commits.base + i
      → m.own ≡ Some (get_or xids i no_xid) → c.own ≡ take m.upto (get_or h.commits.list i [])
      → Frozen h xids env s m c

-- a cursor of session s, in memory and in the machine
pub record IsCursor (h : State) (xids : List Xid) (env : Env) (s : ℕ) (m : KeptCursor) (c : machine.Cursor)
    : Type 0 where
  pub name : m.name ≡ c.name
  pub table : m.cursor.table ≡ c.table
  pub lo : m.cursor.lo ≡ c.lo
  pub hi : m.cursor.hi ≡ c.hi
  pub number : m.cursor.scn ≡ c.number
  pub present : m.cursor.present ≡ c.present
  pub in_tables : (1 ≤ c.table) × (c.table ≤ h.shape.tables)
  pub above : h.commits.base ≤ c.number
  pub below : c.number ≤ h.commits.base + length h.commits.list
  pub upto : m.cursor.upto ≡ length c.own
  -- as many changes as a transaction has at most
  pub few : m.cursor.upto ≤ kept_room
  pub frozen : Frozen h xids env s m.cursor c
  pub taken : c.taken ≡ given_count h.shape.blocks m.cursor.last (cursor_rows h c)

-- the cursors of a session one by one, in order of opening
abbrev pub AreCursors : State → List Xid → Env → ℕ → List KeptCursor → List machine.Cursor → Type 0
AreCursors h xids env s [] [] = Unit {0}
AreCursors h xids env s (m ∷ kept) (c ∷ cursors) = IsCursor h xids env s m c
    × AreCursors h xids env s kept cursors
AreCursors h xids env s [] (c ∷ cursors) = ⊥
AreCursors h xids env s (m ∷ kept) [] = ⊥

-- the snapshot of a query that is opened now is of the commits since the file was opened
abbrev pub IsSnapshot : Commits → Isolation → Type 0
IsSnapshot commits isolation = (commits.base ≤ snapshot_at (last_scn commits) isolation)
    × (snapshot_at (last_scn commits) isolation ≤ last_scn commits)

-- session s: its transaction reads in the same way, its id is that of the table slot that the session owns, and it has
-- as many live changes and the same savepoints
pub record IsSession (h : State) (xids : List Xid) (env : Env) (s : ℕ) (k : KeptSession) : Type 0 where
  pub isolation : k.isolation ≡ isolation_of h s
  pub snapshot : IsSnapshot h.commits k.isolation
  pub id : IsOwnId h env s k.own
  pub count : k.count ≡ length (session_own h s)
  pub savepoints : k.savepoints ≡ (session_of h s).savepoints
  pub cursors : AreCursors h xids env s k.cursors (session_of h s).cursors

-- The table knows each session of the state that a call can name. The commits have these ids. Behind those sessions
-- there may be others, of transactions that ended with an earlier run.
pub record Remembers (h : State) (xids : List Xid) (env : Env) (kept : List KeptSession) : Type 0 where
  pub counted : length kept ≡ SESSIONS
  pub as_many : SESSIONS ≤ length h.sessions
  pub each : (s : ℕ) → 1 ≤ s → s ≤ SESSIONS → IsSession h xids env s (kept_at kept s)

-- the table slot of a reader's transaction, counted over all segments
abbrev pub reader_slot : Option Xid → ℕ
reader_slot None = 0
reader_slot (Some x) = 16 * x.seg + x.slot

-- block g of a table, which are numbered from 1
abbrev pub home_in : Shape → ℕ → ℕ → ℕ
home_in shape table g = (table - 1) * shape.blocks + g

-- what home b stands for to such a reader
abbrev pub history : State → List Xid → List (List ℕ) → ℕ → Option Xid → History
history h xids blocks b own = record {
  base = h.commits.base;
  rows = rows_here h.shape b h.commits.rows;
  list = map (narrow b) (past_of h xids).list;
  lives = map (here b) (lives_of h (env_of h.shape blocks));
  reader = reader_slot own;
}
