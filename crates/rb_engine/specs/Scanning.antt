-- What a search for a cursor's next row finds, home by home.
use Rattle.std.specs.Prelude.{◌≡◌, ◌≢◌, ◌<◌, ◌≤◌, ◌%◌, ℕ, true, List}
use Rattle.std.specs.Prelude.{Option, None, Some, Result, Ok, Err}
use Rattle.rb_base.specs.declared.ids.Xid.{Xid}
use Rattle.rb_base.specs.declared.store.Store.{Ghosts}
use Rattle.rb_cr.specs.Faults.{Because}
use Rattle.rb_cr.specs.declared.faults.CrFault.{CrFault}
use Rattle.rb_engine.specs.Does.{EngineView, Kept}
use Rattle.rb_cr.specs.declared.faults.CrFault.TheVariants as faults
use Rattle.rb_model.specs.Isolation.{snapshot_at}
use Rattle.rb_model.specs.State as machine
use Rattle.rb_model.specs.State.{State}
use Rattle.rb_model.specs.Tests.{holder}
use Rattle.rb_model.specs.declared.row.Fetched.{Fetched}
use Rattle.rb_model.specs.declared.row.Fetched.TheVariants as fetched
use Rattle.rb_model.specs.declared.row.Row.{Row}
use Rattle.rb_sessions.specs.declared.cursor.Cursor.{Cursor}
use Rattle.law_read.specs.Reading.{Worn}
use Rattle.rb_sessions.specs.Kept.{kept_at, named}
use Rattle.law_blocks.specs.Standing.{env_of, homes_of}
use Rattle.law_blocks.specs.States.{BlocksStand}
use Rattle.rb_steps.specs.Steps.{NotOthers}
use Rattle.law_sessions.specs.Laws.{rows_seen}
use Rattle.law_sessions.specs.Scan.{IsNextIn, NoneIn}
use Rattle.law_sessions.specs.Views.{IsCursor, history, home_in}

-- a cursor as a session opens it now, by what the engine has in memory
abbrev pub opened_now : Kept → (s table lo hi : ℕ) → Cursor
opened_now kept s table lo hi = record {
  table = table;
  lo = lo;
  hi = hi;
  scn = snapshot_at kept.scn (kept_at kept.sessions s).isolation;
  own = (kept_at kept.sessions s).own;
  upto = (kept_at kept.sessions s).count;
  last = None;
  present = true;
}

-- Blocks stand for a state of which this is a cursor.
pub record IsReader (h : State) (xids : List Xid) (blocks : List (List ℕ)) (m : Cursor) : Type 0 where
  pub stand : BlocksStand h xids blocks
  pub session : ℕ
  pub low : 1 ≤ session
  pub name : List ℕ
  pub cursor : machine.Cursor
  pub is : IsCursor h xids (env_of h.shape blocks) session (record { name = name; cursor = m }) cursor

-- the search begins in the home of the last row, where there is one, and has come to home g
abbrev pub Begins : (blocks first g : ℕ) (last : Option ℕ) → Type 0
Begins blocks first g last = (first ≤ g) × ((l : ℕ) → last ≡ Some l → first ≡ l % blocks)

-- home g has no row that the cursor gives next
abbrev pub HasNone : State → List Xid → List (List ℕ) → Cursor → ℕ → Type 0
HasNone h xids blocks m g = NoneIn h.shape.blocks m.lo m.hi m.last (rows_seen h xids blocks m g) g

-- it has this one
abbrev pub HasNext : State → List Xid → List (List ℕ) → Cursor → ℕ → Row → Type 0
HasNext h xids blocks m g row =
    IsNextIn h.shape.blocks m.lo m.hi m.last (rows_seen h xids blocks m g) g row.key row.value.items

-- some key of the range is of home g
abbrev pub HasKey : (blocks lo hi g : ℕ) → Type 0
HasKey blocks lo hi g = (k : ℕ) × (k % blocks ≡ g) × (lo ≤ k) × (k ≤ hi)

-- a search comes to home g: it isn't before that of the last row
abbrev pub ComesTo : (blocks : ℕ) → Option ℕ → (g : ℕ) → Type 0
ComesTo blocks last g = (l : ℕ) → last ≡ Some l → l % blocks ≤ g

-- home g can't be read at the cursor's snapshot, for what a segment lost above it
abbrev pub IsBehind : State → List Xid → List (List ℕ) → Cursor → ℕ → CrFault → Type 0
IsBehind h xids blocks m g = Because (env_of h.shape blocks) m.scn (Worn (env_of h.shape blocks)
    (history h xids blocks (home_in h.shape m.table g) m.own) m.scn
    (homes_of h.shape blocks (home_in h.shape m.table g)))

-- the first home that may have the next row, as those before it have none and it isn't before that of the last row,
-- can't be read
abbrev pub CannotRead : State → List Xid → List (List ℕ) → Cursor → CrFault → Type 0
CannotRead h xids blocks m fault = (g : ℕ) × (g < h.shape.blocks)
    × ((f : ℕ) → f < g → HasNone h xids blocks m f) × HasKey h.shape.blocks m.lo m.hi g
    × ComesTo h.shape.blocks m.last g × IsBehind h xids blocks m g fault

-- the first row of the homes in order, or that there is none, or that a home can't be read
abbrev pub Finds : State → List Xid → List (List ℕ) → Cursor → Result Fetched CrFault → Row → Type 0
Finds h xids blocks m (Ok fetched.Row) row = (g : ℕ) × (g < h.shape.blocks)
    × ((f : ℕ) → f < g → HasNone h xids blocks m f) × HasNext h xids blocks m g row
Finds h xids blocks m (Ok fetched.End) row = (g : ℕ) → g < h.shape.blocks → HasNone h xids blocks m g
Finds h xids blocks m (Err fault) row = CannotRead h xids blocks m fault

-- another session that holds the key, or that none does
abbrev pub OtherHolds : State → ℕ → ℕ → ℕ → Option ℕ → Type 0
OtherHolds h s table key None = NotOthers h s table key
OtherHolds h s table key (Some u) = (holder h table key ≡ Some u) × (u ≢ s)

-- A fetch of a session is too old over blocks that stand for the state: its cursor of that name, as the table of
-- sessions keeps it, has a next row that can't be read, for what a segment lost above the snapshot.
pub record IsFetchOld (h : State) (xids : List Xid) (blocks : List (List ℕ)) (who : ℕ) (name : List ℕ)
    (scn lost : ℕ) : Type 0 where
  pub stand : BlocksStand h xids blocks
  pub cursor : machine.Cursor
  pub named : machine.cursor_of h who name ≡ Some cursor
  pub kept : Cursor
  pub is : IsCursor h xids (env_of h.shape blocks) who (record { name = name; cursor = kept }) cursor
  pub cannot : CannotRead h xids blocks kept (faults.TooOld scn lost)

-- So it is over an engine that stands for h, by its table and its blocks.
abbrev pub NeedsLost : {S : Type 0} → Ghosts S → State → EngineView S → ℕ → List ℕ → ℕ → ℕ
    → Type 0
NeedsLost s h e who name scn lost = (xids : List Xid) × (old : IsFetchOld h xids (s.blocks e.store) who name scn lost)
    × (named name (kept_at e.memory.sessions who).cursors ≡ Some old.kept)
