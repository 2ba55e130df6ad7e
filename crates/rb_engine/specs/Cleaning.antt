-- What a reader's cleaning of homes leaves of a store.
use Rattle.std.specs.Prelude.{◌≡◌, ◌⊎◌, ◌<◌, ◌≤◌, ◌+◌, ℕ, Bool, true, false}
use Rattle.std.specs.Prelude.{List, length, Option, Some, Result, Ok, Err}
use Rattle.rb_base.specs.Blocks.{block_of}
use Rattle.rb_base.specs.declared.ids.Xid.{Xid}
use Rattle.rb_base.specs.declared.shape.Shape.{Shape}
use Rattle.rb_base.specs.declared.sizes.TheConstants.{WORN}
use Rattle.rb_base.specs.declared.store.Store.{Ghosts}
use Rattle.rb_cr.specs.declared.faults.CrFault.{CrFault}
use Rattle.rb_engine.specs.Does.{EngineView}
use Rattle.rb_engine.specs.Scanning.{ComesTo, HasKey, HasNone, IsReader}
use Rattle.rb_heap.specs.Cleaning.{cleaned_home}
use Rattle.rb_heap.specs.Homes.{home_of}
use Rattle.law_crash.specs.Crash.{Survives}
use Rattle.law_crash.specs.Holds.{Holds}
use Rattle.rb_model.specs.Calls.{Call}
use Rattle.rb_model.specs.State.{State}
use Rattle.rb_model.specs.declared.refusal.Refusal.{Refusal}
use Rattle.rb_model.specs.declared.refusal.Refusal.TheVariants.{TooOld}
use Rattle.rb_model.specs.declared.row.Fetched.{Fetched}
use Rattle.rb_sessions.specs.Kept.{kept_at, named}
use Rattle.rb_sessions.specs.declared.cursor.Cursor.{Cursor}
use Rattle.law_blocks.specs.Standing.{env_of, segments_of}
use Rattle.law_sessions.specs.Views.{home_in}
use Rattle.rb_rollback.specs.Backs.{Fails}

-- Block b is cleaned of the transactions that had ended before: each Open entry of one tells its number, or its bound,
-- as the headers of before know it, and all else of the home stays but the locks that name such an entry.
abbrev pub IsClean : Shape → (before now : List (List ℕ)) → ℕ → Type 0
IsClean shape before now b =
    home_of (block_of now b) ≡ cleaned_home (env_of shape before).look (home_of (block_of before b))

-- Blocks of which that holds are cleaned, or as they were; all others are as they were, and the segments too.
pub record OnlyCleaned (shape : Shape) (Is : ℕ → Type 0) (before now : List (List ℕ)) : Type 0 where
  pub segments : segments_of shape now ≡ segments_of shape before
  pub each : (b : ℕ) → (block_of now b ≡ block_of before b) ⊎ (Is b × IsClean shape before now b)

-- A reader cleaned blocks in a store that stood for a state, each by one group, and at most so many: none but those of
-- which `May` holds, and each of which `Must` holds, unless the log is worn out then. The store stands for the state,
-- and a crash leaves no less.
pub record HasCleaned {S : Type 0} (s : Ghosts S) (h : State) (xids : List Xid) (May Must : ℕ → Type 0) (most : ℕ)
    (old new : S) : Type 0 where
  pub holds : Holds s h xids new
  pub only : OnlyCleaned h.shape May (s.blocks old) (s.blocks new)
  pub all : (b : ℕ) → Must b → s.lsn new < WORN → IsClean h.shape (s.blocks old) (s.blocks new) b
  pub count : ℕ
  pub few : count ≤ most
  pub lsn : s.lsn new ≡ s.lsn old + count
  pub survives : (before : Option Call) → s.keeps → Survives s (s.slots old) before h h old new

-- the same by whether the calls went well
abbrev pub Cleans : {S : Type 0} → Ghosts S → State → List Xid → (May Must : ℕ → Type 0) → (most : ℕ)
    → (old new : S) → Bool → Type 0
Cleans s h xids May Must most old new true = HasCleaned s h xids May Must most old new
Cleans s h xids May Must most old new false = (fault : Option Call) → Fails s fault h old new

-- A store that stands for a state, of which this is a cursor.
pub record Serves {S : Type 0} (s : Ghosts S) (h : State) (xids : List Xid) (m : Cursor) (store : S) : Type 0 where
  pub shape : s.shape_of store ≡ h.shape
  pub holds : Holds s h xids store
  pub reader : IsReader h xids (s.blocks store) m
  pub going : h.stopped ≡ false

-- a search for a cursor's next row may come to home g: some key of the range is of it, and it isn't before that of the
-- last row
pub record IsOnTheWay (shape : Shape) (m : Cursor) (g : ℕ) : Type 0 where
  pub there : g < shape.blocks
  pub key : HasKey shape.blocks m.lo m.hi g
  pub behind : ComesTo shape.blocks m.last g

-- block b is that of such a home, which is the g-th, or one of the first g
abbrev pub IsHere : Shape → Cursor → (g b : ℕ) → Type 0
IsHere shape m g b = IsOnTheWay shape m g × (b ≡ home_in shape m.table g)

abbrev pub IsBefore : Shape → Cursor → (g b : ℕ) → Type 0
IsBefore shape m g b = (f : ℕ) × (f < g) × IsHere shape m f b

-- Home g is read for a cursor's next row: a search comes to it, as no home before has one.
abbrev pub IsRead : State → List Xid → List (List ℕ) → Cursor → (g b : ℕ) → Type 0
IsRead h xids blocks m g b = IsHere h.shape m g b × ((f : ℕ) → f < g → HasNone h xids blocks m f)

-- block b is that of a home that is read
abbrev pub ReadIn : State → List Xid → List (List ℕ) → Cursor → ℕ → Type 0
ReadIn h xids blocks m b = (g : ℕ) × IsRead h xids blocks m g b

-- those that a fetch must clean, by what it found: all that are read, unless one couldn't be
abbrev pub MustIn : State → List Xid → List (List ℕ) → Cursor → Result Fetched CrFault → ℕ → Type 0
MustIn h xids blocks m (Ok found) b = ReadIn h xids blocks m b
MustIn h xids blocks m (Err fault) b = ⊥

-- A fetch looked for its row: it gave it, or the end, or was too old.
abbrev pub HasLooked : Result Fetched Refusal → Type 0
HasLooked (Ok found) = Unit {0}
HasLooked (Err (TooOld scn lost)) = Unit {0}
HasLooked (Err _) = ⊥

-- A fetch of a session cleans no block but those that it reads for its cursor of that name. Where it answers a row, or
-- the end, each of these is clean, unless the log is worn out then.
pub record CleansRead {S : Type 0} (s : Ghosts S) (h : State) (e : EngineView S) (who : ℕ) (name : List ℕ)
    (well : Type 0) (new : S) : Type 0 where
  pub xids : List Xid
  pub cursor : Cursor
  pub is : named name (kept_at e.memory.sessions who).cursors ≡ Some cursor
  pub only : OnlyCleaned h.shape (ReadIn h xids (s.blocks e.store) cursor) (s.blocks e.store) (s.blocks new)
  pub all : well → (b : ℕ) → ReadIn h xids (s.blocks e.store) cursor b → s.lsn new < WORN
      → IsClean h.shape (s.blocks e.store) (s.blocks new) b
