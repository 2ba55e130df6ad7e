-- What is known of the rows that a cursor gives next.
use Rattle.std.specs.Prelude.{◌≡◌, ◌<◌, ℕ, List, length, Option, Some, IfSome}
use Rattle.rb_base.specs.Blocks.{block_of}
use Rattle.rb_base.specs.declared.sizes.TheConstants.{WORN}
use Rattle.rb_base.specs.declared.store.Store.{Ghosts}
use Rattle.rb_cleanout.specs.Cleaned.{look_of}
use Rattle.rb_copies.specs.Copies.{KeptHomes}
use Rattle.rb_cr.specs.Pages.{GoesOn, PageRows}
use Rattle.rb_cr.specs.declared.scratch.Snapshot.{Snapshot}
use Rattle.rb_engine.specs.Does.{EngineView}
use Rattle.rb_heap.specs.Cleaning.{cleaned_home}
use Rattle.rb_heap.specs.Homes.{home_of}
use Rattle.rb_sessions.specs.Kept.{IsPlaceOf, KeptCursor, kept_at, named}
use Rattle.rb_sessions.specs.declared.cursor.Cursor.{Cursor}
use Rattle.law_sessions.specs.Views.{home_in}

-- The rows of a home that are ahead, where they are known, for the cursor at a place of its session.
pub record RowsAhead : Type 0 where
  pub place : ℕ
  pub home : ℕ
  pub rows : Option PageRows

-- a cursor's snapshot, as a home is read at it
abbrev pub snapshot_of : Cursor → Snapshot
snapshot_of m = record { scn = m.scn; own = m.own; upto = m.upto }

-- nothing of block b is left to clean, as the headers know it
abbrev pub IsStill : {S : Type 0} → Ghosts S → S → ℕ → Type 0
IsStill s store b = cleaned_home (look_of (s.shape_of store) (s.blocks store)) (home_of (block_of (s.blocks store) b))
    ≡ home_of (block_of (s.blocks store) b)

-- These are the rows of a home that a cursor gives next, of its block or of what is kept of that. Nothing of the block
-- is left to clean, unless the log is worn out.
pub record GoOn {S : Type 0} (s : Ghosts S) (m : Cursor) (kept : KeptHomes) (store : S) (home : ℕ) (page : PageRows)
    : Type 0 where
  pub goes : GoesOn s store kept (home_in (s.shape_of store) m.table home) (snapshot_of m) m.last m.lo m.hi page
  pub still : s.tells → s.lsn store < WORN → IsStill s store (home_in (s.shape_of store) m.table home)

-- the first cursor of that name has that place
abbrev pub IsAt : List ℕ → List KeptCursor → ℕ → Type 0
IsAt name cursors place = (place < length cursors) × IsPlaceOf name cursors place

-- what is known, if anything, goes on where the cursor is
abbrev pub IsAheadOf : {S : Type 0} → Ghosts S → Cursor → KeptHomes → S → RowsAhead → Type 0
IsAheadOf s m kept store ahead = IfSome ahead.rows (GoOn s m kept store ahead.home)

-- so it does for a session's cursor of that name, which has that place
abbrev pub IsAhead : {S : Type 0} → Ghosts S → EngineView S → ℕ → List ℕ → RowsAhead → Type 0
IsAhead s e who name ahead = IfSome ahead.rows (λ rows. (m : Cursor)
    × (named name (kept_at e.memory.sessions who).cursors ≡ Some m)
    × IsAt name (kept_at e.memory.sessions who).cursors ahead.place
    × GoOn s m e.memory.copies.kept e.store ahead.home rows)

-- a cursor that has given the row of a key
abbrev pub behind_key : ℕ → Cursor → Cursor
behind_key key m = record m { last = Some key }
