-- What a write's tests need of segments and homes: that they stand for the machine's state, and that a home is cleaned.
use Rattle.std.specs.Prelude.{◌≡◌, ◌<◌, ◌≤◌, ◌*◌, ◌%◌, ℕ, List, ◌∷◌, length, map, Some}
use Rattle.std.specs.List.{AllByRecursion}
use Rattle.rb_base.specs.Blocks.{IsShape, table_blocks}
use Rattle.rb_base.specs.declared.ids.Xid.{Xid}
use Rattle.rb_base.specs.declared.sizes.TheConstants.{ACTIVE, SLOTS}
use Rattle.rb_cell.specs.declared.cell.TheConstants.{CELLS}
use Rattle.rb_itl.specs.declared.slots.TheConstants.{ENTRIES}
use Rattle.rb_model.specs.Book.{Owner, book_at}
use Rattle.rb_model.specs.Change as model
use Rattle.rb_model.specs.State.{State, session_own, owner_at}
use Rattle.rb_segment.specs.Books.{IsBook}
use Rattle.rb_segment.specs.Header.{Segment}
use Rattle.law_blocks.specs.Says.{says}
use Rattle.law_blocks.specs.States.{InTables, Owns, lives_of, past_of}
use Rattle.law_blocks.specs.Values.{HomeStands, made_by, rows_here, slot_of}
use Rattle.rb_txntable.specs.declared.looks.Look.TheVariants.{Active}
use Rattle.law_home.specs.Homes.{here, narrow}
use Rattle.law_home.specs.Kinds.{Open}
use Rattle.law_home.specs.Walk.{Env, Home, own, entry_at, cell_at, taken}

-- home b, where the live changes of each slot and then the commits are taken back
abbrev pub StoodHome : (h : State) (xids : List Xid) (segments : ℕ → Segment) (b : ℕ) → Home → Type 0
StoodHome h xids segments b =
    HomeStands (says h.shape segments) (made_by segments) h.commits.base (rows_here h.shape b h.commits.rows)
    (map (narrow b) (past_of h xids).list) (map (here b) (lives_of h (says h.shape segments)))

-- The segments and homes stand for the machine's state: what of it a write's tests need.
pub record Stood (h : State) (xids : List Xid) (segments : ℕ → Segment) (homes : ℕ → Home) : Type 0 where
  pub in_range : IsShape h.shape
  pub counted : length xids ≡ length h.commits.list
  pub books_counted : length h.books ≡ h.shape.segments
  pub books : (g : ℕ) → g < h.shape.segments → IsBook (segments g).header (book_at h.books g)
  -- an owner is one of the sessions, and each session that has changes owns one slot
  pub owners : (t : ℕ) (o : Owner) → owner_at h t ≡ Some o
      → (1 ≤ o.session) × (o.session ≤ length h.sessions)
  pub one_slot : (s t u : ℕ) → Owns h s t → Owns h s u → t ≡ u
  pub has_slot : (s : ℕ) (c : model.Change) (more : List model.Change) → 1 ≤ s → session_own h s ≡ c ∷ more
      → (t : ℕ) × (t < SLOTS * h.shape.segments) × Owns h s t
  -- changes are of tables that there are
  pub tables : (s : ℕ) → InTables h.shape (session_own h s)
  pub commit_tables : AllByRecursion (InTables h.shape) h.commits.list
  -- an Active slot has as many live records as its owner has changes
  pub live : (t : ℕ) → t < SLOTS * h.shape.segments → (slot_of segments t).state ≡ ACTIVE
      → (slot_of segments t).live ≡ length (own (lives_of h (says h.shape segments)) t)
  pub sizes : (b : ℕ) → (length (homes b).entries ≡ ENTRIES) × (length (homes b).cells ≡ CELLS)
  -- a cell's key is of its home
  pub keys : (b j k : ℕ) → b < table_blocks h.shape → taken (cell_at (homes b) j) ≡ Some k
      → k % h.shape.blocks ≡ b % h.shape.blocks
  pub each : (b : ℕ) → b < table_blocks h.shape → StoodHome h xids segments b (homes b)

-- the home is cleaned: each Open entry is of a transaction that runs
abbrev pub IsClean : Env → Home → Type 0
IsClean env b = (i : ℕ) → (entry_at b i).status ≡ Open → env.look (entry_at b i).xid ≡ Active
