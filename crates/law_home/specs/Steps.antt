-- What the steps make of a block and of what the segment says.
use Rattle.std.specs.Prelude.{◌≡◌, ◌⊎◌, ◌<◌, ◌≤◌, ℕ, zero, suc, List, [], ◌∷◌}
use Rattle.std.specs.Prelude.{length, map, Some}
use Rattle.rb_model.specs.Change.{Place}
use Rattle.law_home.specs.Kinds.{Status, Free, Open, Exact, Bound, Entry, Cell, Empty, Row, Stub, Undo}
use Rattle.law_home.specs.Walk.{Change, Commit, Home, Env, Rows, Walk, Tree, Distinct, Unique, OldCommits, own}
use Rattle.law_home.specs.Walk.{entry_at, cell_at, lock_of, taken, IsActive, behind}
use Rattle.rb_base.specs.declared.ids.Xid.{Xid}
use Rattle.rb_txntable.specs.declared.looks.Look.{Look}
use Rattle.rb_txntable.specs.declared.looks.Look.TheVariants.{Active, At, Before}

abbrev pub told_by : Look → Status
told_by Active = Open
told_by (At c) = Exact c
told_by (Before b) = Bound b

abbrev pub cleaned_status : Env → Xid → Status → Status
cleaned_status env xid Free = Free
cleaned_status env xid Open = told_by (env.look xid)
cleaned_status env xid (Exact c) = Exact c
cleaned_status env xid (Bound b) = Bound b

abbrev pub cleaned_entry : Env → Entry → Entry
cleaned_entry env e =
    record { status = cleaned_status env e.xid e.status; xid = e.xid; newest = e.newest; chain = e.chain }

-- a lock stays only where its entry stays open
abbrev pub kept_by : Status → ℕ → ℕ
kept_by Free lock = 0
kept_by Open lock = lock
kept_by (Exact c) lock = 0
kept_by (Bound b) lock = 0

abbrev pub cleaned_lock : Env → Home → ℕ → ℕ
cleaned_lock env b zero = 0
cleaned_lock env b (suc i) = kept_by (cleaned_entry env (entry_at b i)).status (suc i)

abbrev pub cleaned_cell : Env → Home → Cell → Cell
cleaned_cell env b Empty = Empty
cleaned_cell env b (Row key v lock) = Row key v (cleaned_lock env b lock)
cleaned_cell env b (Stub key lock) = Stub key (cleaned_lock env b lock)

abbrev pub cleaned : Env → Home → Home
cleaned env b = record {
  block = b.block;
  entries = map (cleaned_entry env) b.entries;
  cells = map (cleaned_cell env b) b.cells;
}

-- the rows with the live changes of each session over them
abbrev pub live_rows : List (List Change) → Rows → Rows
live_rows [] rows = rows
live_rows (chs ∷ lives) rows = behind chs (live_rows lives rows)

-- one of these changes names the key
abbrev pub Names : List Change → ℕ → Type 0
Names [] key = ⊥
Names (ch ∷ more) key = (ch.key ≡ key) ⊎ Names more key

-- one home of an engine that stands: w records were made, and the sessions' live changes here are lives
pub record Stands (env : Env) (w : ℕ → ℕ) (base : ℕ) (rows : Rows) (list : List Commit)
    (lives : List (List Change)) (b : Home) : Type 0 where
  pub m : ℕ
  pub tree : Tree env m lives b (Walk env base rows list)
  pub distinct : Distinct env
  pub unique : Unique b
  pub locks : (i j : ℕ) → lock_of (cell_at b j) ≡ suc i → (entry_at b i).status ≡ Open
  pub old : OldCommits w list
  pub made : (p : Place) (r : Undo) → env.store p ≡ Some r → p.index ≤ w p.seg

-- the sessions with live changes here
abbrev pub Lives : List (List Change) → ℕ → Type 0
Lives lives s = (ch : Change) × (more : List Change) × (own lives s ≡ ch ∷ more)

-- the one entry of a session with live changes here
pub record EntryOf (env : Env) (b : Home) (s : ℕ) : Type 0 where
  pub entry : ℕ
  pub within : entry < length b.entries
  pub active : IsActive env (entry_at b entry)
  pub xid : (entry_at b entry).xid ≡ env.xid s
  pub only : (j : ℕ) → IsActive env (entry_at b j) → (entry_at b j).xid ≡ env.xid s → j ≡ entry

-- a cell that has a key and is locked by that entry
pub record HeldCell (env : Env) (b : Home) (s k : ℕ) : Type 0 where
  pub entry : EntryOf env b s
  pub cell : ℕ
  pub has_key : taken (cell_at b cell) ≡ Some k
  pub lock : lock_of (cell_at b cell) ≡ suc entry.entry
