-- Homes that are kept of a block, as the walk sees them, and what a build that may begin at one promises, or a read of
-- its rows.
use Rattle.std.specs.Prelude.{◌≡◌, ◌⊎◌, ◌≤◌, ◌+◌, ℕ, Bool, true, false, List, map}
use Rattle.std.specs.Prelude.{Option, Some, None, Result, OnOk, IfErr}
use Rattle.rb_base.specs.Blocks.{block_of}
use Rattle.rb_base.specs.Fields.{number_at}
use Rattle.rb_base.specs.declared.shape.Shape.{Shape}
use Rattle.rb_copies.specs.Copies.{CopyTable, IsLeast, KeptHomes, Serves, copy_key, kept_under, used, with_copy}
use Rattle.rb_copies.specs.declared.homes.CopyKey.{CopyKey}
use Rattle.rb_copies.specs.declared.homes.KeptHome.{KeptHome}
use Rattle.rb_cr.specs.Builds.{IsHomeOld, IsHomeRead}
use Rattle.rb_cr.specs.Clauses.{answer_to}
use Rattle.rb_cr.specs.Faults.{is_fault}
use Rattle.rb_cr.specs.Rows.{IsNext, IsWanted}
use Rattle.rb_cr.specs.Scratches.{scratch_home, shown_by}
use Rattle.rb_cr.specs.declared.faults.CrFault.{CrFault}
use Rattle.rb_cr.specs.declared.rows.Wanted.{Wanted}
use Rattle.rb_cr.specs.declared.scratch.Scratch.{Scratch}
use Rattle.rb_cr.specs.declared.scratch.Snapshot.{Snapshot}
use Rattle.rb_model.specs.declared.row.Row.{Row}
use Rattle.law_read.specs.Chains.{Counted}
use Rattle.law_read.specs.Copies.{Copied, HasNone, IsTold}
use Rattle.law_read.specs.Heights.{AtMost, Over}
use Rattle.law_read.specs.Reading.{History, needed, rows_in}
use Rattle.law_blocks.specs.Says.{walk_cell, walk_home}
use Rattle.law_blocks.specs.Standing.{env_of, homes_of}
use Rattle.law_home.specs.Walk.{Env, Home, entry_at, last}

-- the home that is kept of block b
abbrev pub home_kept : Shape → ℕ → KeptHome → Home
home_kept shape b copy = walk_home shape b (record { entries = copy.entries; cells = copy.cells })

-- the log number of the last group that changed block b
abbrev pub lsn_at : List (List ℕ) → ℕ → ℕ
lsn_at blocks b = number_at (block_of blocks b) 0 8

-- the reader has no changes of its own in block b, as far as this tells
abbrev pub HasNoneIn : Shape → List (List ℕ) → ℕ → Snapshot → Type 0
HasNoneIn shape blocks b snap = HasNone (env_of shape blocks) (homes_of shape blocks b) snap.own snap.upto

-- no change of block b is above n
abbrev pub IsQuiet : Shape → List (List ℕ) → (b n : ℕ) → Type 0
IsQuiet shape blocks b n = (j : ℕ) → AtMost (env_of shape blocks) n n (entry_at (homes_of shape blocks b) j)

-- what is kept of block b stands for what a history has at the numbers
abbrev pub CopiesStand : Env → Shape → History → KeptHomes → ℕ → Type 0
CopiesStand env shape h kept b = (n : ℕ) (copy : KeptHome) → kept_under kept (copy_key b n) ≡ Some copy
    → Copied env h.base h.rows h.list n (home_kept shape b copy)

-- Block b stands for a history and may be read at the snapshot, by a reader of whose transaction the history tells; and
-- what is kept of the block stands for it.
pub record IsReadWith (shape : Shape) (blocks : List (List ℕ)) (kept : KeptHomes) (b : ℕ) (h : History)
    (snap : Snapshot) : Type 0 where
  pub read : IsHomeRead shape blocks b h snap
  pub told : IsTold (env_of shape blocks) h snap.own snap.upto snap.scn
  pub copies : CopiesStand (env_of shape blocks) shape h kept b

-- At k a home of block b is kept that serves this reader: it has no changes of its own there, and the block is as it
-- was.
pub record ServesAt (shape : Shape) (blocks : List (List ℕ)) (kept : KeptHomes) (b : ℕ) (snap : Snapshot) (k : ℕ)
    : Type 0 where
  pub copy : Serves kept b (lsn_at blocks b) snap.scn k
  pub none : HasNoneIn shape blocks b snap

abbrev pub IsUnserved : Shape → List (List ℕ) → KeptHomes → ℕ → Snapshot → Type 0
IsUnserved shape blocks kept b snap = (k : ℕ) → ServesAt shape blocks kept b snap k → ⊥

-- a home is kept of block b at k of which no entry is over n
abbrev pub IsFree : Shape → List (List ℕ) → KeptHomes → (b n k : ℕ) → Type 0
IsFree shape blocks kept b n k = (copy : KeptHome) × (kept_under kept (copy_key b k) ≡ Some copy)
    × ((j : ℕ) → Over (env_of shape blocks) n (entry_at (home_kept shape b copy) j) → ⊥)

-- A home that is kept of block b as it stands, at the snapshot.
pub record IsMade (shape : Shape) (blocks : List (List ℕ)) (kept : KeptHomes) (b : ℕ) (snap : Snapshot)
    (copy : KeptHome) : Type 0 where
  pub number : copy.number ≡ lsn_at blocks b
  pub stands : (h : History) → IsReadWith shape blocks kept b h snap → snap.scn ≤ last h.base h.list
      → Copied (env_of shape blocks) h.base h.rows h.list snap.scn (home_kept shape b copy)

-- the next row of a home that is kept, or that it has none
pub record NextKept (wanted : Wanted) (copy : KeptHome) (result : Bool) (old new : Row) : Type 0 where
  pub given : result ≡ true → IsNext wanted.after wanted.lo wanted.hi (rows_in (map walk_cell copy.cells)) new
  pub none : result ≡ false → (k : ℕ) → IsWanted wanted.after wanted.lo wanted.hi k
      → rows_in (map walk_cell copy.cells) k ≡ None
  pub kept : result ≡ false → new ≡ old

-- each home that is kept after a build was kept before, or is this block's at the snapshot
abbrev pub Keeps : Shape → List (List ℕ) → ℕ → Snapshot → (old new : KeptHomes) → Type 0
Keeps shape blocks b snap old new = (key : CopyKey) (copy : KeptHome) → kept_under new key ≡ Some copy
    → (kept_under old key ≡ Some copy) ⊎ ((key ≡ copy_key b snap.scn) × IsMade shape blocks old b snap copy)

-- a build begins at the home of the least number that serves, or at the block, where none does
abbrev pub BeginsAt : KeptHomes → (b number n : ℕ) → Option ℕ → Type 0
BeginsAt kept b number n None = (k : ℕ) → Serves kept b number n k → ⊥
BeginsAt kept b number n (Some k) = IsLeast kept b number n k

-- the table once the home was used at which a build begins
abbrev pub begun : CopyTable → ℕ → Option ℕ → CopyTable
begun table b None = table
begun table b (Some k) = used table (copy_key b k)

-- What a build of block b at n makes of the table, or a read by it: the home at which it begins is used. Where it comes
-- to an end, and didn't begin at n itself, the home at n is put, if there is memory for it.
pub record Turns {T : Type 0} (b number n : ℕ) (result : Result T CrFault) (old new : CopyTable) : Type 0 where
  pub first : Option ℕ
  pub begins : BeginsAt old.kept b number n first
  pub refused : IfErr result (λ fault. new ≡ begun old b first)
  pub served : first ≡ Some n → new ≡ begun old b first
  pub put : (new ≡ begun old b first)
      ⊎ ((copy : KeptHome) × (new ≡ with_copy (begun old b first) (copy_key b n) copy))

-- The home of block b was built from the block: as many records were counted as changes stand above the snapshot; or,
-- where one of them is gone, those that were taken back before it.
pub record IsWhole (shape : Shape) (blocks : List (List ℕ)) (b : ℕ) (h : History) (snap : Snapshot) (count : ℕ)
    (result : Result (Unit {0}) CrFault) (count2 : ℕ) : Type 0 where
  pub all : OnOk result (count2 ≡ count + needed h snap.scn)
  pub counted : IfErr result (λ fault. is_fault fault ≡ false
      → Counted (env_of shape blocks) (homes_of shape blocks b) count count2)

-- The home of block b was built at the snapshot, or why not, and so many records were counted.
pub record BuiltAt (shape : Shape) (blocks : List (List ℕ)) (b : ℕ) (h : History) (snap : Snapshot) (count : ℕ)
    (result : Result (Unit {0}) CrFault) (scratch : Scratch) (count2 : ℕ) : Type 0 where
  pub rows : OnOk result ((k : ℕ) → shown_by scratch k ≡ answer_to h snap k)
  pub most : count2 ≤ count + needed h snap.scn
  pub old : IfErr result (IsHomeOld shape blocks b h snap)
  pub left : snap.scn ≤ last h.base h.list → OnOk result (Copied (env_of shape blocks) h.base h.rows h.list snap.scn
      (scratch_home shape scratch))
