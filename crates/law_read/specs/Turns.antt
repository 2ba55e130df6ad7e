-- What is left of a home's history, turn by turn, as chains are taken back: first those of transactions that run, one
-- entry after another, and then those of commits, the greatest number first.
use Rattle.std.specs.Prelude.{◌≡◌, ◌⊎◌, ◌<◌, ◌≤◌, ◌+◌, ℕ, List, length, Option, Some, None}
use Rattle.rb_base.specs.declared.ids.Xid.{Xid}
use Rattle.law_read.specs.Heights.{BeyondIn}
use Rattle.law_read.specs.Keeping.{Kept, behind_mine, first_count, overlay}
use Rattle.law_read.specs.Late.{earlier, late_above}
use Rattle.law_read.specs.Reading.{Cause, Honest, count_above, flat, rows_at, total, up_to}
use Rattle.law_home.specs.Walk.{In, Change, Commit, Home, Env, Rows, Walk, Tree, IsActive, entry_at, last, own}

-- How a chain ends, of a transaction of this segment that committed at c: at a home, or where a record is gone. Then c
-- is at most what the segment lost.
abbrev pub Ends : Env → ℕ → ℕ → Type 0 → (Home → Type 0) → Option Home → Type 0
Ends env seg c why rest None = (c ≤ env.lost seg) × why
Ends env seg c why rest (Some b) = rest b

-- a walk down to a base at most n, with numbers below a limit
pub record Starts (env : Env) (base : ℕ) (rows : Rows) (n limit : ℕ) (list : List Commit) (b : Home) : Type 0 where
  pub honest : Honest env
  pub low : base ≤ n
  pub walk : Walk env base rows list b
  pub lower : last base list < limit

-- the home can't be read at n for what this segment lost, by its entries, by these changes or by those that are live
abbrev pub WornIn : Env → ℕ → ℕ → List Change → Home → Type 0
WornIn env n seg chs b = ((j : ℕ) × BeyondIn env n seg (entry_at b j))
    ⊎ ((ch : Change) × In ch chs × Cause env n seg ch)

abbrev pub WornLive : Env → ℕ → ℕ → List (List Change) → Home → Type 0
WornLive env n seg lives b = ((j : ℕ) × BeyondIn env n seg (entry_at b j))
    ⊎ ((s : ℕ) × (ch : Change) × In ch (own lives s) × Cause env n seg ch)

-- Whole chains of commits above n were taken back, with so many records, and the numbers of those that are left are
-- below c. What was kept became what f makes of it.
pub record Peeled (env : Env) (base : ℕ) (rows : Rows) (mine : Option Xid) (upto n c steps : ℕ) (f : Kept → Kept)
    (list : List Commit) (start b : Home) : Type 0 where
  pub left : List Commit
  pub inside : (ch : Change) → In ch (flat n left) → In ch (flat n list)
  pub source : (j seg : ℕ) → BeyondIn env n seg (entry_at b j) → WornIn env n seg (flat n list) start
  pub walk : Walk env base rows left b
  pub same : rows_at n rows left ≡ rows_at n rows list
  pub tail : up_to n left ≡ up_to n list
  pub lower : last base left < c
  pub count : steps + count_above n left ≡ count_above n list
  pub keeps : (kept : Kept) (over : Rows) (k : ℕ) → overlay (f kept) (behind_mine mine upto (flat n left) over) k
      ≡ overlay kept (behind_mine mine upto (flat n list) over) k
  pub room : (kept : Kept) → length (f kept) + first_count mine upto (flat n left)
      ≤ length kept + first_count mine upto (flat n list)

-- The same, with the least number that a chain which changes the key had so far.
pub record Watched (env : Env) (base : ℕ) (rows : Rows) (n key c : ℕ) (least : Option ℕ) (list : List Commit)
    (start b : Home) : Type 0 where
  pub left : List Commit
  pub inside : (ch : Change) → In ch (flat n left) → In ch (flat n list)
  pub source : (j seg : ℕ) → BeyondIn env n seg (entry_at b j) → WornIn env n seg (flat n list) start
  pub walk : Walk env base rows left b
  pub lower : last base left < c
  pub late : late_above n key list ≡ earlier (late_above n key left) least

-- The live changes of the active ones among the entries before k were taken back, with so many records; the reader's
-- slot is r.
pub record Running (env : Env) (base : ℕ) (rows : Rows) (list : List Commit) (lives : List (List Change)) (r : ℕ)
    (mine : Option Xid) (upto n k steps : ℕ) (f : Kept → Kept) (start b : Home) : Type 0 where
  pub m : ℕ
  pub left : List (List Change)
  pub tree : Tree env m left b (Walk env base rows list)
  pub long : length b.entries ≡ length start.entries
  pub none : (j : ℕ) → j < k → IsActive env (entry_at b j) → ⊥
  pub count : steps + total left ≡ total lives
  pub inside : (s : ℕ) (ch : Change) → In ch (own left s) → In ch (own lives s)
  pub source : (j seg : ℕ) → BeyondIn env n seg (entry_at b j) → WornLive env n seg lives start
  pub keeps : (kept : Kept) (over : Rows) (k : ℕ) → overlay (f kept) (behind_mine mine upto (own left r) over) k
      ≡ overlay kept (behind_mine mine upto (own lives r) over) k
  pub room : (kept : Kept) → length (f kept) + first_count mine upto (own left r)
      ≤ length kept + first_count mine upto (own lives r)
