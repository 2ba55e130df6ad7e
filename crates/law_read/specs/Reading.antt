-- What a home says to a reader: its rows at a snapshot, how many changes stand above it, and when that can't be told.
use Rattle.std.specs.Prelude.{◌≡◌, ◌⊎◌, ◌<◌, ◌≤◌, ◌+◌, ◌^◌, ◌-◌, ℕ, suc}
use Rattle.std.specs.Prelude.{if◌then◌else◌, nat_lt}
use Rattle.std.specs.Prelude.{List, [], ◌∷◌, ◌++◌, length, Option, Some, None}
use Rattle.rb_base.specs.declared.ids.Xid.{Xid}
use Rattle.rb_model.specs.Change.{Place}
use Rattle.law_read.specs.Heights.{BeyondIn, LateIn}
use Rattle.law_read.specs.Keeping.{behind_mine, first_count, kept_room}
use Rattle.rb_txntable.specs.declared.looks.Look.TheVariants.{Active}
use Rattle.law_home.specs.Kinds.{Cell, Undo}
use Rattle.law_home.specs.Walk.{In, Change, Commit, Home, Env, Rows, Walk, Tree, Distinct, last, own, rows_of, row_of}
use Rattle.law_home.specs.Walk.{entry_at}

-- the rows after the commits up to n, and the changes of those above it, newest first, with their count
abbrev pub rows_at : ℕ → Rows → List Commit → Rows
rows_at n rows [] = rows
rows_at n rows (t ∷ older) = if nat_lt n t.number then rows_at n rows older else rows_of rows (t ∷ older)

-- the commits up to n
abbrev pub up_to : ℕ → List Commit → List Commit
up_to n [] = []
up_to n (t ∷ older) = if nat_lt n t.number then up_to n older else t ∷ older

abbrev pub flat : ℕ → List Commit → List Change
flat n [] = []
flat n (t ∷ older) = if nat_lt n t.number then t.changes ++ flat n older else []

abbrev pub count_above : ℕ → List Commit → ℕ
count_above n [] = 0
count_above n (t ∷ older) = if nat_lt n t.number then length t.changes + count_above n older else 0

-- how many changes are live
abbrev pub total : List (List Change) → ℕ
total [] = 0
total (l ∷ lives) = length l + total lives

-- what a home stands for: the commits over a base, the live changes of each table slot, and the reader's slot
pub record History : Type 0 where
  pub base : ℕ
  pub rows : Rows
  pub list : List Commit
  pub lives : List (List Change)
  pub reader : ℕ

-- the rows at n with the reader's first changes over them, whether they are live or committed since
abbrev pub answer : History → Option Xid → ℕ → ℕ → Rows
answer h mine upto n =
    behind_mine mine upto (own h.lives h.reader) (behind_mine mine upto (flat n h.list) (rows_at n h.rows h.list))

-- how many changes stand above n: those of the commits above it, and all that are live
abbrev pub needed : History → ℕ → ℕ
needed h n = total h.lives + count_above n h.list

-- one of them
abbrev pub Needs : History → ℕ → Change → Type 0
Needs h n ch = ((s : ℕ) × In ch (own h.lives s)) ⊎ In ch (flat n h.list)

-- Why a change can't be taken back, by what this segment lost: its record is gone, or the entry that its record kept
-- is a bound above n.
abbrev pub Cause : Env → ℕ → ℕ → Change → Type 0
Cause env n seg ch = ((env.store ch.place ≡ None) × (ch.place.seg ≡ seg))
    ⊎ ((r : Undo) × (env.store ch.place ≡ Some r) × LateIn n seg r.entry_before)

-- The home can't be read at n for what this segment lost: an entry is above n by a bound, or a change that stands above
-- n can't be taken back.
abbrev pub Worn : Env → History → ℕ → Home → ℕ → Type 0
Worn env h n b seg = ((j : ℕ) × BeyondIn env n seg (entry_at b j))
    ⊎ ((ch : Change) × Needs h n ch × Cause env n seg ch)

-- where a record is gone, the number of its commit is at most what its segment lost
abbrev pub Honest : Env → Type 0
Honest env = (p : Place) → env.store p ≡ None → env.limit p ≤ env.lost p.seg

-- only slot r has the reader's transaction, where that is active
abbrev pub Reader : Env → ℕ → Option Xid → Type 0
Reader env r mine = (s : ℕ) → env.look (env.xid s) ≡ Active → Some (env.xid s) ≡ mine → s ≡ r

-- live changes over a walk over commits
pub record Runs (env : Env) (base : ℕ) (rows : Rows) (list : List Commit) (m : ℕ) (lives : List (List Change))
    (b : Home) : Type 0 where
  pub distinct : Distinct env
  pub tree : Tree env m lives b (Walk env base rows list)

-- A home that stands for a history, read by the first changes of a transaction at snapshot n. They are few enough to be
-- kept.
pub record Reading (env : Env) (h : History) (mine : Option Xid) (upto n : ℕ) (b : Home) : Type 0 where
  pub m : ℕ
  pub runs : Runs env h.base h.rows h.list m h.lives b
  pub honest : Honest env
  pub low : h.base ≤ n
  pub lower : last h.base h.list < 2 ^ 64 - 1
  pub alone : Reader env h.reader mine
  pub few : first_count mine upto (own h.lives h.reader) + first_count mine upto (flat n h.list) ≤ kept_room

-- newest first, numbered downwards from n at most
abbrev pub Down : ℕ → List Change → Type 0
Down n [] = Unit {0}
Down n (ch ∷ more) = (k : ℕ) × (ch.number ≡ suc k) × (suc k ≤ n) × Down k more

abbrev pub or_else : Option (List ℕ) → Option (List ℕ) → Option (List ℕ)
or_else None other = other
or_else (Some v) other = Some v

-- the rows that cells show
abbrev pub rows_in : List Cell → Rows
rows_in [] k = None
rows_in (x ∷ more) k = or_else (row_of x k) (rows_in more k)
