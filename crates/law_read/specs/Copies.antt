-- A home as it was at a number, kept while the block goes on; and readers whose own changes aren't in the block.
use Rattle.std.specs.Prelude.{◌≡◌, ◌≢◌, ◌⊎◌, ◌≤◌, ℕ, suc, List, Option, None, Some}
use Rattle.rb_base.specs.declared.ids.Xid.{Xid}
use Rattle.law_read.specs.Keeping.{first_count}
use Rattle.law_read.specs.Reading.{History, flat, up_to}
use Rattle.law_home.specs.Walk.{In, Change, Commit, Home, Env, Rows, Walk, IsActive, entry_at, last, own}
use Rattle.rb_txntable.specs.declared.looks.Look.TheVariants.{Active}

-- A home kept at number n, which is one that there was. It stands for the commits up to n, with nothing live in it: so
-- it shows the rows at n, and can be taken further back.
pub record Copied (env : Env) (base : ℕ) (rows : Rows) (list : List Commit) (n : ℕ) (b : Home) : Type 0 where
  pub low : base ≤ n
  pub high : n ≤ last base list
  pub walk : Walk env base rows (up_to n list) b

-- none of the changes that stand above n is among the reader's first
pub record Unseen (h : History) (mine : Option Xid) (upto n : ℕ) : Type 0 where
  pub live : first_count mine upto (own h.lives h.reader) ≡ 0
  pub done : first_count mine upto (flat n h.list) ≡ 0

-- What a history says of a reader's transaction: changes are numbered from 1, and a transaction that goes on, of which
-- the reader sees changes, has the reader's slot and made no commit above n.
pub record IsTold (env : Env) (h : History) (mine : Option Xid) (upto n : ℕ) : Type 0 where
  pub live : (ch : Change) → In ch (own h.lives h.reader) → (k : ℕ) × (ch.number ≡ suc k)
  pub done : (ch : Change) → In ch (flat n h.list) → (k : ℕ) × (ch.number ≡ suc k)
  pub going : (x : Xid) → mine ≡ Some x → upto ≢ 0 → env.look x ≡ Active
      → (env.xid h.reader ≡ x) × ((ch : Change) → In ch (flat n h.list) → ch.xid ≢ x)

-- A transaction goes on, and no entry of the home is its.
abbrev pub IsAway : Env → Home → Xid → Type 0
IsAway env b x = (env.look x ≡ Active) × ((j : ℕ) → IsActive env (entry_at b j) → (entry_at b j).xid ≢ x)

-- The reader has no changes of its own; or its transaction is away.
abbrev pub HasNone : Env → Home → Option Xid → ℕ → Type 0
HasNone env b mine upto = (mine ≡ None) ⊎ ((upto ≡ 0) ⊎ ((x : Xid) × (mine ≡ Some x) × IsAway env b x))
