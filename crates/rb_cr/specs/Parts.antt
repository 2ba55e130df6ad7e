-- What each part of a rebuild promises, of homes as the walk sees them.
use Rattle.std.specs.Prelude.{◌≡◌, ◌⊎◌, ◌<◌, ◌≤◌, ◌+◌, ℕ, Bool, true, false, List, length}
use Rattle.std.specs.Prelude.{Option, Some, None, Result, OnOk, IfOk, IfErr}
use Rattle.rb_base.specs.declared.ids.Xid.{Xid}
use Rattle.rb_cr.specs.Faults.{is_fault, Blames, Because}
use Rattle.rb_cr.specs.declared.faults.CrFault.{CrFault}
use Rattle.rb_cr.specs.declared.visible.HighestEntry.{HighestEntry}
use Rattle.law_read.specs.Chains.{Counted, Stops, Whole, spent, stepped, unwound}
use Rattle.law_read.specs.Heights.{AtMost, BeyondIn, Numbered, Over}
use Rattle.law_read.specs.Keeping.{Kept, behind_mine, first_count, kept_after, kept_one, kept_room, kept_whole}
use Rattle.law_read.specs.Keeping.{overlay}
use Rattle.law_read.specs.Reading.{History, Worn, answer, count_above, flat, needed, rows_at, rows_in, total, up_to}
use Rattle.law_read.specs.Turns.{Running, WornIn, WornLive}
use Rattle.law_home.specs.Walk.{Change, Commit, Home, Env, Rows, Match, Walk, entry_at, own}

-- One record taken back and its row kept; else it is gone, or the room for rows is used up.
abbrev pub Took : Env → Option Xid → ℕ → ℕ → Xid → Home → Kept → Home → Kept → Bool → Type 0
Took env mine upto i xid b kept b2 kept2 true = (stepped env i xid b ≡ Some b2)
    × (kept2 ≡ kept_one mine upto i xid b (env.store (entry_at b i).newest) kept)
Took env mine upto i xid b kept b2 kept2 false = (stepped env i xid b ≡ None)
    ⊎ (kept_room < length (kept_one mine upto i xid b (env.store (entry_at b i).newest) kept))

-- of n records one is gone, once those before it were taken back and counted
abbrev pub Gone : Env → ℕ → ℕ → Xid → Home → ℕ → ℕ → Type 0
Gone env n i xid b count count2 = (k : ℕ) × (k < n) × (count2 ≡ count + k) × Stops env i xid b k

-- So many records taken back, and their rows kept; else one is gone, or the room is used up.
abbrev pub Unwound : Env → Option Xid → ℕ → ℕ → ℕ → Xid → Home → Kept → ℕ → Home → Kept
    → ℕ → Bool → Type 0
Unwound env mine upto n i xid b kept count b2 kept2 count2 true = (unwound env n i xid b ≡ Some b2)
    × (kept2 ≡ kept_after env mine upto n i xid b kept)
Unwound env mine upto n i xid b kept count b2 kept2 count2 false = Gone env n i xid b count count2
    ⊎ (kept_room < length (kept_after env mine upto n i xid b kept))

-- an entry's whole chain taken back, or why not
pub record Spent (env : Env) (mine : Option Xid) (upto n i : ℕ) (b : Home) (kept : Kept) (count : ℕ)
    (result : Result (Unit {0}) CrFault) (b2 : Home) (kept2 : Kept) (count2 : ℕ) : Type 0 where
  pub ok : OnOk result ((spent env b i ≡ Some b2) × (kept2 ≡ kept_whole env mine upto b i kept))
  pub err : IfErr result (λ e. (is_fault e ≡ false
      → Gone env (entry_at b i).chain i (entry_at b i).xid b count count2
      ⊎ (kept_room < length (kept_whole env mine upto b i kept))) × Blames n (env.lost (entry_at b i).xid.seg) e)

-- Whole chains were taken back from a home to another one, and their records counted.
abbrev pub Goes : Env → Home → ℕ → Home → ℕ → Type 0
Goes env b count b2 count2 = (start : Home) (first : ℕ) (entries : List ℕ)
    → Whole env start first entries b count → (more : List ℕ) × Whole env start first more b2 count2

-- The same, and where it was too old, then of one more chain as many as were there.
abbrev pub Counts : Env → Home → ℕ → ℕ → CrFault → Type 0
Counts env b count count2 e = (start : Home) (first : ℕ) (entries : List ℕ)
    → Whole env start first entries b count → is_fault e ≡ false → Counted env start first count2

-- the highest entry above n, or one that is over it
pub record Highest (env : Env) (n : ℕ) (b : Home) (result : Result HighestEntry CrFault) : Type 0 where
  pub ok : IfOk result (λ top. (n ≤ top.number) × ((j : ℕ) → AtMost env n top.number (entry_at b j))
      × (n < top.number → Numbered env (entry_at b top.entry) top.number))
  pub err : IfErr result (λ e. is_fault e ≡ false
      → (j : ℕ) × Over env n (entry_at b j) × Blames n (env.lost (entry_at b j).xid.seg) e)

-- the commits above n taken back
pub record Rewound (env : Env) (base : ℕ) (rows : Rows) (list : List Commit) (mine : Option Xid) (upto n : ℕ)
    (start : Home) (kept : Kept) (count : ℕ) (result : Result (Unit {0}) CrFault) (b : Home) (kept2 : Kept)
    (count2 : ℕ) : Type 0 where
  pub most : count2 ≤ count + count_above n list
  pub ok : OnOk result (Match b (rows_at n rows list) × (count2 ≡ count + count_above n list)
      × ((over : Rows) (k : ℕ) → overlay kept2 over k
      ≡ overlay kept (behind_mine mine upto (flat n list) over) k))
  pub left : OnOk result (Walk env base rows (up_to n list) b)
  pub err : IfErr result (Because env n (λ seg. WornIn env n seg (flat n list) start))
  pub counted : IfErr result (Counts env start count count2)

-- The live changes of one more entry taken back, if it is active. It is never too old for that.
pub record Passed (env : Env) (base : ℕ) (rows : Rows) (list : List Commit) (lives : List (List Change)) (r : ℕ)
    (mine : Option Xid) (upto n i d : ℕ) (start : Home) (first : Kept) (count : ℕ)
    (result : Result (Unit {0}) CrFault) (b : Home) (kept2 : Kept) (count2 : ℕ) : Type 0 where
  pub most : d + count2 ≤ count + total lives
  pub ok : OnOk result ((e : ℕ) × (f : Kept → Kept) × (count2 ≡ count + e) × (kept2 ≡ f first)
      × Running env base rows list lives r mine upto n (i + 1) (d + e) f start b)
  pub err : IfErr result (λ e. is_fault e ≡ true)

-- all live changes taken back
pub record Undone (env : Env) (base : ℕ) (rows : Rows) (list : List Commit) (lives : List (List Change)) (r : ℕ)
    (mine : Option Xid) (upto n : ℕ) (start : Home) (kept : Kept) (count : ℕ)
    (result : Result (Unit {0}) CrFault) (b : Home) (kept2 : Kept) (count2 : ℕ) : Type 0 where
  pub most : count2 ≤ count + total lives
  pub walk : OnOk result (Walk env base rows list b)
  pub counted : OnOk result (count2 ≡ count + total lives)
  pub keeps : OnOk result ((over : Rows) (k : ℕ) → overlay kept2 over k
      ≡ overlay kept (behind_mine mine upto (own lives r) over) k)
  pub room : OnOk result (length kept2 ≤ length kept + first_count mine upto (own lives r))
  pub source : OnOk result ((j seg : ℕ) → BeyondIn env n seg (entry_at b j) → WornLive env n seg lives start)
  pub err : IfErr result (λ e. is_fault e ≡ true)

-- the whole rebuild
pub record Built (env : Env) (h : History) (mine : Option Xid) (upto n : ℕ) (start : Home) (count : ℕ)
    (result : Result (Unit {0}) CrFault) (b : Home) (kept : Kept) (count2 : ℕ) : Type 0 where
  pub rows : OnOk result ((k : ℕ) → overlay kept (rows_in b.cells) k ≡ answer h mine upto n k)
  pub left : OnOk result (Walk env h.base h.rows (up_to n h.list) b)
  pub counted : OnOk result (count2 ≡ count + needed h n)
  pub most : count2 ≤ count + needed h n
  pub old : IfErr result (Because env n (Worn env h n start))
  pub stopped : IfErr result (λ e. is_fault e ≡ false → Counted env start count count2)
