-- What holds of homes that are kept at a number.
use Rattle.std.specs.Prelude.{◌≡◌, ◌<◌, ◌≤◌, ◌+◌, ℕ, List, ◌∷◌, Option}
use Rattle.rb_base.specs.declared.ids.Xid.{Xid}
use Rattle.law_read.specs.Copies.{Copied, HasNone, IsTold, Unseen}
use Rattle.law_read.specs.Heights.{AtMost, BeyondIn}
use Rattle.law_read.specs.Keeping.{Kept}
use Rattle.law_read.specs.Reading.{History, Honest, Reading, Worn, answer, count_above, flat, rows_at, rows_in, up_to}
use Rattle.law_read.specs.Turns.{Peeled, Starts, WornIn}
use Rattle.law_home.specs.Walk.{Ages, Commit, Env, Home, Match, OldCommits, Rows, entry_at, last}

-- A home from which all above n was taken back is one that can be kept at n.
abbrev pub EndIsCopied : Type 0
EndIsCopied = (env : Env) (base : ℕ) (rows : Rows) (mine : Option Xid) (upto n below steps : ℕ)
    (list : List Commit) (f : Kept → Kept) (start b : Home) → base ≤ n → n ≤ last base list
    → Peeled env base rows mine upto n below steps f list start b → ((j : ℕ) → AtMost env n n (entry_at b j))
    → Copied env base rows list n b

-- A home kept at n shows the rows at n.
abbrev pub CopyShows : Type 0
CopyShows = (env : Env) (base : ℕ) (rows : Rows) (list : List Commit) (n : ℕ) (b : Home)
    → Copied env base rows list n b → (k : ℕ) → rows_in b.cells k ≡ rows_at n rows list k

-- From one kept at m the walk goes on to n ≤ m as from a block: it begins so,
abbrev pub CopyBegins : Type 0
CopyBegins = (env : Env) (base : ℕ) (rows : Rows) (n m limit : ℕ) (list : List Commit) (b : Home) → Honest env
    → base ≤ n → last base list < limit → Copied env base rows list m b
    → Starts env base rows n limit (up_to m list) b

-- and ends at the rows at n, with as many records fewer as stand above m; the home that it ends at can be kept at n.
abbrev pub CopyIsRead : Type 0
CopyIsRead = (env : Env) (base : ℕ) (rows : Rows) (mine : Option Xid) (upto n m below steps : ℕ)
    (list : List Commit) (f : Kept → Kept) (start b : Home) → Honest env → base ≤ n → n ≤ m
    → Copied env base rows list m start
    → Peeled env base rows mine upto n below steps f (up_to m list) start b
    → ((j : ℕ) → AtMost env n n (entry_at b j))
    → Match b (rows_at n rows list) × (steps + count_above m list ≡ count_above n list)
    × Copied env base rows list n b

-- Where it can't be taken back so far, and no entry of the kept home is beyond n, the block's home can't either.
abbrev pub CopyIsWorn : Type 0
CopyIsWorn = (env : Env) (h : History) (n m seg : ℕ) (start block : Home) → n ≤ m
    → ((j : ℕ) → BeyondIn env n seg (entry_at start j) → ⊥)
    → WornIn env n seg (flat n (up_to m h.list)) start → Worn env h n block seg

-- It stays one that can be kept as records go and looks become bounds, whatever is written to its block,
abbrev pub CopyAges : Type 0
CopyAges = (w : ℕ → ℕ) (env env2 : Env) (base : ℕ) (rows : Rows) (list : List Commit) (n : ℕ) (b : Home)
    → Ages w env env2 → OldCommits w list → Copied env base rows list n b → Copied env2 base rows list n b

-- and as another commit is made.
abbrev pub CopyOutlivesCommit : Type 0
CopyOutlivesCommit = (env : Env) (base : ℕ) (rows : Rows) (t : Commit) (list : List Commit) (n : ℕ) (b : Home)
    → last base list < t.number → Copied env base rows list n b → Copied env base rows (t ∷ list) n b

-- A reader of whose first changes none stands above n in the block sees the rows at n,
abbrev pub UnseenIsPlain : Type 0
UnseenIsPlain = (h : History) (mine : Option Xid) (upto n : ℕ) → Unseen h mine upto n → (k : ℕ)
    → answer h mine upto n k ≡ rows_at n h.rows h.list k

-- and one that has none here is such a reader.
abbrev pub NoneIsUnseen : Type 0
NoneIsUnseen = (env : Env) (h : History) (mine : Option Xid) (upto n : ℕ) (b : Home)
    → Reading env h mine upto n b → IsTold env h mine upto n → HasNone env b mine upto → Unseen h mine upto n
