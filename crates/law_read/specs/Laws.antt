-- What holds of a home that is read at a snapshot: turn by turn, as chains are taken back, and in the end.
use Rattle.std.specs.Prelude.{◌≡◌, ◌⊎◌, ◌<◌, ◌≤◌, ◌+◌, ◌-◌, ◌^◌, ℕ, List, length}
use Rattle.std.specs.Prelude.{Option, Some, None, true}
use Rattle.rb_base.specs.declared.ids.Xid.{Xid}
use Rattle.law_read.specs.Chains.{is_own, spent, stepped}
use Rattle.law_read.specs.Heights.{AtMost, Numbered, Over}
use Rattle.law_read.specs.Keeping.{Kept, behind_mine, first_count, kept_room, kept_whole, overlay}
use Rattle.law_read.specs.Late.{late_above, seen_at, touched}
use Rattle.law_read.specs.Reading.{History, Honest, Reader, Reading, Runs, Down, count_above, flat, rows_at}
use Rattle.law_read.specs.Reading.{answer, needed, rows_in, total}
use Rattle.law_read.specs.Turns.{Ends, Peeled, Running, Starts, Watched, WornIn, WornLive}
use Rattle.law_read.specs.Heights.{BeyondIn}
use Rattle.law_home.specs.Steps.{Stands}
use Rattle.law_home.specs.Walk.{Change, Commit, Distinct, Home, Env, Rows, Walk, Match, IsActive, entry_at, last, own}

-- Whatever the records are, one that is taken back leaves an entry of the same transaction with a chain shorter by one,
-- or it was the last one of the chain. So a chain ends, and takes no record back twice.
abbrev pub StepsShorten : Type 0
StepsShorten = (env : Env) (i : ℕ) (xid : Xid) (b b2 : Home) → i < length b.entries
    → stepped env i xid b ≡ Some b2
    → ((is_own xid (entry_at b2 i) ≡ true) × ((entry_at b2 i).chain + 1 ≡ (entry_at b i).chain))
    ⊎ ((entry_at b i).chain ≡ 1)

-- A home that stands can be read by few enough changes of one slot, at any number from the base on.
abbrev pub StandingIsRead : Type 0
StandingIsRead = (env : Env) (made : ℕ → ℕ) (h : History) (mine : Option Xid) (upto n : ℕ) (b : Home)
    → Stands env made h.base h.rows h.list h.lives b → Honest env → h.base ≤ n
    → last h.base h.list < 2 ^ 64 - 1 → Reader env h.reader mine
    → first_count mine upto (own h.lives h.reader) + first_count mine upto (flat n h.list) ≤ kept_room
    → Reading env h mine upto n b

-- Of changes that are numbered downwards no more are a reader's first than their greatest number, and than its own.
abbrev pub FirstAreFew : Type 0
FirstAreFew = (mine : Option Xid) (upto n : ℕ) (chs : List Change) → Down n chs
    → (first_count mine upto chs ≤ n) × (first_count mine upto chs ≤ upto)

-- Nothing is taken back at first.
abbrev pub LiveBegin : Type 0
LiveBegin = (env : Env) (base : ℕ) (rows : Rows) (list : List Commit) (lives : List (List Change)) (r : ℕ)
    (mine : Option Xid) (upto n m : ℕ) (start : Home) → Runs env base rows list m lives start
    → Running env base rows list lives r mine upto n 0 0 (λ kept. kept) start start

-- The next entry is passed by where it isn't active. Where it is, its whole chain can be taken back: no record of it
-- is gone. It has no more records than there are live changes, and keeps no more rows than the reader's first of them.
abbrev pub QuietIsPassed : Type 0
QuietIsPassed = (env : Env) (base : ℕ) (rows : Rows) (list : List Commit) (lives : List (List Change)) (r : ℕ)
    (mine : Option Xid) (upto n k steps : ℕ) (f : Kept → Kept) (start b : Home)
    → Running env base rows list lives r mine upto n k steps f start b → (IsActive env (entry_at b k) → ⊥)
    → Running env base rows list lives r mine upto n (k + 1) steps f start b

abbrev pub ActiveIsTakenBack : Type 0
ActiveIsTakenBack = (env : Env) (base : ℕ) (rows : Rows) (list : List Commit) (lives : List (List Change)) (r : ℕ)
    (mine : Option Xid) (upto n k steps : ℕ) (f : Kept → Kept) (start b : Home)
    → Distinct env → Reader env r mine
    → Running env base rows list lives r mine upto n k steps f start b → IsActive env (entry_at b k)
    → ((b2 : Home) × (spent env b k ≡ Some b2)
    × Running env base rows list lives r mine upto n (k + 1) (steps + (entry_at b k).chain)
    (λ kept. kept_whole env mine upto b k (f kept)) start b2)
    × (steps + (entry_at b k).chain ≤ total lives)
    × ((kept : Kept) → length (kept_whole env mine upto b k (f kept))
    ≤ length kept + first_count mine upto (own lives r))

-- Behind the last entry all live changes are taken back, with their count and the reader's first ones kept.
abbrev pub LiveAreTakenBack : Type 0
LiveAreTakenBack = (env : Env) (base : ℕ) (rows : Rows) (list : List Commit) (lives : List (List Change)) (r : ℕ)
    (mine : Option Xid) (upto n k steps : ℕ) (f : Kept → Kept) (start b : Home) → Distinct env
    → Running env base rows list lives r mine upto n k steps f start b → length b.entries ≤ k
    → Walk env base rows list b × (steps ≡ total lives)
    × ((kept : Kept) (over : Rows) (key : ℕ) → overlay (f kept) over key
    ≡ overlay kept (behind_mine mine upto (own lives r) over) key)
    × ((kept : Kept) → length (f kept) ≤ length kept + first_count mine upto (own lives r))
    × ((j seg : ℕ) → BeyondIn env n seg (entry_at b j) → WornLive env n seg lives start)

abbrev pub CommitsBegin : Type 0
CommitsBegin = (env : Env) (base : ℕ) (rows : Rows) (mine : Option Xid) (upto n limit : ℕ) (list : List Commit)
    (b : Home) → Starts env base rows n limit list b
    → Peeled env base rows mine upto n limit 0 (λ kept. kept) list b b

-- The chain of the entry with the greatest number above n, where no entry is active or above n by a bound, is that of
-- the newest commit left. It is taken back whole, or a record of it is gone: then that number is at most what was lost.
-- Its number is below those before, it has no more records than stand above n, and keeps no more rows than the reader's
-- first of them.
abbrev pub CommitIsTakenBack : Type 0
CommitIsTakenBack = (env : Env) (base : ℕ) (rows : Rows) (mine : Option Xid) (upto n below steps : ℕ)
    (list : List Commit) (f : Kept → Kept) (start b : Home) → Honest env → base ≤ n
    → Peeled env base rows mine upto n below steps f list start b
    → (i c : ℕ) → n < c → ((j : ℕ) → AtMost env n c (entry_at b j)) → Numbered env (entry_at b i) c
    → (c < below) × (steps + (entry_at b i).chain ≤ count_above n list)
    × ((kept : Kept) → length (kept_whole env mine upto b i (f kept))
    ≤ length kept + first_count mine upto (flat n list))
    × Ends env (entry_at b i).xid.seg c (WornIn env n (entry_at b i).xid.seg (flat n list) start)
    (Peeled env base rows mine upto n c (steps + (entry_at b i).chain)
    (λ kept. kept_whole env mine upto b i (f kept)) list start) (spent env b i)

-- Where no entry is above n, the cells have the rows at n, and all changes above it are taken back, with their count
-- and the reader's first ones kept.
abbrev pub NoneAboveIsRead : Type 0
NoneAboveIsRead = (env : Env) (base : ℕ) (rows : Rows) (mine : Option Xid) (upto n below steps : ℕ)
    (list : List Commit) (f : Kept → Kept) (start b : Home) → Honest env → base ≤ n
    → Peeled env base rows mine upto n below steps f list start b → ((j : ℕ) → AtMost env n n (entry_at b j))
    → Match b (rows_at n rows list) × (steps ≡ count_above n list)
    × ((kept : Kept) (over : Rows) (key : ℕ) → overlay (f kept) over key
    ≡ overlay kept (behind_mine mine upto (flat n list) over) key)

-- An entry that is above n by a bound is so for what its segment lost, and that is above n.
abbrev pub BoundIsWorn : Type 0
BoundIsWorn = (env : Env) (base : ℕ) (rows : Rows) (mine : Option Xid) (upto n below steps : ℕ)
    (list : List Commit) (f : Kept → Kept) (start b : Home) → Honest env → base ≤ n
    → Peeled env base rows mine upto n below steps f list start b → (i : ℕ) → Over env n (entry_at b i)
    → (n < env.lost (entry_at b i).xid.seg) × WornIn env n (entry_at b i).xid.seg (flat n list) start

-- The cells of a home show exactly the rows that it has.
abbrev pub CellsShowRows : Type 0
CellsShowRows = (b : Home) (rows : Rows) → Match b rows → (k : ℕ) → rows_in b.cells k ≡ rows k

-- Where no entry of a home is active or above n, its cells show the rows at n with the reader's first changes over
-- them, and nothing is to be taken back.
abbrev pub QuietIsRead : Type 0
QuietIsRead = (env : Env) (h : History) (mine : Option Xid) (upto n : ℕ) (b : Home) → Reading env h mine upto n b
    → ((j : ℕ) → AtMost env n n (entry_at b j))
    → ((k : ℕ) → rows_in b.cells k ≡ answer h mine upto n k) × (needed h n ≡ 0)

-- Of a key: no commit was seen to change it at first.
abbrev pub WatchBegins : Type 0
WatchBegins = (env : Env) (base : ℕ) (rows : Rows) (n key limit : ℕ) (list : List Commit) (b : Home)
    → Starts env base rows n limit list b → Watched env base rows n key limit None list b b

-- The chain of the entry with the greatest number above n is taken back as above. Its records tell whether the commit
-- changes the key. Those that are newer have no changes here.
abbrev pub CommitIsWatched : Type 0
CommitIsWatched = (env : Env) (base : ℕ) (rows : Rows) (n key below : ℕ) (least : Option ℕ) (list : List Commit)
    (start b : Home) → Honest env → base ≤ n → Watched env base rows n key below least list start b
    → (i c : ℕ) → n < c → ((j : ℕ) → AtMost env n c (entry_at b j)) → Numbered env (entry_at b i) c
    → (c < below)
    × Ends env (entry_at b i).xid.seg c (WornIn env n (entry_at b i).xid.seg (flat n list) start)
    (Watched env base rows n key c (seen_at c (touched env key b i) least) list start) (spent env b i)

-- Where no entry is above n, the last one seen is the first commit above n that changes the key.
abbrev pub NoneAboveIsLate : Type 0
NoneAboveIsLate = (env : Env) (base : ℕ) (rows : Rows) (n key below : ℕ) (least : Option ℕ) (list : List Commit)
    (start b : Home) → Watched env base rows n key below least list start b
    → ((j : ℕ) → AtMost env n n (entry_at b j)) → late_above n key list ≡ least

-- An entry that is above n by a bound is so here too for what its segment lost.
abbrev pub WatchedBoundIsWorn : Type 0
WatchedBoundIsWorn = (env : Env) (base : ℕ) (rows : Rows) (n key below : ℕ) (least : Option ℕ)
    (list : List Commit) (start b : Home) → Watched env base rows n key below least list start b → (i : ℕ)
    → Over env n (entry_at b i)
    → (n < env.lost (entry_at b i).xid.seg) × WornIn env n (entry_at b i).xid.seg (flat n list) start

-- Where no entry of a home is active or above n, no commit above n changes a key of it.
abbrev pub QuietIsOld : Type 0
QuietIsOld = (env : Env) (h : History) (mine : Option Xid) (upto n key : ℕ) (b : Home)
    → Reading env h mine upto n b → ((j : ℕ) → AtMost env n n (entry_at b j))
    → late_above n key h.list ≡ None
