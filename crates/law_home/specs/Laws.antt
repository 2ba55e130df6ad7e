-- What holds of the changes of one home: how it stands after each step, and what it then shows.
use Rattle.std.specs.Prelude.{◌≡◌, ◌≢◌, ◌<◌, ◌≤◌, ℕ, suc, List, [], ◌∷◌, length, map}
use Rattle.std.specs.Prelude.{set, Some, None}
use Rattle.rb_base.specs.declared.ids.Xid.{Xid}
use Rattle.rb_model.specs.Change.{Kind, Place}
use Rattle.rb_txntable.specs.declared.looks.Look.TheVariants.{Active}
use Rattle.rb_txntable.specs.Looks.{LookAges}
use Rattle.law_home.specs.Homes.{here, narrow, AllSited}
use Rattle.law_home.specs.Kinds.{sort_of, Empty, Undo}
use Rattle.law_home.specs.Steps.{Stands, Lives, Names, HeldCell, cleaned, live_rows}
use Rattle.law_home.specs.Walk.{Change, Commit, Home, Env, Rows, Walk, Match, AllEmpty, Distinct, OldCommits}
use Rattle.law_home.specs.Walk.{IsActive, Ages, LiveAges, Commits, own, back, last, rows_of, cell_at, entry_at}
use Rattle.law_home.specs.Walk.{lock_of, taken, free_entry}
use Rattle.law_home.specs.Writes.{Fits, written, change_of}

-- An empty home stands before any change.
abbrev pub FreshStands : Type 0
FreshStands = (env : Env) (lives : List (List Change)) (b : Home) → AllEmpty lives
    → ((x : Xid) → env.look x ≢ Active) → ((p : Place) → env.store p ≡ None)
    → ((i : ℕ) → entry_at b i ≡ free_entry) → ((j : ℕ) → cell_at b j ≡ Empty)
    → Stands env (λ g. 0) 0 (λ k. None) [] lives b

-- A home stands as its entries say what the segments say by now.
abbrev pub CleanedStands : Type 0
CleanedStands = (base : ℕ) (rows : Rows) (list : List Commit) (w : ℕ → ℕ) (env : Env)
    (lives : List (List Change)) (b : Home) → Stands env w base rows list lives b
    → Stands env w base rows list lives (cleaned env b)

-- It stands after a write of a session that is active, at an entry and a cell that the change may use, where the
-- record of the change is made already, names this block and says what stood there.
abbrev pub WrittenStands : Type 0
WrittenStands = (w : ℕ → ℕ) (base : ℕ) (rows : Rows) (list : List Commit) (env : Env)
    (lives : List (List Change)) (b : Home) → Stands env w base rows list lives b → (s : ℕ) → s < length lives
    → env.look (env.xid s) ≡ Active → (r : Undo) (kind : Kind) (place : Place) → env.store place ≡ Some r
    → r.xid ≡ env.xid s → r.home ≡ b.block → r.sort ≡ sort_of kind → place.seg ≡ (env.xid s).seg
    → r.entry_before ≡ entry_at b r.entry → r.cell_before ≡ cell_at b r.cell
    → Fits b (env.xid s) r.key r.entry r.cell
    → Stands env w base rows list (set lives s (change_of kind r place ∷ own lives s)) (written kind r place b)

-- The newest live change of a session has its record, and the home stands as that is put back.
abbrev pub PutBackStands : Type 0
PutBackStands = (base : ℕ) (rows : Rows) (list : List Commit) (w : ℕ → ℕ) (env : Env)
    (lives : List (List Change)) (b : Home) (s : ℕ) (ch : Change) (more : List Change) → own lives s ≡ ch ∷ more
    → Stands env w base rows list lives b
    → (r : Undo) × (env.store ch.place ≡ Some r) × Stands env w base rows list (set lives s more) (back r b)

-- It stands after a commit of a session, whose live changes are then the newest commit, untouched in the home itself.
abbrev pub CommittedStands : Type 0
CommittedStands = (base : ℕ) (rows : Rows) (list : List Commit) (w : ℕ → ℕ) (env env2 : Env) (s c : ℕ)
    (lives : List (List Change)) (b : Home) → s < length lives → last base list < c → Commits w env env2 s c
    → Distinct env2 → Stands env w base rows list lives b
    → Stands env2 w base rows (record { xid = env.xid s; number = c; changes = own lives s } ∷ list)
    (set lives s []) b

-- It stands as records are made or go and looks become bounds, while the sessions with live changes here go on.
abbrev pub AgedStands : Type 0
AgedStands = (base : ℕ) (rows : Rows) (list : List Commit) (w w2 : ℕ → ℕ) (env env2 : Env)
    (lives : List (List Change)) (b : Home) → ((g : ℕ) → w g ≤ w2 g) → LiveAges (Lives lives) w env env2
    → Distinct env2 → OldCommits w2 list
    → ((p : Place) (r : Undo) → env2.store p ≡ Some r → p.index ≤ w2 p.seg)
    → Stands env w base rows list lives b → Stands env2 w2 base rows list lives b

-- What each entry says ages where each look and each segment's lost does.
abbrev pub LooksMakeAges : Type 0
LooksMakeAges = (env env2 : Env) → ((g : ℕ) → env.lost g ≤ env2.lost g)
    → ((x : Xid) → LookAges (env.lost x.seg) (env2.lost x.seg) (env.look x) (env2.look x)) → (w : ℕ → ℕ)
    → ((p : Place) (r : Undo) → p.index ≤ w p.seg → env2.store p ≡ Some r → env.store p ≡ Some r)
    → ((p : Place) → p.index ≤ w p.seg → env.limit p ≤ env2.limit p) → Ages w env env2

-- Whatever lives and commits a home stands for, taking its live changes back ends at one home: which changes are live
-- is told by the home and the records.
abbrev pub EndsAtOneHome : Type 0
EndsAtOneHome = (env : Env) (w v : ℕ → ℕ) (base start : ℕ) (rows others : Rows) (list commits : List Commit)
    (lives others_live : List (List Change)) (b : Home) → Stands env w base rows list lives b
    → Stands env v start others commits others_live b
    → (end : Home) × Walk env base rows list end × Walk env start others commits end

-- The cells have the rows after all commits and, over those, the live changes of each session.
abbrev pub ShowsLive : Type 0
ShowsLive = (env : Env) (w : ℕ → ℕ) (base : ℕ) (rows : Rows) (list : List Commit) (lives : List (List Change))
    (b : Home) → Stands env w base rows list lives b → Match b (live_rows lives (rows_of rows list))

-- With no live change the cells have the rows after all commits, and those may become the base.
abbrev pub ShowsRows : Type 0
ShowsRows = (env : Env) (w : ℕ → ℕ) (base : ℕ) (rows : Rows) (list : List Commit) (lives : List (List Change))
    (b : Home) → AllEmpty lives → Stands env w base rows list lives b → Match b (rows_of rows list)

abbrev pub AnewStands : Type 0
AnewStands = (env : Env) (w : ℕ → ℕ) (base : ℕ) (rows : Rows) (list : List Commit) (lives : List (List Change))
    (b : Home) → AllEmpty lives → Stands env w base rows list lives b
    → Stands env w (last base list) (rows_of rows list) [] lives b

-- A key that a session's live changes name has a cell, locked by that session's one active entry. No other session's
-- live changes name it, and a key whose cell an active entry locks is named by those of its session.
abbrev pub HeldIsLocked : Type 0
HeldIsLocked = (env : Env) (w : ℕ → ℕ) (base : ℕ) (rows : Rows) (list : List Commit)
    (lives : List (List Change)) (b : Home) → Stands env w base rows list lives b → (s key : ℕ)
    → Names (own lives s) key → HeldCell env b s key

abbrev pub HeldByOne : Type 0
HeldByOne = (env : Env) (w : ℕ → ℕ) (base : ℕ) (rows : Rows) (list : List Commit)
    (lives : List (List Change)) (b : Home) → Stands env w base rows list lives b → (s u key : ℕ)
    → Names (own lives s) key → Names (own lives u) key → s ≡ u

abbrev pub LockedIsHeld : Type 0
LockedIsHeld = (env : Env) (w : ℕ → ℕ) (base : ℕ) (rows : Rows) (list : List Commit)
    (lives : List (List Change)) (b : Home) → Stands env w base rows list lives b → (i j key : ℕ)
    → IsActive env (entry_at b i) → taken (cell_at b j) ≡ Some key → lock_of (cell_at b j) ≡ suc i
    → (s : ℕ) × ((entry_at b i).xid ≡ env.xid s) × Names (own lives s) key

-- The row of a key follows from the changes of its home alone, and so do the live changes of each session there.
abbrev pub RowsByHome : Type 0
RowsByHome = (b : ℕ) (rows : Rows) (list : List Commit) (k : ℕ) → AllSited b k list
    → rows_of rows list k ≡ rows_of rows (map (narrow b) list) k

abbrev pub LivesByHome : Type 0
LivesByHome = (b : ℕ) (lives : List (List Change)) (s : ℕ) (chs : List Change)
    → map (here b) (set lives s chs) ≡ set (map (here b) lives) s (here b chs)

abbrev pub ChangesByHome : Type 0
ChangesByHome = (b : ℕ) (chs : List Change) (ch : Change)
    → (ch.home ≡ b → here b (ch ∷ chs) ≡ ch ∷ here b chs)
    × (ch.home ≢ b → here b (ch ∷ chs) ≡ here b chs)
