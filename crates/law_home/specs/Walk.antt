-- The changes of one home, and the walk that takes them back.
use Rattle.std.specs.Prelude.{◌≡◌, ◌≢◌, ◌⊎◌, ◌<◌, ◌≤◌, ◌==◌, ℕ, zero, suc}
use Rattle.std.specs.Prelude.{if◌then◌else◌, List, [], ◌∷◌, length, get_or, set, Option, Some, None}
use Rattle.rb_model.specs.Change.{Kind, Put, Gone, Held, Place}
use Rattle.law_home.specs.Kinds.{sort_of, Status, Free, Open, Exact, Bound, Entry, Cell, Empty, Row, Stub, Undo}
use Rattle.rb_base.specs.declared.ids.Xid.{Xid}
use Rattle.rb_txntable.specs.declared.looks.Look.{Look}
use Rattle.rb_txntable.specs.declared.looks.Look.TheVariants.{Active, At, Before}

pub record Change : Type 0 where
  pub home : ℕ
  pub place : Place
  pub xid : Xid
  pub number : ℕ
  pub key : ℕ
  pub kind : Kind

-- the changes of a commit in this home, newest first
pub record Commit : Type 0 where
  pub xid : Xid
  pub number : ℕ
  pub changes : List Change

-- a block's number, and what stands in it
pub record Home : Type 0 where
  pub block : ℕ
  pub entries : List Entry
  pub cells : List Cell

-- what the segment says now: its records, how each transaction stands, the session's own, lost, and for each
-- place the number of its turn, or lost where the turn is gone
pub record Env : Type 0 where
  pub store : Place → Option Undo
  pub look : Xid → Look
  pub xid : ℕ → Xid
  pub lost : ℕ → ℕ
  pub limit : Place → ℕ

abbrev pub Rows : Type 0
Rows = ℕ → Option (List ℕ)

abbrev pub changed : Kind → ℕ → Rows → Rows
changed (Put v) key rows k = if k == key then Some v else rows k
changed Gone key rows k = if k == key then None else rows k
changed Held key rows k = rows k

abbrev pub behind : List Change → Rows → Rows
behind [] rows = rows
behind (ch ∷ more) rows = changed ch.kind ch.key (behind more rows)

-- the rows after these commits, newest first
abbrev pub rows_of : Rows → List Commit → Rows
rows_of base [] = base
rows_of base (t ∷ older) = behind t.changes (rows_of base older)

abbrev pub row_of : Cell → Rows
row_of Empty k = None
row_of (Row key v lock) k = if k == key then Some v else None
row_of (Stub key lock) k = None

abbrev pub free_entry : Entry
free_entry = record {
  status = Free;
  xid = record { seg = 0; slot = 0; wrap = 0 };
  newest = record { seg = 0; index = 0 };
  chain = 0;
}

abbrev pub cell_at : Home → ℕ → Cell
cell_at b j = get_or b.cells j Empty

abbrev pub entry_at : Home → ℕ → Entry
entry_at b i = get_or b.entries i free_entry

abbrev pub lock_of : Cell → ℕ
lock_of Empty = 0
lock_of (Row key v lock) = lock
lock_of (Stub key lock) = lock

-- the key that a cell keeps for itself: of a row or a locked cell
abbrev pub taken : Cell → Option ℕ
taken Empty = None
taken (Row key v lock) = Some key
taken (Stub key zero) = None
taken (Stub key (suc lock)) = Some key

-- the cells have these rows and no others
pub record Match (b : Home) (rows : Rows) : Type 0 where
  pub sound : (j k : ℕ) (v : List ℕ) → row_of (cell_at b j) k ≡ Some v → rows k ≡ Some v
  pub complete : (k : ℕ) (v : List ℕ) → rows k ≡ Some v → (j : ℕ) × (row_of (cell_at b j) k ≡ Some v)

abbrev pub Unique : Home → Type 0
Unique b = (i j k : ℕ) → taken (cell_at b i) ≡ Some k → taken (cell_at b j) ≡ Some k → i ≡ j

-- one undo record applied
abbrev pub back : Undo → Home → Home
back r b = record {
  block = b.block;
  entries = set b.entries r.entry r.entry_before;
  cells = set b.cells r.cell r.cell_before;
}

abbrev pub put : ℕ → Entry → ℕ → Cell → Home → Home
put i e c x b = record { block = b.block; entries = set b.entries i e; cells = set b.cells c x }

-- an entry, or a look, that says of a transaction committed at c what is true
abbrev pub LookSays : ℕ → Look → ℕ → Type 0
LookSays lost Active c = ⊥
LookSays lost (At k) c = k ≡ c
LookSays lost (Before b) c = (c ≤ b) × (b ≤ lost)

abbrev pub StatusSays : Env → Xid → Status → ℕ → Type 0
StatusSays env xid Free c = ⊥
StatusSays env xid Open c = LookSays (env.lost xid.seg) (env.look xid) c
StatusSays env xid (Exact k) c = k ≡ c
StatusSays env xid (Bound b) c = (c ≤ b) × (b ≤ env.lost xid.seg)

abbrev pub Says : Env → Entry → ℕ → Type 0
Says env e c = StatusSays env e.xid e.status c

-- nothing above n, and nothing active
abbrev pub LookBelow : ℕ → Look → ℕ → Type 0
LookBelow lost Active n = ⊥
LookBelow lost (At k) n = k ≤ n
LookBelow lost (Before b) n = b ≤ lost

abbrev pub StatusBelow : Env → Xid → Status → ℕ → Type 0
StatusBelow env xid Free n = Unit {0}
StatusBelow env xid Open n = LookBelow (env.lost xid.seg) (env.look xid) n
StatusBelow env xid (Exact k) n = k ≤ n
StatusBelow env xid (Bound b) n = b ≤ env.lost xid.seg

abbrev pub Below : Env → Entry → ℕ → Type 0
Below env e n = StatusBelow env e.xid e.status n

-- the record of a committed change, at this entry, with so many older ones of its transaction here. The oldest one
-- took an entry that wasn't open, and the others the transaction's own
pub record Names (r : Undo) (t : Xid) (i : ℕ) (ch : Change) (older : ℕ) (b : Home) : Type 0 where
  pub xid : r.xid ≡ t
  pub of : ch.xid ≡ t
  pub entry : r.entry ≡ i
  pub within : r.entry < length b.entries
  pub cell : r.cell < length b.cells
  pub number : r.number ≡ ch.number
  pub key : r.key ≡ ch.key
  pub home : r.home ≡ ch.home
  pub here : r.home ≡ b.block
  pub sort : r.sort ≡ sort_of ch.kind
  pub shows : (k : ℕ) → row_of (cell_at b r.cell) k ≡ changed ch.kind ch.key (row_of r.cell_before) k
  pub oldest : older ≡ 0 → r.entry_before.status ≢ Open
  pub later : older ≢ 0 → r.entry_before.status ≡ Open

-- where the entry stands for a chain of so many changes, the newest at this place, which is of the transaction's
-- segment
pub record Leads (e : Entry) (t : Xid) (place : Place) (n : ℕ) : Type 0 where
  pub xid : e.xid ≡ t
  pub newest : e.newest ≡ place
  pub chain : e.chain ≡ n
  pub seg : place.seg ≡ t.seg

-- one transaction's changes taken back, and then this
abbrev pub Chain : Env → Xid → ℕ → ℕ → List Change → Home → (Home → Type 0) → Type 0
Chain env t c i [] b rest = rest b
Chain env t c i (ch ∷ more) b rest =
    Leads (entry_at b i) t ch.place (suc (length more))
    × (c ≤ env.limit ch.place)
    × ((r : Undo) → env.store ch.place ≡ Some r → Names r t i ch (length more) b
    × Chain env t c i more (back r b) rest)

-- a commit with changes here has an entry that says its number or more, and the others are below it
abbrev pub Told : Env → Home → ℕ → ℕ → ℕ → List Change → Type 0
Told env b i c lower [] = Unit {0}
Told env b i c lower (ch ∷ more) = Says env (entry_at b i) c
    × ((j : ℕ) → j ≢ i → Below env (entry_at b j) lower)

pub record Boundary (env : Env) (b : Home) (n : ℕ) (rows : Rows) : Type 0 where
  pub is : Match b rows
  pub below : (i : ℕ) → Below env (entry_at b i) n

-- the last number among these, or the base's
abbrev pub last : ℕ → List Commit → ℕ
last base [] = base
last base (t ∷ older) = t.number

abbrev pub Walk : Env → ℕ → Rows → List Commit → Home → Type 0
Walk env base rows [] b = Boundary env b base rows
Walk env base rows (t ∷ older) b =
    Boundary env b t.number (rows_of rows (t ∷ older))
    × (last base older < t.number)
    × ((i : ℕ) × Told env b i t.number (last base older) t.changes
    × Chain env t.xid t.number i t.changes b (Walk env base rows older))

abbrev pub IsActive : Env → Entry → Type 0
IsActive env e = (e.status ≡ Open) × (env.look e.xid ≡ Active)

-- the newest live change of a session, which has n changes here
pub record Head (env : Env) (s : ℕ) (ch : Change) (n : ℕ) (b : Home) (r : Undo) : Type 0 where
  pub there : env.store ch.place ≡ Some r
  pub active : env.look (env.xid s) ≡ Active
  pub xid : r.xid ≡ env.xid s
  pub of : ch.xid ≡ env.xid s
  pub within : r.entry < length b.entries
  pub cell : r.cell < length b.cells
  pub number : r.number ≡ ch.number
  pub key : r.key ≡ ch.key
  pub home : r.home ≡ ch.home
  pub here : r.home ≡ b.block
  pub sort : r.sort ≡ sort_of ch.kind
  pub status : (entry_at b r.entry).status ≡ Open
  pub leads : Leads (entry_at b r.entry) (env.xid s) ch.place n
  pub only : (j : ℕ) → IsActive env (entry_at b j) → (entry_at b j).xid ≡ env.xid s → j ≡ r.entry
  pub lock : lock_of (cell_at b r.cell) ≡ suc r.entry
  pub has_key : taken (cell_at b r.cell) ≡ Some ch.key
  pub shows : (k : ℕ) → row_of (cell_at b r.cell) k ≡ changed ch.kind ch.key (row_of r.cell_before) k
  pub cell_before : (taken r.cell_before ≡ None) ⊎ (taken r.cell_before ≡ Some ch.key)
  pub lock_before : (lock_of r.cell_before ≡ 0)
      ⊎ ((lock_of r.cell_before ≡ suc r.entry) × (r.entry_before.status ≡ Open))
  pub entry_before : r.entry_before.status ≡ Open → r.entry_before.xid ≡ r.xid
  pub oldest : n ≡ 1 → r.entry_before.status ≢ Open

abbrev pub own : List (List Change) → ℕ → List Change
own lives s = get_or lives s []

abbrev pub AllEmpty : List (List Change) → Type 0
AllEmpty lives = (s : ℕ) → own lives s ≡ []

abbrev pub In : Change → List Change → Type 0
In x [] = ⊥
In x (ch ∷ more) = (ch ≡ x) ⊎ In x more

-- a live change of session s names cell j
abbrev pub NamesCell : Env → List (List Change) → ℕ → ℕ → Type 0
NamesCell env lives s j = (ch : Change) × (r : Undo) × In ch (own lives s) × (env.store ch.place ≡ Some r)
    × (r.cell ≡ j) × (r.xid ≡ env.xid s)

-- a lock of an active entry is of a cell that one of its session's live changes names
abbrev pub Owned : Env → List (List Change) → Home → Type 0
Owned env lives b = (i j : ℕ) → IsActive env (entry_at b i) → lock_of (cell_at b j) ≡ suc i → (s : ℕ)
    × ((entry_at b i).xid ≡ env.xid s) × NamesCell env lives s j

-- the live changes taken back in any order of sessions, each session's newest first, and then this
abbrev pub Tree : Env → ℕ → List (List Change) → Home → (Home → Type 0) → Type 0
Tree env zero lives b rest = AllEmpty lives × ((j : ℕ) → IsActive env (entry_at b j) → ⊥) × rest b
Tree env (suc m) lives b rest =
    ((s : ℕ) (ch : Change) (more : List Change) → own lives s ≡ ch ∷ more →
    (r : Undo) × Head env s ch (suc (length more)) b r × Tree env m (set lives s more) (back r b) rest)
    × ((j : ℕ) → IsActive env (entry_at b j) → (s : ℕ) × (ch : Change) × (more : List Change)
    × (own lives s ≡ ch ∷ more) × ((entry_at b j).xid ≡ env.xid s))
    × (AllEmpty lives → rest b)
    × Owned env lives b

abbrev pub OldChanges : (ℕ → ℕ) → List Change → Type 0
OldChanges w [] = Unit {0}
OldChanges w (ch ∷ more) = (ch.place.index ≤ w ch.place.seg) × OldChanges w more

abbrev pub OldCommits : (ℕ → ℕ) → List Commit → Type 0
OldCommits w [] = Unit {0}
OldCommits w (t ∷ older) = OldChanges w t.changes × OldCommits w older

-- what a later moment may say of what there was: records up to w may be gone, and looks may become bounds
pub record Ages (w : ℕ → ℕ) (env env2 : Env) : Type 0 where
  pub store : (p : Place) (r : Undo) → p.index ≤ w p.seg → env2.store p ≡ Some r → env.store p ≡ Some r
  pub says : (e : Entry) (c : ℕ) → Says env e c → Says env2 e c
  pub below : (e : Entry) (n : ℕ) → Below env e n → Below env2 e n
  -- a turn that begins has no number yet, so this is of places made before alone
  pub limit : (p : Place) → p.index ≤ w p.seg → env.limit p ≤ env2.limit p

-- two states that differ at most in locks and in how an entry tells its number
pub record Alike (env env2 : Env) (b b2 : Home) : Type 0 where
  pub block : b2.block ≡ b.block
  pub entries : length b2.entries ≡ length b.entries
  pub cells : length b2.cells ≡ length b.cells
  pub rows : (j k : ℕ) → row_of (cell_at b2 j) k ≡ row_of (cell_at b j) k
  pub xid : (i : ℕ) → (entry_at b2 i).xid ≡ (entry_at b i).xid
  pub newest : (i : ℕ) → (entry_at b2 i).newest ≡ (entry_at b i).newest
  pub chain : (i : ℕ) → (entry_at b2 i).chain ≡ (entry_at b i).chain
  pub says : (i c : ℕ) → Says env (entry_at b i) c → Says env2 (entry_at b2 i) c
  pub below : (i n : ℕ) → Below env (entry_at b i) n → Below env2 (entry_at b2 i) n

-- what one write is to be, in a block that is as the record says
pub record Write (env : Env) (s : ℕ) (ch : Change) (n : ℕ) (r : Undo) (e : Entry) (x : Cell) : Type 0 where
  pub there : env.store ch.place ≡ Some r
  pub active : env.look (env.xid s) ≡ Active
  pub xid : r.xid ≡ env.xid s
  pub of : ch.xid ≡ env.xid s
  pub number : r.number ≡ ch.number
  pub key : r.key ≡ ch.key
  pub home : r.home ≡ ch.home
  pub sort : r.sort ≡ sort_of ch.kind
  pub status : e.status ≡ Open
  pub leads : Leads e (env.xid s) ch.place (suc n)
  pub lock : lock_of x ≡ suc r.entry
  pub has_key : taken x ≡ Some ch.key
  pub shows : (k : ℕ) → row_of x k ≡ changed ch.kind ch.key (row_of r.cell_before) k
  pub cell_before : (taken r.cell_before ≡ None) ⊎ (taken r.cell_before ≡ Some ch.key)
  pub lock_before : (lock_of r.cell_before ≡ 0)
      ⊎ ((lock_of r.cell_before ≡ suc r.entry) × (r.entry_before.status ≡ Open))
  pub entry_before : r.entry_before.status ≡ Open → r.entry_before.xid ≡ r.xid
  pub oldest : n ≡ 0 → r.entry_before.status ≢ Open

pub record Saved (env : Env) (s : ℕ) (r : Undo) (b : Home) : Type 0 where
  pub here : r.home ≡ b.block
  pub within : r.entry < length b.entries
  pub cell : r.cell < length b.cells
  pub entry_was : entry_at b r.entry ≡ r.entry_before
  pub cell_was : cell_at b r.cell ≡ r.cell_before
  pub only : (j : ℕ) → IsActive env (entry_at b j) → (entry_at b j).xid ≡ env.xid s → j ≡ r.entry
  pub locks : (j : ℕ) → lock_of (cell_at b j) ≡ suc r.entry → IsActive env (entry_at b r.entry)

-- no two sessions run one transaction
abbrev pub Distinct : Env → Type 0
Distinct env = (s u : ℕ) → env.look (env.xid u) ≡ Active → env.xid u ≡ env.xid s → u ≡ s

-- the next step of one session
abbrev pub Next : Env → ℕ → List (List Change) → Home → (Home → Type 0) → ℕ → Change → List Change
    → Type 0
Next env m lives b rest s ch more = (r : Undo) × Head env s ch (suc (length more)) b r
    × Tree env m (set lives s more) (back r b) rest

-- the same of live changes: an active transaction's entry and the cells that it locks stay as they are
pub record LiveAlike (env env2 : Env) (b b2 : Home) : Type 0 where
  pub alike : Alike env env2 b b2
  pub entry : (i : ℕ) → IsActive env (entry_at b i) → entry_at b2 i ≡ entry_at b i
  pub active : (i : ℕ) → IsActive env2 (entry_at b2 i) → IsActive env (entry_at b i)
  pub cell : (i j : ℕ) → IsActive env (entry_at b i) → lock_of (cell_at b j) ≡ suc i → cell_at b2 j
      ≡ cell_at b j
  pub lock : (i j : ℕ) → IsActive env (entry_at b i) → lock_of (cell_at b2 j) ≡ suc i → lock_of (cell_at b j)
      ≡ suc i

-- of the sessions that go on no record goes, and each keeps its transaction
pub record LiveAges (going : ℕ → Type 0) (w : ℕ → ℕ) (env env2 : Env) : Type 0 where
  pub ages : Ages w env env2
  pub store : (s : ℕ) (p : Place) (r : Undo) → going s → r.xid ≡ env.xid s → env.store p ≡ Some r
      → env2.store p ≡ Some r
  pub xid : (s : ℕ) → going s → env2.xid s ≡ env.xid s
  pub goes_on : (s : ℕ) → going s → env.look (env.xid s) ≡ Active → env2.look (env.xid s) ≡ Active
  pub active : (x : Xid) → env2.look x ≡ Active → env.look x ≡ Active

-- what a commit of session s at number c does to what the segment says
pub record Commits (w : ℕ → ℕ) (env env2 : Env) (s c : ℕ) : Type 0 where
  pub ages : Ages w env env2
  pub store : (p : Place) → env2.store p ≡ env.store p
  pub at : env2.look (env.xid s) ≡ At c
  pub xid : (u : ℕ) → u ≢ s → env2.xid u ≡ env.xid u
  pub goes_on : (u : ℕ) → u ≢ s → env.look (env.xid u) ≡ Active → env2.look (env.xid u) ≡ Active
  pub active : (x : Xid) → env2.look x ≡ Active → env.look x ≡ Active
  pub limit : (p : Place) (r : Undo) → env.store p ≡ Some r → r.xid ≡ env.xid s → c ≤ env2.limit p
