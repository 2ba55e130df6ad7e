-- The reader's own first changes, whose rows are kept while their records are taken back.
use Rattle.std.specs.Prelude.{◌==◌, ◌&&◌, ℕ, zero, suc, Bool, true, false, not, if◌then◌else◌, nat_le}
use Rattle.std.specs.Prelude.{List, [], ◌∷◌, ◌++◌, Option, Some, None}
use Rattle.rb_base.specs.declared.ids.Xid.{Xid}
use Rattle.law_read.specs.Chains.{same_xid, fits, stepped}
use Rattle.law_home.specs.Kinds.{Sort, Puts, Takes, Holds, Undo}
use Rattle.law_home.specs.Walk.{Change, Home, Env, Rows, changed, row_of, cell_at, entry_at}

-- keys, each with its row or with none where it had none
abbrev pub Kept : Type 0
Kept = List (ℕ × Option (List ℕ))

-- how many rows a reader keeps at most, as a transaction has no more changes
abbrev pub kept_room : ℕ
kept_room = 320

abbrev pub has : Kept → ℕ → Bool
has [] key = false
has (x ∷ kept) key = if key == x.0 then true else has kept key

-- what is kept lies over the rows, by key
abbrev pub overlay : Kept → Rows → Rows
overlay [] rows k = rows k
overlay (x ∷ kept) rows k = if k == x.0 then x.1 else overlay kept rows k

abbrev pub is_held : Sort → Bool
is_held Puts = false
is_held Takes = false
is_held Holds = true

-- whether this transaction is the reader's
abbrev pub is_mine : Option Xid → Xid → Bool
is_mine None xid = false
is_mine (Some own) xid = same_xid own xid

-- whether a change of this transaction and number is one of the reader's first
abbrev pub is_first : Option Xid → ℕ → Xid → ℕ → Bool
is_first mine upto xid number = is_mine mine xid && nat_le number upto

-- how many of these changes are the reader's first
abbrev pub first_count : Option Xid → ℕ → List Change → ℕ
first_count mine upto [] = 0
first_count mine upto (ch ∷ more) =
    if is_first mine upto ch.xid ch.number then suc (first_count mine upto more) else first_count mine upto more

-- Before a change of a row among the reader's first is taken back, the row of its cell is kept, if none of that key
-- was.
abbrev pub keep : Option Xid → ℕ → Undo → Home → Kept → Kept
keep mine upto r b kept =
    if is_first mine upto r.xid r.number && (not (is_held r.sort) && not (has kept r.key))
    then kept ++ (r.key, row_of (cell_at b r.cell) r.key) ∷ []
    else kept

abbrev pub kept_one : Option Xid → ℕ → ℕ → Xid → Home → Option Undo → Kept → Kept
kept_one mine upto i xid b None kept = kept
kept_one mine upto i xid b (Some r) kept = if fits i xid b r then keep mine upto r b kept else kept

abbrev pub kept_go : Option Home → (Home → Kept) → Kept → Kept
kept_go None go kept = kept
kept_go (Some b) go kept = go b

-- what is kept once so many records of a chain are taken back
abbrev pub kept_after : Env → Option Xid → ℕ → ℕ → ℕ → Xid → Home → Kept → Kept
kept_after env mine upto zero i xid b kept = kept
kept_after env mine upto (suc n) i xid b kept =
    kept_go (stepped env i xid b) (λ b2. kept_after env mine upto n i xid b2
    (kept_one mine upto i xid b (env.store (entry_at b i).newest) kept)) kept

-- what is kept once entry i's whole chain is taken back
abbrev pub kept_whole : Env → Option Xid → ℕ → Home → ℕ → Kept → Kept
kept_whole env mine upto b i kept = kept_after env mine upto (entry_at b i).chain i (entry_at b i).xid b kept

-- the rows with the reader's first changes among these over them; the newest is the first of the list
abbrev pub behind_mine : Option Xid → ℕ → List Change → Rows → Rows
behind_mine mine upto [] rows = rows
behind_mine mine upto (ch ∷ more) rows =
    if is_first mine upto ch.xid ch.number
    then changed ch.kind ch.key (behind_mine mine upto more rows)
    else behind_mine mine upto more rows
