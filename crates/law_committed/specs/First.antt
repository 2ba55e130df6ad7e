-- The committed cells of a home: what its cells were before all that is under way, each told by one record.
use Rattle.std.specs.Prelude.{◌≡◌, ◌≢◌, ◌⊎◌, ◌<◌, ◌≤◌, ℕ, List, [], ◌∷◌, Some}
use Rattle.law_home.specs.Kinds.{Cell, Undo}
use Rattle.law_home.specs.Walk.{Change, Env, Home, In, Rows, own, cell_at, row_of}

-- a live record of the transaction in slot s: that of one of its live changes
pub record IsLive (env : Env) (lives : List (List Change)) (s : ℕ) (r : Undo) : Type 0 where
  pub change : Change
  pub live : In change (own lives s)
  pub there : env.store change.place ≡ Some r

-- of the live records of slot s that are of cell j the one with the lowest number
pub record IsFirst (env : Env) (lives : List (List Change)) (s j : ℕ) (r : Undo) : Type 0 where
  pub live : IsLive env lives s r
  pub cell : r.cell ≡ j
  pub lowest : (q : Undo) → IsLive env lives s q → q.cell ≡ j → r.number ≤ q.number

-- no live record is of cell j
abbrev pub IsUnchanged : Env → List (List Change) → ℕ → Type 0
IsUnchanged env lives j = (s : ℕ) (r : Undo) → IsLive env lives s r → r.cell ≢ j

-- The committed cell j is the cell itself where no live transaction changed it, else the cell before in the first
-- live record of it of one that did.
abbrev pub CommittedCell : Env → List (List Change) → Home → ℕ → Cell → Type 0
CommittedCell env lives b j x = (IsUnchanged env lives j × (cell_at b j ≡ x))
    ⊎ ((s : ℕ) × (r : Undo) × IsFirst env lives s j r × (r.cell_before ≡ x))

-- the committed cells of a home have these rows and no others
pub record CommittedRows (env : Env) (lives : List (List Change)) (b : Home) (rows : Rows) : Type 0 where
  pub sound : (j k : ℕ) (x : Cell) (v : List ℕ) → CommittedCell env lives b j x → row_of x k ≡ Some v
      → rows k ≡ Some v
  pub complete : (k : ℕ) (v : List ℕ) → rows k ≡ Some v
      → (j : ℕ) × (x : Cell) × CommittedCell env lives b j x × (row_of x k ≡ Some v)

-- the records of these changes, newest first, have numbers that fall
abbrev pub Falls : Env → List Change → Type 0
Falls env [] = Unit {0}
Falls env (ch ∷ more) = ((c : Change) (r q : Undo) → In c more → env.store ch.place ≡ Some r
    → env.store c.place ≡ Some q → q.number < r.number) × Falls env more
