-- What a commit is made of, and what is asked for it.
use Rattle.std.specs.Prelude.{ℕ, List}

pub data Kind : Type 0 where
  -- the row has this value from now on
  Put : List ℕ → Kind
  -- there is no row from now on
  Gone : Kind
  -- the row stays as it is, and is held
  Held : Kind

-- which undo record of a segment keeps what was before a change, counted from 1
pub record Place : Type 0 where
  pub seg : ℕ
  pub index : ℕ

pub record Change : Type 0 where
  pub table : ℕ
  pub key : ℕ
  pub kind : Kind
  -- where what was before it is kept
  pub place : Place

-- the place of a change whose before is kept nowhere: records count from 1
abbrev pub no_place : Place
no_place = record { seg = 0; index = 0 }

-- the change that gives a key a value
abbrev pub put : ℕ → ℕ → List ℕ → Change
put table key value = record { table = table; key = key; kind = Put value; place = no_place }

-- the change that takes a key's row away
abbrev pub gone : ℕ → ℕ → Change
gone table key = record { table = table; key = key; kind = Gone; place = no_place }

-- what a write does to its key
pub data Action : Type 0 where
  Insert : (value : List ℕ) → Action
  Update : (value : List ℕ) → Action
  -- whichever of the two the key's row asks for
  Upsert : (value : List ℕ) → Action
  Delete : Action
  -- holds the key's row as it is
  Lock : Action

-- a write as a session asks for it
pub record Asked : Type 0 where
  pub table : ℕ
  pub key : ℕ
  pub action : Action
