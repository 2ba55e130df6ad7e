-- What stands in a block and in an undo record, as the walk sees them.
use Rattle.std.specs.Prelude.{ℕ, List}
use Rattle.rb_base.specs.declared.ids.Xid.{Xid}
use Rattle.rb_model.specs.Change.{Place, Kind, Put, Gone, Held}

-- what an entry says of its transaction
pub data Status : Type 0 where
  Free : Status
  Open : Status
  Exact : ℕ → Status
  Bound : ℕ → Status

pub record Entry : Type 0 where
  pub status : Status
  pub xid : Xid
  pub newest : Place
  pub chain : ℕ

-- key, value and lock: 0, or one more than an entry's index
pub data Cell : Type 0 where
  Empty : Cell
  Row : (key : ℕ) (value : List ℕ) (lock : ℕ) → Cell
  Stub : (key : ℕ) (lock : ℕ) → Cell

-- what a record says of its change: all but the value
pub data Sort : Type 0 where
  Puts : Sort
  Takes : Sort
  Holds : Sort

abbrev pub sort_of : Kind → Sort
sort_of (Put value) = Puts
sort_of Gone = Takes
sort_of Held = Holds

pub record Undo : Type 0 where
  pub xid : Xid
  pub number : ℕ
  pub home : ℕ
  pub key : ℕ
  pub sort : Sort
  pub entry : ℕ
  pub cell : ℕ
  pub entry_before : Entry
  pub cell_before : Cell
