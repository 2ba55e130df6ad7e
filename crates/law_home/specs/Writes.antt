-- One change of a row.
use Rattle.std.specs.Prelude.{◌≡◌, ◌≢◌, ◌⊎◌, ◌<◌, ◌+◌, ℕ, suc, Bool, true, false}
use Rattle.std.specs.Prelude.{if◌then◌else◌, length, Some, None}
use Rattle.rb_base.specs.declared.ids.Xid.{Xid}
use Rattle.rb_model.specs.Change.{Kind, Put, Gone, Held, Place}
use Rattle.law_home.specs.Kinds.{Status, Free, Open, Exact, Bound, Entry, Cell, Empty, Row, Stub, Undo}
use Rattle.law_home.specs.Walk.{Change, Home, taken, cell_at, entry_at, put, lock_of}

abbrev pub is_open : Status → Bool
is_open Free = false
is_open Open = true
is_open (Exact c) = false
is_open (Bound b) = false

abbrev pub IsOwn : Xid → Entry → Type 0
IsOwn xid e = (e.status ≡ Open) × (e.xid ≡ xid)

-- the cell after a change, over the cell before; a lock is one more than the entry's index
abbrev pub locked_as : Cell → ℕ → ℕ → Cell
locked_as Empty key lock = Stub key lock
locked_as (Row k v l) key lock = Row key v lock
locked_as (Stub k l) key lock = Stub key lock

abbrev pub new_cell : Kind → ℕ → ℕ → Cell → Cell
new_cell (Put v) key lock before = Row key v lock
new_cell Gone key lock before = Stub key lock
new_cell Held key lock before = locked_as before key lock

abbrev pub new_entry : Entry → Xid → Place → Entry
new_entry e xid place = record {
  status = Open;
  xid = xid;
  newest = place;
  chain = if is_open e.status then e.chain + 1 else 1;
}

abbrev pub Fresh : Home → ℕ → ℕ → Type 0
Fresh b c key = (taken (cell_at b c) ≡ Some key)
    ⊎ ((taken (cell_at b c) ≡ None) × ((j : ℕ) → taken (cell_at b j) ≢ Some key))

abbrev pub written : Kind → Undo → Place → Home → Home
written kind r place b = put r.entry (new_entry r.entry_before r.xid place) r.cell (new_cell kind r.key (suc r.entry)
    r.cell_before) b

-- its own entry, or another that isn't open where it has none
abbrev pub IsFor : Home → Xid → ℕ → Type 0
IsFor b xid i = IsOwn xid (entry_at b i)
    ⊎ ((is_open (entry_at b i).status ≡ false) × ((j : ℕ) → IsOwn xid (entry_at b j) → ⊥))

-- an entry and a cell that a change of a key by a transaction may use
pub record Fits (b : Home) (xid : Xid) (key i c : ℕ) : Type 0 where
  pub within : i < length b.entries
  pub cell : c < length b.cells
  pub own : IsFor b xid i
  pub fresh : Fresh b c key
  pub lock : (lock_of (cell_at b c) ≡ 0) ⊎ (lock_of (cell_at b c) ≡ suc i)

-- the change that a record stands for
abbrev pub change_of : Kind → Undo → Place → Change
change_of kind r place = record {
  home = r.home;
  place = place;
  xid = r.xid;
  number = r.number;
  key = r.key;
  kind = kind;
}
