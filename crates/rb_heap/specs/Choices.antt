-- Which of a block's slot entries a transaction uses for a change: its own Open one, else the lowest Free one, else the
-- one with the least commit number of those that tell one.
use Rattle.std.specs.Prelude.{◌≡◌, ◌≢◌, ◌⊎◌, ℕ, ◌<◌, ◌≤◌}
use Rattle.rb_base.specs.declared.ids.Xid.{Xid}
use Rattle.rb_itl.specs.declared.slots.Entry.{Entry}
use Rattle.rb_itl.specs.declared.slots.TheConstants.{ENTRIES, FREE, OPEN}

-- the transaction's entry, in which no outcome is recorded
abbrev pub IsOwnEntry : Xid → Entry → Type 0
IsOwnEntry xid entry = (entry.kind ≡ OPEN) × (entry.xid ≡ xid)

-- of a transaction whose outcome the entry tells
abbrev pub IsTold : Entry → Type 0
IsTold entry = (entry.kind ≢ FREE) × (entry.kind ≢ OPEN)

-- none of a block's entries is one of these
abbrev pub HasNoEntry : (Entry → Type 0) → (ℕ → Entry) → Type 0
HasNoEntry Is entries = (j : ℕ) → j < ENTRIES → ¬ Is (entries j)

-- the first of its own
pub record IsOwnChoice (entries : ℕ → Entry) (xid : Xid) (i : ℕ) : Type 0 where
  pub own : IsOwnEntry xid (entries i)
  pub lower : (j : ℕ) → j < i → ¬ IsOwnEntry xid (entries j)

-- the lowest that is free, where it has none
pub record IsFreeChoice (entries : ℕ → Entry) (xid : Xid) (i : ℕ) : Type 0 where
  pub no_own : HasNoEntry (IsOwnEntry xid) entries
  pub free : (entries i).kind ≡ FREE
  pub lower : (j : ℕ) → j < i → (entries j).kind ≢ FREE

-- the one with the least number, and of these the lowest, where none is free either
pub record IsToldChoice (entries : ℕ → Entry) (xid : Xid) (i : ℕ) : Type 0 where
  pub no_own : HasNoEntry (IsOwnEntry xid) entries
  pub no_free : HasNoEntry (λ entry. entry.kind ≡ FREE) entries
  pub told : IsTold (entries i)
  pub least : (j : ℕ) → j < ENTRIES → IsTold (entries j) → (entries i).number ≤ (entries j).number
  pub lower : (j : ℕ) → j < i → IsTold (entries j) → (entries i).number < (entries j).number

-- entry i is the one that the transaction uses
pub record IsEntryChoice (entries : ℕ → Entry) (xid : Xid) (i : ℕ) : Type 0 where
  pub within : i < ENTRIES
  pub way : IsOwnChoice entries xid i ⊎ IsFreeChoice entries xid i ⊎ IsToldChoice entries xid i

-- there is none: each entry is another transaction's Open one
abbrev pub HasNoChoice : (ℕ → Entry) → Xid → Type 0
HasNoChoice entries xid = (j : ℕ) → j < ENTRIES → ((entries j).kind ≡ OPEN) × ((entries j).xid ≢ xid)
