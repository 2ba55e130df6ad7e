-- The entries of a home that are Open and of a transaction that runs, and whether that is a living session's.
use Rattle.std.specs.Prelude.{◌≡◌, ◌<◌, ◌≤◌, ℕ, List}
use Rattle.rb_base.specs.Blocks.{block_of, home_block}
use Rattle.rb_base.specs.declared.ids.Xid.{Xid}
use Rattle.rb_heap.specs.Homes.{home_entry, home_of}
use Rattle.rb_itl.specs.declared.slots.Entry.{Entry}
use Rattle.rb_itl.specs.declared.slots.TheConstants.{ENTRIES, OPEN}
use Rattle.rb_model.specs.State.{State, session_count}
use Rattle.rb_txntable.specs.declared.looks.Look.TheVariants.{Active}
use Rattle.law_blocks.specs.Standing.{env_of}
use Rattle.law_blocks.specs.States.{Owns}

-- entry i of the home of a key
abbrev pub entry_of_key : State → List (List ℕ) → (table key i : ℕ) → Entry
entry_of_key h blocks table key i = home_entry (home_of (block_of blocks (home_block h.shape table key))) i

-- an Open entry of a transaction that runs
pub record Runs (h : State) (blocks : List (List ℕ)) (table key i : ℕ) : Type 0 where
  pub within : i < ENTRIES
  pub opened : (entry_of_key h blocks table key i).kind ≡ OPEN
  pub active : (env_of h.shape blocks).look (entry_of_key h blocks table key i).xid ≡ Active

-- the id is that of one of the sixteen sessions
abbrev pub IsLiving : State → List (List ℕ) → Xid → Type 0
IsLiving h blocks x =
    (s : ℕ) × (t : ℕ) × (1 ≤ s) × (s ≤ session_count) × Owns h s t × (x ≡ (env_of h.shape blocks).xid t)
