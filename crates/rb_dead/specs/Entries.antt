-- Which entries of a home are of dead transactions, by the table of the sessions that live.
use Rattle.std.specs.Prelude.{◌≡◌, ◌≢◌, ◌<◌, ◌≤◌, ℕ, List, Some}
use Rattle.rb_base.specs.Blocks.{block_of}
use Rattle.rb_base.specs.declared.shape.Shape.{Shape}
use Rattle.rb_base.specs.declared.sizes.TheConstants.{SLOTS}
use Rattle.rb_cleanout.specs.Cleaned.{look_of}
use Rattle.rb_heap.specs.Homes.{home_entry, home_of}
use Rattle.rb_itl.specs.declared.slots.Entry.{Entry}
use Rattle.rb_itl.specs.declared.slots.TheConstants.{OPEN}
use Rattle.rb_sessions.specs.Kept.{KeptSession, kept_at}
use Rattle.rb_sessions.specs.declared.sessions.TheConstants.{SESSIONS}
use Rattle.rb_txntable.specs.declared.looks.Look.TheVariants.{Active}

-- entry i of block b of rows
abbrev pub entry_at : List (List ℕ) → (b i : ℕ) → Entry
entry_at blocks b i = home_entry (home_of (block_of blocks b)) i

-- The entry is Open, of a slot that there is, whose transaction runs and is no session's.
pub record IsDeadEntry (sessions : List KeptSession) (shape : Shape) (blocks : List (List ℕ)) (e : Entry) : Type 0
  where
    pub opened : e.kind ≡ OPEN
    pub segment : e.xid.seg < shape.segments
    pub slot : e.xid.slot < SLOTS
    pub active : look_of shape blocks e.xid ≡ Active
    pub nobody : (s : ℕ) → 1 ≤ s → s ≤ SESSIONS → (kept_at sessions s).own ≢ Some e.xid
