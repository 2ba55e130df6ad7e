-- Why a write isn't made. Each cause stands with those that are asked for before it, which don't hold.
use Rattle.std.specs.Prelude.{◌≡◌, ◌≢◌, ◌<◌, ◌≤◌, ℕ, Bool, true, false, List, Option, Result}
use Rattle.std.specs.Prelude.{None, Some, Ok, Err}
use Rattle.rb_base.specs.Blocks.{block_of, header_block}
use Rattle.rb_base.specs.declared.ids.Xid.{Xid}
use Rattle.rb_base.specs.declared.shape.Shape.{Shape}
use Rattle.rb_base.specs.declared.sizes.TheConstants.{SLOTS, WORN}
use Rattle.rb_write.specs.Asks.{adds_for, home_for, IsFewest, IsWriterOf}
use Rattle.rb_write.specs.declared.ask.Ask.{Ask}
use Rattle.rb_write.specs.declared.ask.AttemptFault.{AttemptFault}
use Rattle.rb_write.specs.declared.ask.AttemptFault.TheVariants.{Failed, Duplicate, NotFound, BlockFull, SlotsFull}
use Rattle.rb_write.specs.declared.ask.AttemptFault.TheVariants.{NoSlot, RollbackFull, WornOut}
use Rattle.rb_cell.specs.declared.cell.TheConstants.{ROW}
use Rattle.rb_heap.specs.Choices.{HasNoChoice}
use Rattle.rb_heap.specs.Homes.{Home, home_cell, home_entry, is_free, is_keyed, IsFirst, IsNowhere}
use Rattle.rb_itl.specs.declared.slots.Entry.{Entry}
use Rattle.rb_itl.specs.declared.slots.TheConstants.{ENTRIES, OPEN}
use Rattle.rb_segment.specs.Calls.{IsSince}
use Rattle.rb_segment.specs.Header.{Header}
use Rattle.rb_segment.specs.Moves.{NoneMayTurn}
use Rattle.rb_txntable.specs.Slots.{active_count}

-- the cell that is found by the key holds a row, or there is none that does
abbrev pub HasRow : Home → ℕ → Type 0
HasRow home key = (c : ℕ) × IsFirst (is_keyed key) home.cells c × ((home_cell home c).state ≡ ROW)

abbrev pub HasNoRow : Home → ℕ → Type 0
HasNoRow home key = (c : ℕ) → IsFirst (is_keyed key) home.cells c → (home_cell home c).state ≢ ROW

-- no cell has the key, and none is free
pub record HasNoCell (home : Home) (key : ℕ) : Type 0 where
  pub none_keyed : IsNowhere (is_keyed key) home.cells
  pub none_free : IsNowhere is_free home.cells

-- the home takes the write: it has a row for one that needs it, and a cell but no row for one that adds it
pub record TakesWrite (home : Home) (adds : Bool) (key : ℕ) : Type 0 where
  pub row : adds ≡ false → HasRow home key
  pub no_row : adds ≡ true → HasNoRow home key
  pub cell : adds ≡ true → ¬ HasNoCell home key

-- and has an entry for its transaction
pub record TakesWriter (home : Home) (adds : Bool) (key : ℕ) (x : Xid) : Type 0 where
  pub takes : TakesWrite home adds key
  pub entry : ¬ HasNoChoice (home_entry home) x

-- the write that is asked for is taken by the home of its key
abbrev pub TakesAsk : Shape → List (List ℕ) → Ask → Type 0
TakesAsk shape blocks ask = TakesWrite (home_for shape blocks ask) (adds_for shape blocks ask) ask.key

-- the cleaned home alone refuses the write, whoever writes and whatever the log has
abbrev pub HomeRefuses : AttemptFault → Home → Bool → ℕ → Type 0
HomeRefuses Duplicate home adds key = (adds ≡ true) × HasRow home key
HomeRefuses NotFound home adds key = (adds ≡ false) × HasNoRow home key
HomeRefuses BlockFull home adds key = (adds ≡ true) × HasNoRow home key × HasNoCell home key
HomeRefuses _ home adds key = ⊥

-- each entry is of a transaction of which no outcome is known
abbrev pub AreOpen : (ℕ → Entry) → Type 0
AreOpen entries = (j : ℕ) → j < ENTRIES → (entries j).kind ≡ OPEN

-- no entry of the home is left: for one that is still to be, which has none of its own, where each is Open
abbrev pub LacksEntry : Home → Option Xid → Type 0
LacksEntry home None = AreOpen (home_entry home)
LacksEntry home (Some x) = HasNoChoice (home_entry home) x

-- no table slot is idle in the segment in which a transaction would begin
pub record LacksSlot (shape : Shape) (blocks : List (List ℕ)) (seg : ℕ) : Type 0 where
  pub fewest : IsFewest shape blocks seg
  pub all_run : active_count (block_of blocks (header_block shape seg)) ≡ SLOTS

-- why a write is refused that its home takes, by its transaction with the segment's header, and the last log number
abbrev pub Refuses : AttemptFault → Home → Bool → ℕ → Xid → Header → ℕ → Type 0
Refuses (RollbackFull seg since) home adds key x ready logged =
    TakesWriter home adds key x × NoneMayTurn ready × (seg ≡ x.seg) × IsSince ready since
Refuses WornOut home adds key x ready logged =
    TakesWriter home adds key x × (¬ NoneMayTurn ready) × (WORN ≤ logged)
Refuses _ home adds key x ready logged = ⊥

-- a call of the store has failed
abbrev pub has_failed : {T : Type 0} → Result T AttemptFault → Bool
has_failed (Ok value) = false
has_failed (Err Failed) = true
has_failed (Err Duplicate) = false
has_failed (Err NotFound) = false
has_failed (Err BlockFull) = false
has_failed (Err SlotsFull) = false
has_failed (Err (NoSlot seg)) = false
has_failed (Err (RollbackFull seg since)) = false
has_failed (Err WornOut) = false

-- the home of the write that is asked for refuses it
abbrev pub HomeRefusesAsk : Shape → List (List ℕ) → Ask → AttemptFault → Type 0
HomeRefusesAsk shape blocks ask fault =
    HomeRefuses fault (home_for shape blocks ask) (adds_for shape blocks ask) ask.key

-- the segment of its transaction does, or the log
abbrev pub WriterRefused : Shape → List (List ℕ) → Ask → ℕ → AttemptFault → Type 0
WriterRefused shape blocks ask logged fault = (x : Xid) × (ready : Header)
    × IsWriterOf shape blocks ask.own x ready
    × Refuses fault (home_for shape blocks ask) (adds_for shape blocks ask) ask.key x ready logged

-- Why the write that is asked for isn't made. What its home says, and whether there is a table slot for a transaction
-- that is still to be, comes before the transaction is there.
abbrev pub HasCause : Shape → List (List ℕ) → Ask → ℕ → AttemptFault → Type 0
HasCause shape blocks ask logged Failed = ⊥
HasCause shape blocks ask logged Duplicate = HomeRefusesAsk shape blocks ask Duplicate
HasCause shape blocks ask logged NotFound = HomeRefusesAsk shape blocks ask NotFound
HasCause shape blocks ask logged BlockFull = HomeRefusesAsk shape blocks ask BlockFull
HasCause shape blocks ask logged SlotsFull =
    TakesAsk shape blocks ask × LacksEntry (home_for shape blocks ask) ask.own
HasCause shape blocks ask logged (NoSlot seg) = (ask.own ≡ None) × TakesAsk shape blocks ask
    × (¬ LacksEntry (home_for shape blocks ask) None) × LacksSlot shape blocks seg
HasCause shape blocks ask logged (RollbackFull seg since) =
    WriterRefused shape blocks ask logged (RollbackFull seg since)
HasCause shape blocks ask logged WornOut = WriterRefused shape blocks ask logged WornOut
