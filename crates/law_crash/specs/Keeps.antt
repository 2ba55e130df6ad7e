-- What the slot entries of blocks of rows tell, over one group.
use Rattle.std.specs.Prelude.{◌≡◌, ◌⊎◌, ◌<◌, ◌+◌, ◌*◌, ℕ, List}
use Rattle.rb_base.specs.Blocks.{block_of, table_blocks}
use Rattle.rb_base.specs.declared.ids.Xid.{Xid}
use Rattle.rb_base.specs.declared.shape.Shape.{Shape}
use Rattle.rb_heap.specs.Cleaning.{cleaned_entry}
use Rattle.law_crash.specs.Made.{BackMade, CleanMade, CommitMade, EndMade, WriteMade, entry_in}
use Rattle.rb_itl.specs.Entries.{entry_of}
use Rattle.rb_model.specs.Calls.{Action}
use Rattle.rb_model.specs.Change.{Change}
use Rattle.rb_model.specs.State.{State}
use Rattle.law_blocks.specs.Standing.{env_of}
use Rattle.law_blocks.specs.States.{BlocksStand}

-- Entry i of block b is as it was; or it was Open, its transaction has ended by the headers of before, and it tells
-- what the look at it gave.
abbrev pub TellsNoLess : Shape → (before now : List (List ℕ)) → (b i : ℕ) → Type 0
TellsNoLess shape before now b i = (entry_in now b i ≡ entry_in before b i)
    ⊎ (entry_in now b i ≡ cleaned_entry (env_of shape before).look (entry_in before b i))

-- so each entry of each block of rows, but that one
abbrev pub KeepsBut : Shape → (home entry : ℕ) → (before now : List (List ℕ)) → Type 0
KeepsBut shape home entry before now = (b i : ℕ) → b < table_blocks shape → i < 8
    → ((b ≡ home) × (i ≡ entry)) ⊎ TellsNoLess shape before now b i

-- every block of rows is as it was
abbrev pub KeepsRows : Shape → (before now : List (List ℕ)) → Type 0
KeepsRows shape before now = (b : ℕ) → b < table_blocks shape → block_of now b ≡ block_of before b

abbrev pub CommitKeeps : Type 0
CommitKeeps = (h : State) (xids : List Xid) (s : ℕ) (x : Xid) (before now : List (List ℕ))
    → CommitMade h xids s x before now → KeepsRows h.shape before now

abbrev pub EndKeeps : Type 0
EndKeeps = (h : State) (xids : List Xid) (s : ℕ) (x : Xid) (before now : List (List ℕ))
    → EndMade h xids s x before now → KeepsRows h.shape before now

-- The entry that a put back changes is then as its record keeps it.
abbrev pub BackKeeps : Type 0
BackKeeps = (h : State) (xids : List Xid) (s : ℕ) (front : List Change) (before now : List (List ℕ))
    → (made : BackMade h xids s front before now) → made.undo.entry < 8
    → KeepsBut h.shape made.undo.home made.undo.entry before now
    × (entry_in now made.undo.home made.undo.entry ≡ entry_of made.undo.entry_before)

abbrev pub WriteKeeps : Type 0
WriteKeeps = (h : State) (xids : List Xid) (s table key : ℕ) (action : Action) (x : Xid)
    (before now : List (List ℕ)) → BlocksStand h xids before → 16 * x.seg + x.slot < 16 * h.shape.segments
    → (made : WriteMade h xids s table key action x before now)
    → KeepsBut h.shape made.undo.home made.undo.entry before now

abbrev pub CleanKeeps : Type 0
CleanKeeps = (h : State) (xids : List Xid) (block : ℕ) (before now : List (List ℕ))
    → CleanMade h xids block before now → (b i : ℕ) → i < 8 → TellsNoLess h.shape before now b i
