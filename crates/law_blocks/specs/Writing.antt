-- A write of a row as the blocks of a file see it: what it chooses in its home, once that is cleaned, what it makes
-- there, and the record that it adds to its segment.
use Rattle.std.specs.Prelude.{◌≡◌, ◌≢◌, ◌⊎◌, ◌<◌, ◌/◌, ◌%◌, ◌+◌, ◌++◌, ◌==◌}
use Rattle.std.specs.Prelude.{ℕ, suc, false, true, Bool, if◌then◌else◌, List, []}
use Rattle.std.specs.List.{AllByRecursion}
use Rattle.rb_base.specs.Blocks.{block_of, header_block}
use Rattle.rb_base.specs.Fields.{number_at}
use Rattle.rb_base.specs.Groups.{Patch}
use Rattle.rb_base.specs.declared.ids.Uba.{Uba}
use Rattle.rb_base.specs.declared.ids.Xid.{Xid}
use Rattle.rb_base.specs.declared.shape.Shape.{Shape}
use Rattle.rb_base.specs.declared.sizes.TheConstants.{ACTIVE}
use Rattle.rb_cell.specs.Cells.{cell_of, value_length}
use Rattle.rb_cell.specs.declared.cell.Cell.{Cell}
use Rattle.rb_cell.specs.declared.cell.TheConstants.{LENGTH_AT, ROW, STUB}
use Rattle.rb_heap.specs.Choices.{IsEntryChoice, IsOwnEntry}
use Rattle.rb_heap.specs.Cleaning.{cleaned_home, IsCleanPatch}
use Rattle.rb_heap.specs.Homes.{Home, home_cell, home_entry, home_of, is_free, is_keyed, with_home_cell}
use Rattle.rb_heap.specs.Homes.{home_patches, with_home_entry, IsFirst, IsNowhere}
use Rattle.rb_heap.specs.Soundness.{StaysShort}
use Rattle.rb_itl.specs.Entries.{entry_of}
use Rattle.rb_itl.specs.declared.slots.Entry.{Entry}
use Rattle.rb_itl.specs.declared.slots.TheConstants.{OPEN}
use Rattle.rb_model.specs.Change.{Kind, Put, Gone, Held}
use Rattle.rb_ring.specs.declared.extents.TheConstants.{EXTENT_RECORDS}
use Rattle.rb_segment.specs.Calls.{claim_patches, record_patches, AddedAs, HasTurned}
use Rattle.rb_segment.specs.Header.{Header, slot_in}
use Rattle.rb_segment.specs.Moves.{claimed, next_address, turned, MayClaim, MayTurn}
use Rattle.law_blocks.specs.Groups.{GroupOn, header_at}
use Rattle.law_blocks.specs.Says.{sort_by}
use Rattle.law_blocks.specs.Standing.{env_of}
use Rattle.rb_undoblock.specs.Undo.{undo_at}
use Rattle.rb_undoblock.specs.declared.record.TheConstants.{UNDO_RECORDS}
use Rattle.rb_undoblock.specs.declared.record.UndoRecord.{UndoRecord}
use Rattle.law_home.specs.Kinds.{sort_of}

-- the cell after a change, locked by entry i; what holds a row leaves it as it is
abbrev pub cell_after : Kind → ℕ → ℕ → Cell → Cell
cell_after (Put v) key i before = record { state = ROW; lock = i + 1; key = key; value = record { items = v } }
cell_after Gone key i before = record { state = STUB; lock = i + 1; key = key; value = record { items = [] } }
cell_after Held key i before = record before { lock = i + 1 }

-- the entry of the transaction whose newest record for the block has that address
abbrev pub entry_after : Xid → Uba → Entry → Entry
entry_after x address before = record {
  kind = OPEN;
  xid = x;
  number = 0;
  newest = address;
  length = if before.kind == OPEN then before.length + 1 else 1;
}

-- a home with the change of that record, at that address
abbrev pub home_after : Kind → Xid → Uba → UndoRecord → Home → Home
home_after kind x address u home =
    with_home_entry (with_home_cell home u.cell (cell_after kind u.key u.entry (home_cell home u.cell)))
    u.entry (entry_after x address (home_entry home u.entry))

-- the cell of the key, or where none has it, a free one for a row that is added
pub record IsCellChoice (home : Home) (adds : Bool) (key c : ℕ) : Type 0 where
  pub way : IsFirst (is_keyed key) home.cells c
      ⊎ ((adds ≡ true) × IsNowhere (is_keyed key) home.cells × IsFirst is_free home.cells c)

-- What the record keeps of the cleaned home: the entry and the cell that the change takes, as they were, in the
-- choices of the transaction.
pub record KeepsHome (home : Home) (block : List ℕ) (x : Xid) (adds : Bool) (kind : Kind) (u : UndoRecord) : Type 0
  where
    pub sort : sort_by u.kind ≡ sort_of kind
    pub entry : IsEntryChoice (home_entry home) x u.entry
    pub cell : IsCellChoice home adds u.key u.cell
    pub entry_before : entry_of u.entry_before ≡ home_entry home u.entry
    pub cell_before : cell_of u.cell_before ≡ home_cell home u.cell
    pub length : number_at u.cell_before LENGTH_AT 2 ≡ value_length block u.cell
    -- only a row that is there is held
    pub held : kind ≡ Held → adds ≡ false

-- no other transaction has the cell of the key locked
abbrev pub IsNotHeld : Home → Xid → ℕ → Type 0
IsNotHeld home x key = (c i : ℕ) → is_keyed key (home_cell home c) ≡ true → (home_cell home c).lock ≡ suc i
    → IsOwnEntry x (home_entry home i)

-- the header, with slot i taken where no transaction had it
abbrev pub IsHeaderReady : Header → ℕ → Header → Type 0
IsHeaderReady h i ready = (((slot_in h i).state ≡ ACTIVE) × (ready ≡ h))
    ⊎ (MayClaim h i × (ready ≡ claimed i h))

-- and with room for one more record
abbrev pub HasHeaderRoom : Header → Header → Type 0
HasHeaderRoom ready room = ((ready.records < EXTENT_RECORDS) × (room ≡ ready))
    ⊎ ((e : ℕ) × MayTurn ready e × (room ≡ turned e ready))

-- Segment g has one record more, of slot i, at that address, and every other record stays.
pub record IsRecorded (shape : Shape) (g i : ℕ) (address : Uba) (u : UndoRecord) (h h2 : Header)
    (before now : List (List ℕ)) : Type 0 where
  pub ready : Header
  pub room : Header
  pub is_ready : IsHeaderReady h i ready
  pub has_room : HasHeaderRoom ready room
  pub at : address ≡ next_address shape g room
  pub added_as : AddedAs i address room h2
  pub made : undo_at (block_of now address.block) address.rec ≡ u
  pub others : (r : ℕ) → r < UNDO_RECORDS → r ≢ address.rec
      → undo_at (block_of now address.block) r ≡ undo_at (block_of before address.block) r
  -- what the record says of its transaction
  pub slot : u.slot ≡ i
  pub wrap : u.wrap ≡ (slot_in ready i).wrap
  pub number : u.number ≡ (slot_in ready i).live + 1
  pub previous : u.previous ≡ (slot_in ready i).newest_at

-- the patches of a header that is ready for slot i: none, or those of the slot, where it was taken
abbrev pub AreOfReady : ℕ → ℕ → Header → List Patch → Type 0
AreOfReady block i ready patches = (patches ≡ []) ⊎ (patches ≡ claim_patches block i ready)

-- The patches of a change of slot i, one behind the other: what cleans its home; the slot, where it was taken; an
-- extent, where it took the next turn; the record; and the cell and the slot entry. No other byte is patched.
pub record AreOfChange (block i : ℕ) (kind : Kind) (xid : Xid) (address : Uba) (u : UndoRecord) (home : Home)
    (ready room now : Header) (patches : List Patch) : Type 0 where
  pub cleaning : List Patch
  pub taking : List Patch
  pub turning : List Patch
  pub cleans : AllByRecursion (IsCleanPatch u.home) cleaning
  pub takes : AreOfReady block i ready taking
  pub turns : HasTurned block ready room turning
  pub all : patches ≡ cleaning ++ taking ++ turning ++ record_patches block i now address u
      ++ home_patches u.home u.cell (cell_after kind u.key u.entry (home_cell home u.cell))
      u.entry (entry_after xid address (home_entry home u.entry))

-- A change by the transaction that has or takes table slot t: its block is cleaned by what the headers said before, and
-- has the change, and its segment has the record.
pub record IsWritten (shape : Shape) (t : ℕ) (adds : Bool) (kind : Kind) (address : Uba) (u : UndoRecord)
    (before now : List (List ℕ)) : Type 0 where
  pub xid : Xid
  pub xid_is : xid ≡ record { seg = t / 16; slot = t % 16; wrap = u.wrap }
  pub group : GroupOn shape (λ x. (x ≡ u.home) ⊎ (x ≡ header_block shape (t / 16)) ⊎ (x ≡ address.block))
      before now
  pub keeps : KeepsHome (cleaned_home (env_of shape before).look (home_of (block_of before u.home)))
      (block_of before u.home) xid adds kind u
  pub home : home_of (block_of now u.home) ≡ home_after kind xid address u
      (cleaned_home (env_of shape before).look (home_of (block_of before u.home)))
  pub short : StaysShort (block_of before u.home) (block_of now u.home)
  pub recorded : IsRecorded shape (t / 16) (t % 16) address u (header_at shape before t) (header_at shape now t)
      before now
  pub patches : AreOfChange (header_block shape (t / 16)) (t % 16) kind xid address u
      (cleaned_home (env_of shape before).look (home_of (block_of before u.home)))
      recorded.ready recorded.room (header_at shape now t) group.patches
