-- What each call adds to a group as it moves a segment: the parts of the header as they are afterwards, each in one
-- patch. And which headers the calls move as the moves say.
use Rattle.std.specs.Prelude.{◌≡◌, ◌⊎◌, ◌<◌, ◌≤◌, ◌-◌, ◌^◌, ℕ, if◌then◌else◌}
use Rattle.std.specs.Prelude.{List, [], ◌∷◌, ◌++◌}
use Rattle.std.specs.List.{flat_map, range_with_len}
use Rattle.rb_base.specs.Blocks.{header_block}
use Rattle.rb_base.specs.Groups.{Patch}
use Rattle.rb_base.specs.declared.ids.Uba.{Uba}
use Rattle.rb_base.specs.declared.ids.Xid.{Xid}
use Rattle.rb_base.specs.declared.shape.Shape.{Shape}
use Rattle.rb_base.specs.declared.sizes.TheConstants.{ACTIVE, SLOTS}
use Rattle.rb_ring.specs.Ring.{extent_patch, head_patch, record_count_patch, lost_patch}
use Rattle.rb_ring.specs.declared.extents.TheConstants.{EXTENTS, EXTENT_RECORDS}
use Rattle.rb_segment.specs.Header.{Header, slot_in, extent_in, head_turn, has_bit}
use Rattle.rb_segment.specs.Moves.{turned, added, next_address, Also, MayTurn}
use Rattle.rb_txntable.specs.Slots.{slot_patch}
use Rattle.rb_undoblock.specs.Undo.{undo_patch}
use Rattle.rb_undoblock.specs.declared.record.UndoRecord.{UndoRecord}

-- the patches of a slot that is taken, in the header's block: the slot and what was lost
abbrev pub claim_patches : ℕ → ℕ → Header → List Patch
claim_patches block i h = slot_patch block i (slot_in h i) ∷ lost_patch block h.lost ∷ []

-- of a turn: its extent, the head, and what was lost
abbrev pub turn_patches : ℕ → Header → List Patch
turn_patches block h =
    extent_patch block h.head (extent_in h h.head) ∷ head_patch block h.head h.records ∷ lost_patch block h.lost
    ∷ []

-- of a record of slot i: the slot, the head and how many records were made, and the record at its address
abbrev pub record_patches : ℕ → ℕ → Header → Uba → UndoRecord → List Patch
record_patches block i h address r =
    slot_patch block i (slot_in h i) ∷ head_patch block h.head h.records ∷ record_count_patch block h.writes
    ∷ undo_patch address.block address.rec r ∷ []

-- of a slot alone
abbrev pub slot_patches : ℕ → ℕ → Header → List Patch
slot_patches block i h = slot_patch block i (slot_in h i) ∷ []

-- of extent e, where these bits name it
abbrev pub stamp_patch : ℕ → ℕ → Header → ℕ → List Patch
stamp_patch block bits h e = if has_bit bits e then extent_patch block e (extent_in h e) ∷ [] else []

-- of a commit of slot i: the slot and each extent that it touched
abbrev pub commit_patches : ℕ → ℕ → Header → List Patch
commit_patches block i h =
    slot_patch block i (slot_in h i)
    ∷ flat_map (stamp_patch block (slot_in h i).touched h) (range_with_len 0 EXTENTS)

-- No number of the header is near the end of its type. What a slot that isn't Active says of its live records is left
-- open, as its next transaction begins with none.
pub record IsYoung (h : Header) : Type 0 where
  pub writes : h.writes < 2 ^ 63
  pub wraps : (i : ℕ) → i < SLOTS → (slot_in h i).wrap < 2 ^ 63
  pub lives : (i : ℕ) → i < SLOTS → (slot_in h i).state ≡ ACTIVE → (slot_in h i).live < 2 ^ 31
  pub head : h.head < EXTENTS
  pub turn : head_turn h < 2 ^ 63

-- Nor is one that a record of slot i moves.
pub record IsYoungAt (h : Header) (i : ℕ) : Type 0 where
  pub writes : h.writes < 2 ^ 63
  pub live : (slot_in h i).live < 2 ^ 31
  pub head : h.head < EXTENTS
  pub turn : head_turn h < 2 ^ 63

-- the transaction of that id runs
pub record Runs (h : Header) (x : Xid) : Type 0 where
  pub slot : x.slot < SLOTS
  pub active : (slot_in h x.slot).state ≡ ACTIVE
  pub wrap : (slot_in h x.slot).wrap ≡ x.wrap

-- the address is that of the next record of the head, in whatever segment has its header there
abbrev pub IsNextAddress : ℕ → Header → Uba → Type 0
IsNextAddress block h address = (shape : Shape) (g : ℕ) → block ≡ header_block shape g → h.head < EXTENTS
    → address ≡ next_address shape g h

-- how far back the oldest transaction began that runs: so many records were made since
pub record IsSince (h : Header) (since : ℕ) : Type 0 where
  pub slot : ℕ
  pub within : slot < SLOTS
  pub active : (slot_in h slot).state ≡ ACTIVE
  pub least : (i : ℕ) → i < SLOTS → (slot_in h i).state ≡ ACTIVE
      → (slot_in h slot).start ≤ (slot_in h i).start
  pub count : since ≡ h.writes - (slot_in h slot).start

-- the header has room for the next record, once these patches are made: it had, or an extent took the next turn
abbrev pub HasTurned : ℕ → Header → Header → List Patch → Type 0
HasTurned block h room patches = ((h.records < EXTENT_RECORDS) × (room ≡ h) × (patches ≡ []))
    ⊎ ((e : ℕ) × MayTurn h e × (room ≡ turned e h) × (patches ≡ turn_patches block room))

-- The header has one record more of slot i, at that address.
pub record AddedAs (i : ℕ) (address : Uba) (h h2 : Header) : Type 0 where
  pub touched : ℕ
  pub bits : Also (slot_in h i).touched h.head touched
  pub made : h2 ≡ added i address touched h

-- What a record of the transaction's slot makes of its segment's header, and the patches of it.
pub record Recorded (shape : Shape) (x : Xid) (r : UndoRecord) (h h2 : Header) (address : Uba)
    (patches : List Patch) : Type 0 where
  pub room : Header
  pub before : List Patch
  pub has_turned : HasTurned (header_block shape x.seg) h room before
  pub at : address ≡ next_address shape x.seg room
  pub added_as : AddedAs x.slot address room h2
  pub patched : patches ≡ before ++ record_patches (header_block shape x.seg) x.slot h2 address r
