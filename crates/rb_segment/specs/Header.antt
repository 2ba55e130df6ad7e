-- A rollback segment as one value: what the bytes of its header and of its undo blocks say, where each record is, and
-- when all that is in order.
use Rattle.std.specs.Prelude.{◌≡◌, ◌≢◌, ◌<◌, ◌≤◌, ◌==◌, ◌&&◌, ◌+◌, ◌-◌, ◌*◌}
use Rattle.std.specs.Prelude.{◌/◌, ◌%◌, ◌^◌, ℕ, suc, Bool, nat_le}
use Rattle.std.specs.Prelude.{if◌then◌else◌, List, [], ◌∷◌, length, get_or, map, Option, Some, None}
use Rattle.std.specs.List.{range_with_len}
use Rattle.rb_base.specs.Blocks.{block_of, header_block}
use Rattle.rb_base.specs.declared.ids.Xid.{Xid}
use Rattle.rb_base.specs.declared.shape.Shape.{Shape}
use Rattle.rb_base.specs.declared.sizes.TheConstants.{ACTIVE, SLOTS}
use Rattle.rb_model.specs.Book.{turn_of}
use Rattle.rb_ring.specs.Ring.{extent_at, head_extent, head_records, record_count, lost_number, IsRing}
use Rattle.rb_ring.specs.declared.extents.Extent.{Extent}
use Rattle.rb_ring.specs.declared.extents.TheConstants.{EXTENTS, EXTENT_RECORDS}
use Rattle.rb_txntable.specs.Looks.{slot_look}
use Rattle.rb_txntable.specs.Slots.{slot_at, no_slot}
use Rattle.rb_txntable.specs.declared.looks.Look.{Look}
use Rattle.rb_txntable.specs.declared.slots.TableSlot.{TableSlot}
use Rattle.rb_txntable.specs.declared.slots.TheConstants.{COMMITTED, ENDED}
use Rattle.rb_undoblock.specs.Undo.{undo_at, no_undo}
use Rattle.rb_undoblock.specs.declared.record.UndoRecord.{UndoRecord}

pub record Header : Type 0 where
  pub slots : List TableSlot
  pub extents : List Extent
  -- which extent is the head, and how many records it has
  pub head : ℕ
  pub records : ℕ
  -- how many records were made
  pub writes : ℕ
  -- the greatest commit number that was given up
  pub lost : ℕ

-- what a header's bytes say
unfoldable pub header_of : List ℕ → Header
header_of block = record {
  slots = map (slot_at block) (range_with_len 0 16);
  extents = map (extent_at block) (range_with_len 0 8);
  head = head_extent block;
  records = head_records block;
  writes = record_count block;
  lost = lost_number block;
}

abbrev pub slot_in : Header → ℕ → TableSlot
slot_in h i = get_or h.slots i no_slot

abbrev pub no_extent : Extent
no_extent = record { ord = 0; newest = 0 }

abbrev pub extent_in : Header → ℕ → Extent
extent_in h e = get_or h.extents e no_extent

abbrev pub ord_in : Header → ℕ → ℕ
ord_in h e = (extent_in h e).ord

-- the turn of the head, the greatest of the ring
abbrev pub head_turn : Header → ℕ
head_turn h = ord_in h h.head

-- a segment as one value: its header, and the 320 records that its undo blocks have room for, by extent and position
pub record Segment : Type 0 where
  pub header : Header
  pub undo : List UndoRecord

-- the block of segment g with the record at place i of 320, of which an undo block has ten
abbrev pub undo_block : Shape → ℕ → ℕ → ℕ
undo_block shape g i = header_block shape g + 1 + i / 10

unfoldable pub segment_of : Shape → List (List ℕ) → ℕ → Segment
segment_of shape blocks g = record {
  header = header_of (block_of blocks (header_block shape g));
  undo = map (λ i. undo_at (block_of blocks (undo_block shape g i)) (i % 10)) (range_with_len 0 320);
}

-- where in its turn record i stands, counted from 1
abbrev pub position_of : ℕ → ℕ
position_of i = (i - 1) % 40

abbrev pub next_option : Option ℕ → Option ℕ
next_option None = None
next_option (Some e) = Some (suc e)

-- which of the extents has that turn
abbrev pub extent_with : List Extent → ℕ → Option ℕ
extent_with [] turn = None
extent_with (x ∷ extents) turn = if x.ord == turn then Some 0 else next_option (extent_with extents turn)

abbrev pub undo_in : List UndoRecord → ℕ → Option ℕ → Option UndoRecord
undo_in undo position None = None
undo_in undo position (Some e) = Some (get_or undo (40 * e + position) no_undo)

-- record i, where it was made and its extent has its turn still
abbrev pub record_in : Segment → ℕ → Option UndoRecord
record_in s i =
    if nat_le 1 i && nat_le i s.header.writes
    then undo_in s.undo (position_of i) (extent_with s.header.extents (turn_of i))
    else None

-- the number of a turn, or lost where it is gone
abbrev pub limit_by : Header → Option ℕ → ℕ
limit_by h None = h.lost
limit_by h (Some e) = (extent_in h e).newest

abbrev pub limit_in : Header → ℕ → ℕ
limit_in h i = limit_by h (extent_with h.extents (turn_of i))

-- the number of the turn of a record that was made, and else lost
abbrev pub limit_made : Header → ℕ → ℕ
limit_made h i = if nat_le 1 i && nat_le i h.writes then limit_in h i else h.lost

-- how a transaction stands, as its segment's header says
abbrev pub look_in : Header → Xid → Look
look_in h x = slot_look (slot_in h x.slot) x.wrap

-- the bits of a slot name extent e
abbrev pub has_bit : ℕ → ℕ → Bool
has_bit bits e = (bits / 2 ^ e) % 2 == 1

-- how many groups it takes to put back what a slot's transaction did: one for each live record, and one for the slot
abbrev pub slot_owed : TableSlot → ℕ
slot_owed slot = if slot.state == ACTIVE then slot.live + 1 else 0

-- a table slot, in a file of that commit number
pub record SlotInOrder (commit : ℕ) (slot : TableSlot) : Type 0 where
  pub state : slot.state ≤ ENDED
  pub before : slot.before ≤ slot.newest
  pub newest : slot.newest ≤ commit

-- what an opening tests of a header, in a file of that commit number
pub record HeaderInOrder (commit : ℕ) (h : Header) : Type 0 where
  pub slots_counted : length h.slots ≡ SLOTS
  pub extents_counted : length h.extents ≡ EXTENTS
  pub ring : (k : ℕ) × IsRing (ord_in h) h.head k
  pub records : h.records ≤ EXTENT_RECORDS
  pub slots : (i : ℕ) → i < SLOTS → SlotInOrder commit (slot_in h i)
  pub lost : h.lost ≤ commit
  pub newest : (e : ℕ) → e < EXTENTS → (extent_in h e).newest ≤ commit

-- The numbers of a slot, in a file of that log number: what its commits gave up stands in lost.
pub record SlotNumbers (logged lost : ℕ) (slot : TableSlot) : Type 0 where
  pub wrap : slot.wrap ≤ logged
  pub newest : slot.newest ≤ logged
  pub before : slot.before ≤ lost
  pub not_lost : slot.state ≢ COMMITTED → slot.newest ≤ lost

-- The numbers of a segment. The head's turn and its records tell how many records were made, and a head that is empty
-- is that of a new file.
pub record SegmentNumbers (logged : ℕ) (s : Segment) : Type 0 where
  pub writes : s.header.writes ≤ logged
  pub records : (i : ℕ) (r : UndoRecord) → record_in s i ≡ Some r → r.wrap ≤ (slot_in s.header r.slot).wrap
  pub count : s.header.writes + 80 ≡ 40 * head_turn s.header + s.header.records
  pub begun : s.header.records ≡ 0 → s.header.writes ≡ 0
  pub slots : (i : ℕ) → i < SLOTS → SlotNumbers logged s.header.lost (slot_in s.header i)

pub record SegmentInOrder (commit logged : ℕ) (s : Segment) : Type 0 where
  pub header : HeaderInOrder commit s.header
  pub undo_counted : length s.undo ≡ 320
  pub numbers : SegmentNumbers logged s
