-- What each call makes of a segment: a slot is taken, an extent takes the next turn, a record is added or put back, a
-- transaction commits or ends. And how a segment may grow older.
use Rattle.std.specs.Prelude.{◌≡◌, ◌≢◌, ◌⊎◌, ◌<◌, ◌≤◌, ◌==◌, ◌+◌, ◌-◌, ◌*◌}
use Rattle.std.specs.Prelude.{◌/◌, ◌%◌, ℕ, suc}
use Rattle.std.specs.Prelude.{max, true, if◌then◌else◌}
use Rattle.std.specs.Prelude.{List, [], ◌∷◌, length, set, Some}
use Rattle.rb_base.specs.Addresses.{no_uba}
use Rattle.rb_base.specs.Blocks.{header_block}
use Rattle.rb_base.specs.declared.ids.Uba.{Uba}
use Rattle.rb_base.specs.declared.shape.Shape.{Shape}
use Rattle.rb_base.specs.declared.sizes.TheConstants.{ACTIVE, SEGMENT_BLOCKS}
use Rattle.rb_ring.specs.Turns as ring
use Rattle.rb_ring.specs.declared.extents.Extent.{Extent}
use Rattle.rb_ring.specs.declared.extents.TheConstants.{EXTENTS, EXTENT_BLOCKS, EXTENT_RECORDS}
use Rattle.rb_segment.specs.Header.{Header, Segment, slot_in, extent_in, ord_in, head_turn, record_in, limit_in}
use Rattle.rb_segment.specs.Header.{has_bit, undo_block, extent_with}
use Rattle.rb_txntable.specs.Looks.{LookAges, slot_look}
use Rattle.rb_txntable.specs.Slots.{IsChosen}
use Rattle.rb_txntable.specs.declared.looks.Look.TheVariants.{Active, At}
use Rattle.rb_txntable.specs.declared.slots.TableSlot.{TableSlot}
use Rattle.rb_txntable.specs.declared.slots.TheConstants.{COMMITTED, ENDED}
use Rattle.rb_undoblock.specs.declared.record.TheConstants.{UNDO_RECORDS}
use Rattle.rb_undoblock.specs.declared.record.UndoRecord.{UndoRecord}

-- a table slot as a transaction takes it
abbrev pub claimed_slot : Header → TableSlot → TableSlot
claimed_slot h slot = record slot {
  state = ACTIVE;
  touched = 0;
  live = 0;
  wrap = slot.wrap + 1;
  before = slot.newest;
  newest_at = no_uba;
  start = h.writes;
}

-- table slot i taken: what it told of its last commit is lost
abbrev pub claimed : ℕ → Header → Header
claimed i h = record h {
  lost = max h.lost (slot_in h i).newest;
  slots = set h.slots i (claimed_slot h (slot_in h i));
}

-- slot i is the one that a transaction takes
abbrev pub MayClaim : Header → ℕ → Type 0
MayClaim h i = IsChosen (slot_in h) i

-- extent e takes the next turn, and its old one is lost
abbrev pub turned : ℕ → Header → Header
turned e h = record h {
  lost = if ord_in h e == 0 then h.lost else max h.lost (extent_in h e).newest;
  extents = set h.extents e (record { ord = head_turn h + 1; newest = 0 });
  head = e;
  records = 0;
}

-- the transaction of slot i runs, and has made its first record in that turn
pub record Pins (h : Header) (turn i : ℕ) : Type 0 where
  pub state : (slot_in h i).state ≡ ACTIVE
  pub begun : (slot_in h i).touched ≢ 0
  pub first : (slot_in h i).first ≡ turn

-- extent e may take the next turn, or none may
abbrev pub MayTurn : Header → ℕ → Type 0
MayTurn h e = ring.MayTurn h.records (ord_in h) (Pins h) e

abbrev pub NoneMayTurn : Header → Type 0
NoneMayTurn h = ring.NoneMayTurn h.records (ord_in h) (Pins h)

-- bits with bit e
pub record Also (bits e bits2 : ℕ) : Type 0 where
  pub this : has_bit bits2 e ≡ true
  pub others : (f : ℕ) → f ≢ e → has_bit bits2 f ≡ has_bit bits f

-- a slot with one live record more, at that address, in the extent of that turn
abbrev pub added_slot : ℕ → Uba → ℕ → TableSlot → TableSlot
added_slot turn address touched slot = record slot {
  touched = touched;
  live = slot.live + 1;
  newest_at = address;
  first = if slot.touched == 0 then turn else slot.first;
}

-- the head has one record more, of slot i, at that address
abbrev pub added : ℕ → Uba → ℕ → Header → Header
added i address touched h = record h {
  records = h.records + 1;
  writes = h.writes + 1;
  slots = set h.slots i (added_slot (head_turn h) address touched (slot_in h i));
}

abbrev pub with_header : Header → Segment → Segment
with_header h s = record s { header = h }

-- where the next record of the head comes
abbrev pub next_place : Header → ℕ
next_place h = 40 * h.head + h.records

-- the address that it gets in segment g
abbrev pub next_address : Shape → ℕ → Header → Uba
next_address shape g h = record {
  block = undo_block shape g (next_place h);
  rec = next_place h % 10;
  ord = head_turn h;
}

abbrev pub with_record : ℕ → Uba → ℕ → UndoRecord → Segment → Segment
with_record i address touched r s = record s {
  header = added i address touched s.header;
  undo = set s.undo (next_place s.header) r;
}

-- Slot i is the transaction's own, or is taken for it.
abbrev pub IsReady : Segment → ℕ → Segment → Type 0
IsReady s i ready = (((slot_in s.header i).state ≡ ACTIVE) × (ready ≡ s))
    ⊎ (((slot_in s.header i).state ≢ ACTIVE) × (ready ≡ with_header (claimed i s.header) s))

-- The head has room for a record, or an extent takes the next turn.
abbrev pub HasRoom : Segment → Segment → Type 0
HasRoom s room = ((s.header.records < EXTENT_RECORDS) × (room ≡ s))
    ⊎ ((e : ℕ) × MayTurn s.header e × (room ≡ with_header (turned e s.header) s))

-- what a write makes of its segment: one record more, of slot i
pub record Records (s : Segment) (i : ℕ) (address : Uba) (r : UndoRecord) (s2 : Segment) : Type 0 where
  pub ready : Segment
  pub room : Segment
  pub touched : ℕ
  pub is_ready : IsReady s i ready
  pub has_room : HasRoom ready room
  pub bits : Also (slot_in room.header i).touched room.header.head touched
  pub made : s2 ≡ with_record i address touched r room

-- the newest live record of slot i is put back
abbrev pub taken_back : ℕ → Uba → Header → Header
taken_back i previous h =
    let s = slot_in h i in record h { slots = set h.slots i (record s { live = s.live - 1; newest_at = previous }) }

-- the extents that these bits name have that number, the first of the list being extent e
abbrev pub stamped : ℕ → ℕ → ℕ → List Extent → List Extent
stamped n bits e [] = []
stamped n bits e (x ∷ extents) =
    record x { newest = if has_bit bits e then n else x.newest } ∷ stamped n bits (suc e) extents

-- the transaction of slot i commits at n
abbrev pub committed : ℕ → ℕ → Header → Header
committed n i h = let s = slot_in h i in record h {
  slots = set h.slots i (record s { state = COMMITTED; newest = n });
  extents = stamped n s.touched 0 h.extents;
}

-- the transaction of slot i ends without a number
abbrev pub ended : ℕ → Header → Header
ended i h = let s = slot_in h i in record h { slots = set h.slots i (record s { state = ENDED }) }

-- the segments with this one in the place of segment g
abbrev pub with_segment : ℕ → Segment → (ℕ → Segment) → ℕ → Segment
with_segment g s segments k = if k == g then s else segments k

-- The extents' turns are different and the head's is the greatest, which with the records in the head tells the writes.
pub record Ring (h : Header) : Type 0 where
  pub extents : length h.extents ≡ EXTENTS
  pub head_in : h.head < EXTENTS
  pub apart : (e f : ℕ) → 1 ≤ ord_in h e → ord_in h e ≡ ord_in h f → e ≡ f
  pub highest : (e : ℕ) → ord_in h e ≤ head_turn h
  pub second : 2 ≤ head_turn h
  pub few : h.records ≤ EXTENT_RECORDS
  pub count : h.writes + 80 ≡ 40 * head_turn h + h.records

-- An address that a segment gave names a record of one of its undo blocks, in the extent that has its turn, as long as
-- one has. The first turn that has records is 2.
pub record IsAddress (shape : Shape) (g : ℕ) (h : Header) (u : Uba) : Type 0 where
  pub behind : header_block shape g < u.block
  pub within : u.block < header_block shape g + SEGMENT_BLOCKS
  pub rec : u.rec < UNDO_RECORDS
  pub first : 2 ≤ u.ord
  pub given : u.ord ≤ head_turn h
  pub extent : (e : ℕ) → extent_with h.extents u.ord ≡ Some e
      → e ≡ (u.block - header_block shape g - 1) / EXTENT_BLOCKS

-- A later moment of a segment. A slot that goes on keeps its wrap and all records of it.
pub record SegmentAges (goes : ℕ → Type 0) (s s2 : Segment) : Type 0 where
  pub lost : s.header.lost ≤ s2.header.lost
  pub writes : s.header.writes ≤ s2.header.writes
  pub looks : (i wrap : ℕ) → LookAges s.header.lost s2.header.lost (slot_look (slot_in s.header i) wrap)
      (slot_look (slot_in s2.header i) wrap)
  pub active : (i wrap : ℕ) → slot_look (slot_in s2.header i) wrap ≡ Active
      → slot_look (slot_in s.header i) wrap ≡ Active
  pub records : (i : ℕ) (r : UndoRecord) → i ≤ s.header.writes → record_in s2 i ≡ Some r → record_in s i
      ≡ Some r
  pub limit : (i : ℕ) → i ≤ s.header.writes → limit_in s.header i ≤ limit_in s2.header i
  pub wrap : (i : ℕ) → goes i → (slot_in s2.header i).wrap ≡ (slot_in s.header i).wrap
  pub goes_on : (i : ℕ) → goes i → slot_look (slot_in s.header i) (slot_in s.header i).wrap ≡ Active
      → slot_look (slot_in s2.header i) (slot_in s.header i).wrap ≡ Active
  pub kept : (i k : ℕ) (r : UndoRecord) → goes i → r.slot ≡ i → r.wrap ≡ (slot_in s.header i).wrap
      → record_in s k ≡ Some r → record_in s2 k ≡ Some r

-- What a commit of slot i at number c makes of its segment. The other slots' records and looks stay.
pub record SegmentCommits (s s2 : Segment) (i c : ℕ) : Type 0 where
  pub ages : SegmentAges (λ j. j ≢ i) s s2
  pub records : (k : ℕ) → record_in s2 k ≡ record_in s k
  pub at : slot_look (slot_in s2.header i) (slot_in s.header i).wrap ≡ At c
  pub wrap : (j : ℕ) → (slot_in s2.header j).wrap ≡ (slot_in s.header j).wrap
  pub limit : (k : ℕ) (r : UndoRecord) → record_in s k ≡ Some r → r.slot ≡ i → r.wrap
      ≡ (slot_in s.header i).wrap
      → c ≤ limit_in s2.header k
