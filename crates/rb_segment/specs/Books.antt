-- Which book a segment's header tells: its turns and its owners. And the header of a new file.
use Rattle.std.specs.Prelude.{◌≡◌, ◌≢◌, ◌<◌, ◌≤◌, ◌==◌, ◌&&◌, ◌+◌, ◌-◌, ℕ, Bool}
use Rattle.std.specs.Prelude.{not, nat_le}
use Rattle.std.specs.Prelude.{◌∷◌, length, map, get_or, filter, replicate, Option, Some, None}
use Rattle.std.specs.List.{list_any, range_with_len, AllByRecursion}
use Rattle.rb_base.specs.declared.sizes.TheConstants.{ACTIVE, SLOTS}
use Rattle.rb_model.specs.Book.{Owner, Book, BookSlot, free_slot, first_turn}
use Rattle.rb_ring.specs.Ring.{IsRing}
use Rattle.rb_ring.specs.declared.extents.Extent.{Extent}
use Rattle.rb_ring.specs.declared.extents.TheConstants.{EXTENTS}
use Rattle.rb_segment.specs.Header.{Header, Segment, slot_in, ord_in, extent_in, no_extent, head_turn, extent_with}
use Rattle.rb_segment.specs.Header.{has_bit}
use Rattle.rb_txntable.specs.Slots.{no_slot}
use Rattle.rb_txntable.specs.declared.slots.TableSlot.{TableSlot}
use Rattle.rb_undoblock.specs.Undo.{no_undo}

-- the number of a turn that is kept
abbrev pub turn_number : Header → Option ℕ → ℕ
turn_number h None = 0
turn_number h (Some e) = (extent_in h e).newest

abbrev pub IsKeptTurn : Header → ℕ → Type 0
IsKeptTurn h turn = (e : ℕ) × (extent_with h.extents turn ≡ Some e)

-- how many extents are in the ring
abbrev pub ring_count : Header → ℕ
ring_count h = length (filter (λ (x : Extent). nat_le 1 x.ord) h.extents)

-- the least turn in the ring
abbrev pub least_turn : Header → ℕ
least_turn h = head_turn h + 1 - ring_count h

-- the slot's transaction runs, has made a record, and its first one is of that turn
abbrev pub is_first_in : ℕ → TableSlot → Bool
is_first_in turn slot = (slot.state == 1) && (not (slot.touched == 0) && (slot.first == turn))

-- the next record has no place: the head is full, the least turn is in use, and no extent is left
abbrev pub next_is_full : Header → Bool
next_is_full h = (h.records == 40) && (list_any (is_first_in (least_turn h)) h.slots && (ring_count h == 8))

-- The owner of an Active slot: its start, and the turns of the extents that its bits name, which lie from its first one
-- to the head's. So no bit names an extent out of the ring.
pub record IsOwner (h : Header) (slot : TableSlot) (o : Owner) : Type 0 where
  pub state : slot.state ≡ ACTIVE
  pub start : slot.start ≡ o.start
  pub touched : (e : ℕ) → e < EXTENTS → list_any (λ t. t == ord_in h e) o.touched ≡ has_bit slot.touched e
  pub within : AllByRecursion (λ t. (first_turn o ≤ t) × (t ≤ head_turn h)) o.touched

-- a slot is owned in the book exactly where it is Active
abbrev pub IsOwned : Header → TableSlot → Option Owner → Type 0
IsOwned h slot None = slot.state ≢ ACTIVE
IsOwned h slot (Some o) = IsOwner h slot o

-- the oldest turn that a header keeps, of so many
abbrev pub oldest_in : Header → ℕ → ℕ
oldest_in h kept = head_turn h + 1 - kept

-- a header tells a book
pub record IsBook (h : Header) (b : Book) : Type 0 where
  pub writes : b.writes ≡ h.writes
  pub lost : b.lost ≡ h.lost
  pub slots : length b.slots ≡ SLOTS
  pub newest : (i : ℕ) → i < SLOTS → (get_or b.slots i free_slot).newest ≡ (slot_in h i).newest
  pub owners : (i : ℕ) → i < SLOTS → IsOwned h (slot_in h i) (get_or b.slots i free_slot).owner
  -- the first extents are the ring, one for each kept turn
  pub ring : IsRing (ord_in h) h.head (length b.turns)
  pub kept : length b.turns ≤ head_turn h
  pub turns : (k : ℕ) → k < length b.turns → IsKeptTurn h (oldest_in h (length b.turns) + k)
      × (get_or b.turns k 0 ≡ turn_number h (extent_with h.extents (oldest_in h (length b.turns) + k)))

abbrev pub idle_slot : TableSlot → BookSlot
idle_slot s = record { newest = s.newest; owner = None }

-- the book that a header tells where no slot is Active, with so many extents in the ring
abbrev pub book_of : Header → ℕ → Book
book_of h kept = record {
  writes = h.writes;
  lost = h.lost;
  turns = map (λ j. turn_number h (extent_with h.extents (oldest_in h kept + j))) (range_with_len 0 kept);
  slots = map idle_slot h.slots;
}

-- the header of a new file, and its segment
abbrev pub fresh_header : Header
fresh_header = record {
  slots = replicate 16 no_slot;
  extents = record { ord = 2; newest = 0 } ∷ record { ord = 1; newest = 0 } ∷ replicate 6 no_extent;
  head = 0;
  records = 0;
  writes = 0;
  lost = 0;
}

abbrev pub fresh_segment : Segment
fresh_segment = record { header = fresh_header; undo = replicate 320 no_undo }
