-- What the segments say that a file hasn't: nothing was made, nothing was given up, and no slot was taken.
use Rattle.std.proofs.Common.{◌*◌, ◌≡◌, inl, inr, ◌<◌, ◌≤◌, ◌+◌, ◌-◌, ◌/◌, ◌%◌, ◌&&◌, nat_le, ℕ, zero, suc, Bool, true, false, if◌then◌else◌, List, [], length, get_or, drop}
use Rattle.std.proofs.Common.{None, refl, sym, ◌∙◌, ap, arith}
use Rattle.std.proofs.Math.ListN.{get_or-eq_default}
use Rattle.std.proofs.lemmas.Bool.{cases_lt}
use Rattle.std.proofs.lemmas.Bool.Decides.{nat_tests}
use Rattle.rb_undoblock.specs.declared.record.TheConstants.{UNDO_RECORDS}
use Rattle.rb_base.specs.declared.sizes.TheConstants.{SLOTS}
use Rattle.rb_ring.specs.declared.extents.TheConstants.{EXTENTS, EXTENT_RECORDS}
use Rattle.rb_cell.specs.declared.cell.TheConstants.{CELLS}
use Rattle.byteorder.specs.Endian.{big_from}
use Rattle.rb_base.specs.Blocks.{block_of, header_block, AreBlocks}
use Rattle.rb_base.specs.Fields.{number_at}
use Rattle.rb_base.specs.declared.ids.Xid.{Xid}
use Rattle.rb_base.specs.declared.shape.Shape.{Shape}
use Rattle.rb_ring.specs.Ring.{record_count, lost_number}
use Rattle.rb_segment.specs.Header.{Header, header_of, look_in, record_in, segment_of, slot_in, undo_block, undo_in, extent_with, position_of}
use Rattle.std.proofs.lemmas.List.FromFn.{get_or-map-range_with_len}
use Rattle.rb_undoblock.specs.Undo.{undo_at, no_undo}
use Rattle.rb_segment.proofs.Parts.{ring_read, slot_read, slots_many}
use Rattle.rb_txntable.specs.Looks.{slot_look}
use Rattle.rb_txntable.specs.Slots.{slot_at, slot_state, slot_wrap, slot_newest, slot_before, no_slot}
use Rattle.rb_txntable.specs.declared.slots.TableSlot.{TableSlot}

drop_none : (at : ℕ) → (let none : List ℕ = [] in drop at none) ≡ []
drop_none zero = refl
drop_none (suc at) = refl

zero_from : (i n : ℕ) → big_from i n [] ≡ 0
zero_from i zero = refl
zero_from i (suc n) = let deep : big_from (suc i) n [] ≡ 0 = zero_from (suc i) n in omega (arith, deep)

-- a number of no bytes
zero_at : (at n : ℕ) → number_at [] at n ≡ 0
zero_at at n = ap (big_from 0 n) (drop_none at) ∙ zero_from 0 n

-- a block behind the file
pub beyond : (shape : Shape) (blocks : List (List ℕ)) (g : ℕ) → AreBlocks shape blocks → shape.segments ≤ g → block_of blocks (header_block shape g) ≡ []
beyond shape blocks g whole behind = get_or-eq_default blocks [] (omega (arith, whole.count, behind))

none_made : record_count [] ≡ 0
unfolding record_count
none_made = zero_at 1320 8

none_lost : lost_number [] ≡ 0
unfolding lost_number
none_lost = zero_at 1328 8

none_wrap : (i : ℕ) → slot_wrap [] i ≡ 0
unfolding slot_wrap
none_wrap i = zero_at _ 8

none_newest : (i : ℕ) → slot_newest [] i ≡ 0
unfolding slot_newest
none_newest i = zero_at _ 8

none_before : (i : ℕ) → slot_before [] i ≡ 0
unfolding slot_before
none_before i = zero_at _ 8

none_state : (i : ℕ) → slot_state [] i ≡ 0
unfolding slot_state
none_state i = refl

-- a slot behind those that a header has
slot_beyond : (h : Header) (i : ℕ) → length h.slots ≡ SLOTS → 16 ≤ i → slot_in h i ≡ no_slot
slot_beyond h i many out = get_or-eq_default h.slots no_slot (omega (arith, many, out))

module _ (shape : Shape) (blocks : List (List ℕ)) (g : ℕ) (whole : AreBlocks shape blocks) (behind : shape.segments ≤ g) where
  abbrev h : Header
  h = (segment_of shape blocks g).header

  header_is : h ≡ header_of []
  unfolding segment_of
  header_is = ap header_of (beyond shape blocks g whole behind)

  writes_none : h.writes ≡ 0
  writes_none = ap (λ (z : Header). z.writes) header_is ∙ ((ring_read []).2 ∙ none_made)

  pub lost_none : h.lost ≡ 0
  lost_none = ap (λ (z : Header). z.lost) header_is ∙ ((ring_read []).3 ∙ none_lost)

  -- no record of it was made
  pub record_none : (i : ℕ) → record_in (segment_of shape blocks g) i ≡ None
  record_none i = by_first (nat_le 1 i) refl
    where
      by_first : (t : Bool) → nat_le 1 i ≡ t → (if t && nat_le i h.writes then undo_in (segment_of shape blocks g).undo (position_of i) (extent_with h.extents (2 + (i - 1) / EXTENT_RECORDS)) else None) ≡ None
      by_first false is = refl
      by_first true is = let few : nat_le i h.writes ≡ false = above i h.writes writes_none is in rw few refl
        where
          above : (i n : ℕ) → n ≡ 0 → nat_le 1 i ≡ true → nat_le i n ≡ false
          above i n none first = grind (arith, nat_tests)

  -- and of no transaction a slot tells
  pub look_none : (x : Xid) → look_in h x ≡ slot_look no_slot x.wrap
  look_none x = elim (cases_lt x.slot SLOTS) [
    | inl lt ↦
        let slot : slot_in h x.slot ≡ slot_at [] x.slot = ap (λ (z : Header). slot_in z x.slot) header_is ∙ slot_read [] x.slot lt in
        ap (λ (s : TableSlot). slot_look s x.wrap) slot ∙ rw (none_wrap x.slot, none_state x.slot, none_newest x.slot) refl
    | inr out ↦ ap (λ (s : TableSlot). slot_look s x.wrap) (slot_beyond h x.slot (ap (λ (z : Header). length z.slots) header_is ∙ slots_many []) out)
  ]

module _ (shape : Shape) (blocks : List (List ℕ)) (x : Xid) where
  abbrev header : List ℕ
  header = block_of blocks (header_block shape x.seg)

  read_header : (segment_of shape blocks x.seg).header ≡ header_of header
  unfolding segment_of
  read_header = refl

  pub look_there : x.slot < SLOTS → look_in (segment_of shape blocks x.seg).header x ≡ slot_look (slot_at header x.slot) x.wrap
  look_there lt = ap (λ (h : Header). look_in h x) read_header ∙ ap (λ (s : TableSlot). slot_look s x.wrap) (slot_read header x.slot lt)

  pub look_out : CELLS ≤ x.slot → look_in (segment_of shape blocks x.seg).header x ≡ slot_look no_slot x.wrap
  look_out out = ap (λ (h : Header). look_in h x) read_header ∙ ap (λ (s : TableSlot). slot_look s x.wrap) (slot_beyond (header_of header) x.slot (slots_many header) out)

pub lost_there : (shape : Shape) (blocks : List (List ℕ)) (g : ℕ) → (segment_of shape blocks g).header.lost ≡ lost_number (block_of blocks (header_block shape g))
unfolding segment_of
lost_there shape blocks g = (ring_read (block_of blocks (header_block shape g))).3

-- the header of a segment is what its block says
pub header_read : (shape : Shape) (blocks : List (List ℕ)) (g : ℕ) (block : List ℕ) → block ≡ block_of blocks (header_block shape g) → (segment_of shape blocks g).header ≡ header_of block
unfolding segment_of
header_read shape blocks g block is = ap header_of (sym is)

-- a segment's record at a place, of which an undo block has ten
pub place_read : (shape : Shape) (blocks : List (List ℕ)) (g at : ℕ) → at < (EXTENTS * EXTENT_RECORDS) → get_or (segment_of shape blocks g).undo at no_undo ≡ undo_at (block_of blocks (header_block shape g + 1 + at / UNDO_RECORDS)) (at % UNDO_RECORDS)
unfolding segment_of
place_read shape blocks g at few = get_or-map-range_with_len (λ i. undo_at (block_of blocks (undo_block shape g i)) (i % UNDO_RECORDS)) 0 (EXTENTS * EXTENT_RECORDS) at at no_undo few (omega arith)
