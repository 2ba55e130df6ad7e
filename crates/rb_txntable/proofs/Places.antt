-- A table slot that was written over a header's bytes.
use Rattle.std.proofs.Common.{◌≡◌, ℕ, ◌+◌, ◌-◌, ◌<◌, ◌≤◌, List, take, drop, refl, arith, ap, sym, ◌∙◌, inl, inr, slice_index}
use Rattle.std.proofs.lemmas.List.{drop-drop, drop-take, get_or-take, get_or-drop}
use Rattle.rb_base.specs.declared.sizes.TheConstants.{BLOCK_HEAD, SLOT_BYTES}
use Rattle.byteorder.specs.Numbers.{big_number-reads_back, big_from-take}
use Rattle.byteorder.specs.Endian.{big_number}
use Rattle.rb_base.specs.Addresses.{slot_place, uba_at}
use Rattle.rb_base.specs.Fields.{part, number_at, AreApart}
use Rattle.rb_base.proofs.Apart.{number_apart, byte_apart, places_apart}
use Rattle.rb_base.proofs.Fronts.{number_of_part, byte_of_part}
use Rattle.rb_base.proofs.Overwriting.{length-overwritten, part_written, part_apart}
use Rattle.rb_txntable.specs.declared.slots.TableSlot.{TableSlot}
use Rattle.rb_txntable.specs.Slots.{slot_bytes, slot_at, with_slot, IsTableSlot, slot_state, slot_touched, slot_live, slot_wrap, slot_newest, slot_before, slot_record, slot_first, slot_start}
use Rattle.rb_txntable.specs.Slots.{SlotReadsBack, SlotReadsOwn, SlotsKept, KeepsOutsideSlot, KeepsNumbersOutside, KeepsBytesOutside, SlotLengthKept}

pub kept_outside : KeepsOutsideSlot
kept_outside header i at count s long lt side = part_apart header (slot_place i) (slot_bytes s) at count SLOT_BYTES (omega (arith, long)) refl side

pub numbers_kept : KeepsNumbersOutside
numbers_kept header i at count s long lt side = number_apart header (slot_place i) (slot_bytes s) SLOT_BYTES (omega (arith, long)) refl at count side

pub bytes_kept : KeepsBytesOutside
bytes_kept header i at s long lt side = byte_apart header (slot_place i) (slot_bytes s) SLOT_BYTES (omega (arith, long)) refl at side

pub length_kept : SlotLengthKept
length_kept header i s long lt = length-overwritten header (slot_place i) (slot_bytes s) (omega (arith, long)) ∙ long

-- a byte and a number within a part
byte_within : (bytes : List ℕ) (at size k : ℕ) → k < size → slice_index bytes (at + k) ≡ slice_index (part bytes at size) k
byte_within bytes at size k lt = sym (get_or-take size (drop at bytes) k 0 lt ∙ get_or-drop at bytes k 0)

number_within : (bytes : List ℕ) (at size k count : ℕ) → k + count ≤ size → number_at bytes (at + k) count ≡ number_at (part bytes at size) k count
number_within bytes at size k count le =
    let rest = size - k in
    let whole : k + rest ≡ size = omega arith in
    sym (
    ap (λ (n : ℕ). number_at (take n (drop at bytes)) k count) (sym whole)
    ∙ ap (big_number count) (drop-take k rest (drop at bytes))
    ∙ big_from-take 0 count rest (drop k (drop at bytes)) (omega arith)
    ∙ ap (big_number count) (drop-drop k at bytes)
    )

far : (at k more : ℕ) → at + k + more ≡ at + (k + more)
far at k more = omega arith

-- what the 64 bytes of a slot say
slot_of : List ℕ → TableSlot
slot_of bytes = record {
  state = slice_index bytes 0;
  touched = slice_index bytes 1;
  live = number_at bytes 4 4;
  wrap = number_at bytes 8 8;
  newest = number_at bytes 16 8;
  before = number_at bytes 24 8;
  newest_at = uba_at bytes 32;
  first = number_at bytes 48 8;
  start = number_at bytes 56 8;
}

-- a slot is read from its bytes alone
slot_there : (header : List ℕ) (i : ℕ) → slot_at header i ≡ slot_of (part header (slot_place i) SLOT_BYTES)
unfolding slot_of slot_state slot_touched slot_live slot_wrap slot_newest slot_before slot_record slot_first slot_start
slot_there header i =
    let place = slot_place i in
    let within = number_within header place SLOT_BYTES in
    let state = sym (byte_of_part header place SLOT_BYTES (omega arith)) in
    let touched = byte_within header place SLOT_BYTES 1 (omega arith) in
    let rec = ap (λ (n : ℕ). number_at header n 2) (far place 32 4) ∙ within 36 2 (omega arith) in
    let ord = ap (λ (n : ℕ). number_at header n 8) (far place 32 8) ∙ within 40 8 (omega arith) in
    rw (state, touched, within 4 4 (omega arith), within 8 8 (omega arith), within 16 8 (omega arith), within 24 8 (omega arith), within 32 4 (omega arith), rec, ord, within 48 8 (omega arith), within 56 8 (omega arith)) refl

-- each field is read from the bytes that it was written to
of_own_bytes : (s : TableSlot) → IsTableSlot s → slot_of (slot_bytes s) ≡ s
unfolding slot_of
of_own_bytes s h =
    let bytes = slot_bytes s in
    let live : number_at bytes 4 4 ≡ s.live = big_number-reads_back 4 s.live (drop 8 bytes) h.live in
    let wrap : number_at bytes 8 8 ≡ s.wrap = big_number-reads_back 8 s.wrap (drop 16 bytes) h.wrap in
    let newest : number_at bytes 16 8 ≡ s.newest = big_number-reads_back 8 s.newest (drop 24 bytes) h.newest in
    let before : number_at bytes 24 8 ≡ s.before = big_number-reads_back 8 s.before (drop 32 bytes) h.before in
    let block : number_at bytes 32 4 ≡ s.newest_at.block = big_number-reads_back 4 s.newest_at.block (drop 36 bytes) h.newest_at.block in
    let rec : number_at bytes 36 2 ≡ s.newest_at.rec = big_number-reads_back 2 s.newest_at.rec (drop 38 bytes) h.newest_at.rec in
    let ord : number_at bytes 40 8 ≡ s.newest_at.ord = big_number-reads_back 8 s.newest_at.ord (drop 48 bytes) h.newest_at.ord in
    let first : number_at bytes 48 8 ≡ s.first = big_number-reads_back 8 s.first (drop 56 bytes) h.first in
    let start : number_at bytes 56 8 ≡ s.start = big_number-reads_back 8 s.start (drop 64 bytes) h.start in
    rw (live, wrap, newest, before, block, rec, ord, first, start) refl

pub read_back : SlotReadsBack
read_back header i s fits is = slot_there header i ∙ ap slot_of is ∙ of_own_bytes s fits

pub own_read : SlotReadsOwn
own_read header i s long lt fits = read_back (with_slot header i s) i s fits (part_written header (slot_place i) (slot_bytes s) SLOT_BYTES (omega (arith, long)) refl)

pub others_kept : SlotsKept
others_kept header i j s long lt lt_too other =
    slot_there (with_slot header i s) j ∙ ap slot_of (kept_outside header i (slot_place j) SLOT_BYTES s long lt (places_apart BLOCK_HEAD SLOT_BYTES i j other)) ∙ sym (slot_there header j)
