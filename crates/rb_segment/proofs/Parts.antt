-- What a header reads as once a part of it is written.
use Rattle.std.proofs.Common.{◌≡◌, ◌≢◌, ℕ, ◌+◌, ◌==◌, ◌^◌, ◌<◌, ◌≤◌, List, [], ◌∷◌, length, set, refl, arith, ap, sym, ◌∙◌, inl, inr, slice_index}
use Rattle.std.proofs.lemmas.Bool.{cond-true, cond-false, eq-eqb}
use Rattle.std.proofs.lemmas.Bool.Decides.{nat_tests}
use Rattle.std.proofs.lemmas.List.FromFn.{length-map-range_with_len, get_or-map-range_with_len}
use Rattle.rb_base.specs.declared.sizes.TheConstants.{SLOTS, UNIT}
use Rattle.rb_ring.specs.declared.extents.TheConstants.{EXTENTS, EXTENTS_AT, HEAD_AT, LOST_AT, WRITES_AT}
use Rattle.rb_base.proofs.Listed.{listed_same, listed_set}
use Rattle.rb_base.specs.Addresses.{slot_place}
use Rattle.rb_base.specs.Blocks.{written_to}
use Rattle.rb_base.specs.Fields.{number_at, overwritten}
use Rattle.rb_base.specs.Groups.{patch}
use Rattle.rb_base.specs.declared.ids.Xid.{Xid}
use Rattle.rb_ring.proofs.Places.{extent_only, head_only, record_count_only, lost_only, extent_written, head_written, record_count_written, lost_written}
use Rattle.rb_ring.specs.Ring.{extent_place, extent_at, extent_ord, extent_newest, head_extent, head_records, record_count, lost_number, with_extent, with_head, with_record_count, with_lost, IsExtent}
use Rattle.rb_ring.specs.Written.{ChangesOnly, RingReads, extents_with}
use Rattle.rb_ring.specs.declared.extents.Extent.{Extent}
use Rattle.rb_segment.specs.Calls.{Runs}
use Rattle.rb_segment.specs.Header.{header_of, no_extent, slot_in, extent_in}
use Rattle.rb_txntable.proofs.Places.{numbers_kept, own_read, others_kept}
use Rattle.rb_txntable.specs.Looks.{IsRunning}
use Rattle.rb_txntable.specs.Slots.{slot_at, slot_state, slot_touched, slot_live, slot_wrap, slot_newest, slot_before, slot_record, slot_first, slot_start, with_slot, no_slot, IsTableSlot, IsChosen}
use Rattle.rb_txntable.specs.declared.slots.TableSlot.{TableSlot}

-- two headers with the same numbers behind the table slots have the same ring
pub ring_same : (one other : List ℕ) → ((at count : ℕ) → EXTENTS_AT ≤ at → number_at one at count ≡ number_at other at count)
    → ((e : ℕ) → extent_at one e ≡ extent_at other e) × (head_extent one ≡ head_extent other) × (head_records one ≡ head_records other) × (record_count one ≡ record_count other) × (lost_number one ≡ lost_number other)
unfolding extent_ord extent_newest head_extent head_records record_count lost_number
ring_same one other same = (
  λ e. rw (same (extent_place e) 8 (omega arith), same (extent_place e + 8) 8 (omega arith)) refl,
  same HEAD_AT 2 (omega arith),
  same 1314 2 (omega arith),
  same WRITES_AT 8 (omega arith),
  same LOST_AT 8 (omega arith),
)

-- and with the same bytes and numbers before the extents, the same table slots
pub slots_same : (one other : List ℕ) → ((at count : ℕ) → 32 ≤ at → at + count ≤ EXTENTS_AT → number_at one at count ≡ number_at other at count) → ((at : ℕ) → 32 ≤ at → at < EXTENTS_AT → slice_index one at ≡ slice_index other at)
    → (i : ℕ) → i < SLOTS → slot_at one i ≡ slot_at other i
unfolding slot_state slot_touched slot_live slot_wrap slot_newest slot_before slot_record slot_first slot_start
slots_same one other numbers bytes i few =
    let p = slot_place i in
    rw (
      bytes p (omega arith) (omega (arith, few)),
      bytes (p + 1) (omega arith) (omega (arith, few)),
      numbers (p + 4) 4 (omega arith) (omega (arith, few)),
      numbers (p + 8) 8 (omega arith) (omega (arith, few)),
      numbers (p + 16) 8 (omega arith) (omega (arith, few)),
      numbers (p + 24) 8 (omega arith) (omega (arith, few)),
      numbers (p + 32) 4 (omega arith) (omega (arith, few)),
      numbers (p + 32 + 4) 2 (omega arith) (omega (arith, few)),
      numbers (p + 32 + 8) 8 (omega arith) (omega (arith, few)),
      numbers (p + 48) 8 (omega arith) (omega (arith, few)),
      numbers (p + 56) 8 (omega arith) (omega (arith, few)),
    ) refl

pub slot_set : (header : List ℕ) (i : ℕ) (s : TableSlot) → length header ≡ UNIT → i < SLOTS → IsTableSlot s
    → header_of (with_slot header i s) ≡ record (header_of header) { slots = set (header_of header).slots i s }
unfolding header_of
slot_set header i s long few fits =
    let after = with_slot header i s in
    let slots = listed_set (slot_at after) (slot_at header) SLOTS i s no_slot few (own_read header i s long few fits) (λ k lt differ. others_kept header i k s long few lt differ) in
    let ring = ring_same after header (λ at count behind. numbers_kept header i at count s long few (inr (omega (arith, few, behind)))) in
    let extents = listed_same (extent_at after) (extent_at header) EXTENTS no_extent (λ e lt. ring.0 e) in
    rw (slots, extents, ring.1, ring.2, ring.3, ring.4) refl

-- where a part behind the table slots is written, these stay
table_same : (header after : List ℕ) (at count : ℕ) → EXTENTS_AT ≤ at → ChangesOnly at count header after → (i : ℕ) → i < SLOTS → slot_at after i ≡ slot_at header i
table_same header after at count behind only = slots_same after header (λ from size head lt. only.numbers from size (inl (omega (arith, behind, lt)))) (λ from head lt. only.bytes from (inl (omega (arith, behind, lt))))

if_same : (e : ℕ) (x : Extent) (extent : ℕ → Extent) → extents_with extent e x e ≡ x
if_same e x extent = cond-true (e == e) x (extent e) (grind (arith, nat_tests))

if_other : (e k : ℕ) (x : Extent) (extent : ℕ → Extent) → k ≢ e → extents_with extent e x k ≡ extent k
if_other e k x extent differ = cond-false (k == e) x (extent k) (grind (arith, nat_tests, differ))

pub extent_own : (header : List ℕ) (e : ℕ) (x : Extent) → length header ≡ UNIT → e < EXTENTS → IsExtent x → extent_at (with_extent header e x) e ≡ x
extent_own header e x long few fits = (extent_written header e x long few fits).extents e few ∙ if_same e x (extent_at header)

pub extent_set : (header : List ℕ) (e : ℕ) (x : Extent) → length header ≡ UNIT → e < EXTENTS → IsExtent x
    → header_of (with_extent header e x) ≡ record (header_of header) { extents = set (header_of header).extents e x }
unfolding header_of
extent_set header e x long few fits =
    let after = with_extent header e x in
    let reads = extent_written header e x long few fits in
    let slots = listed_same (slot_at after) (slot_at header) SLOTS no_slot (table_same header after (extent_place e) 16 (omega arith) (extent_only header e x long few)) in
    let own = extent_own header e x long few fits in
    let extents = listed_set (extent_at after) (extent_at header) 8 e x no_extent few own (λ k lt differ. reads.extents k lt ∙ if_other e k x (extent_at header) differ) in
    rw (slots, extents, reads.head, reads.records, reads.writes, reads.lost) refl

-- where the extents stay
ring_of : (header after : List ℕ) (at count h k n c : ℕ) → EXTENTS_AT ≤ at → ChangesOnly at count header after → RingReads after (extent_at header) h k n c
    → header_of after ≡ record (header_of header) { head = h; records = k; writes = n; lost = c }
unfolding header_of
ring_of header after at count h k n c behind only reads =
    let slots = listed_same (slot_at after) (slot_at header) SLOTS no_slot (table_same header after at count behind only) in
    let extents = listed_same (extent_at after) (extent_at header) EXTENTS no_extent reads.extents in
    rw (slots, extents, reads.head, reads.records, reads.writes, reads.lost) refl

pub head_set : (header : List ℕ) (h k : ℕ) → length header ≡ UNIT → h < 2 ^ 16 → k < 2 ^ 16
    → header_of (with_head header h k) ≡ record (header_of header) { head = h; records = k }
unfolding header_of
head_set header h k long h_fits k_fits = ring_of header (with_head header h k) HEAD_AT 4 h k (record_count header) (lost_number header) (omega arith) (head_only header h k long) (head_written header h k long h_fits k_fits)

pub writes_set : (header : List ℕ) (n : ℕ) → length header ≡ UNIT → n < 2 ^ 64 → header_of (with_record_count header n) ≡ record (header_of header) { writes = n }
unfolding header_of
writes_set header n long fits = ring_of header (with_record_count header n) WRITES_AT 8 (head_extent header) (head_records header) n (lost_number header) (omega arith) (record_count_only header n long) (record_count_written header n long fits)

pub lost_set : (header : List ℕ) (c : ℕ) → length header ≡ UNIT → c < 2 ^ 64 → header_of (with_lost header c) ≡ record (header_of header) { lost = c }
unfolding header_of
lost_set header c long fits = ring_of header (with_lost header c) LOST_AT 8 (head_extent header) (head_records header) (record_count header) c (omega arith) (lost_only header c long) (lost_written header c long fits)

-- Bytes that were set in a copy are those of one patch of its block.
pub set_over : (block at : ℕ) (bytes old now : List ℕ) → now ≡ overwritten old at bytes → now ≡ written_to block (patch block at bytes ∷ []) old
set_over block at bytes old now set = set ∙ rw (eq-eqb block block refl) refl

-- A header's parts, read one by one.
pub slot_read : (header : List ℕ) (i : ℕ) → i < SLOTS → slot_in (header_of header) i ≡ slot_at header i
unfolding header_of
slot_read header i few = get_or-map-range_with_len (slot_at header) 0 SLOTS i i no_slot few (omega arith)

-- so a transaction that has its slot runs, and the other way round
pub runs_read : (header : List ℕ) (x : Xid) → x.slot < SLOTS → IsRunning (slot_at header x.slot) x.wrap → Runs (header_of header) x
runs_read header x few is = let read = slot_read header x.slot few in
    record { slot = few; active = ap (λ (s : TableSlot). s.state) read ∙ is.active; wrap = ap (λ (s : TableSlot). s.wrap) read ∙ is.wrap }

pub has_slot : (header : List ℕ) (x : Xid) → Runs (header_of header) x → IsRunning (slot_at header x.slot) x.wrap
has_slot header x runs = let read = sym (slot_read header x.slot runs.slot) in
    record { active = ap (λ (s : TableSlot). s.state) read ∙ runs.active; wrap = ap (λ (s : TableSlot). s.wrap) read ∙ runs.wrap }

pub extent_read : (header : List ℕ) (e : ℕ) → e < EXTENTS → extent_in (header_of header) e ≡ extent_at header e
unfolding header_of
extent_read header e few = get_or-map-range_with_len (extent_at header) 0 8 e e no_extent few (omega arith)

pub slots_many : (header : List ℕ) → length (header_of header).slots ≡ SLOTS
unfolding header_of
slots_many header = length-map-range_with_len (slot_at header) 0 SLOTS

pub extents_many : (header : List ℕ) → length (header_of header).extents ≡ EXTENTS
unfolding header_of
extents_many header = length-map-range_with_len (extent_at header) 0 8

pub ring_read : (header : List ℕ) → ((header_of header).head ≡ head_extent header) × ((header_of header).records ≡ head_records header) × ((header_of header).writes ≡ record_count header) × ((header_of header).lost ≡ lost_number header)
unfolding header_of
ring_read header = (refl, refl, refl, refl)

-- the slot that is chosen by the bytes is the one that is by the header
pub chosen_read : (header : List ℕ) (i : ℕ) → IsChosen (slot_at header) i → IsChosen (slot_in (header_of header)) i
chosen_read header i chosen = let at = slot_read header in record {
  within = chosen.within;
  idle = λ active. chosen.idle (ap (λ (s : TableSlot). s.state) (sym (at i chosen.within)) ∙ active);
  least = λ j few idle. let a = at i chosen.within in let b = at j few in let l = chosen.least j few (λ active. idle (ap (λ (s : TableSlot). s.state) b ∙ active)) in rw (a, b) l;
  first = λ j lower idle same. let a = at i chosen.within in let b = at j (omega (arith, lower, chosen.within)) in
      chosen.first j lower (λ active. idle (ap (λ (s : TableSlot). s.state) b ∙ active)) (ap (λ (s : TableSlot). s.newest) (sym b) ∙ same ∙ ap (λ (s : TableSlot). s.newest) a);
}
