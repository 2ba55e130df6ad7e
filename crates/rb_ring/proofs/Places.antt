-- What was written into a header's bytes, and what that leaves of them.
use Rattle.std.proofs.Common.{◌≡◌, ◌≢◌, ℕ, ◌+◌, ◌<◌, ◌≤◌, List, ◌++◌, length, drop, take, refl, arith, ap, sym, ◌∙◌, append_assoc, inl, inr, slice_index}
use Rattle.std.proofs.lemmas.Bool.{cases_lt}
use Rattle.std.proofs.lemmas.Bool.Decides.{eqb_tells}
use Rattle.std.proofs.lemmas.List.{drop_at, drop-drop, length-take-le}
use Rattle.rb_base.specs.declared.sizes.TheConstants.{UNIT}
use Rattle.rb_ring.specs.declared.extents.TheConstants.{EXTENTS, HEAD_AT, LOST_AT, RECORDS_AT, WRITES_AT}
use Rattle.byteorder.specs.Endian.{big_bytes, big_number}
use Rattle.byteorder.specs.Numbers.{big_number-reads_back}
use Rattle.rb_base.proofs.Apart.{number_apart, byte_apart}
use Rattle.rb_base.proofs.Overwriting.{length-overwritten, part_apart}
use Rattle.rb_base.specs.Fields.{part, number_at, overwritten, AreApart}
use Rattle.rb_ring.specs.Ring.{extent_place, extent_at, extent_ord, extent_newest, head_extent, head_records, record_count, lost_number, IsExtent}
use Rattle.rb_ring.specs.Ring.{extent_bytes, head_bytes, with_extent, with_head, with_record_count, with_lost}
use Rattle.rb_ring.specs.declared.extents.Extent.{Extent}
use Rattle.rb_ring.specs.Written.{ExtentWritten, HeadWritten, RecordCountWritten, LostWritten}
use Rattle.rb_ring.specs.Written.{ChangesOnly, ExtentApart, HeadApart, RecordCountApart, LostApart}

only : (old : List ℕ) (at count : ℕ) (bytes : List ℕ) → length old ≡ UNIT → at + count ≤ UNIT → length bytes ≡ count → ChangesOnly at count old (overwritten old at bytes)
only old at count bytes long within size_is =
    let inside : at + length bytes ≤ length old = omega (arith, long, within, size_is) in
    record {
      long = length-overwritten old at bytes inside ∙ long;
      parts = λ from size apart. part_apart old at bytes from size count inside size_is apart;
      numbers = number_apart old at bytes count inside size_is;
      bytes = byte_apart old at bytes count inside size_is;
    }

pub extent_only : ExtentApart
extent_only header e x long lt = only header (extent_place e) 16 (extent_bytes x) long (omega arith) refl

pub head_only : HeadApart
head_only header h k long = only header HEAD_AT 4 (head_bytes h k) long (omega arith) refl

pub record_count_only : RecordCountApart
record_count_only header n long = only header WRITES_AT 8 (big_bytes 8 n) long (omega arith) refl

pub lost_only : LostApart
lost_only header c long = only header LOST_AT 8 (big_bytes 8 c) long (omega arith) refl

-- a number at a place of what was written
drop_written : (old : List ℕ) (at : ℕ) (bytes : List ℕ) → at + length bytes ≤ length old → drop at (overwritten old at bytes) ≡ bytes ++ drop (at + length bytes) old
drop_written old at bytes within =
    let rest = drop (at + length bytes) old in
    ap (drop at) (append_assoc (take at old) bytes rest) ∙ drop_at (take at old) (bytes ++ rest) at (length-take-le at old (omega arith))

number_in : (old : List ℕ) (at k from size : ℕ) (bytes : List ℕ) → at + length bytes ≤ length old → from ≡ at + k → number_at (overwritten old at bytes) from size ≡ number_at (bytes ++ drop (at + length bytes) old) k size
number_in old at k from size bytes within is =
    ap (λ (n : ℕ). number_at (overwritten old at bytes) n size) is
    ∙ ap (big_number size) (sym (drop-drop k at (overwritten old at bytes)) ∙ ap (drop k) (drop_written old at bytes within))

extent_same : (a b : Extent) → a.ord ≡ b.ord → a.newest ≡ b.newest → a ≡ b
extent_same a b ord newest = let one : a ≡ record { ord = b.ord; newest = a.newest } = ap (λ (o : ℕ). record { ord = o; newest = a.newest }) ord in one ∙ ap (λ (n : ℕ). record { ord = b.ord; newest = n }) newest

-- what changes outside of the extents leaves them
extents_kept : (header new : List ℕ) (at count : ℕ) → HEAD_AT ≤ at → ChangesOnly at count header new → (e : ℕ) → e < EXTENTS → extent_at new e ≡ extent_at header e
unfolding extent_ord extent_newest
extents_kept header new at count behind changes e lt =
    extent_same (extent_at new e) (extent_at header e) (changes.numbers (extent_place e) 8 (inl (omega arith))) (changes.numbers (extent_place e + 8) 8 (inl (omega arith)))

extent_own : (header : List ℕ) (e : ℕ) (x : Extent) → length header ≡ UNIT → e < EXTENTS → IsExtent x → extent_at (with_extent header e x) e ≡ x
unfolding extent_ord extent_newest
extent_own header e x long lt fits =
    let at = extent_place e in
    let bytes = extent_bytes x in
    let rest = drop (at + 16) header in
    let inside : at + 16 ≤ length header = omega (arith, long) in
    extent_same (extent_at (with_extent header e x) e) x
    (number_in header at 0 at 8 bytes inside (omega arith) ∙ big_number-reads_back 8 x.ord (big_bytes 8 x.newest ++ rest) fits.ord)
    (number_in header at 8 (at + 8) 8 bytes inside refl ∙ big_number-reads_back 8 x.newest rest fits.newest)

extent_other : (header : List ℕ) (e f : ℕ) (x : Extent) → length header ≡ UNIT → e < EXTENTS → f < EXTENTS → f ≢ e → extent_at (with_extent header e x) f ≡ extent_at header f
unfolding extent_ord extent_newest
extent_other header e f x long lt f_lt other =
    let changes = extent_only header e x long lt in
    let ord : AreApart (extent_place f) 8 (extent_place e) 16 = elim (cases_lt f e) [ inl less ↦ inl (omega arith) | inr le ↦ inr (omega arith) ] in
    let newest : AreApart (extent_place f + 8) 8 (extent_place e) 16 = elim (cases_lt f e) [ inl less ↦ inl (omega arith) | inr le ↦ inr (omega arith) ] in
    extent_same (extent_at (with_extent header e x) f) (extent_at header f) (changes.numbers (extent_place f) 8 ord) (changes.numbers (extent_place f + 8) 8 newest)

pub extent_written : ExtentWritten
unfolding head_extent head_records record_count lost_number
extent_written header e x long lt fits =
    let changes = extent_only header e x long lt in
    record {
      extents = λ f f_lt. elim (eqb_tells f e) [
        | inl (test, same) ↦ rw test (ap (extent_at (with_extent header e x)) same ∙ extent_own header e x long lt fits)
        | inr (test, other) ↦ rw test (extent_other header e f x long lt f_lt other)
      ];
      head = changes.numbers HEAD_AT 2 (inr (omega arith));
      records = changes.numbers RECORDS_AT 2 (inr (omega arith));
      writes = changes.numbers WRITES_AT 8 (inr (omega arith));
      lost = changes.numbers LOST_AT 8 (inr (omega arith));
    }

pub head_written : HeadWritten
unfolding head_extent head_records record_count lost_number
head_written header h k long h_fits k_fits =
    let changes = head_only header h k long in
    let rest = drop (HEAD_AT + 4) header in
    let inside : (HEAD_AT + 4) ≤ length header = omega (arith, long) in
    record {
      extents = extents_kept header (with_head header h k) HEAD_AT 4 (omega arith) changes;
      head = number_in header HEAD_AT 0 HEAD_AT 2 (head_bytes h k) inside refl ∙ big_number-reads_back 2 h (big_bytes 2 k ++ rest) h_fits;
      records = number_in header HEAD_AT 2 RECORDS_AT 2 (head_bytes h k) inside refl ∙ big_number-reads_back 2 k rest k_fits;
      writes = changes.numbers WRITES_AT 8 (inr (omega arith));
      lost = changes.numbers LOST_AT 8 (inr (omega arith));
    }

pub record_count_written : RecordCountWritten
unfolding head_extent head_records record_count lost_number
record_count_written header n long fits =
    let changes = record_count_only header n long in
    let inside : LOST_AT ≤ length header = omega (arith, long) in
    record {
      extents = extents_kept header (with_record_count header n) WRITES_AT 8 (omega arith) changes;
      head = changes.numbers HEAD_AT 2 (inl (omega arith));
      records = changes.numbers RECORDS_AT 2 (inl (omega arith));
      writes = number_in header WRITES_AT 0 WRITES_AT 8 (big_bytes 8 n) inside refl ∙ big_number-reads_back 8 n (drop LOST_AT header) fits;
      lost = changes.numbers LOST_AT 8 (inr (omega arith));
    }

pub lost_written : LostWritten
unfolding head_extent head_records record_count lost_number
lost_written header c long fits =
    let changes = lost_only header c long in
    let inside : (LOST_AT + 8) ≤ length header = omega (arith, long) in
    record {
      extents = extents_kept header (with_lost header c) LOST_AT 8 (omega arith) changes;
      head = changes.numbers HEAD_AT 2 (inl (omega arith));
      records = changes.numbers RECORDS_AT 2 (inl (omega arith));
      writes = changes.numbers WRITES_AT 8 (inl (omega arith));
      lost = number_in header LOST_AT 0 LOST_AT 8 (big_bytes 8 c) inside refl ∙ big_number-reads_back 8 c (drop (LOST_AT + 8) header) fits;
    }
