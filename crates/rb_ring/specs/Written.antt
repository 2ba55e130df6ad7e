-- What a write into a header leaves of it.
use Rattle.std.specs.Prelude.{◌≡◌, ℕ, ◌^◌, ◌<◌, ◌==◌, if◌then◌else◌}
use Rattle.std.specs.Prelude.{List, length, slice_index}
use Rattle.rb_base.specs.Fields.{part, number_at, AreApart}
use Rattle.rb_base.specs.declared.sizes.TheConstants.{UNIT}
use Rattle.rb_ring.specs.Ring.{extent_place, extent_at, head_extent, head_records, record_count, lost_number}
use Rattle.rb_ring.specs.Ring.{IsExtent, with_extent, with_head, with_record_count, with_lost}
use Rattle.rb_ring.specs.declared.extents.Extent.{Extent}
use Rattle.rb_ring.specs.declared.extents.TheConstants.{EXTENTS, HEAD_AT, WRITES_AT, LOST_AT}

-- A header's bytes say these of its extents, which is the head and how many records it has, how many were made, and the
-- greatest commit number that was lost.
pub record RingReads (header : List ℕ) (extent : ℕ → Extent) (h k n c : ℕ) : Type 0 where
  pub extents : (e : ℕ) → e < EXTENTS → extent_at header e ≡ extent e
  pub head : head_extent header ≡ h
  pub records : head_records header ≡ k
  pub writes : record_count header ≡ n
  pub lost : lost_number header ≡ c

-- the same extents, but extent e is x
abbrev pub extents_with : (ℕ → Extent) → ℕ → Extent → ℕ → Extent
extents_with extent e x f = if f == e then x else extent f

-- Each write is read as what was written, and all else that a header says of its ring is read as before.
abbrev pub ExtentWritten : Type 0
ExtentWritten = (header : List ℕ) (e : ℕ) (x : Extent) → length header ≡ UNIT → e < EXTENTS → IsExtent x
    → RingReads (with_extent header e x) (extents_with (extent_at header) e x) (head_extent header)
    (head_records header) (record_count header) (lost_number header)

abbrev pub HeadWritten : Type 0
HeadWritten = (header : List ℕ) (h k : ℕ) → length header ≡ UNIT → h < 2 ^ 16 → k < 2 ^ 16
    → RingReads (with_head header h k) (extent_at header) h k (record_count header) (lost_number header)

abbrev pub RecordCountWritten : Type 0
RecordCountWritten = (header : List ℕ) (n : ℕ) → length header ≡ UNIT → n < 2 ^ 64
    → RingReads (with_record_count header n) (extent_at header) (head_extent header)
    (head_records header) n (lost_number header)

abbrev pub LostWritten : Type 0
LostWritten = (header : List ℕ) (c : ℕ) → length header ≡ UNIT → c < 2 ^ 64
    → RingReads (with_lost header c) (extent_at header) (head_extent header) (head_records header)
    (record_count header) c

-- A header still has 2,048 bytes, and those outside of the `count` from `at` on are as they were: each part of them,
-- each number and each byte.
pub record ChangesOnly (at count : ℕ) (old new : List ℕ) : Type 0 where
  pub long : length new ≡ UNIT
  pub parts : (from size : ℕ) → AreApart from size at count → part new from size ≡ part old from size
  pub numbers : (from size : ℕ) → AreApart from size at count
      → number_at new from size ≡ number_at old from size
  pub bytes : (from : ℕ) → AreApart from 1 at count → slice_index new from ≡ slice_index old from

-- Each write changes its own bytes only.
abbrev pub ExtentApart : Type 0
ExtentApart = (header : List ℕ) (e : ℕ) (x : Extent) → length header ≡ UNIT → e < EXTENTS
    → ChangesOnly (extent_place e) 16 header (with_extent header e x)

abbrev pub HeadApart : Type 0
HeadApart = (header : List ℕ) (h k : ℕ) → length header ≡ UNIT
    → ChangesOnly HEAD_AT 4 header (with_head header h k)

abbrev pub RecordCountApart : Type 0
RecordCountApart = (header : List ℕ) (n : ℕ) → length header ≡ UNIT
    → ChangesOnly WRITES_AT 8 header (with_record_count header n)

abbrev pub LostApart : Type 0
LostApart = (header : List ℕ) (c : ℕ) → length header ≡ UNIT
    → ChangesOnly LOST_AT 8 header (with_lost header c)
