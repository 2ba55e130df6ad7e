-- What the bytes of a segment's header say of its extents, and when their numbers make a ring.
use Rattle.std.specs.Prelude.{◌≡◌, ◌≢◌, ℕ, ◌+◌, ◌*◌, ◌^◌, ◌<◌, ◌≤◌, List, ◌++◌}
use Rattle.byteorder.specs.Endian.{big_bytes}
use Rattle.rb_base.specs.Fields.{number_at, overwritten, with_number}
use Rattle.rb_base.specs.Groups.{Patch, patch}
use Rattle.rb_ring.specs.declared.extents.Extent.{Extent}
use Rattle.rb_ring.specs.declared.extents.TheConstants.{EXTENTS, EXTENTS_AT, EXTENT_BYTES, NEWEST_AT, HEAD_AT}
use Rattle.rb_ring.specs.declared.extents.TheConstants.{RECORDS_AT, WRITES_AT, LOST_AT}

-- the first byte of extent e in a header
abbrev pub extent_place : ℕ → ℕ
extent_place e = EXTENTS_AT + EXTENT_BYTES * e

-- what a header's bytes say of extent e: its number, which is 0 outside of the ring, and its newest commit number
unfoldable pub extent_ord : List ℕ → ℕ → ℕ
extent_ord header e = number_at header (extent_place e) 8

unfoldable pub extent_newest : List ℕ → ℕ → ℕ
extent_newest header e = number_at header (extent_place e + NEWEST_AT) 8

abbrev pub extent_at : List ℕ → ℕ → Extent
extent_at header e = record { ord = extent_ord header e; newest = extent_newest header e }

-- which extent is the head, how many records it has, how many records were made, and the greatest commit number that
-- was lost
unfoldable pub head_extent : List ℕ → ℕ
head_extent header = number_at header HEAD_AT 2

unfoldable pub head_records : List ℕ → ℕ
head_records header = number_at header RECORDS_AT 2

unfoldable pub record_count : List ℕ → ℕ
record_count header = number_at header WRITES_AT 8

unfoldable pub lost_number : List ℕ → ℕ
lost_number header = number_at header LOST_AT 8

-- the bytes of an extent that have a meaning, the first 16 of its 32
abbrev pub extent_bytes : Extent → List ℕ
extent_bytes x = big_bytes 8 x.ord ++ big_bytes 8 x.newest

-- Each field is a number of its type.
pub record IsExtent (x : Extent) : Type 0 where
  pub ord : x.ord < 2 ^ 64
  pub newest : x.newest < 2 ^ 64

-- the patches that put an extent into a header, the head with how many records it has, how many records were made, and
-- what was lost; and the header with each
abbrev pub extent_patch : ℕ → ℕ → Extent → Patch
extent_patch block e x = patch block (extent_place e) (extent_bytes x)

abbrev pub with_extent : List ℕ → ℕ → Extent → List ℕ
with_extent header e x = overwritten header (extent_place e) (extent_bytes x)

abbrev pub head_bytes : ℕ → ℕ → List ℕ
head_bytes head records = big_bytes 2 head ++ big_bytes 2 records

abbrev pub head_patch : ℕ → ℕ → ℕ → Patch
head_patch block head records = patch block HEAD_AT (head_bytes head records)

abbrev pub with_head : List ℕ → ℕ → ℕ → List ℕ
with_head header head records = overwritten header HEAD_AT (head_bytes head records)

abbrev pub record_count_patch : ℕ → ℕ → Patch
record_count_patch block writes = patch block WRITES_AT (big_bytes 8 writes)

abbrev pub with_record_count : List ℕ → ℕ → List ℕ
with_record_count header writes = with_number header WRITES_AT 8 writes

abbrev pub lost_patch : ℕ → ℕ → Patch
lost_patch block lost = patch block LOST_AT (big_bytes 8 lost)

abbrev pub with_lost : List ℕ → ℕ → List ℕ
with_lost header lost = with_number header LOST_AT 8 lost

-- one of the k numbers up to the newest
pub record IsNear (k newest ord : ℕ) : Type 0 where
  pub up_to : ord ≤ newest
  pub near : newest + 1 ≤ ord + k

-- Extents 0 to k - 1 make the ring. Their numbers are the k up to the head's, each once and none 0.
pub record IsRing (ord : ℕ → ℕ) (head k : ℕ) : Type 0 where
  pub few : (2 ≤ k) × (k ≤ EXTENTS)
  pub head_within : head < k
  pub positive : (e : ℕ) → e < k → 1 ≤ ord e
  pub near : (e : ℕ) → e < k → IsNear k (ord head) (ord e)
  pub apart : (e : ℕ) → e < k → (lower : ℕ) → lower < e → ord lower ≢ ord e
  pub others : (e : ℕ) → k ≤ e → e < EXTENTS → ord e ≡ 0
