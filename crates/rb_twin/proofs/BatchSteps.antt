-- What one write of each step leaves of a file.
use Rattle.std.proofs.Common.{◌≡◌, ℕ, ◌+◌, ◌-◌, ◌*◌, ◌≤◌, List, length, take, drop, slice_index, sym, ◌∙◌, ap, subst, arith}
use Rattle.std.proofs.lemmas.List.{drop-drop, drop-take, take-take, length-take-le, length-drop}
use Rattle.rb_base.specs.Fields.{part, overwritten}
use Rattle.rb_base.proofs.Overwriting.{part_written}
use Rattle.rb_base.specs.declared.sizes.TheConstants.{UNIT}
use Rattle.rb_disk.specs.DiskModel.{Torn}
use Rattle.rb_disk.specs.Ranges.{SameBut, TornFrom}
use Rattle.rb_layout.specs.Regions.{file_length, twin_offset, block_offset}
use Rattle.rb_layout.specs.declared.layout.Layout.{Layout}
use Rattle.rb_twin.specs.Batches.{IsSpareZero, batch_in}
use Rattle.rb_twin.specs.Twins.{twin_area, twin_gate, SameBehindGate, StagedFrom, GateFrom}
use Rattle.rb_twin.specs.TwinLaws.{torn_behind_gate, torn_gate, batch_same}
use Rattle.rb_twin.proofs.Images.{counted}
use Rattle.rb_twin.proofs.Spares.{spare_same}
use Rattle.rb_twin.specs.declared.batch.TheConstants.{AREA}

-- a part of a part
pub part_inside : (xs : List ℕ) (a n k m : ℕ) → k + m ≤ n → part (part xs a n) k m ≡ part xs (a + k) m
part_inside xs a n k m le =
    let all = drop a xs in
    sym (drop-take k m (take n all)) ∙ ap (drop k) (take-take (k + m) n all le) ∙ drop-take k m all ∙ ap (take m) (drop-drop k a xs)

pub length-part : (xs : List ℕ) (a n : ℕ) → a + n ≤ length xs → length (part xs a n) ≡ n
length-part xs a n le = length-take-le n (drop a xs) (omega (arith, le, length-drop a xs))

-- an image among the bytes of an area
pub image_bytes : (area : List ℕ) (at place : ℕ) → at ≡ UNIT * (place + 1) → part area at (at + UNIT - at) ≡ part area (UNIT * (place + 1)) UNIT
image_bytes area at place is =
    let size : at + UNIT - at ≡ UNIT = omega arith in ap (part area at) size ∙ ap (λ (i : ℕ). part area i UNIT) is

-- The first step writes so many bytes of the area behind the gate.
module _ (l : Layout) (area : List ℕ) (whole_area : length area ≡ AREA) (few : length (batch_in area) ≤ 8) (bytes : List ℕ) (is : bytes ≡ part area 1 (UNIT * (slice_index area 1 + 1) - 1)) where
  abbrev count : ℕ
  count = UNIT * (slice_index area 1 + 1) - 1

  small : slice_index area 1 ≤ 8
  small = omega (arith, few, counted area)

  long : length bytes ≡ count
  long = ap length is ∙ length-part area 1 count (omega (arith, whole_area, small))

  pub staged_torn : (f g : List ℕ) (at : ℕ) → at ≡ twin_offset l 0 → length f ≡ file_length l → Torn (at + 1) (length bytes) f g
      → SameBut (twin_offset l 0) (block_offset l 0) f g × (twin_gate l g ≡ twin_gate l f)
  staged_torn f g at here whole torn =
      torn_behind_gate l f g (length bytes) whole (omega (arith, long, small)) (subst (λ (i : ℕ). Torn (i + 1) (length bytes) f g) here torn)

  pub staged_from : (image : List ℕ → Type 0) (at : ℕ) → at ≡ twin_offset l 0 → ((c : List ℕ) → image c → length c ≡ file_length l)
      → (c : List ℕ) → TornFrom (at + 1) (length bytes) image c → StagedFrom l image c
  staged_from image at here sized c from =
      let both = staged_torn from.0 c at here (sized from.0 from.1) from.2 in (from.0, from.1, both.0, both.1)

  staged_same : (f g : List ℕ) (at : ℕ) → at ≡ twin_offset l 0 → length f ≡ file_length l → g ≡ overwritten f (at + 1) bytes
      → part area 1 count ≡ part (twin_area l g) 1 count
  staged_same f g at here whole wrote =
      let there : part g (twin_offset l 0 + 1) count ≡ bytes =
      ap (λ (i : ℕ). part g (i + 1) count) (sym here)
      ∙ ap (λ (h : List ℕ). part h (at + 1) count) wrote
      ∙ part_written f (at + 1) bytes count (omega (arith, long, small, whole, here)) long in
      sym is ∙ sym there ∙ sym (part_inside g (twin_offset l 0) AREA 1 count (omega (arith, small)))

  pub staged_batch : (f g : List ℕ) (at : ℕ) → at ≡ twin_offset l 0 → length f ≡ file_length l → g ≡ overwritten f (at + 1) bytes
      → batch_in (twin_area l g) ≡ batch_in area
  staged_batch f g at here whole wrote = batch_same area (twin_area l g) count (staged_same f g at here whole wrote) few (omega (arith, counted area))

  pub staged_spare : (f g : List ℕ) (at : ℕ) → at ≡ twin_offset l 0 → length f ≡ file_length l → g ≡ overwritten f (at + 1) bytes
      → IsSpareZero area → IsSpareZero (twin_area l g)
  staged_spare f g at here whole wrote spare = spare_same area (twin_area l g) count (staged_same f g at here whole wrote) few (omega (arith, counted area)) spare

-- The gate is one byte.
pub gate_torn : (l : Layout) (f g : List ℕ) (at : ℕ) → at ≡ twin_offset l 0 → length f ≡ file_length l → Torn at 1 f g → SameBehindGate l f g
gate_torn l f g at here whole torn =
    let both = torn_gate l f g whole (subst (λ (i : ℕ). Torn i 1 f g) here torn) in record { others = both.0; area = both.1 }

pub gate_from : (l : Layout) (image : List ℕ → Type 0) (at : ℕ) → at ≡ twin_offset l 0 → ((c : List ℕ) → image c → length c ≡ file_length l)
    → (c : List ℕ) → TornFrom at 1 image c → GateFrom l image c
gate_from l image at here sized c from = (from.0, from.1, gate_torn l from.0 c at here (sized from.0 from.1) from.2)
