-- One image more, put behind those of a batch.
use Rattle.std.proofs.Common.{◌≡◌, ℕ, ◌+◌, ◌*◌, ◌^◌, ◌<◌, ◌≤◌, List, [], ◌∷◌, ◌++◌, length, take, drop, slice_index, slice_set, sym, ◌∙◌, ap, arith, inl, inr, append_assoc}
use Rattle.std.proofs.lemmas.List.{length-set, drop-set-lt, drop-drop, get_or-set_same}
use Rattle.rb_base.specs.declared.sizes.TheConstants.{UNIT}
use Rattle.rb_twin.specs.declared.batch.TheConstants.{AREA}
use borrow.Rule.Slice.PartMut.{put_mid}
use Rattle.byteorder.specs.Endian.{big_bytes}
use Rattle.byteorder.specs.Numbers.{length-bytes_high_first, big_number-reads_back}
use Rattle.rb_base.specs.Fields.{part, number_at, overwritten, with_number, AreApart}
use Rattle.rb_base.proofs.Fronts.{number_of_part, byte_of_part}
use Rattle.rb_base.proofs.Overwriting.{length-overwritten, part_written, part_apart}
use Rattle.rb_twin.specs.Batches.{Image, IsSpareZero, images_in, batch_in}
use Rattle.rb_twin.proofs.Images.{image_of, counted, images_kept, front_more}
use Rattle.rb_twin.proofs.Spares.{byte_same}

number_written : (old : List ℕ) (at value : ℕ) → with_number old at 4 value ≡ overwritten old at (big_bytes 4 value)
number_written old at value = ap (λ (n : ℕ). take at old ++ big_bytes 4 value ++ drop (at + n) old) (sym (length-bytes_high_first 4 value))

pub part_put : (old : List ℕ) (at count : ℕ) (bytes : List ℕ) → length bytes ≡ count → put_mid at count old bytes ≡ overwritten old at bytes
part_put old at count bytes long =
    ap (λ (rest : List ℕ). take at old ++ (bytes ++ rest)) (drop-drop count at old ∙ ap (λ (n : ℕ). drop (at + n) old) (sym long)) ∙ sym (append_assoc (take at old) bytes (drop (at + length bytes) old))

module _ (area : List ℕ) (n block : ℕ) (unit : List ℕ) (whole : length area ≡ AREA) (room : length (batch_in area) < 8) (is : n ≡ slice_index area 1) (fits : block < 256 ^ 4) (one : length unit ≡ UNIT) (first second new : List ℕ)
    (counted_up : first ≡ slice_set area 1 (n + 1)) (named : second ≡ with_number first (8 + 4 * n) 4 block) (put : new ≡ overwritten second (UNIT * (n + 1)) unit) where
  few : n < 8
  few = omega (arith, room, is, counted area)

  name_long : length (big_bytes 4 block) ≡ 4
  name_long = length-bytes_high_first 4 block

  first_long : length first ≡ AREA
  first_long = ap length counted_up ∙ length-set area 1 (n + 1) ∙ whole

  second_is : second ≡ overwritten first (8 + 4 * n) (big_bytes 4 block)
  second_is = named ∙ number_written first (8 + 4 * n) block

  second_long : length second ≡ AREA
  second_long = ap length second_is ∙ length-overwritten first (8 + 4 * n) (big_bytes 4 block) (omega (arith, name_long, first_long, few)) ∙ first_long

  -- what stays of a part
  by_put : (k m : ℕ) → AreApart k m (UNIT * (n + 1)) UNIT → part new k m ≡ part second k m
  by_put k m apart = ap (λ (h : List ℕ). part h k m) put ∙ part_apart second (UNIT * (n + 1)) unit k m UNIT (omega (arith, second_long, one, few)) one apart

  by_name : (k m : ℕ) → AreApart k m (8 + 4 * n) 4 → part second k m ≡ part first k m
  by_name k m apart = ap (λ (h : List ℕ). part h k m) second_is ∙ part_apart first (8 + 4 * n) (big_bytes 4 block) k m 4 (omega (arith, first_long, name_long, few)) name_long apart

  by_count : (k m : ℕ) → 2 ≤ k → part first k m ≡ part area k m
  by_count k m low = ap (λ (h : List ℕ). part h k m) counted_up ∙ ap (take m) (drop-set-lt k area 1 (n + 1) (omega (arith, low)))

  count_now : slice_index new 1 ≡ n + 1
  count_now =
      sym (byte_of_part new 1 1 (omega arith)) ∙ ap (λ (h : List ℕ). slice_index h 0) (by_put 1 1 (inl (omega arith)) ∙ by_name 1 1 (inl (omega arith))) ∙ byte_of_part first 1 1 (omega arith) ∙ ap (λ (h : List ℕ). slice_index h 1) counted_up
      ∙ get_or-set_same area 1 (n + 1) 0 (omega (arith, whole))

  image_kept : (k : ℕ) → k < n → image_of new k ≡ image_of area k
  image_kept k lt =
      let at = 8 + 4 * k in
      let name : number_at new at 4 ≡ number_at area at 4 =
      sym (number_of_part new at 4) ∙ ap (λ (h : List ℕ). number_at h 0 4) (by_put at 4 (inl (omega (arith, lt, few))) ∙ by_name at 4 (inl (omega (arith, lt))) ∙ by_count at 4 (omega arith)) ∙ number_of_part area at 4 in
      let bytes : part new (UNIT * (k + 1)) UNIT ≡ part area (UNIT * (k + 1)) UNIT =
      by_put (UNIT * (k + 1)) UNIT (inl (omega (arith, lt))) ∙ by_name (UNIT * (k + 1)) UNIT (inr (omega (arith, few))) ∙ by_count (UNIT * (k + 1)) UNIT (omega arith) in
      ap (λ (x : ℕ). record { no = x; unit = part new (UNIT * (k + 1)) UNIT }) name ∙ ap (λ (x : List ℕ). record { no = number_at area at 4; unit = x }) bytes

  image_new : image_of new n ≡ record { no = block; unit = unit }
  image_new =
      let at = 8 + 4 * n in
      let spelled : part new at 4 ≡ big_bytes 4 block = by_put at 4 (inl (omega (arith, few))) ∙ ap (λ (h : List ℕ). part h at 4) second_is ∙ part_written first at (big_bytes 4 block) 4 (omega (arith, first_long, name_long, few)) name_long in
      let name : number_at new at 4 ≡ block = sym (number_of_part new at 4) ∙ ap (λ (h : List ℕ). number_at h 0 4) spelled ∙ big_number-reads_back 4 block [] fits in
      let bytes : part new (UNIT * (n + 1)) UNIT ≡ unit = ap (λ (h : List ℕ). part h (UNIT * (n + 1)) UNIT) put ∙ part_written second (UNIT * (n + 1)) unit UNIT (omega (arith, second_long, one, few)) one in
      ap (λ (x : ℕ). record { no = x; unit = part new (UNIT * (n + 1)) UNIT }) name ∙ ap (λ (x : List ℕ). record { no = block; unit = x }) bytes

  pub image_put : batch_in new ≡ batch_in area ++ record { no = block; unit = unit } ∷ []
  image_put =
      let old : images_in new 0 n ≡ batch_in area = images_kept area new 0 n (λ k lt. ap (image_of new) (omega arith) ∙ image_kept k lt ∙ ap (image_of area) (omega arith)) ∙ ap (images_in area 0) is in
      ap (images_in new 0) count_now ∙ front_more new n ∙ ap (λ (xs : List Image). xs ++ image_of new n ∷ []) old ∙ ap (λ (x : Image). batch_in area ++ x ∷ []) image_new

  -- the other bytes of the header stay
  byte_kept : (k : ℕ) → 2 ≤ k → k < UNIT → AreApart k 1 (8 + 4 * n) 4 → slice_index new k ≡ slice_index area k
  byte_kept k low lt apart = byte_same area new k (by_put k 1 (inl (omega (arith, lt))) ∙ by_name k 1 apart ∙ by_count k 1 low)

  pub spare_put : IsSpareZero area → IsSpareZero new
  spare_put spare = record {
    front = λ k low lt. byte_kept k low (omega (arith, lt)) (inl (omega (arith, lt))) ∙ spare.front k low lt;
    behind = λ k low lt. byte_kept k (omega (arith, low)) lt (inr (omega (arith, low, counted new, count_now)))
        ∙ spare.behind k (omega (arith, low, counted new, count_now, counted area, is)) lt;
  }
