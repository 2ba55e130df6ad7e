-- What the writes of a move leave of the head, and that files with the same copies and chooser have the same head.
use Rattle.std.specs.Prelude.{◌≡◌, ◌⊎◌, ◌+◌, ◌-◌, ◌*◌, ◌%◌, ◌^◌, ◌<◌, ◌≤◌}
use Rattle.std.specs.Prelude.{ℕ, List, [], ◌∷◌, ◌++◌, length, take, drop, replicate, slice_index}
use Rattle.std.proofs.Common.{inl, inr, ⊎_elim, refl, sym, ◌∙◌, ap, subst, arith}
use Rattle.std.proofs.lemmas.Bool.{cases_eq}
use Rattle.std.proofs.lemmas.List.{drop-drop, drop-take, take-take, get_or-take, get_or-drop, length-replicate}
use Rattle.byteorder.specs.Endian.{big_bytes}
use Rattle.byteorder.specs.Numbers.{big_number-reads_back}
use Rattle.rb_base.specs.Fields.{part, number_at, overwritten}
use Rattle.rb_base.specs.declared.sizes.TheConstants.{UNIT}
use Rattle.rb_base.proofs.Fronts.{number_of_part, byte_of_part}
use Rattle.rb_base.proofs.Overwriting.{length-overwritten, part_written}
use Rattle.rb_disk.specs.DiskModel.{Torn}
use Rattle.rb_disk.specs.Ranges.{SameBut, SamePart}
use Rattle.rb_disk.specs.Writes.{torn_stays, done_is_torn}
use Rattle.rb_layout.specs.Regions.{log_offset}
use Rattle.rb_layout.specs.declared.layout.Head.{Head}
use Rattle.rb_control.specs.Heads.{copy_at, copy_offset, copy_unit, chosen, chooser_offset, other_copy, head_of}
use Rattle.rb_control.specs.Heads.{moved, Advanced}

-- heads of the same slot and number
abbrev pub head_by : ℕ → ℕ → Head
head_by slot number = record { slot = slot; number = number }

same_fields : (slot other_slot number other_number : ℕ) → slot ≡ other_slot → number ≡ other_number
    → head_by slot number ≡ head_by other_slot other_number
same_fields slot other_slot number other_number one two =
    ap (λ (n : ℕ). head_by n number) one ∙ ap (head_by other_slot) two

-- a number that a torn write doesn't reach
number_stays : (f g : List ℕ) (at count from n : ℕ) → Torn at count f g
    → (from + n ≤ at) ⊎ (at + count ≤ from) → number_at g from n ≡ number_at f from n
number_stays f g at count from n torn away =
    sym (number_of_part g from n) ∙ ap (λ (b : List ℕ). number_at b 0 n) (parts away) ∙ number_of_part f from n
  where
    front : (h : List ℕ) → from + n ≤ at → part (take at h) from n ≡ part h from n
    front h le = sym (drop-take from n (take at h)) ∙ ap (drop from) (take-take (from + n) at h le)
        ∙ drop-take from n h

    back : (h : List ℕ) → at + count ≤ from
        → take n (drop (from - (at + count)) (drop (at + count) h)) ≡ part h from n
    back h le = ap (take n)
        (drop-drop (from - (at + count)) (at + count) h ∙ ap (λ (i : ℕ). drop i h) (omega (arith, le)))

    parts : (from + n ≤ at) ⊎ (at + count ≤ from) → part g from n ≡ part f from n
    parts (inl le) = sym (front g le) ∙ ap (λ (h : List ℕ). part h from n) torn.before ∙ front f le
    parts (inr le) = sym (back g le) ∙ ap (λ (h : List ℕ). take n (drop (from - (at + count)) h)) torn.behind
        ∙ back f le

-- a copy that a torn write doesn't reach
copy_stays : (f g : List ℕ) (at count copy : ℕ) → Torn at count f g
    → (copy_offset copy + UNIT ≤ at) ⊎ (at + count ≤ copy_offset copy) → copy_at g copy ≡ copy_at f copy
copy_stays f g at count copy torn away = same_fields _ _ _ _
    (number_stays f g at count (2048 * (1 + copy)) 4 torn
    (⊎_elim (λ le. inl (omega (arith, le))) (λ le. inr (omega (arith, le))) away))
    (number_stays f g at count (2048 * (1 + copy) + 8) 8 torn
    (⊎_elim (λ le. inl (omega (arith, le))) (λ le. inr (omega (arith, le))) away))

-- A torn write of the copy that isn't chosen leaves the chooser and the head.
pub chosen_stays : (f g : List ℕ) (other : ℕ) → other < 2 → Torn (copy_offset other) UNIT f g
    → chosen g ≡ chosen f
chosen_stays f g other lt torn =
    ap (λ (b : ℕ). b % 2) (torn_stays 6144 (2048 * (1 + other)) 2048 f g (inr (omega (arith, lt))) torn)

pub other_torn : (f g : List ℕ) (other : ℕ) → other ≡ other_copy f → Torn (copy_offset other) UNIT f g
    → head_of g ≡ head_of f
other_torn f g other is torn =
    ap (copy_at g) (chosen_stays f g other (omega (arith, is)) torn)
    ∙ copy_stays f g (2048 * (1 + other)) 2048 (chosen f) torn (apart (chosen f) (omega arith) is)
  where
    apart : (copy : ℕ) → copy < 2 → other ≡ 1 - copy
        → (2048 * (1 + copy) + 2048 ≤ 2048 * (1 + other)) ⊎ (2048 * (1 + other) + 2048 ≤ 2048 * (1 + copy))
    apart copy lt e = elim (cases_eq copy 0) [
      | inl zero ↦ inl (omega (arith, zero, e))
      | inr one ↦ inr (omega (arith, one, e, lt))
    ]

-- A torn chooser chooses one of the two copies, which both stay.
pub chooser_torn : (f g : List ℕ) → Torn chooser_offset 1 f g
    → (head_of g ≡ head_of f) ⊎ (head_of g ≡ copy_at f (other_copy f))
chooser_torn f g torn = elim (cases_eq (chosen g) (chosen f)) [
  | inl same ↦ inl (ap (copy_at g) same ∙ stays (chosen f) (omega arith))
  | inr differ ↦ inr (ap (copy_at g) (omega (arith, differ)) ∙ stays (other_copy f) (omega arith))
]
  where
    stays : (copy : ℕ) → copy < 2 → copy_at g copy ≡ copy_at f copy
    stays copy lt = copy_stays f g 6144 1 copy torn (inl (omega (arith, lt)))

-- a number within a part, and a byte
number_inside : (f : List ℕ) (at m k n : ℕ) → k + n ≤ m
    → number_at f (at + k) n ≡ number_at (part f at m) k n
number_inside f at m k n le =
    let all = drop at f in
    sym (number_of_part f (at + k) n)
    ∙ ap (λ (b : List ℕ). number_at b 0 n)
    (ap (take n) (sym (drop-drop k at f)) ∙ sym (drop-take k n all) ∙ ap (drop k) (sym (take-take (k + n) m all le))
    ∙ drop-take k n (take m all))
    ∙ number_of_part (part f at m) k n

byte_inside : (f : List ℕ) (at m k : ℕ) → k < m → slice_index f (at + k) ≡ slice_index (part f at m) k
byte_inside f at m k lt = sym (get_or-take m (drop at f) k 0 lt ∙ get_or-drop at f k 0)

-- A copy that was written says its head.
pub length-copy : (head : Head) → length (copy_unit head) ≡ UNIT
length-copy head =
    let zeros : List ℕ = replicate 2032 0 in omega (arith, length-replicate {A = ℕ} 2032 0)

copy_written : (f : List ℕ) (copy : ℕ) (head : Head) → copy_offset copy + UNIT ≤ length f
    → head.slot < 256 ^ 4 → head.number < 256 ^ 8
    → copy_at (overwritten f (copy_offset copy) (copy_unit head)) copy ≡ head
copy_written f copy head fits slot number =
    let at = 2048 * (1 + copy) in
    let long = length-copy head in
    let new = overwritten f at (copy_unit head) in
    let there : part new at 2048 ≡ copy_unit head =
    part_written f at (copy_unit head) 2048 (omega (arith, fits, long)) long in
    let one : number_at new at 4 ≡ head.slot =
    ap (λ (i : ℕ). number_at new i 4) (omega arith) ∙ number_inside new at 2048 0 4 (omega arith)
    ∙ ap (λ (b : List ℕ). number_at b 0 4) there
    ∙ big_number-reads_back 4 head.slot
    ((0 ∷ 0 ∷ 0 ∷ 0 ∷ big_bytes 8 head.number) ++ replicate 2032 0) slot in
    let two : number_at new (at + 8) 8 ≡ head.number =
    number_inside new at 2048 8 8 (omega arith) ∙ ap (λ (b : List ℕ). number_at b 8 8) there
    ∙ big_number-reads_back 8 head.number (replicate 2032 0) number in
    same_fields _ _ _ _ one two

-- After both writes the head is the new one.
pub moved_head : (f : List ℕ) (head : Head) → log_offset 0 ≤ length f → head.slot < 256 ^ 4
    → head.number < 256 ^ 8 → head_of (moved f head) ≡ head
moved_head f head fits slot number = written (other_copy f) (omega arith)
  where
    written : (other : ℕ) → other < 2 → head_of
        (overwritten (overwritten f (copy_offset other) (copy_unit head)) chooser_offset (other ∷ [])) ≡ head
    written other lt =
        let unit = length-copy head in
        let at = 2048 * (1 + other) in
        let mid = overwritten f at (copy_unit head) in
        let new = overwritten mid 6144 (other ∷ []) in
        let long : length mid ≡ length f =
        length-overwritten f at (copy_unit head) (omega (arith, fits, unit, lt)) in
        let room : 6144 + 1 ≤ length mid = omega (arith, fits, long) in
        let torn : Torn 6144 1 mid new = done_is_torn 6144 mid (other ∷ []) (omega (arith, room)) in
        let byte : slice_index new 6144 ≡ other =
        sym (byte_of_part new 6144 1 (omega arith))
        ∙ ap (λ (h : List ℕ). slice_index h 0) (part_written mid 6144 (other ∷ []) 1 room refl) in
        ap (copy_at new) (omega (arith, byte, lt)) ∙ copy_stays mid new 6144 1 other torn (inl (omega (arith, lt)))
        ∙ copy_written f other head (omega (arith, fits, lt)) slot number

-- Files with the same bytes in the copies and the chooser choose the same copy, and have the same head.
pub same_copies : (f g : List ℕ) → SamePart UNIT (log_offset 0) f g → (copy : ℕ) → copy < 2
    → copy_at g copy ≡ copy_at f copy
same_copies f g same copy lt =
    same_fields _ _ _ _ (number (2048 * (1 + copy)) 4 (omega arith) (omega (arith, lt)))
    (number (2048 * (1 + copy) + 8) 8 (omega arith) (omega (arith, lt)))
  where
    number : (from n : ℕ) → 2048 ≤ from → from + n ≤ 8192 → number_at g from n ≡ number_at f from n
    number from n low high =
        let place : 2048 + (from - 2048) ≡ from = omega (arith, low) in
        let inside = λ (h : List ℕ). ap (λ (i : ℕ). number_at h i n) (sym place)
        ∙ number_inside h 2048 6144 (from - 2048) n (omega (arith, low, high)) in
        inside g ∙ ap (λ (h : List ℕ). number_at h (from - 2048) n) same.same ∙ sym (inside f)

pub same_chosen : (f g : List ℕ) → SamePart UNIT (log_offset 0) f g → chosen g ≡ chosen f
same_chosen f g same = ap (λ (b : ℕ). b % 2)
    (byte_inside g 2048 6144 4096 (omega arith) ∙ ap (λ (h : List ℕ). slice_index h 4096) same.same
    ∙ sym (byte_inside f 2048 6144 4096 (omega arith)))

pub same_head : (f g : List ℕ) → SamePart UNIT (log_offset 0) f g → head_of g ≡ head_of f
same_head f g same = same_copies f g same (chosen g) (omega arith) ∙ ap (copy_at f) (same_chosen f g same)

-- A torn write within the copies and the chooser leaves all else.
pub control_torn : (f g : List ℕ) (at count : ℕ) → UNIT ≤ at → at + count ≤ log_offset 0
    → log_offset 0 ≤ length f → Torn at count f g → SameBut UNIT (log_offset 0) f g
control_torn f g at count low high fits torn = record {
  long = omega (arith, torn.no_shorter, torn.no_longer, high, fits);
  before = sym (take-take 2048 at g low) ∙ ap (take 2048) torn.before ∙ take-take 2048 at f low;
  behind =
      let more = 8192 - (at + count) in
      let place : at + count + more ≡ 8192 = omega (arith, high) in
      let back = λ (h : List ℕ). drop-drop more (at + count) h ∙ ap (λ (i : ℕ). drop i h) place in
      sym (back g) ∙ ap (drop more) torn.behind ∙ back f;
}

pub both_outside : (f m g : List ℕ) → SameBut UNIT (log_offset 0) f m → SameBut UNIT (log_offset 0) m g
    → SameBut UNIT (log_offset 0) f g
both_outside f m g one two = record {
  long = two.long ∙ one.long;
  before = two.before ∙ one.before;
  behind = two.behind ∙ one.behind;
}

-- An image of before; one of the first write; and one of the second, where the first is done.
pub still : (image : List ℕ → Type 0) (f : List ℕ) (new : Head) (c : List ℕ) → image c
    → SamePart UNIT (log_offset 0) f c → Advanced image (head_of f) new c
still image f new c here same = record {
  outside = (c, here, record { long = refl; before = refl; behind = refl });
  head = inl (same_head f c same);
}

pub first_move : (image : List ℕ → Type 0) (f d c : List ℕ) (new : Head) (other : ℕ) → image d
    → SamePart UNIT (log_offset 0) f d → log_offset 0 ≤ length f → other ≡ other_copy f
    → Torn (copy_offset other) UNIT d c → Advanced image (head_of f) new c
first_move image f d c new other here same fits is torn = record {
  outside = (
    d,
    here,
    control_torn d c (2048 * (1 + other)) 2048 (omega arith) (omega (arith, is)) (omega (arith, fits, same.long)) torn,
  );
  head = inl (other_torn d c other (is ∙ ap (λ (k : ℕ). 1 - k) (sym (same_chosen f d same))) torn
      ∙ same_head f d same);
}

pub second_move : (image : List ℕ → Type 0) (f m c : List ℕ) (new : Head) (other : ℕ) → image f
    → log_offset 0 ≤ length f → other ≡ other_copy f → new.slot < 256 ^ 4 → new.number < 256 ^ 8
    → m ≡ overwritten f (copy_offset other) (copy_unit new) → Torn chooser_offset 1 m c
    → Advanced image (head_of f) new c
second_move image f m c new other here fits is slot number wrote torn =
    let at = 2048 * (1 + other) in
    let done : Torn at (length (copy_unit new)) f m =
    subst (λ (h : List ℕ). Torn at (length (copy_unit new)) f h) (sym wrote)
    (done_is_torn at f (copy_unit new) (omega (arith, fits, is))) in
    let first : Torn at 2048 f m = subst (λ (k : ℕ). Torn at k f m) (length-copy new) done in
    let one = control_torn f m at 2048 (omega arith) (omega (arith, is)) fits first in
    let two = control_torn m c 6144 1 (omega arith) (omega arith) (omega (arith, fits, one.long)) torn in
    let other_now : other_copy m ≡ other =
    ap (λ (k : ℕ). 1 - k) (chosen_stays f m other (omega (arith, is)) first) ∙ sym is in
    let written : copy_at m other ≡ new =
    ap (λ (h : List ℕ). copy_at h other) wrote ∙ copy_written f other new (omega (arith, fits, is)) slot number in
    record {
      outside = (f, here, both_outside f m c one two);
      head = ⊎_elim (λ old. inl (old ∙ other_torn f m other is first))
          (λ now. inr (now ∙ ap (copy_at m) other_now ∙ written)) (chooser_torn m c torn);
    }

-- what is read of a copy
pub copy_read : (f bytes : List ℕ) (copy slot number : ℕ) → bytes ≡ part f (copy_offset copy) 16
    → slot ≡ number_at bytes 0 4 → number ≡ number_at bytes 8 8
    → head_by slot number ≡ copy_at f copy
copy_read f bytes copy slot number is first second =
    let at = 2048 * (1 + copy) in
    same_fields _ _ _ _
    (first ∙ ap (λ (h : List ℕ). number_at h 0 4) is ∙ sym (number_inside f at 16 0 4 (omega arith))
    ∙ ap (λ (i : ℕ). number_at f i 4) (omega arith))
    (second ∙ ap (λ (h : List ℕ). number_at h 8 8) is ∙ sym (number_inside f at 16 8 8 (omega arith)))
