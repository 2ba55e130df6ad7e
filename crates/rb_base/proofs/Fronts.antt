-- The number at the front of bytes, read and spelled again.
use Rattle.std.proofs.Common.{◌≡◌, ℕ, ◌+◌, ◌^◌, ◌<◌, ◌≤◌, List, ◌++◌, length, take, drop, refl, arith, ap, sym, ◌∙◌, get_or, slice_index, inl, inr}
use Rattle.std.proofs.lemmas.Bool.{cases_lt}
use Rattle.std.proofs.lemmas.List.{length-take-le, take-append-drop, get_or_append_left, get_or_past, get_or-drop, get_or-take, take_at, drop_at}
use Rattle.std.proofs.lemmas.Nat.{be_bytes_2, be_bytes_4, be_bytes_8}
use Rattle.byteorder.specs.Endian.{big_bytes, big_number, big_from}
use Rattle.byteorder.specs.Numbers.{big_from-take, big_number-reads_back, length-bytes_high_first}
use Rattle.rb_base.specs.Fields.{part, number_at}

abbrev pub IsBytes : List ℕ → Type 0
IsBytes bytes = (i : ℕ) → get_or bytes i 0 < 256

IsBytes-front : (front rest : List ℕ) → IsBytes (front ++ rest) → IsBytes front
IsBytes-front front rest h i =
    elim (cases_lt i (length front)) [
      | inl lt ↦ rw (← get_or_append_left front rest 0 i lt) (h i)
      | inr le ↦ rw (get_or_past front i 0 le) (omega arith)
    ]

pub IsBytes-drop : (n : ℕ) (bytes : List ℕ) → IsBytes bytes → IsBytes (drop n bytes)
IsBytes-drop n bytes h i = rw get_or-drop (h (n + i))

two : (bytes : List ℕ) → length bytes ≡ 2 → IsBytes bytes → big_bytes 2 (big_number 2 bytes) ≡ bytes
two bytes long fits = be_bytes_2 bytes (big_number 2 bytes) long fits (omega arith)

four : (bytes : List ℕ) → length bytes ≡ 4 → IsBytes bytes → big_bytes 4 (big_number 4 bytes) ≡ bytes
four bytes long fits = be_bytes_4 bytes (big_number 4 bytes) long fits (omega arith)

eight : (bytes : List ℕ) → length bytes ≡ 8 → IsBytes bytes → big_bytes 8 (big_number 8 bytes) ≡ bytes
eight bytes long fits = be_bytes_8 bytes (big_number 8 bytes) long fits (omega arith)

-- bytes whose number at the front is that of their first n, which are spelled so
front_of : (n : ℕ) (bytes : List ℕ) → IsBytes bytes → n ≤ length bytes
    → ((front : List ℕ) → length front ≡ n → IsBytes front → big_bytes n (big_number n front) ≡ front) → bytes ≡ big_bytes n (big_number n bytes) ++ drop n bytes
front_of n bytes fits long spelled =
    let parts = take-append-drop n bytes in
    let front : IsBytes (take n bytes) = IsBytes-front (take n bytes) (drop n bytes) (rw parts fits) in
    let e = spelled (take n bytes) (length-take-le n bytes long) front in
    let same : big_number n (take n bytes) ≡ big_number n bytes = big_from-take 0 n n bytes (omega arith) in
    sym parts ∙ ap (λ (x : List ℕ). x ++ drop n bytes) (sym e ∙ ap (big_bytes n) same)

pub front_2 : (bytes : List ℕ) → IsBytes bytes → 2 ≤ length bytes → bytes ≡ big_bytes 2 (big_number 2 bytes) ++ drop 2 bytes
front_2 bytes fits long = front_of 2 bytes fits long two

pub front_4 : (bytes : List ℕ) → IsBytes bytes → 4 ≤ length bytes → bytes ≡ big_bytes 4 (big_number 4 bytes) ++ drop 4 bytes
front_4 bytes fits long = front_of 4 bytes fits long four

-- a number, and a byte, by the part of the bytes that it stands in
pub number_of_part : (bytes : List ℕ) (at count : ℕ) → number_at (part bytes at count) 0 count ≡ number_at bytes at count
number_of_part bytes at count = big_from-take 0 count count (drop at bytes) (omega arith)

pub byte_of_part : (bytes : List ℕ) (at count : ℕ) → 0 < count → slice_index (part bytes at count) 0 ≡ slice_index bytes at
byte_of_part bytes at count some = get_or-take count (drop at bytes) 0 0 some ∙ get_or-drop at bytes 0 0 ∙ ap (slice_index bytes) (omega arith)

-- a number of n bytes in front of each of two equal lists is the same number
pub number_apart : (n x y : ℕ) (s t : List ℕ) → x < 256 ^ n → y < 256 ^ n → big_bytes n x ++ s ≡ big_bytes n y ++ t → (x ≡ y) × (s ≡ t)
number_apart n x y s t x_fits y_fits e = (
  sym (big_number-reads_back n x s x_fits) ∙ ap (big_from 0 n) e ∙ big_number-reads_back n y t y_fits,
  sym (drop_at (big_bytes n x) s n (length-bytes_high_first n x)) ∙ ap (drop n) e ∙ drop_at (big_bytes n y) t n (length-bytes_high_first n y),
)

-- as many bytes in front of each of two equal lists are the same bytes
pub part_apart : (v w s t : List ℕ) → length v ≡ length w → v ++ s ≡ w ++ t → (v ≡ w) × (s ≡ t)
part_apart v w s t long e = (
  sym (take_at v s (length v) refl) ∙ ap (take (length v)) e ∙ take_at w t (length v) (sym long),
  sym (drop_at v s (length v) refl) ∙ ap (drop (length v)) e ∙ drop_at w t (length v) (sym long),
)
