-- Which texts are the decimal digits of a number.
use Rattle.std.proofs.Common.{zero, suc, ◌≡◌, ℕ, ◌+◌, ◌*◌, ◌<◌, ◌^◌, List, length, take, get_or, sym, subst, ap, refl, ◌∙◌, arith}
use Rattle.std.specs.Char.{digit_value}
use Rattle.std.specs.Fmt.{decimal}
use Rattle.std.specs.Int.{IsInRange}
use Rattle.std.specs.Str.Parse.{digits_value}
use Rattle.std.proofs.lemmas.Int.Digits.{digits_value_more}
use Rattle.std.proofs.lemmas.Str.Parse.{IsNumeralModel, numerals_by_value, tells_by_index, digits_value-take-le}
use Rattle.std.proofs.lemmas.Fmt.{decimal_nonempty, decimal_digit, first_decimal, digits_decimal, digits_value-decimal, decimal-digits_value}

-- each of the first bytes is a digit
abbrev pub AreDigitsTo : ℕ → List ℕ → Type 0
AreDigitsTo count text = (k : ℕ) → k < count → IsInRange 48 57 (get_or text k 0)

abbrev own : IsNumeralModel (λ ds. (k : ℕ) → k < length ds → IsInRange 48 57 (get_or ds k 0)) (digits_value 10)
own = numerals_by_value _ tells_by_index

first_no_zero : (n : ℕ) → n < 2 ^ 64 → get_or (decimal n) 0 0 ≡ 48 → length (decimal n) ≡ 1
first_no_zero zero small first = rw (decimal_digit 0 (omega arith)) refl
first_no_zero (suc n) small first = absurd (omega (arith, first_decimal (suc n) (omega arith) small))

-- how the digits of a number begin
pub some_digit : (text : List ℕ) (n : ℕ) → n < 2 ^ 64 → text ≡ decimal n → 0 < length text
some_digit text n small e = rw e (decimal_nonempty n small)

pub no_leading_zero : (text : List ℕ) (n : ℕ) → n < 2 ^ 64 → text ≡ decimal n → get_or text 0 0 ≡ 48 → length text ≡ 1
no_leading_zero text n small e = rw e (first_no_zero n small)

-- each byte of them is a digit, and the first ones have no greater value
pub digit_of : (text : List ℕ) (n i : ℕ) → n < 2 ^ 64 → text ≡ decimal n → i < length text → IsInRange 48 57 (get_or text i 0)
digit_of text n i small e below =
    let all = subst (λ (t : List ℕ). (k : ℕ) → k < length t → IsInRange 48 57 (get_or t k 0)) (sym e) (digits_decimal own n small) in
    all i below

pub front_fits : (text : List ℕ) (n i : ℕ) → n < 2 ^ 64 → text ≡ decimal n → i < length text
    → digits_value 10 (take i text) * 10 + digit_value (get_or text i 0) < 2 ^ 64
front_fits text n i small e below =
    let more = digits_value_more 10 text i below in
    let front = digits_value-take-le 10 text (i + 1) (omega arith) in
    let whole : digits_value 10 text ≡ n = ap (digits_value 10) e ∙ digits_value-decimal own n small in
    omega arith

-- digits without a leading zero are those of their value
pub digits_are : (text : List ℕ) (n : ℕ) → n < 2 ^ 64 → 0 < length text → (get_or text 0 0 ≡ 48 → length text ≡ 1)
    → AreDigitsTo (length text) text → n ≡ digits_value 10 text → text ≡ decimal n
digits_are text n small some plain digits e =
    let fits : digits_value 10 text < 2 ^ 64 = omega (arith, e, small) in
    sym (ap decimal e ∙ decimal-digits_value own text digits some plain fits)
