-- A text with a space is one word, the space and the rest, in one way only.
use Rattle.std.proofs.Common.{Option, None, Some, IfNone, Result, Ok, Err, ◌≡◌, ℕ, ◌+◌, ◌<◌, ◌≤◌, ◌^◌, ◌%◌, Bool, true, false, not, List, [], ◌∷◌, ◌++◌, refl, ap, sym, subst, drop, ◌∙◌, arith}
use Rattle.std.specs.Prelude.{◌==◌}
use Rattle.std.specs.Result.{OkIff, result_ok}
use Rattle.std.specs.List.{list_all}
use Rattle.std.specs.Fmt.{decimal}
use Rattle.std.proofs.lemmas.Fmt.{decimal_by_steps, decimal_injective}
use Rattle.std.proofs.lemmas.List.Folds.{list_all-append}
use Rattle.std.proofs.lemmas.Bool.Decides.{nat_tests}
use Rattle.rb_model.specs.NameTest.{is_name, is_name_byte}
use Rattle.rb_script.specs.Words.{is_word}

-- what may stand after a word: nothing, or a space and more
abbrev pub is_tail : List ℕ → Bool
is_tail [] = true
is_tail (b ∷ text) = b == 32

pub same_front : (a b x y : List ℕ) → is_word a ≡ true → is_word b ≡ true → is_tail x ≡ true → is_tail y ≡ true → a ++ x ≡ b ++ y → (a ≡ b) × (x ≡ y)
same_front [] [] x y p q s t e = (refl, e)
same_front [] (d ∷ b) [] y p q s t e = absurd (cc)
same_front [] (d ∷ b) (h ∷ x) y p q s t e =
    let head : h ≡ d = cc in
    absurd (grind (arith, nat_tests))
same_front (c ∷ a) [] x [] p q s t e = absurd (cc)
same_front (c ∷ a) [] x (h ∷ y) p q s t e =
    let head : c ≡ h = cc in
    absurd (grind (arith, nat_tests))
same_front (c ∷ a) (d ∷ b) x y p q s t e =
    let head : c ≡ d = cc in
    let tail : a ++ x ≡ b ++ y = cc in
    let p_tail : is_word a ≡ true = grind (arith, nat_tests) in
    let q_tail : is_word b ≡ true = grind (arith, nat_tests) in
    let k = same_front a b x y p_tail q_tail s t tail in
    (cc (head, k.0), k.1)

pub same_parts : (a b x y : List ℕ) → is_word a ≡ true → is_word b ≡ true → a ++ 32 ∷ x ≡ b ++ 32 ∷ y → (a ≡ b) × (x ≡ y)
same_parts a b x y p q e = let k = same_front a b (32 ∷ x) (32 ∷ y) p q refl refl e in (k.0, ap (drop 1) k.1)

-- a word with a space behind it is no word
pub spaced_is_no_word : (a x : List ℕ) → is_word (a ++ 32 ∷ x) ≡ false
spaced_is_no_word [] x = refl
spaced_is_no_word (c ∷ a) x =
    let k : is_word (a ++ 32 ∷ x) ≡ false = spaced_is_no_word a x in
    grind (arith, nat_tests)

digit_is_no_space : (d : ℕ) → 48 ≤ d → not (d == 32) ≡ true
digit_is_no_space d high = grind (arith, nat_tests)

digits_are_words : (d : ℕ) → is_word ((48 + d) ∷ []) ≡ true
digits_are_words d =
    let k : not ((48 + d) == 32) ≡ true = digit_is_no_space (48 + d) (omega arith) in
    grind (arith, nat_tests)

more_digits : (d : ℕ) (front : List ℕ) → is_word front ≡ true → is_word (front ++ (48 + d) ∷ []) ≡ true
more_digits d front p =
    let k : is_word ((48 + d) ∷ []) ≡ true = digits_are_words d in
    rw (list_all-append (λ (b : ℕ). not (b == 32)) front ((48 + d) ∷ [])) (rw (p, k) refl)

pub decimal_is_word : (n : ℕ) → n < 2 ^ 64 → is_word (decimal n) ≡ true
decimal_is_word n small =
    decimal_by_steps (λ (m : ℕ) (ds : List ℕ). is_word ds ≡ true) (λ m h. digits_are_words m) (λ m ds h p. more_digits (m % 10) ds p) n small

name_byte_is_no_space : (b : ℕ) → is_name_byte b ≡ true → not (b == 32) ≡ true
name_byte_is_no_space b p = grind (arith, nat_tests)

name_bytes_are_word : (text : List ℕ) → list_all is_name_byte text ≡ true → is_word text ≡ true
name_bytes_are_word [] p = refl
name_bytes_are_word (b ∷ text) p =
    let first : is_name_byte b ≡ true = grind (arith, nat_tests) in
    let rest : list_all is_name_byte text ≡ true = grind (arith, nat_tests) in
    let k = name_byte_is_no_space b first in
    let t = name_bytes_are_word text rest in
    grind (arith, nat_tests)

pub name_is_word : (text : List ℕ) → is_name text ≡ true → is_word text ≡ true
name_is_word text valid =
    let bytes : list_all is_name_byte text ≡ true = grind (arith, nat_tests) in
    name_bytes_are_word text bytes

-- a number in front of a space
pub same_number : (text : List ℕ) (m n : ℕ) (x y : List ℕ) → m < 2 ^ 64 → n < 2 ^ 64 → text ≡ decimal m ++ 32 ∷ x → text ≡ decimal n ++ 32 ∷ y → (m ≡ n) × (x ≡ y)
same_number text m n x y p q e f =
    let k = same_parts (decimal m) (decimal n) x y (decimal_is_word m p) (decimal_is_word n q) (sym e ∙ f) in
    (decimal_injective m n p q k.0, k.1)

-- what a number that does not fit leaves open
pub no_smaller : {E : Type 0} (text : List ℕ) (m limit : ℕ) (r : Result ℕ E) (o : Option ℕ) → m < 2 ^ 64 → limit ≤ 2 ^ 64 → text ≡ decimal m
    → OkIff r (m < limit) m → o ≡ result_ok r → IfNone o ((n : ℕ) → n < limit → text ≡ decimal n → ⊥)
no_smaller text m limit (Ok x) o small top e k is = rw is tt
no_smaller text m limit (Err x) o small top e k is =
    rw is (λ n below f. k (subst (λ (i : ℕ). i < limit) (sym (decimal_injective m n small (omega arith) (sym e ∙ f))) below))

-- where nothing is found, for any answer
pub if_none : {A P : Type 0} (o : Option A) → P → IfNone o P
if_none None p = p
if_none (Some x) p = tt
