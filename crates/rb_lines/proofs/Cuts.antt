-- Cutting bytes into lines, piece by piece and at once.
use Rattle.std.proofs.Common.{◌≡◌, ℕ, zero, suc, ◌+◌, ◌-◌, ◌<◌, ◌≤◌, ◌==◌, min, Bool, true, false, List, [], ◌∷◌, ◌++◌, length, take, get_or, if◌then◌else◌, refl, sym, ◌∙◌, ap, arith, append_assoc, append-nil, length-take, get_or-take}
use Rattle.std.proofs.lemmas.List.{take_min, take_more}
use Rattle.std.proofs.lemmas.Bool.{eqb-true}
use Rattle.rb_model.specs.Lines.{lines_of, onto_first}
use Rattle.rb_lines.specs.Whole.{whole_lines, onto_whole}
use Rattle.rb_lines.specs.Pieces.{lines_from, rest_from, last_of}

-- one piece after another
pub lines-append : (line xs ys : List ℕ) → lines_from line (xs ++ ys) ≡ lines_from line xs ++ lines_from (rest_from line xs) ys
lines-append line [] ys = refl
lines-append line (b ∷ xs) ys =
    elim (b == 10) as (λ v. (if v then line ∷ lines_from [] (xs ++ ys) else lines_from (line ++ b ∷ []) (xs ++ ys))
    ≡ (if v then line ∷ lines_from [] xs else lines_from (line ++ b ∷ []) xs)
    ++ lines_from (if v then rest_from [] xs else rest_from (line ++ b ∷ []) xs) ys)
    [ true ↦ ap (λ (ls : List (List ℕ)). line ∷ ls) (lines-append [] xs ys) | false ↦ lines-append (line ++ b ∷ []) xs ys ]

pub rest-append : (line xs ys : List ℕ) → rest_from line (xs ++ ys) ≡ rest_from (rest_from line xs) ys
rest-append line [] ys = refl
rest-append line (b ∷ xs) ys =
    elim (b == 10) as (λ v. (if v then rest_from [] (xs ++ ys) else rest_from (line ++ b ∷ []) (xs ++ ys))
    ≡ rest_from (if v then rest_from [] xs else rest_from (line ++ b ∷ []) xs) ys)
    [ true ↦ rest-append [] xs ys | false ↦ rest-append (line ++ b ∷ []) xs ys ]

-- a line under way at the front of the lines that the bytes after it have
abbrev onto : List ℕ → List (List ℕ) → List (List ℕ)
onto line [] = last_of line
onto line (next ∷ lines) = (line ++ next) ∷ lines

onto-nil : (lines : List (List ℕ)) → onto [] lines ≡ lines
onto-nil [] = refl
onto-nil (next ∷ lines) = refl

last_of-push : (line : List ℕ) (b : ℕ) → last_of (line ++ b ∷ []) ≡ (line ++ b ∷ []) ∷ []
last_of-push [] b = refl
last_of-push (a ∷ line) b = refl

onto-push : (line : List ℕ) (b : ℕ) (lines : List (List ℕ)) → onto (line ++ b ∷ []) lines ≡ onto line (onto_first b lines)
onto-push line b [] = last_of-push line b
onto-push line b (next ∷ lines) = ap (λ (l : List ℕ). l ∷ lines) (append_assoc line (b ∷ []) next)

all_lines : (line bytes : List ℕ) → lines_from line bytes ++ last_of (rest_from line bytes) ≡ onto line (lines_of bytes)
all_lines line [] = refl
all_lines line (b ∷ bytes) =
    elim (b == 10) as (λ v. (if v then line ∷ lines_from [] bytes else lines_from (line ++ b ∷ []) bytes)
    ++ last_of (if v then rest_from [] bytes else rest_from (line ++ b ∷ []) bytes)
    ≡ onto line (if v then [] ∷ lines_of bytes else onto_first b (lines_of bytes))) [
      | true ↦ ap (λ (ls : List (List ℕ)). line ∷ ls) (all_lines [] bytes ∙ onto-nil (lines_of bytes)) ∙ ap (λ (l : List ℕ). l ∷ lines_of bytes) (sym (append-nil line))
      | false ↦ all_lines (line ++ b ∷ []) bytes ∙ onto-push line b (lines_of bytes)
    ]

-- all lines are the whole ones and the rest, where it isn't empty
pub lines_of-parts : (bytes : List ℕ) → lines_of bytes ≡ lines_from [] bytes ++ last_of (rest_from [] bytes)
lines_of-parts bytes = sym (all_lines [] bytes ∙ onto-nil (lines_of bytes))

abbrev onto_next : List ℕ → List (List ℕ) → List (List ℕ)
onto_next line [] = []
onto_next line (next ∷ lines) = (line ++ next) ∷ lines

onto_next-nil : (lines : List (List ℕ)) → onto_next [] lines ≡ lines
onto_next-nil [] = refl
onto_next-nil (next ∷ lines) = refl

onto_next-push : (line : List ℕ) (b : ℕ) (lines : List (List ℕ)) → onto_next (line ++ b ∷ []) lines ≡ onto_next line (onto_whole b lines)
onto_next-push line b [] = refl
onto_next-push line b (next ∷ lines) = ap (λ (l : List ℕ). l ∷ lines) (append_assoc line (b ∷ []) next)

whole_from : (line bytes : List ℕ) → lines_from line bytes ≡ onto_next line (whole_lines bytes)
whole_from line [] = refl
whole_from line (b ∷ bytes) =
    elim (b == 10) as (λ v. (if v then line ∷ lines_from [] bytes else lines_from (line ++ b ∷ []) bytes)
    ≡ onto_next line (if v then [] ∷ whole_lines bytes else onto_whole b (whole_lines bytes))) [
      | true ↦ ap (λ (ls : List (List ℕ)). line ∷ ls) (whole_from [] bytes ∙ onto_next-nil (whole_lines bytes)) ∙ ap (λ (l : List ℕ). l ∷ whole_lines bytes) (sym (append-nil line))
      | false ↦ whole_from (line ++ b ∷ []) bytes ∙ onto_next-push line b (whole_lines bytes)
    ]

pub whole_lines-pieces : (bytes : List ℕ) → lines_from [] bytes ≡ whole_lines bytes
whole_lines-pieces bytes = whole_from [] bytes ∙ onto_next-nil (whole_lines bytes)

-- the front of two lists, one behind the other
front_of_both : (n : ℕ) (xs ys : List ℕ) → take n (xs ++ ys) ≡ take n xs ++ take (n - length xs) ys
front_of_both zero xs ys = let none : 0 - length xs ≡ 0 = omega arith in rw none refl
front_of_both (suc n) [] ys = let all : suc n - 0 ≡ suc n = omega arith in rw all refl
front_of_both (suc n) (x ∷ xs) ys =
    let less : suc n - suc (length xs) ≡ n - length xs = omega arith in
    ap (λ (l : List ℕ). x ∷ l) (front_of_both n xs ys ∙ ap (λ (k : ℕ). take n xs ++ take k ys) (sym less))

-- more bytes in the front of a line, as far as they go
pub front_more : (n size : ℕ) (line kept bytes : List ℕ) → kept ≡ take n line → size + length kept ≡ n
    → kept ++ take (min size (length bytes)) bytes ≡ take n (line ++ bytes)
front_more n size line kept bytes e fits =
    let room : size ≡ n - length line = omega (arith, ap length e, length-take n line) in
    ap (λ (l : List ℕ). kept ++ l) (take_min size bytes)
    ∙ ap (λ (l : List ℕ). l ++ take size bytes) e
    ∙ ap (λ (k : ℕ). take n line ++ take k bytes) room
    ∙ sym (front_of_both n line bytes)

-- bytes of which none is LF
abbrev pub NoEnd : List ℕ → Type 0
NoEnd bytes = (k : ℕ) → k < length bytes → (get_or bytes k 0 == 10) ≡ true → ⊥

is_false : (v : Bool) → (v ≡ true → ⊥) → v ≡ false
is_false true h = absurd (h refl)
is_false false h = refl

no_end_next : (b : ℕ) (bytes : List ℕ) → NoEnd (b ∷ bytes) → NoEnd bytes
no_end_next b bytes none k within is = none (suc k) (omega arith) is

-- so where none is found
pub no_end_all : (bytes : List ℕ) → ((k : ℕ) → 0 ≤ k → k < length bytes → (get_or bytes k 0 == 10) ≡ true → ⊥) → NoEnd bytes
no_end_all bytes none k within is = none k (omega arith) within is

-- They end no line
pub lines_no_end : (line bytes : List ℕ) → NoEnd bytes → lines_from line bytes ≡ []
lines_no_end line [] none = refl
lines_no_end line (b ∷ bytes) none =
    let no : (b == 10) ≡ false = is_false (b == 10) (none 0 (omega arith)) in
    ap (λ (v : Bool). if v then line ∷ lines_from [] bytes else lines_from (line ++ b ∷ []) bytes) no
    ∙ lines_no_end (line ++ b ∷ []) bytes (no_end_next b bytes none)

-- and stand in the one under way.
pub rest_no_end : (line bytes : List ℕ) → NoEnd bytes → rest_from line bytes ≡ line ++ bytes
rest_no_end line [] none = sym (append-nil line)
rest_no_end line (b ∷ bytes) none =
    let no : (b == 10) ≡ false = is_false (b == 10) (none 0 (omega arith)) in
    ap (λ (v : Bool). if v then rest_from [] bytes else rest_from (line ++ b ∷ []) bytes) no
    ∙ rest_no_end (line ++ b ∷ []) bytes (no_end_next b bytes none) ∙ append_assoc line (b ∷ []) bytes

-- An end comes behind so many bytes.
pub record EndsAt (bytes : List ℕ) (size : ℕ) : Type 0 where
  pub within : size < length bytes
  pub none : NoEnd (take size bytes)
  pub ended : get_or bytes size 0 ≡ 10

pub ends_at : (bytes : List ℕ) (size : ℕ) → size < length bytes
    → ((k : ℕ) → 0 ≤ k → k < size → (get_or bytes k 0 == 10) ≡ true → ⊥) → (get_or bytes size 0 == 10) ≡ true → EndsAt bytes size
ends_at bytes size within before is = record {
  within = within;
  none = λ k lt at.
      let below : k < size = omega (arith, length-take size bytes) in
      before k (omega arith) below (ap (λ (b : ℕ). b == 10) (sym (get_or-take size bytes k 0 below)) ∙ at);
  ended = eqb-true (get_or bytes size 0) 10 is;
}

-- the line that ends there
pub lines_end : (line bytes : List ℕ) (size : ℕ) → EndsAt bytes size → lines_from line (take (size + 1) bytes) ≡ (line ++ take size bytes) ∷ []
lines_end line bytes size e =
    ap (λ (l : List ℕ). lines_from line l) (take_more bytes size 0 e.within)
    ∙ ap (λ (b : ℕ). lines_from line (take size bytes ++ b ∷ [])) e.ended
    ∙ lines-append line (take size bytes) (10 ∷ [])
    ∙ ap (λ (ls : List (List ℕ)). ls ++ lines_from (rest_from line (take size bytes)) (10 ∷ [])) (lines_no_end line (take size bytes) e.none)
    ∙ ap (λ (l : List ℕ). l ∷ []) (rest_no_end line (take size bytes) e.none)

pub rest_end : (line bytes : List ℕ) (size : ℕ) → EndsAt bytes size → rest_from line (take (size + 1) bytes) ≡ []
rest_end line bytes size e =
    ap (λ (l : List ℕ). rest_from line l) (take_more bytes size 0 e.within)
    ∙ ap (λ (b : ℕ). rest_from line (take size bytes ++ b ∷ [])) e.ended
    ∙ rest-append line (take size bytes) (10 ∷ [])
