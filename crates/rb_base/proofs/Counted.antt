-- Things spelled one behind another, and the count of them in front: no two lists have one spelling, and how far a reader
-- of one has come.
use Rattle.std.proofs.Common.{◌≡◌, ◌≢◌, ℕ, ◌+◌, ◌^◌, ◌<◌, ◌≤◌, List, [], ◌∷◌, ◌++◌, length, refl, arith, ap, sym, ◌∙◌, append_assoc, append-nil}
use Rattle.std.proofs.lemmas.List.{length-append, nil_from_length, flat_map_more}
use Rattle.std.proofs.lemmas.List.Sums.{sum_by-cons}
use Rattle.std.specs.List.{flat_map, sum_by, AllByRecursion}
use Rattle.byteorder.specs.Endian.{big_bytes}
use Rattle.rb_base.proofs.Each.{all_push}
use Rattle.rb_base.proofs.Fronts.{number_apart}

-- no spelling begins another
abbrev pub Apart : {X : Type 0} → (X → List ℕ) → (X → Type 0) → Type 0
Apart {X} spell Is = (a b : X) (s t : List ℕ) → Is a → Is b → spell a ++ s ≡ spell b ++ t → (a ≡ b) × (s ≡ t)

-- how many there are, in two bytes, and then each of them
abbrev pub counted : {X : Type 0} → (X → List ℕ) → List X → List ℕ
counted spell xs = big_bytes 2 (length xs) ++ flat_map spell xs

-- the lengths of spellings one behind another
pub length_spelled : {X : Type 0} (spell : X → List ℕ) (size : X → ℕ) → ((x : X) → length (spell x) ≡ size x) → (xs : List X) → length (flat_map spell xs) ≡ sum_by size xs
length_spelled spell size is [] = refl
length_spelled spell size is (x ∷ xs) =
    let e = is x in
    let f = length_spelled spell size is xs in
    let l = length-append (spell x) (flat_map spell xs) in
    let s = sum_by-cons size x xs in
    omega (arith, e, f, l, s)

-- things that go on behind others
pub record GoesOn {X : Type 0} (spell : X → List ℕ) (Is : X → Type 0) (front xs : List X) (rest : List ℕ) : Type 0 where
  pub more : List X
  pub whole : xs ≡ front ++ more
  pub behind : rest ≡ flat_map spell more
  pub each : AllByRecursion Is more

pub goes_on : {X : Type 0} (spell : X → List ℕ) (Is : X → Type 0) (front xs : List X) (rest : List ℕ) → Apart spell Is → AllByRecursion Is front → AllByRecursion Is xs → length front ≤ length xs
    → flat_map spell xs ≡ flat_map spell front ++ rest → GoesOn spell Is front xs rest
goes_on spell Is [] xs rest apart h i short e = record { more = xs; whole = refl; behind = sym e; each = i }
goes_on spell Is (f ∷ front) [] rest apart h i short e = absurd (omega arith)
goes_on spell Is (f ∷ front) (x ∷ xs) rest apart h i short e =
    let one = apart x f (flat_map spell xs) (flat_map spell front ++ rest) i.0 h.0 (e ∙ append_assoc (spell f) (flat_map spell front) rest) in
    let on = goes_on spell Is front xs rest apart h.1 i.1 (omega arith) one.1 in
    let both : x ∷ xs ≡ f ∷ (front ++ on.more) = let p = one.0 in let q = on.whole in cc in
    record { more = on.more; whole = both; behind = on.behind; each = on.each }

none_more : {X : Type 0} (front more : List X) → length (front ++ more) ≡ length front → more ≡ []
none_more front more e = let l = length-append front more in nil_from_length more (omega (arith, e, l))

-- as many things of equal spellings are equal
lists_apart : {X : Type 0} (spell : X → List ℕ) (Is : X → Type 0) (xs ys : List X) (s t : List ℕ) → Apart spell Is → AllByRecursion Is xs → AllByRecursion Is ys → length xs ≡ length ys
    → flat_map spell xs ++ s ≡ flat_map spell ys ++ t → (xs ≡ ys) × (s ≡ t)
lists_apart spell Is [] [] s t apart h i same e = (refl, e)
lists_apart spell Is [] (y ∷ ys) s t apart h i same e = absurd (omega arith)
lists_apart spell Is (x ∷ xs) [] s t apart h i same e = absurd (omega arith)
lists_apart spell Is (x ∷ xs) (y ∷ ys) s t apart h i same e =
    let one = apart x y (flat_map spell xs ++ s) (flat_map spell ys ++ t) h.0 i.0 (sym (append_assoc (spell x) (flat_map spell xs) s) ∙ e ∙ append_assoc (spell y) (flat_map spell ys) t) in
    let rest = lists_apart spell Is xs ys s t apart h.1 i.1 (omega arith) one.1 in
    let both : x ∷ xs ≡ y ∷ ys = let p = one.0 in let q = rest.0 in cc in
    (both, rest.1)

-- how many there are, by the first two bytes
count_of : {X : Type 0} (spell : X → List ℕ) (count : ℕ) (xs : List X) (rest more : List ℕ) → count < 2 ^ 16 → length xs < 2 ^ 16 → big_bytes 2 count ++ rest ≡ counted spell xs ++ more
    → (count ≡ length xs) × (rest ≡ flat_map spell xs ++ more)
count_of spell count xs rest more fits few e =
    number_apart 2 count (length xs) rest (flat_map spell xs ++ more) (omega arith) (omega arith) (e ∙ append_assoc (big_bytes 2 (length xs)) (flat_map spell xs) more)

-- no list's spelling begins that of another
pub counted_apart : {X : Type 0} (spell : X → List ℕ) (Is : X → Type 0) (xs ys : List X) (s t : List ℕ) → Apart spell Is → length xs < 2 ^ 16 → length ys < 2 ^ 16 → AllByRecursion Is xs → AllByRecursion Is ys
    → counted spell xs ++ s ≡ counted spell ys ++ t → (xs ≡ ys) × (s ≡ t)
counted_apart spell Is xs ys s t apart few few_too h i e =
    let n = count_of spell (length xs) ys (flat_map spell xs ++ s) t few few_too (sym (append_assoc (big_bytes 2 (length xs)) (flat_map spell xs) s) ∙ e) in
    lists_apart spell Is xs ys s t apart h i n.0 n.1

pub counted_same : {X : Type 0} (spell : X → List ℕ) (Is : X → Type 0) (xs ys : List X) → Apart spell Is → length xs < 2 ^ 16 → length ys < 2 ^ 16 → AllByRecursion Is xs → AllByRecursion Is ys
    → counted spell xs ≡ counted spell ys → xs ≡ ys
counted_same spell Is xs ys apart few few_too h i e = (counted_apart spell Is xs ys [] [] apart few few_too h i (ap (λ (l : List ℕ). l ++ []) e)).0

-- how far the reader has come: these things stand behind the count, and then the rest
pub record IsFront {X : Type 0} (spell : X → List ℕ) (Is : X → Type 0) (count : ℕ) (bytes : List ℕ) (index : ℕ) (held : List X) (rest : List ℕ) : Type 0 where
  pub each : AllByRecursion Is held
  pub counts : length held ≡ index
  pub whole : bytes ≡ big_bytes 2 count ++ (flat_map spell held ++ rest)

pub front_more : {X : Type 0} (spell : X → List ℕ) (Is : X → Type 0) (count : ℕ) (bytes : List ℕ) (index : ℕ) (held : List X) (rest : List ℕ) (x : X) (behind : List ℕ) → IsFront spell Is count bytes index held rest
    → Is x → rest ≡ spell x ++ behind → IsFront spell Is count bytes (index + 1) (held ++ x ∷ []) behind
front_more spell Is count bytes index held rest x behind h valid e =
    let l = length-append held (x ∷ []) in
    let one : flat_map spell held ++ rest ≡ (flat_map spell held ++ spell x) ++ behind = ap (λ (r : List ℕ). flat_map spell held ++ r) e ∙ sym (append_assoc (flat_map spell held) (spell x) behind) in
    let two : flat_map spell held ++ spell x ≡ flat_map spell (held ++ x ∷ []) = flat_map_more spell [] held x in
    record {
      each = all_push Is held x h.each valid;
      counts = omega (arith, l, h.counts);
      whole = h.whole ∙ ap (λ (r : List ℕ). big_bytes 2 count ++ r) (one ∙ ap (λ (r : List ℕ). r ++ behind) two);
    }

-- the things of a whole spelling go on behind those that are held
front_on : {X : Type 0} (spell : X → List ℕ) (Is : X → Type 0) (count : ℕ) (bytes : List ℕ) (index : ℕ) (held : List X) (rest : List ℕ) (xs : List X) → Apart spell Is → count < 2 ^ 16 → index ≤ count
    → IsFront spell Is count bytes index held rest → length xs < 2 ^ 16 → AllByRecursion Is xs → bytes ≡ counted spell xs → (count ≡ length xs) × GoesOn spell Is held xs rest
front_on spell Is count bytes index held rest xs apart fits le h few each e =
    let n = count_of spell count xs (flat_map spell held ++ rest) [] fits few (sym h.whole ∙ e ∙ sym (append-nil (counted spell xs))) in
    (n.0, goes_on spell Is held xs rest apart h.each each (omega (arith, n.0, h.counts)) (sym (n.1 ∙ append-nil (flat_map spell xs))))

stuck : {X : Type 0} (spell : X → List ℕ) (Is : X → Type 0) (held more : List X) (rest : List ℕ) → length held < length (held ++ more) → rest ≡ flat_map spell more → AllByRecursion Is more
    → ((x : X) (behind : List ℕ) → Is x → rest ≡ spell x ++ behind → ⊥) → ⊥
stuck spell Is held [] rest lt e each none = let l = length-append held [] in absurd (omega (arith, l))
stuck spell Is held (x ∷ more) rest lt e each none = none x (flat_map spell more) each.0 e

-- where no thing in order comes next, the bytes spell no list
pub front_stuck : {X : Type 0} (spell : X → List ℕ) (Is : X → Type 0) (count : ℕ) (bytes : List ℕ) (index : ℕ) (held : List X) (rest : List ℕ) → Apart spell Is → count < 2 ^ 16 → index < count
    → IsFront spell Is count bytes index held rest → ((x : X) (behind : List ℕ) → Is x → rest ≢ spell x ++ behind) → (xs : List X) → length xs < 2 ^ 16 → AllByRecursion Is xs → bytes ≢ counted spell xs
front_stuck spell Is count bytes index held rest apart fits lt h none xs few each e =
    let on = front_on spell Is count bytes index held rest xs apart fits (omega arith) h few each e in
    let w = ap length on.1.whole in
    stuck spell Is held on.1.more rest (omega (arith, on.0, h.counts, w)) on.1.behind on.1.each none

-- the reader has come to the end
pub front_at_end : {X : Type 0} (spell : X → List ℕ) (Is : X → Type 0) (count : ℕ) (bytes : List ℕ) (index : ℕ) (held : List X) (rest : List ℕ) → index ≤ count → count ≤ index
    → IsFront spell Is count bytes index held rest → IsFront spell Is count bytes count held rest
front_at_end spell Is count bytes index held rest le ge h = let c = h.counts in record { each = h.each; counts = omega (arith, c); whole = h.whole }

-- where all are read and bytes follow, the bytes spell no list
pub front_ended : {X : Type 0} (spell : X → List ℕ) (Is : X → Type 0) (count : ℕ) (bytes : List ℕ) (held : List X) (rest : List ℕ) → Apart spell Is → count < 2 ^ 16 → IsFront spell Is count bytes count held rest
    → (xs : List X) → length xs < 2 ^ 16 → AllByRecursion Is xs → bytes ≡ counted spell xs → (count ≡ length xs) × (rest ≡ [])
front_ended spell Is count bytes held rest apart fits h xs few each e =
    let on = front_on spell Is count bytes count held rest xs apart fits (omega arith) h few each e in
    let none = none_more held on.1.more (ap length (sym on.1.whole) ∙ omega (arith, on.0, h.counts)) in
    (on.0, on.1.behind ∙ ap (flat_map spell) none)
