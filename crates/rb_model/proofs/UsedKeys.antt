-- Which keys of a home are in use, each once.
use Rattle.std.proofs.Common.{◌≡◌, ℕ, ◌%◌, ◌≤◌, Bool, true, false, ◌&&◌, ◌||◌, ◌==◌, nat_eq, List, [], ◌∷◌, ◌++◌, length, map, filter, refl, arith, ap, sym, ◌∙◌, subst, ⊎_elim, ◌⊎◌, inl, inr}
use Rattle.std.proofs.lemmas.Bool.{cases_Bool, cond-true, cond-false, cond_both, false≢true, and_parts, and_from}
use Rattle.std.proofs.lemmas.Bool.Decides.{nat_tests}
use Rattle.std.proofs.lemmas.Cmp.{nat_eq_equiv}
use Rattle.std.proofs.lemmas.List.Folds.{list_any-append}
use Rattle.std.proofs.lemmas.Map.Keys.{IsDistinct-cons}
use Rattle.std.proofs.lemmas.Map.Made.{length-le_from_is_member}
use Rattle.std.specs.List.{list_any, AllByRecursion, IsDistinct}
use Rattle.rb_model.specs.Change.{Change}
use Rattle.rb_model.specs.Full.{has_key, once, has_home, held, used_keys}
use Rattle.rb_model.specs.Rows.{TableRow, has_row, last_scn, rows_at}
use Rattle.rb_model.specs.State.{State}
use Rattle.rb_model.specs.Tests.{is_change}

-- keys, each once

same_number : (x y : ℕ) → (x == y) ≡ true → x ≡ y
same_number x y e = grind (arith, nat_tests)

other_number : (x y : ℕ) → (x == y) ≡ false → nat_eq y x ≡ false
other_number x y e = grind (arith, nat_tests)

either_way : (x y : ℕ) → nat_eq x y ≡ (y == x)
either_way x y = grind (arith, nat_tests)

-- a list has a key as it has it with one of its keys before
has_again : (q key : ℕ) (keys : List ℕ) → has_key key keys ≡ true → has_key q keys ≡ ((key == q) || has_key q keys)
has_again q key keys has =
    ⊎_elim
    (λ yes. subst (λ n. has_key n keys ≡ true) (same_number key q yes) has ∙ sym (ap (λ b. b || has_key q keys) yes))
    (λ no. sym (ap (λ b. b || has_key q keys) no))
    (cases_Bool (key == q))

pub has_once : (q : ℕ) (keys : List ℕ) → has_key q (once keys) ≡ has_key q keys
has_once q [] = refl
has_once q (key ∷ keys) =
    ⊎_elim
    (λ yes. ap (has_key q) (cond-true (has_key key (once keys)) (once keys) (key ∷ once keys) yes) ∙ has_once q keys ∙ has_again q key keys (sym (has_once key keys) ∙ yes))
    (λ no. ap (has_key q) (cond-false (has_key key (once keys)) (once keys) (key ∷ once keys) no) ∙ ap (λ b. (key == q) || b) (has_once q keys))
    (cases_Bool (has_key key (once keys)))

or_left : (x y : Bool) → (x || y) ≡ false → x ≡ false
or_left x y e = grind arith

or_right : (x y : Bool) → (x || y) ≡ false → y ≡ false
or_right x y e = grind arith

apart : (key : ℕ) (keys : List ℕ) → has_key key keys ≡ false → AllByRecursion (λ y. nat_eq key y ≡ false) keys
apart key [] none = tt
apart key (k ∷ keys) none = (other_number k key (or_left (k == key) (has_key key keys) none), apart key keys (or_right (k == key) (has_key key keys) none))

pub distinct_none : IsDistinct nat_eq []
unfolding IsDistinct
distinct_none = tt

pub distinct_once : (keys : List ℕ) → IsDistinct nat_eq (once keys)
distinct_once [] = distinct_none
distinct_once (key ∷ keys) =
    let rest = distinct_once keys in
    cond_both (has_key key (once keys)) (once keys) (key ∷ once keys) (IsDistinct nat_eq) (λ yes. rest) (λ no. IsDistinct-cons nat_eq key (once keys) (apart key (once keys) no) rest)

-- the two ways to ask whether a key is there
pub member_is : (q : ℕ) (keys : List ℕ) → list_any (nat_eq q) keys ≡ has_key q keys
member_is q [] = refl
member_is q (k ∷ keys) = ap (λ b. b || list_any (nat_eq q) keys) (either_way q k) ∙ ap (λ b. (k == q) || b) (member_is q keys)

-- distinct keys that are all there are no more than are there
pub distinct_within : (xs ys : List ℕ) → IsDistinct nat_eq xs → ((q : ℕ) → has_key q xs ≡ true → has_key q ys ≡ true) → length xs ≤ length ys
distinct_within xs ys distinct so =
    length-le_from_is_member nat_eq_equiv xs ys distinct (λ q h. member_is q ys ∙ so q (sym (member_is q xs) ∙ h))

-- which keys of a home are in use

equal_number : (x y : ℕ) → x ≡ y → (x == y) ≡ true
equal_number x y e = grind (arith, nat_tests)

other_key : (blocks u t l q k : ℕ) → q % blocks ≡ k % blocks → (u == t && (l % blocks) == (k % blocks)) ≡ false → (u == t && l == q) ≡ false
other_key blocks u t l q k home elsewhere =
    ⊎_elim
    (λ yes. let parts = and_parts (u == t) (l == q) yes in
    let same : l % blocks ≡ k % blocks = ap (λ n. n % blocks) (same_number l q parts.1) ∙ home in
    let is : ((l % blocks) == (k % blocks)) ≡ true = equal_number (l % blocks) (k % blocks) same in
    absurd (false≢true (sym elsewhere ∙ and_from (u == t) ((l % blocks) == (k % blocks)) parts.0 is)))
    (λ other. other)
    (cases_Bool (u == t && l == q))

-- of the keys of a home that things have, one is there where a thing is of it
pub home_keys : {X : Type 0} (table key : X → ℕ) (blocks t k q : ℕ) (xs : List X) → q % blocks ≡ k % blocks
    → has_key q (map key (filter (λ x. has_home blocks t k (table x) (key x)) xs)) ≡ list_any (λ x. table x == t && key x == q) xs
home_keys table key blocks t k q [] home = refl
home_keys {X} table key blocks t k q (x ∷ xs) home =
    let rest = home_keys table key blocks t k q xs home in
    let others : List X = filter (λ x. has_home blocks t k (table x) (key x)) xs in
    ⊎_elim
    (λ yes. ap (λ (ys : List X). has_key q (map key ys)) (cond-true (has_home blocks t k (table x) (key x)) (x ∷ others) others yes)
    ∙ ap (λ b. (key x == q) || b) rest
    ∙ ap (λ b. (b && key x == q) || list_any (λ x. table x == t && key x == q) xs) (sym (and_parts (table x == t) ((key x % blocks) == (k % blocks)) yes).0))
    (λ no. ap (λ (ys : List X). has_key q (map key ys)) (cond-false (has_home blocks t k (table x) (key x)) (x ∷ others) others no)
    ∙ rest
    ∙ ap (λ b. b || list_any (λ x. table x == t && key x == q) xs) (sym (other_key blocks (table x) t (key x) q k home no)))
    (cases_Bool (has_home blocks t k (table x) (key x)))

or_split : (x y : Bool) → (x || y) ≡ true → (x ≡ true) ⊎ (y ≡ true)
or_split true y e = inl refl
or_split false y e = inr e

-- and each of them has the home
pub home_only : {X : Type 0} (table key : X → ℕ) (blocks t k q : ℕ) (xs : List X)
    → has_key q (map key (filter (λ x. has_home blocks t k (table x) (key x)) xs)) ≡ true → q % blocks ≡ k % blocks
home_only table key blocks t k q [] has = absurd (false≢true has)
home_only {X} table key blocks t k q (x ∷ xs) has =
    let others : List X = filter (λ x. has_home blocks t k (table x) (key x)) xs in
    ⊎_elim
    (λ yes. let here : ((key x == q) || has_key q (map key others)) ≡ true =
    sym (ap (λ (ys : List X). has_key q (map key ys)) (cond-true (has_home blocks t k (table x) (key x)) (x ∷ others) others yes)) ∙ has in
    ⊎_elim
    (λ this. ap (λ n. n % blocks) (sym (same_number (key x) q this)) ∙ same_number (key x % blocks) (k % blocks) (and_parts (table x == t) ((key x % blocks) == (k % blocks)) yes).1)
    (λ later. home_only table key blocks t k q xs later)
    (or_split (key x == q) (has_key q (map key others)) here))
    (λ no. home_only table key blocks t k q xs (sym (ap (λ (ys : List X). has_key q (map key ys)) (cond-false (has_home blocks t k (table x) (key x)) (x ∷ others) others no)) ∙ has))
    (cases_Bool (has_home blocks t k (table x) (key x)))

-- the rows at the last commit
abbrev pub rows_last : State → List TableRow
rows_last h = rows_at h.shape.blocks h.commits (last_scn h.commits)

-- a key has a row at the last commit, or a session holds it
abbrev pub uses : State → ℕ → ℕ → Bool
uses h t q = has_row t q (rows_last h) || list_any (is_change t q) (held h)

pub used_has : (h : State) (t k q : ℕ) → q % h.shape.blocks ≡ k % h.shape.blocks → has_key q (used_keys h t k) ≡ uses h t q
used_has h t k q home =
    let rows = map (λ row. row.key) (filter (λ row. has_home h.shape.blocks t k row.table row.key) (rows_last h)) in
    let own = map (λ change. change.key) (filter (λ change. has_home h.shape.blocks t k change.table change.key) (held h)) in
    has_once q (rows ++ own) ∙ list_any-append (λ n. n == q) rows own
    ∙ ap (λ b. b || has_key q own) (home_keys (λ (row : TableRow). row.table) (λ (row : TableRow). row.key) h.shape.blocks t k q (rows_last h) home)
    ∙ ap (λ b. has_row t q (rows_last h) || b) (home_keys (λ (change : Change). change.table) (λ (change : Change). change.key) h.shape.blocks t k q (held h) home)

pub used_home : (h : State) (t k q : ℕ) → has_key q (used_keys h t k) ≡ true → q % h.shape.blocks ≡ k % h.shape.blocks
used_home h t k q has =
    let rows = map (λ row. row.key) (filter (λ row. has_home h.shape.blocks t k row.table row.key) (rows_last h)) in
    let own = map (λ change. change.key) (filter (λ change. has_home h.shape.blocks t k change.table change.key) (held h)) in
    ⊎_elim
    (λ row. home_only (λ (row : TableRow). row.table) (λ (row : TableRow). row.key) h.shape.blocks t k q (rows_last h) row)
    (λ change. home_only (λ (change : Change). change.table) (λ (change : Change). change.key) h.shape.blocks t k q (held h) change)
    (or_split (has_key q rows) (has_key q own) (sym (list_any-append (λ n. n == q) rows own) ∙ sym (has_once q (rows ++ own)) ∙ has))

pub distinct_used : (h : State) (t k : ℕ) → IsDistinct nat_eq (used_keys h t k)
distinct_used h t k = distinct_once (map (λ row. row.key) (filter (λ row. has_home h.shape.blocks t k row.table row.key) (rows_last h)) ++ map (λ change. change.key) (filter (λ change. has_home h.shape.blocks t k change.table change.key) (held h)))
