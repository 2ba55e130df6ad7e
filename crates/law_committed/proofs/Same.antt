-- Rows in scan order are told by the value of each key.
use Rattle.std.proofs.Common.{◌≡◌, ◌≤◌, ◌+◌, ◌/◌, ⊎_elim, ℕ, true, false, List, [], ◌∷◌, None, Some, refl, sym, ◌∙◌, ap, subst}
use Rattle.std.proofs.lemmas.Bool.{cases_Bool, cond-true, cond-false, false≢true}
use Rattle.std.specs.List.{AllByRecursion}
use Rattle.rb_base.specs.Blocks.{IsShape, home_block}
use Rattle.rb_base.specs.declared.shape.Shape.{Shape}
use Rattle.law_committed.specs.Files.{AreCommitted}
use Rattle.rb_model.proofs.Order.{row_apart, row_asym, row_same, same_itself}
use Rattle.rb_model.proofs.RowLemmas.{AllBefore}
use Rattle.law_write.proofs.Sites.{home_table, row_block}
use Rattle.rb_model.specs.Rows.{InOrder, TableRow, is_row_of, row_before, value_of}

abbrev row_with : ℕ → ℕ → List ℕ → TableRow
row_with t k v = record { table = t; key = k; value = v }

rows_by : (t k u l : ℕ) (v w : List ℕ) → t ≡ u → k ≡ l → v ≡ w → row_with t k v ≡ row_with u l w
rows_by t k u l v w one two three = cc

one_row : (x y : TableRow) → x.table ≡ y.table → x.key ≡ y.key → x.value ≡ y.value → x ≡ y
one_row x y tables keys values = rows_by x.table x.key y.table y.key x.value y.value tables keys values

none_is_some : (v : List ℕ) → None ≡ Some v → ⊥
none_is_some v e = cc

some_same : (v w : List ℕ) → Some v ≡ Some w → v ≡ w
some_same v w e = cc

-- the value at the front, and behind it
front : (t k : ℕ) (x : TableRow) (xs : List TableRow) → is_row_of t k x ≡ true → value_of t k (x ∷ xs) ≡ Some x.value
front t k x xs is = cond-true (is_row_of t k x) (Some x.value) (value_of t k xs) is

later : (t k : ℕ) (x : TableRow) (xs : List TableRow) → is_row_of t k x ≡ false → value_of t k (x ∷ xs) ≡ value_of t k xs
later t k x xs is = cond-false (is_row_of t k x) (Some x.value) (value_of t k xs) is

-- all rows behind one that comes before them are of other keys
absent : (blocks t k : ℕ) (x : TableRow) (xs : List TableRow) → AllBefore blocks x xs → is_row_of t k x ≡ true → value_of t k xs ≡ None
absent blocks t k x [] before is = refl
absent blocks t k x (z ∷ xs) before is = ⊎_elim
    (λ same.
    let a = row_same t k x is in
    let b = row_same t k z same in
    let yes : is_row_of z.table z.key x ≡ true = rw (a.0, a.1, b.0, b.1) (same_itself t k) in
    absurd (false≢true (sym (row_apart blocks x z before.0) ∙ yes)))
    (λ other. later t k z xs other ∙ absent blocks t k x xs before.1 is)
    (cases_Bool (is_row_of t k z))

-- and a key found there comes after it
found_after : (blocks : ℕ) (y x : TableRow) (ys : List TableRow) (v : List ℕ) → AllBefore blocks y ys → value_of x.table x.key ys ≡ Some v
    → row_before blocks y x ≡ true
found_after blocks y x [] v before has = absurd (none_is_some v has)
found_after blocks y x (z ∷ ys) v before has = ⊎_elim
    (λ same. let s = row_same x.table x.key z same in rw (← s.0, ← s.1) before.0)
    (λ other. found_after blocks y x ys v before.1 (sym (later x.table x.key z ys other) ∙ has))
    (cases_Bool (is_row_of x.table x.key z))

-- each value of the one is the other's
abbrev Within : List TableRow → List TableRow → Type 0
Within xs ys = (t k : ℕ) (v : List ℕ) → value_of t k xs ≡ Some v → value_of t k ys ≡ Some v

own_value : (x : TableRow) (xs : List TableRow) → value_of x.table x.key (x ∷ xs) ≡ Some x.value
own_value x xs = front x.table x.key x xs (same_itself x.table x.key)

one_key : (x y : TableRow) → is_row_of x.table x.key y ≡ false → is_row_of y.table y.key x ≡ false
one_key x y apart = ⊎_elim
    (λ same.
    let s = row_same y.table y.key x same in
    let yes : is_row_of x.table x.key y ≡ true = rw (s.0, s.1) (same_itself y.table y.key) in
    absurd (false≢true (sym apart ∙ yes)))
    (λ other. other)
    (cases_Bool (is_row_of y.table y.key x))

module _ (blocks : ℕ) (x y : TableRow) (xs ys : List TableRow) (ordered : InOrder blocks (x ∷ xs)) (ordered_too : InOrder blocks (y ∷ ys)) where
  -- a first row that isn't the other's first comes after that
  comes_after : Within (x ∷ xs) (y ∷ ys) → is_row_of x.table x.key y ≡ false → row_before blocks y x ≡ true
  comes_after within apart =
      found_after blocks y x ys x.value ordered_too.0 (sym (later x.table x.key y ys apart) ∙ within x.table x.key x.value (own_value x xs))

  tails : (t k : ℕ) → is_row_of t k x ≡ is_row_of t k y → Within (x ∷ xs) (y ∷ ys) → (v : List ℕ) → value_of t k xs ≡ Some v → value_of t k ys ≡ Some v
  tails t k alike within v has = ⊎_elim
      (λ same. absurd (none_is_some v (sym (absent blocks t k x xs ordered.0 same) ∙ has)))
      (λ other. sym (later t k y ys (sym alike ∙ other)) ∙ within t k v (later t k x xs other ∙ has))
      (cases_Bool (is_row_of t k x))

same_rows : (blocks : ℕ) (xs ys : List TableRow) → InOrder blocks xs → InOrder blocks ys → Within xs ys → Within ys xs → xs ≡ ys
same_rows blocks [] [] o p to from = refl
same_rows blocks [] (y ∷ ys) o p to from = absurd (none_is_some y.value (from y.table y.key y.value (own_value y ys)))
same_rows blocks (x ∷ xs) [] o p to from = absurd (none_is_some x.value (to x.table x.key x.value (own_value x xs)))
same_rows blocks (x ∷ xs) (y ∷ ys) o p to from = ⊎_elim
    (λ same.
    let s = row_same x.table x.key y same in
    let values : y.value ≡ x.value = some_same y.value x.value (sym (front x.table x.key y ys same) ∙ to x.table x.key x.value (own_value x xs)) in
    let first : x ≡ y = sym (one_row y x s.0 s.1 values) in
    let rest : xs ≡ ys = same_rows blocks xs ys o.1 p.1
    (λ t k v has. tails blocks x y xs ys o p t k (ap (is_row_of t k) first) to v has)
    (λ t k v has. tails blocks y x ys xs p o t k (ap (is_row_of t k) (sym first)) from v has) in
    ap (λ (z : TableRow). z ∷ xs) first ∙ ap (λ (l : List TableRow). y ∷ l) rest)
    (λ apart.
    let after : row_before blocks y x ≡ true = comes_after blocks x y xs ys o p to apart in
    let before : row_before blocks x y ≡ true = comes_after blocks y x ys xs p o from (one_key x y apart) in
    absurd (false≢true (sym (row_asym blocks x y before) ∙ after)))
    (cases_Bool (is_row_of x.table x.key y))

-- the table of a value is one that there is
pub in_range : (shape : Shape) (t k : ℕ) (rows : List TableRow) (v : List ℕ) → AllByRecursion (λ row. (1 ≤ row.table) × (row.table ≤ shape.tables)) rows
    → value_of t k rows ≡ Some v → (1 ≤ t) × (t ≤ shape.tables)
in_range shape t k [] v all has = absurd (none_is_some v has)
in_range shape t k (x ∷ rows) v all has = ⊎_elim
    (λ same. let s = row_same t k x same in rw (← s.0) all.0)
    (λ other. in_range shape t k rows v all.1 (sym (later t k x rows other) ∙ has))
    (cases_Bool (is_row_of t k x))

module _ (shape : Shape) (blocks : List (List ℕ)) where
  within : IsShape shape → (rows others : List TableRow) → AreCommitted shape blocks rows → AreCommitted shape blocks others → Within rows others
  within shaped rows others are too t k v has =
      let some : 1 ≤ shape.blocks = shaped.few_blocks.0 in
      let range : (1 ≤ t) × (t ≤ shape.tables) = in_range shape t k rows v are.tables has in
      let found : value_of (home_block shape t k / shape.blocks + 1) k others ≡ Some v =
      too.complete (home_block shape t k) k v (row_block shape t k some range.0 range.1) (are.sound t k v has) in
      subst (λ (z : ℕ). value_of z k others ≡ Some v) (home_table shape t k some range.0) found

  pub committed_one : (rows others : List TableRow) → IsShape shape → AreCommitted shape blocks rows → AreCommitted shape blocks others → rows ≡ others
  committed_one rows others shaped are too =
      same_rows shape.blocks rows others are.order too.order (within shaped rows others are too) (within shaped others rows too are)
