-- The value of a key, and the tables of all rows, after a change of the rows.
use Rattle.std.proofs.Common.{◌≡◌, ℕ, ◌≤◌, Bool, true, false, not, ◌&&◌, ◌||◌, ◌==◌, cond, if◌then◌else◌, List, [], ◌∷◌, ◌++◌, Option, None, Some, is_some, refl, arith, ap, ◌∙◌, ⊎_elim}
use Rattle.std.proofs.lemmas.Bool.{cases_Bool, cond_both, cond-true, cond-false}
use Rattle.std.proofs.lemmas.Bool.Decides.{nat_tests}
use Rattle.std.specs.List.{AllByRecursion}
use Rattle.rb_base.proofs.Each.{all_filter}
use Rattle.rb_model.specs.Change.{Change, Kind, Put, Gone, Held}
use Rattle.rb_model.specs.Rows.{TableRow, row_before, is_row_of, has_row, value_of, with_row, without_row, changed_by, over}
use Rattle.rb_model.proofs.Order.{same_other, same_apart}
use Rattle.rb_model.proofs.RowLemmas.{all-with_row, emptied, left_out, of_key, replaced, same_row, swapped}

-- a key has a row where it has a value

front_has : (is : Bool) (row : TableRow) (rest : Option (List ℕ)) (has : Bool) → has ≡ is_some rest → (is || has) ≡ is_some (cond is (Some row.value) rest)
front_has true row rest has e = refl
front_has false row rest has e = e

pub has_value : (t k : ℕ) (rows : List TableRow) → has_row t k rows ≡ is_some (value_of t k rows)
has_value t k [] = refl
has_value t k (row ∷ rows) = front_has (is_row_of t k row) row (value_of t k rows) (has_row t k rows) (has_value t k rows)

-- what a change leaves of its key, which had that value
abbrev pub value_by : Kind → Option (List ℕ) → Option (List ℕ)
value_by (Put value) before = Some value
value_by Gone before = None
value_by Held before = before

-- the values of all keys after a row is put in its place

pub value-with_row : (blocks t k : ℕ) (row : TableRow) (rows : List TableRow) → value_of t k (with_row blocks row rows) ≡ cond (is_row_of t k row) (Some row.value) (value_of t k rows)
value-with_row blocks t k row [] = refl
value-with_row blocks t k row (r ∷ rows) =
    let new : Option (List ℕ) = Some row.value in
    let old : Option (List ℕ) = Some r.value in
    let rest = value_of t k rows in
    cond_both (is_row_of row.table row.key r) (row ∷ rows) (cond (row_before blocks row r) (row ∷ r ∷ rows) (r ∷ with_row blocks row rows))
    (λ xs. value_of t k xs ≡ cond (is_row_of t k row) new (cond (is_row_of t k r) old rest))
    (λ same. replaced (is_row_of t k row) (is_row_of t k r) new old rest (same_row t k row r same))
    (λ other. cond_both (row_before blocks row r) (row ∷ r ∷ rows) (r ∷ with_row blocks row rows)
    (λ xs. value_of t k xs ≡ cond (is_row_of t k row) new (cond (is_row_of t k r) old rest))
    (λ before. refl)
    (λ behind. ap (λ o. cond (is_row_of t k r) old o) (value-with_row blocks t k row rows)
    ∙ swapped (is_row_of t k row) (is_row_of t k r) new old rest (same_other row.table row.key r.table r.key t k other)))

-- and after a row is taken away

value-without_row : (t k table key : ℕ) (rows : List TableRow) → value_of t k (without_row table key rows) ≡ cond (table == t && key == k) None (value_of t k rows)
value-without_row t k table key [] = cond_both (table == t && key == k) None None (λ o. None ≡ o) (λ yes. refl) (λ no. refl)
value-without_row t k table key (r ∷ rows) =
    let rest = value-without_row t k table key rows in
    let this : Bool = is_row_of table key r in
    let old : Option (List ℕ) = Some r.value in
    ⊎_elim
    (λ yes. ap (value_of t k) (cond-false (not this) (r ∷ without_row table key rows) (without_row table key rows) (ap not yes))
    ∙ rest ∙ emptied (is_row_of t k r) (table == t && key == k) old (value_of t k rows) (of_key t k table key r yes))
    (λ no. ap (value_of t k) (cond-true (not this) (r ∷ without_row table key rows) (without_row table key rows) (ap not no))
    ∙ ap (λ o. cond (is_row_of t k r) old o) rest
    ∙ left_out (is_row_of t k r) (table == t && key == k) old (value_of t k rows) (λ same. same_apart table key r.table r.key t k no same))
    (cases_Bool this)

-- and after any change

turned : (t k table key : ℕ) → (table == t && key == k) ≡ ((t == table) && (k == key))
turned t k table key = grind (arith, nat_tests)

unchanged : (is : Bool) (value : Option (List ℕ)) → value ≡ (if is then value else value)
unchanged true value = refl
unchanged false value = refl

pub value_changed : (blocks t k table key : ℕ) (kind : Kind) (rows : List TableRow)
    → value_of t k (changed_by blocks table key kind rows) ≡ (if (t == table) && (k == key) then value_by kind (value_of t k rows) else value_of t k rows)
value_changed blocks t k table key (Put value) rows =
    value-with_row blocks t k (record { table = table; key = key; value = value }) rows ∙ ap (λ is. cond is (Some value) (value_of t k rows)) (turned t k table key)
value_changed blocks t k table key Gone rows = value-without_row t k table key rows ∙ ap (λ is. cond is None (value_of t k rows)) (turned t k table key)
value_changed blocks t k table key Held rows = unchanged ((t == table) && (k == key)) (value_of t k rows)

-- the rows stay in the tables that there are
pub tables_changed : (n blocks table key : ℕ) (kind : Kind) (rows : List TableRow) → 1 ≤ table → table ≤ n
    → AllByRecursion (λ row. (1 ≤ row.table) × (row.table ≤ n)) rows → AllByRecursion (λ row. (1 ≤ row.table) × (row.table ≤ n)) (changed_by blocks table key kind rows)
tables_changed n blocks table key (Put value) rows low high all =
    all-with_row (λ row. (1 ≤ row.table) × (row.table ≤ n)) blocks (record { table = table; key = key; value = value }) rows (low, high) all
tables_changed n blocks table key Gone rows low high all = all_filter (λ row. (1 ≤ row.table) × (row.table ≤ n)) (λ row. not (is_row_of table key row)) rows all
tables_changed n blocks table key Held rows low high all = all

-- changes one after another
pub over-append : (blocks : ℕ) (rows : List TableRow) (xs ys : List Change) → over blocks rows (xs ++ ys) ≡ over blocks (over blocks rows xs) ys
over-append blocks rows [] ys = refl
over-append blocks rows (x ∷ xs) ys = over-append blocks (changed_by blocks x.table x.key x.kind rows) xs ys
