-- Rows as a list in scan order, and what changes and commits make of them.
use Rattle.std.specs.Prelude.{◌≡◌, ℕ, ◌+◌, ◌-◌, ◌%◌, Bool, true, not, ◌&&◌, ◌||◌, ◌==◌}
use Rattle.std.specs.Prelude.{nat_lt, nat_le, if◌then◌else◌, List, [], ◌∷◌, length, take, filter, Option}
use Rattle.std.specs.Prelude.{None, Some}
use Rattle.std.specs.List.{flat_map, list_any, AllByRecursion}
use Rattle.rb_model.specs.Change.{Change, Kind, Put, Gone, Held}

pub record TableRow : Type 0 where
  pub table : ℕ
  pub key : ℕ
  pub value : List ℕ

-- keys of one table in scan order: by the home, then by the key
abbrev pub key_before : ℕ → ℕ → ℕ → Bool
key_before blocks key other =
    nat_lt (key % blocks) (other % blocks) || ((key % blocks) == (other % blocks) && nat_lt key other)

-- rows of all tables in scan order
abbrev pub row_before : ℕ → TableRow → TableRow → Bool
row_before blocks row other =
    nat_lt row.table other.table || (row.table == other.table && key_before blocks row.key other.key)

-- the row is that of this key
abbrev pub is_row_of : ℕ → ℕ → TableRow → Bool
is_row_of table key row = row.table == table && row.key == key

abbrev pub has_row : ℕ → ℕ → List TableRow → Bool
has_row table key rows = list_any (is_row_of table key) rows

-- the value of a key, where it has a row
abbrev pub value_of : ℕ → ℕ → List TableRow → Option (List ℕ)
value_of table key [] = None
value_of table key (row ∷ rows) = if is_row_of table key row then Some row.value else value_of table key rows

-- the rows stand in scan order, each key once
abbrev pub InOrder : ℕ → List TableRow → Type 0
InOrder blocks [] = Unit {0}
InOrder blocks (row ∷ rows) = AllByRecursion (λ other. row_before blocks row other ≡ true) rows
    × InOrder blocks rows

-- the rows with this one in its place
abbrev pub with_row : ℕ → TableRow → List TableRow → List TableRow
with_row blocks row [] = row ∷ []
with_row blocks row (r ∷ rows) =
    if is_row_of row.table row.key r then row ∷ rows
    else if row_before blocks row r then row ∷ r ∷ rows
    else r ∷ with_row blocks row rows

abbrev pub without_row : ℕ → ℕ → List TableRow → List TableRow
without_row table key rows = filter (λ row. not (is_row_of table key row)) rows

-- the rows after one change
abbrev pub changed_by : ℕ → ℕ → ℕ → Kind → List TableRow → List TableRow
changed_by blocks table key (Put value) rows = with_row blocks (record { table = table; key = key; value = value }) rows
changed_by blocks table key Gone rows = without_row table key rows
changed_by blocks table key Held rows = rows

-- the rows after these changes, the first of them first
abbrev pub over : ℕ → List TableRow → List Change → List TableRow
over blocks rows [] = rows
over blocks rows (c ∷ changes) = over blocks (changed_by blocks c.table c.key c.kind rows) changes

-- Commits after a base: the base's number and rows, and the changes of each commit after it. The i-th has
-- the number base + i.
pub record Commits : Type 0 where
  pub base : ℕ
  pub rows : List TableRow
  pub list : List (List Change)

-- the last number given
abbrev pub last_scn : Commits → ℕ
last_scn commits = commits.base + length commits.list

-- the rows after the commits up to n
abbrev pub rows_at : ℕ → Commits → ℕ → List TableRow
rows_at blocks commits n = over blocks commits.rows (flat_map (λ changes. changes)
    (take (n - commits.base) commits.list))

-- the row is of this table and its key in the range
abbrev pub is_asked : ℕ → ℕ → ℕ → TableRow → Bool
is_asked table lo hi row = row.table == table && (nat_le lo row.key && nat_le row.key hi)

-- what a query sees: the rows at n with its own transaction's changes over them, in scan order
abbrev pub answer : ℕ → Commits → ℕ → ℕ → ℕ → ℕ → List Change → List TableRow
answer blocks commits table lo hi n own = filter (is_asked table lo hi) (over blocks (rows_at blocks commits n) own)
