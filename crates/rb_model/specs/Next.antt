-- Which row a query gives next, and how many it has given.
use Rattle.std.specs.Prelude.{ℕ, Bool, true, not, ◌&&◌, List, length, Option, None, Some, filter}
use Rattle.rb_model.specs.Rows.{TableRow, key_before, is_asked}

-- the key comes after the last one that was given, in scan order
abbrev pub is_after : ℕ → Option ℕ → ℕ → Bool
is_after blocks None key = true
is_after blocks (Some last) key = key_before blocks last key

-- the row is asked for, and comes after the last one that was given
abbrev pub is_wanted : ℕ → ℕ → ℕ → ℕ → Option ℕ → TableRow → Bool
is_wanted blocks table lo hi last row = is_asked table lo hi row && is_after blocks last row.key

-- the rows that are asked for
abbrev pub asked : ℕ → ℕ → ℕ → List TableRow → List TableRow
asked table lo hi rows = filter (is_asked table lo hi) rows

-- how many of the rows come up to the last one that was given
abbrev pub given_count : ℕ → Option ℕ → List TableRow → ℕ
given_count blocks last rows = length (filter (λ row. not (is_after blocks last row.key)) rows)
