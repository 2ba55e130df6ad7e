-- Which commit was the first to change a row after a snapshot.
use Rattle.std.specs.Prelude.{ℕ, suc, ◌-◌, ◌==◌, Bool, true, false, not, ◌&&◌}
use Rattle.std.specs.Prelude.{if◌then◌else◌, List, [], ◌∷◌}
use Rattle.std.specs.Prelude.{drop, Option, None, Some}
use Rattle.std.specs.List.{list_any}
use Rattle.rb_model.specs.Change.{Change, Kind, Put, Gone, Held}
use Rattle.rb_model.specs.Rows.{Commits}

abbrev pub is_held : Kind → Bool
is_held (Put value) = false
is_held Gone = false
is_held Held = true

-- the change gives the key a row, or takes its row away; one that holds the row changes nothing
abbrev pub changes_row : ℕ → ℕ → Change → Bool
changes_row table key c = (c.table == table && c.key == key) && not (is_held c.kind)

-- the number of the first of these commits that changes the row, where they are numbered from n on
abbrev pub first_change : ℕ → ℕ → ℕ → List (List Change) → Option ℕ
first_change table key n [] = None
first_change table key n (changes ∷ list) =
    if list_any (changes_row table key) changes then Some n else first_change table key (suc n) list

-- The least number above a snapshot whose commit changes the row, also where a later one has changed it back.
abbrev pub late : Commits → ℕ → ℕ → ℕ → Option ℕ
late commits snapshot table key = first_change table key (suc snapshot) (drop (snapshot - commits.base) commits.list)
