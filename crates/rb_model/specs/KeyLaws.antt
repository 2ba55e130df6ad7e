-- What the calls of one key are in terms of others: a read of it is a fetch by a cursor over it alone, and an upsert is
-- the insert or the update that its row asks for.
use Rattle.std.specs.Prelude.{◌≡◌, ℕ, if◌then◌else◌, List, slice_get}
use Rattle.rb_model.specs.Calls.{Answer, Absent, End, Get, given, granted, is_too_long, rows_now, write_tests}
use Rattle.rb_model.specs.Calls.{Action, Insert, Update, Upsert}
use Rattle.rb_model.specs.NextState.{kind_by, opened_cursor}
use Rattle.rb_model.specs.Rows.{has_row}
use Rattle.rb_model.specs.State.{State, cursor_rows}

-- a cursor's end as the answer to a read of one key
abbrev pub or_absent : Answer → Answer
or_absent End = Absent
or_absent r = r

-- A read of a key answers what a cursor over it gives that is opened now, and that it has no row where this gives none.
abbrev pub GetIsOneFetch : Type 0
GetIsOneFetch = (h : State) (s table key : ℕ) (name : List ℕ) → granted h (Get s table key)
    ≡ or_absent (given (slice_get (cursor_rows h (opened_cursor h s name table key key)) 0))

-- the write that an upsert is, as its session sees the key
abbrev pub either : State → (s table key : ℕ) → List ℕ → Action
either h s table key value = if has_row table key (rows_now h s) then Update value else Insert value

-- It has the same tests, and makes the same change.
abbrev pub UpsertIsEither : Type 0
UpsertIsEither = (h : State) (logged g i s table key : ℕ) (value : List ℕ)
    → (write_tests h logged g s table key (Upsert value)
    ≡ write_tests h logged g s table key (either h s table key value))
    × (kind_by (Upsert value) ≡ kind_by (either h s table key value))
    × (is_too_long (Upsert value) ≡ is_too_long (either h s table key value))
