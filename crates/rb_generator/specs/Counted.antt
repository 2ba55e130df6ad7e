-- How many answers of each kind a list has.
use Rattle.std.specs.Prelude.{◌≡◌, ℕ, ◌+◌, ◌≤◌, Bool, true, false, List, [], ◌∷◌}
use Rattle.std.specs.List.{count_by}
use Rattle.rb_generator.specs.declared.counts.Counts.{Counts}
use Rattle.rb_model.specs.Calls.{Answer, Waits, Committed, Numbered, Given, Refused}

abbrev pub is_committed : Answer → Bool
is_committed (Committed number) = true
is_committed (Numbered number) = true
is_committed _ = false

abbrev pub is_row : Answer → Bool
is_row (Given key value) = true
is_row _ = false

abbrev pub is_wait : Answer → Bool
is_wait (Waits on) = true
is_wait _ = false

abbrev pub is_refused : Answer → Bool
is_refused (Refused why) = true
is_refused _ = false

abbrev pub counts_of : List Answer → Counts
counts_of answers = record {
  committed = count_by is_committed answers;
  rows = count_by is_row answers;
  waits = count_by is_wait answers;
  refused = count_by is_refused answers;
}

-- the counts of two lists, one behind the other
abbrev pub plus : Counts → Counts → Counts
plus a b = record {
  committed = a.committed + b.committed;
  rows = a.rows + b.rows;
  waits = a.waits + b.waits;
  refused = a.refused + b.refused;
}

-- the counts of no answers
abbrev pub no_counts : Counts
no_counts = record { committed = 0; rows = 0; waits = 0; refused = 0 }

-- how many answers they tell of
abbrev pub told : Counts → ℕ
told counts = counts.committed + counts.rows + counts.waits + counts.refused

-- one answer more was counted, whichever session it is told to
abbrev pub HasCountedOne : Counts → ℕ → Answer → Counts → Type 0
HasCountedOne before s r after = (after ≡ plus before (counts_of (r ∷ []))) × (told after ≤ told before + 1)
