-- What a write's tests ask of the machine: who holds a key, whether other sessions fill its home, and how many records
-- a segment has made since the first of its owners began. And what is owed.
use Rattle.std.specs.Prelude.{ℕ, ◌-◌, ◌==◌, ◌&&◌, Bool, not, min, nat_le}
use Rattle.std.specs.Prelude.{List, [], ◌∷◌, length, filter, find, Option, None, Some}
use Rattle.std.specs.List.{list_any, range_with_len}
use Rattle.rb_base.specs.declared.shape.Shape.{Shape}
use Rattle.rb_model.specs.Book.{Book, BookSlot, Owner}
use Rattle.rb_model.specs.Change.{Change}
use Rattle.rb_model.specs.Full.{has_home}
use Rattle.rb_model.specs.State.{State, session_own}

-- the change is of that key
abbrev pub is_change : ℕ → ℕ → Change → Bool
is_change table key c = (c.table == table) && (c.key == key)

-- one of the session's live changes is of the key
abbrev pub holds : State → ℕ → ℕ → ℕ → Bool
holds h s table key = list_any (is_change table key) (session_own h s)

abbrev pub session_numbers : State → List ℕ
session_numbers h = range_with_len 1 (length h.sessions)

-- the session that holds the key, the first where there were several
abbrev pub holder : State → ℕ → ℕ → Option ℕ
holder h table key = find (λ s. holds h s table key) (session_numbers h)

-- the change is in the home of that key
abbrev pub is_in_home : Shape → ℕ → ℕ → Change → Bool
is_in_home shape table key c = has_home shape.blocks table key c.table c.key

-- session u is another than s and has live changes in the home
abbrev pub works_in : State → ℕ → ℕ → ℕ → ℕ → Bool
works_in h s table key u = not (u == s) && list_any (is_in_home h.shape table key) (session_own h u)

-- eight sessions other than s have
abbrev pub full_slots : State → ℕ → ℕ → ℕ → Bool
full_slots h s table key = nat_le 8 (length (filter (works_in h s table key) (session_numbers h)))

-- the owner's start, where it is less than that
abbrev pub earlier_start : Option Owner → ℕ → ℕ
earlier_start None start = start
earlier_start (Some o) start = min o.start start

-- the least start of the owners of these slots, or that number where no start is less
abbrev pub least_start : List BookSlot → ℕ → ℕ
least_start [] start = start
least_start (s ∷ slots) start = earlier_start s.owner (least_start slots start)

-- how many records the segment has made since the first of its owners began
abbrev pub made_since : Book → ℕ
made_since b = b.writes - least_start b.slots b.writes
