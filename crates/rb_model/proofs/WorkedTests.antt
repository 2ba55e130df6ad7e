-- What a write's tests ask of the machine, computed on worked rows.
use Rattle.std.proofs.Common.{◌≡◌, ◌+◌, true, false, List, [], ◌∷◌, map, None, Some, refl}
use Rattle.std.specs.List.{range_with_len}
use Rattle.rb_model.specs.Book.{Book, fresh_book, left, marked, taken}
use Rattle.rb_model.specs.Change.{Change, put, gone}
use Rattle.rb_model.specs.State.{State, Session, no_session}
use Rattle.rb_model.specs.Tests.{full_slots, holder, made_since, works_in}

abbrev session : List Change → Session
session own = record no_session { own = own }

-- a file of one table with two homes, and these sessions
abbrev with_sessions : List Book → List Session → State
with_sessions books sessions = record {
  shape = record { tables = 1; blocks = 2; segments = 1 };
  commits = record { base = 0; rows = []; list = [] };
  sessions = sessions;
  books = books;
  queue = [];
  asked = map (λ s. None) sessions;
  safe = 0;
  stopped = false;
}

-- session 1 has slot 0 and made two records, then session 2 took slot 1 and made one
abbrev begun_first : Book
begun_first = marked 0 (marked 0 (taken 1 0 fresh_book))

abbrev two_owners : Book
two_owners = marked 1 (taken 2 1 begun_first)

abbrev three : State
three = with_sessions (two_owners ∷ []) (session (put 1 1 [] ∷ gone 1 3 ∷ []) ∷ session (put 1 2 [] ∷ []) ∷ session [] ∷ [])

holder_of_3 : holder three 1 3 ≡ Some 1
holder_of_3 = refl

holder_of_2 : holder three 1 2 ≡ Some 2
holder_of_2 = refl

nobody_holds_5 : holder three 1 5 ≡ None
nobody_holds_5 = refl

-- key 5 has the home of 1 and 3, in which session 1 works and 2 doesn't; nobody is in his own way
works_there : works_in three 3 1 5 1 ≡ true
works_there = refl

works_elsewhere : works_in three 3 1 5 2 ≡ false
works_elsewhere = refl

not_in_its_way : works_in three 1 1 5 1 ≡ false
not_in_its_way = refl

-- three records since session 1 began, one since session 2 did, and none where nobody is left
since_first : made_since two_owners ≡ 3
since_first = refl

since_second : made_since (left 0 two_owners) ≡ 1
since_second = refl

since_none : made_since (left 1 (left 0 two_owners)) ≡ 0
since_none = refl

-- Eight sessions with a change of the home of key 1, and one without: that one finds no entry, each of the eight its own.
abbrev eight : State
eight = with_sessions (fresh_book ∷ []) (session [] ∷ map (λ n. session (put 1 (n + n + 1) [] ∷ [])) (range_with_len 0 8))

ninth_finds_none : full_slots eight 1 1 1 ≡ true
ninth_finds_none = refl

own_is_found : full_slots eight 2 1 1 ≡ false
own_is_found = refl

other_home : full_slots eight 1 1 2 ≡ false
other_home = refl
