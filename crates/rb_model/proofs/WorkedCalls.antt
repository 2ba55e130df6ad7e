-- The calls of the machine, computed on worked rows.
use Rattle.std.proofs.Common.{◌≡◌, ℕ, false, List, [], ◌∷◌, length, get_or, None, Some, refl, arith}
use Rattle.rb_model.specs.Book.{book_at, book_slot, fresh_book}
use Rattle.rb_model.specs.Calls.{Action, Insert, Delete, Lock, Owned, rows_now, Answer, Done, Refused, first_of, write_tests}
use Rattle.rb_model.specs.State.{State, Cursor, Savepoint, no_session, savepoint_of, session_of, session_own}
use Rattle.rb_model.specs.NextState.{change_in, committed, ended, left_open, opened_cursor, rolled_to, with_cursors, with_savepoint, with_savepoints, without_owner, written}
use Rattle.rb_model.specs.Rows.{last_scn}
use Rattle.rb_model.specs.declared.refusal.Refusal.TheVariants.{Duplicate, NotFound}

-- a new file of one table, one block and one segment, and its one session
abbrev fresh : State
fresh = record {
  shape = record { tables = 1; blocks = 1; segments = 1 };
  commits = record { base = 0; rows = []; list = [] };
  sessions = no_session ∷ [];
  books = fresh_book ∷ [];
  queue = [];
  asked = None ∷ [];
  safe = 0;
  stopped = false;
}

abbrev a : List ℕ
a = 97 ∷ []

-- what a write of a key answers, behind so many groups
abbrev answer : State → ℕ → ℕ → Action → Answer
answer h logged key action = first_of (write_tests h logged 0 1 1 key action) Done

abbrev write : State → ℕ → Action → State
write h key action = written h 1 0 0 (change_in h 0 1 key action)

-- The first insert is done, the key is there then, and another isn't.
first_done : answer fresh 0 1 (Insert a) ≡ Done
first_done = refl

abbrev one : State
one = write fresh 1 (Insert a)

twice : answer one 1 1 (Insert a) ≡ Refused Duplicate
twice = refl

other_missing : answer one 1 2 Delete ≡ Refused NotFound
other_missing = refl

-- its record is the first, and its slot is owned
first_place : (change_in fresh 0 1 1 (Insert a)).place ≡ record { seg = 0; index = 1 }
first_place = refl

one_record : (book_at one.books 0).writes ≡ 1
one_record = refl

-- A commit takes the next number, which its slot and its turn have then, and no one owns the slot.
abbrev done : State
done = committed one 1 0 0

number_one : last_scn done.commits ≡ 1
number_one = refl

slot_of_one : book_slot (book_at done.books 0) 0 ≡ record { newest = 1; owner = None }
slot_of_one = refl

turn_of_one : (book_at done.books 0).turns ≡ 0 ∷ 1 ∷ []
turn_of_one = refl

-- A rollback leaves the records counted and the slot's number as it was, and closes the cursor that saw its change, but
-- not the one that was opened before it.
abbrev with_two : State
with_two =
    let h = with_cursors fresh 1 (opened_cursor fresh 1 a 1 0 9 ∷ []) in
    let w = write h 1 (Insert a) in with_cursors w 1 (opened_cursor fresh 1 a 1 0 9 ∷ opened_cursor w 1 (98 ∷ []) 1 0 9 ∷ [])

abbrev cursors : State → List Cursor
cursors h = (get_or h.sessions 0 no_session).cursors

abbrev back : State
back = without_owner 0 0 (ended with_two 1 (left_open 0 (cursors with_two)))

one_cursor : length (cursors back) ≡ 1
one_cursor = refl

no_change : session_own back 1 ≡ []
no_change = refl

counted_still : (book_at back.books 0).writes ≡ 1
counted_still = refl

-- A savepoint is set before an insert, which a lock and a second savepoint follow. Behind the rollback to the first the
-- transaction has no change left and keeps its slot; the later savepoint and the cursor that saw the insert are gone.
abbrev p : List ℕ
p = 112 ∷ []

abbrev q : List ℕ
q = 113 ∷ []

abbrev set_at : State → List ℕ → State
set_at h name = with_savepoints h 1 (with_savepoint name (length (session_own h 1)) (session_of h 1).savepoints)

abbrev locked : State
locked = write (write (set_at fresh p) 1 (Insert a)) 1 Lock

locks : answer one 1 1 Lock ≡ Done
locks = refl

locks_no_row : answer fresh 0 1 Lock ≡ Refused NotFound
locks_no_row = refl

held_as_it_is : rows_now locked 1 ≡ rows_now one 1
held_as_it_is = refl

abbrev with_q : State
with_q =
    let h = set_at locked q in
    with_cursors h 1 (opened_cursor fresh 1 a 1 0 9 ∷ opened_cursor h 1 (98 ∷ []) 1 0 9 ∷ [])

abbrev at_p : State
at_p = rolled_to with_q 1 p 0

kept_at_p : (p : Savepoint) × (savepoint_of with_q 1 (112 ∷ []) ≡ Some p) × (p.kept ≡ 0)
kept_at_p = (record { name = 112 ∷ []; kept = 0 }, refl, refl)

nothing_left : session_own at_p 1 ≡ []
nothing_left = refl

keeps_its_slot : Owned at_p 1 0 0
keeps_its_slot = (omega arith, _, refl, refl)

named_one_stays : (savepoint_of at_p 1 p ≡ Some (record { name = p; kept = 0 })) × (savepoint_of at_p 1 q ≡ None)
named_one_stays = (refl, refl)

earlier_cursor_stays : length (cursors at_p) ≡ 1
earlier_cursor_stays = refl

-- back to the second one goes nothing but a change behind it; a name that is set again moves behind that
at_q : length (session_own (rolled_to (write with_q 1 Delete) 1 q 2) 1) ≡ 2
at_q = refl

moved : (savepoint_of (set_at with_q p) 1 p ≡ Some (record { name = p; kept = 2 }))
    × (length (session_of (set_at with_q p) 1).savepoints ≡ 2)
moved = (refl, refl)

q_is_earlier : savepoint_of (rolled_to (set_at with_q p) 1 q 2) 1 p ≡ None
q_is_earlier = refl

-- Of slots that the second segment has, none is the first one's by another number.
not_by_another_name : Owned one 1 0 16 → ⊥
not_by_another_name (few, o, at, same) = absurd (omega (arith, few))
