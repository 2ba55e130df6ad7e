-- Who is dead, what a sweep takes, and which of the dead go before a write, computed on worked rows.
use Rattle.std.proofs.Common.{◌≡◌, ◌≢◌, ◌<◌, ◌≤◌, ◌+◌, ◌++◌, ℕ, zero, suc, true, false, List, [], ◌∷◌, map, replicate, set, None, Some, refl, arith, inl}
use Rattle.std.specs.List.{range_with_len}
use Rattle.rb_model.specs.Book.{Book, BookSlot, book_at, free_slot, fresh_book, owners, taken}
use Rattle.rb_model.specs.Calls.{Commit, Delete, Done, Refused, Sweep, Swept, Write, early_tests, first_of, granted}
use Rattle.rb_model.specs.Change.{Change, put}
use Rattle.rb_model.specs.NextState.{GrowsBy}
use Rattle.rb_model.specs.State.{Session, State, no_session, session_own}
use Rattle.rb_model.specs.declared.refusal.Refusal.TheVariants.{Duplicate, NoSession, NoTable, RollbackFull}
use Rattle.rb_model.specs.Calls.{IsFewest}
use Rattle.rb_model.specs.Clearing.{ClearsTo, HasRoom, Readies, lacks_room, ready_for, with_room}
use Rattle.rb_model.specs.Dead.{all_slots, dead_at, dead_changes, dead_owed, home_cleared, segment_cleared, swept, swept_count}

abbrev change : ℕ → Change
change key = put 1 key []

abbrev dead : List Change → Session
dead own = record no_session { own = own }

-- Behind the sixteen: 17 has slot 0 of segment 0, with changes of keys 1 and 3; 18 has slot 1, with none; 33 has slot 0
-- of segment 1, with changes of keys 2 and 4.
abbrev two : State
two = record {
  shape = record { tables = 1; blocks = 32; segments = 2 };
  commits = record { base = 0; rows = []; list = [] };
  sessions = replicate 16 no_session ++ dead (change 1 ∷ change 3 ∷ []) ∷ replicate 15 no_session ++ dead (change 2 ∷ change 4 ∷ []) ∷ [];
  books = taken 18 1 (taken 17 0 fresh_book) ∷ taken 33 0 fresh_book ∷ [];
  queue = [];
  asked = [];
  safe = 0;
  stopped = false;
}

no_call_names_the_first : first_of (early_tests two (Commit 17)) Done ≡ Refused NoSession
no_call_names_the_first = refl

sweep_tells_all : first_of (early_tests two (Sweep 9)) (granted two (Sweep 9)) ≡ Swept 4
sweep_tells_all = refl

sweep_tells_as_many : granted two (Sweep 3) ≡ Swept 3
sweep_tells_as_many = refl

-- A sweep of three takes the changes of 17, ends its slot and that of 18, and takes the last change of 33.
sweep_of_three_is_five_groups : GrowsBy two (Sweep 3) 5
sweep_of_three_is_five_groups = refl

each_slot_is_one : all_slots two ≡ range_with_len 0 32
each_slot_is_one = refl

first_is_dead : dead_at two 0 ≡ Some 17
first_is_dead = refl

one_without_a_change_is_dead : dead_at two 1 ≡ Some 18
one_without_a_change_is_dead = refl

free_slot_has_none : dead_at two 2 ≡ None
free_slot_has_none = refl

next_segment_counts_on : dead_at two 16 ≡ Some 33
next_segment_counts_on = refl

-- the last session that a call can name
abbrev sixteenth : State
sixteenth = record two { books = taken 16 0 fresh_book ∷ fresh_book ∷ [] }

sixteenth_is_alive : dead_at sixteenth 0 ≡ None
sixteenth_is_alive = refl

four_changes : dead_changes (all_slots two) two ≡ 4
four_changes = refl

-- four put back, and three ends
seven_owed : dead_owed two ≡ 7
seven_owed = refl

takes_one : swept_count 1 (all_slots two) two ≡ 1
takes_one = refl

takes_what_there_is : swept_count 9 (all_slots two) two ≡ 4
takes_what_there_is = refl

newest_goes_first : session_own (swept 1 (all_slots two) two) 17 ≡ change 1 ∷ []
newest_goes_first = refl

swept_in_part_stays : dead_at (swept 1 (all_slots two) two) 0 ≡ Some 17
swept_in_part_stays = refl

-- one without a change needs none of those that the sweep may take
goes_when_reached : dead_at (swept 1 (all_slots two) two) 1 ≡ None
goes_when_reached = refl

later_keeps_its_own : session_own (swept 1 (all_slots two) two) 33 ≡ change 2 ∷ change 4 ∷ []
later_keeps_its_own = refl

swept_goes : dead_at (swept 2 (all_slots two) two) 0 ≡ None
swept_goes = refl

next_segment_is_swept : dead_at (swept 9 (all_slots two) two) 16 ≡ None
next_segment_is_swept = refl

third_home_loses_its_own : dead_at (home_cleared 1 3 two) 0 ≡ None
third_home_loses_its_own = refl

-- another key of that home
same_home : dead_at (home_cleared 1 35 two) 0 ≡ None
same_home = refl

idle_stays : dead_at (home_cleared 1 3 two) 1 ≡ Some 18
idle_stays = refl

other_home_stays : dead_at (home_cleared 1 3 two) 16 ≡ Some 33
other_home_stays = refl

other_table_stays : dead_at (home_cleared 2 3 two) 0 ≡ Some 17
other_table_stays = refl

segment_loses_its_own : dead_at (segment_cleared 1 two) 16 ≡ None
segment_loses_its_own = refl

other_segment_stays : dead_at (segment_cleared 1 two) 0 ≡ Some 17
other_segment_stays = refl

-- where there is room no more than the home is cleared
room_already : dead_at (ready_for 1 1 3 1 two) 16 ≡ Some 33
room_already = refl

-- session 1 has slot 5 of segment 1, and the dead all others
abbrev owned : ℕ → BookSlot
owned s = record free_slot { owner = Some (record { session = s; start = 0; touched = [] }) }

abbrev full : Book
full = record fresh_book { slots = set (map (λ i. owned (33 + i)) (range_with_len 0 16)) 5 (owned 1) }

abbrev filled : State
filled = record two { books = taken 18 1 (taken 17 0 fresh_book) ∷ full ∷ [] }

own_slot_is_room : lacks_room 1 full ≡ false
own_slot_is_room = refl

no_slot_is_left : lacks_room 2 full ≡ true
no_slot_is_left = refl

-- its own slot, and no place for a record
abbrev pinned : Book
pinned = record (taken 1 0 fresh_book) { writes = 320; turns = replicate 8 0 }

no_place_is_left : lacks_room 1 pinned ≡ true
no_place_is_left = refl

dead_leave_room : owners (book_at (with_room 2 1 filled).books 1) ≡ 1
dead_leave_room = refl

stays_with_room : with_room 1 1 filled ≡ filled
stays_with_room = refl

-- segment 1 has the fewest owners
least : (k : ℕ) → k < 2 → owners (book_at two.books 1) ≤ owners (book_at two.books k)
least zero lt = omega arith
least (suc zero) lt = omega arith
least (suc (suc k)) lt = absurd (omega (arith, lt))

first : (k : ℕ) → k < 1 → owners (book_at two.books k) ≢ owners (book_at two.books 1)
first zero lt is = let more : 2 ≡ 1 = is in omega (arith, more)
first (suc k) lt is = absurd (omega (arith, lt))

begins_in_the_second : IsFewest two.books 1
begins_in_the_second = record { within = omega arith; least = least; first = first }

-- Which state a call with an answer is made in.
full_segment_is_told_behind_its_dead : Readies 2 filled (Refused (RollbackFull 1 0)) (with_room 2 1 filled) ≡ HasRoom filled 2 (with_room 2 1 filled)
full_segment_is_told_behind_its_dead = refl

early_tests_of_the_key_leave_the_segment : Readies 2 filled (Refused Duplicate) filled ≡ (filled ≡ filled)
early_tests_of_the_key_leave_the_segment = refl

other_calls_leave_all : ClearsTo filled (Commit 2) Done filled ≡ (filled ≡ filled)
other_calls_leave_all = refl

write_to_no_table_leaves_all : ClearsTo two (Write 1 2 3 Delete) (Refused NoTable) two
write_to_no_table_leaves_all = inl (refl, refl)
