-- The moves of a book computed on worked rows.
use Rattle.std.proofs.Common.{◌≡◌, ◌≢◌, ◌<◌, ◌≤◌, None, ◌+◌, ◌-◌, ◌||◌, ℕ, zero, suc, true, false, List, [], ◌∷◌, length, nat_le, if◌then◌else◌, is_some, refl, arith, get_or}
use Rattle.std.specs.List.{list_all}
use Rattle.std.proofs.lemmas.Bool.Decides.{nat_tests}
use Rattle.rb_model.specs.Book.{Book, BookSlot, IsFirstFree, free_slot, fresh_book, is_full, book_slot, owners, IsBegun, begun, book_at, slot_owner, marked, taken, finished, left}
use Rattle.rb_model.specs.Tests.{made_since}

-- the free slot with the least newest, the first of several: from here on, or the one that was found before with its
-- newest
abbrev found_from : ℕ → ℕ → ℕ → List BookSlot → ℕ
found_from at found least [] = found
found_from at found least (s ∷ slots) =
    if is_some s.owner || nat_le least s.newest then found_from (at + 1) found least slots else found_from (at + 1) at s.newest slots

abbrev chosen : Book → ℕ
chosen b = found_from 0 16 1000 b.slots

-- so many records of the owner of slot i
abbrev records : ℕ → ℕ → Book → Book
records zero i b = b
records (suc more) i b = records more i (marked i b)

-- a session that makes so many records and commits at n
abbrev committed : ℕ → ℕ → Book → Book
committed count n b = let i = chosen b in finished n i (records count i (taken 1 i b))

-- so many sessions one after the other, each with one record, from commit number n on
abbrev commits : ℕ → ℕ → Book → Book
commits zero n b = b
commits (suc more) n b = commits more (n + 1) (committed 1 n b)

-- The sixteenth commit takes the last slot; the next takes the first again, and gives its number up.
no_loss : (commits 16 1 fresh_book).lost ≡ 0
no_loss = refl

slot_again : chosen (commits 16 1 fresh_book) ≡ 0
slot_again = refl

first_loss : (taken 1 0 (commits 16 1 fresh_book)).lost ≡ 1
first_loss = refl

-- Eighty commits of one record each: the two turns have forty each.
abbrev eighty : Book
eighty = commits 80 1 fresh_book

two_turns : eighty.turns ≡ 40 ∷ 80 ∷ []
two_turns = refl

lost_by_slots : eighty.lost ≡ 64
lost_by_slots = refl

-- the next takes the slot of commit 65, and its record the turn of the first forty: what is lost is 65
abbrev reused : Book
reused = marked 0 (taken 1 0 eighty)

slot_of_65 : (book_slot eighty 0).newest ≡ 65
slot_of_65 = refl

chosen_of_65 : chosen eighty ≡ 0
chosen_of_65 = refl

-- of the slots of a list, each has so much where a test of all says so
at_least : (n : ℕ) (slots : List BookSlot) (j : ℕ) → list_all (λ s. nat_le n s.newest) slots ≡ true → j < length slots
    → n ≤ (get_or slots j free_slot).newest
at_least n [] j is lt = absurd (omega (arith, lt))
at_least n (s ∷ slots) zero is lt = grind (arith, nat_tests)
at_least n (s ∷ slots) (suc j) is lt = at_least n slots j (grind (arith, is)) (omega (arith, lt))

first_of_65 : IsFirstFree eighty 0
first_of_65 = record { within = omega arith; free = refl; least = λ j lt free. at_least 65 eighty.slots j refl lt; first = λ j lt. absurd (omega arith) }

reused_writes : reused.writes ≡ 81
reused_writes = refl

reused_lost : reused.lost ≡ 65
reused_lost = refl

reused_turns : reused.turns ≡ 80 ∷ 0 ∷ []
reused_turns = refl

-- The turn alone: three commits of 40, 40 and 1 records give up the first.
dropped : (committed 40 2 (committed 40 1 fresh_book)).turns ≡ 1 ∷ 2 ∷ []
dropped = refl

dropped_lost : (committed 1 3 (committed 40 2 (committed 40 1 fresh_book))).lost ≡ 1
dropped_lost = refl

dropped_turns : (committed 1 3 (committed 40 2 (committed 40 1 fresh_book))).turns ≡ 2 ∷ 3 ∷ []
dropped_turns = refl

-- A commit numbers each turn that it touched, and no other.
both_touched : (committed 2 2 (committed 39 1 fresh_book)).turns ≡ 2 ∷ 2 ∷ []
both_touched = refl

one_touched : (committed 1 2 (committed 40 1 fresh_book)).turns ≡ 1 ∷ 2 ∷ []
one_touched = refl

-- One session with 320 records: its turns grow to eight, and there is none for the next record until it ends.
abbrev growing : ℕ → Book
growing count = records count 0 (taken 1 0 fresh_book)

two_still : length (growing 80).turns ≡ 2
two_still = refl

three : length (growing 81).turns ≡ 3
three = refl

eight : length (growing 281).turns ≡ 8
eight = refl

not_full : is_full (growing 319) ≡ false
not_full = refl

full : is_full (growing 320) ≡ true
full = refl

full_writes : (growing 320).writes ≡ 320
full_writes = refl

full_since_320 : made_since (growing 320) ≡ 320
full_since_320 = refl

room_again : is_full (left 0 (growing 320)) ≡ false
room_again = refl

-- Of an owner that began with the last record of its turn the book is full after 281.
abbrev late : Book
late = records 281 1 (taken 2 1 (left 0 (records 39 0 (taken 1 0 fresh_book))))

late_full : is_full late ≡ true
late_full = refl

late_since_281 : made_since late ≡ 281
late_since_281 = refl

late_since : late.writes - 39 ≡ 281
late_since = refl

-- Two segments are taken in turn: the first slot of each, and then the second of the first.
abbrev two : List Book
two = fresh_book ∷ fresh_book ∷ []

begins_first : IsBegun two 0 0
begins_first = record {
  within = omega arith;
  least = λ h lt. omega arith;
  first = λ h lt. absurd (omega arith);
  slot = record { within = omega arith; free = refl; least = λ j lt free. omega arith; first = λ j lt. absurd (omega arith) };
}

fewest : owners fresh_book ≡ 0
fewest = refl

begins_second : IsBegun (begun 1 0 0 two) 1 0
begins_second = record {
  within = omega arith;
  least = λ h lt. omega arith;
  first = second_first;
  slot = record { within = omega arith; free = refl; least = λ j lt free. omega arith; first = λ j lt. absurd (omega arith) };
}
  where
    second_first : (h : ℕ) → h < 1 → owners (book_at (begun 1 0 0 two) h) ≢ owners (book_at (begun 1 0 0 two) 1)
    second_first zero lt same = omega (arith, same)
    second_first (suc h) lt same = omega (arith, lt)

begins_third : IsBegun (begun 2 1 0 (begun 1 0 0 two)) 0 1
begins_third = record {
  within = omega arith;
  least = third_least;
  first = λ h lt. absurd (omega arith);
  slot = record { within = omega arith; free = refl; least = λ j lt free. omega arith; first = third_slot };
}
  where
    third_least : (h : ℕ) → h < 2 → 1 ≤ owners (book_at (begun 2 1 0 (begun 1 0 0 two)) h)
    third_least zero lt = omega arith
    third_least (suc zero) lt = omega arith
    third_least (suc (suc h)) lt = absurd (omega (arith, lt))

    third_slot : (j : ℕ) → j < 1 → slot_owner (book_at (begun 2 1 0 (begun 1 0 0 two)) 0) j ≡ None
        → (book_slot (book_at (begun 2 1 0 (begun 1 0 0 two)) 0) j).newest ≢ 0
    third_slot zero lt free = absurd (cc)
    third_slot (suc j) lt free = absurd (omega (arith, lt))

-- the next takes the second slot of the second segment, which now has fewer owners
abbrev three_begun : List Book
three_begun = begun 3 0 1 (begun 2 1 0 (begun 1 0 0 two))

begins_fourth : IsBegun three_begun 1 1
begins_fourth = record {
  within = omega arith;
  least = fourth_least;
  first = fourth_first;
  slot = record { within = omega arith; free = refl; least = λ j lt free. omega arith; first = fourth_slot };
}
  where
    fourth_least : (h : ℕ) → h < 2 → 1 ≤ owners (book_at three_begun h)
    fourth_least zero lt = omega arith
    fourth_least (suc zero) lt = omega arith
    fourth_least (suc (suc h)) lt = absurd (omega (arith, lt))

    fourth_first : (h : ℕ) → h < 1 → owners (book_at three_begun h) ≢ 1
    fourth_first zero lt same = omega (arith, same)
    fourth_first (suc h) lt same = omega (arith, lt)

    fourth_slot : (j : ℕ) → j < 1 → slot_owner (book_at three_begun 1) j ≡ None → (book_slot (book_at three_begun 1) j).newest ≢ 0
    fourth_slot zero lt free = absurd (cc)
    fourth_slot (suc j) lt free = absurd (omega (arith, lt))

-- one that ends without a number leaves its slot the number that it had
slot_left : (book_slot (left 0 (taken 1 0 (commits 16 1 fresh_book))) 0).newest ≡ 1
slot_left = refl
