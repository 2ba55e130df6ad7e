-- The definitions computed on worked rows.
use Rattle.std.proofs.Common.{◌≡◌, ℕ, List, [], ◌∷◌, ◌++◌, map, refl, arith, Some, None}
use Rattle.std.specs.Prelude.{codes}
use Rattle.std.proofs.lemmas.Fmt.{decimal_digit}
use Rattle.std.specs.List.{range_with_len}
use Rattle.rb_model.specs.Book.{fresh_book}
use Rattle.rb_model.specs.Calls.{Action, Answer, Insert, Update, Delete, Commit, Fetch, Done, Committed, Given, End, Refused, Marked, granted, first_of, early_tests, write_tests}
use Rattle.rb_model.specs.Change.{put, no_place, Gone, Held}
use Rattle.rb_model.specs.Lines.{WriteLine, OpenLine, RollbackLine, MarksLine, spelling, lines_of, without_return, reply_text}
use Rattle.rb_model.specs.NextState as next
use Rattle.rb_model.specs.NextState.{change_in, cursors_of, opened_cursor, with_cursors, with_taken, written}
use Rattle.rb_model.specs.Rows.{over, answer}
use Rattle.rb_model.specs.State.{State, opened}
use Rattle.rb_model.specs.declared.refusal.Refusal.TheVariants.{Duplicate, NotFound, BlockFull, NoSession, RollbackFull}

-- a fresh file of one table with two homes
abbrev start : State
start = opened (record { tables = 1; blocks = 2; segments = 1 }) 0 [] (fresh_book ∷ []) []

-- calls of session 1, whose slot is the first
abbrev write : State → ℕ → Action → State
write h key action = written h 1 0 0 (change_in h 0 1 key action)

abbrev commit : State → State
commit h = next.committed h 1 0 0

abbrev open_c : State → State
open_c h = with_cursors h 1 (cursors_of h 1 ++ opened_cursor h 1 (99 ∷ []) 1 0 9 ∷ [])

abbrev fetch_c : State → State
fetch_c h = with_cursors h 1 (with_taken (99 ∷ []) (cursors_of h 1))

-- what a write of a key answers
abbrev answer_to : State → ℕ → Action → Answer
answer_to h key action = first_of (write_tests h 2 0 1 1 key action) Done

abbrev a : List ℕ
a = 97 ∷ []

abbrev b : List ℕ
b = 98 ∷ []

abbrev c : List ℕ
c = 99 ∷ []

-- a row that was inserted and committed is fetched, and then the end
abbrev committed : State
committed = commit (write start 1 (Insert a))

numbered : granted (write start 1 (Insert a)) (Commit 1) ≡ Committed 1
numbered = refl

fetched : granted (open_c committed) (Fetch 1 c) ≡ Given 1 a
fetched = refl

at_the_end : granted (fetch_c (open_c committed)) (Fetch 1 c) ≡ End
at_the_end = refl

nothing_to_commit : granted committed (Commit 1) ≡ Done
nothing_to_commit = refl

-- a cursor sees its transaction's earlier changes, and not the later ones
abbrev frozen : State
frozen = write (open_c (write start 1 (Insert a))) 2 (Insert b)

frozen_first : granted frozen (Fetch 1 c) ≡ Given 1 a
frozen_first = refl

frozen_end : granted (fetch_c frozen) (Fetch 1 c) ≡ End
frozen_end = refl

-- rows come by their homes first: 2 and 4 before 1
in_scan_order : answer 2 (record { base = 0; rows = []; list = (put 1 1 a ∷ put 1 4 b ∷ put 1 2 c ∷ []) ∷ [] }) 1 0 9 1 []
    ≡ record { table = 1; key = 2; value = c } ∷ record { table = 1; key = 4; value = b } ∷ record { table = 1; key = 1; value = a } ∷ []
in_scan_order = refl

-- a row that is gone is not answered, and one that is held stays
gone_and_held : over 2 [] (put 1 1 a ∷ put 1 2 b ∷ record { table = 1; key = 1; kind = Gone; place = no_place } ∷ record { table = 1; key = 2; kind = Held; place = no_place } ∷ [])
    ≡ record { table = 1; key = 2; value = b } ∷ []
gone_and_held = refl

duplicate : answer_to committed 1 (Insert b) ≡ Refused Duplicate
duplicate = refl

no_such_session : first_of (early_tests start (Commit 17)) Done ≡ Refused NoSession
no_such_session = refl

not_found : answer_to committed 2 (Update b) ≡ Refused NotFound
not_found = refl

-- a row that was updated has the new value, and one that was deleted is found no more
updated : granted (open_c (write committed 1 (Update b))) (Fetch 1 c) ≡ Given 1 b
updated = refl

deleted : granted (open_c (write committed 1 Delete)) (Fetch 1 c) ≡ End
deleted = refl

deleted_again : answer_to (write committed 1 Delete) 1 Delete ≡ Refused NotFound
deleted_again = refl

-- A home of sixteen rows, one of which the session has deleted: its key is held, so another has no room before the commit.
abbrev sixteen : State
sixteen = opened (record { tables = 1; blocks = 1; segments = 1 }) 1 (over 1 [] (map (λ key. put 1 key a) (range_with_len 0 16))) (fresh_book ∷ []) []

abbrev one_deleted : State
one_deleted = write sixteen 0 Delete

full_until_commit : answer_to one_deleted 16 (Insert a) ≡ Refused BlockFull
full_until_commit = refl

not_full_for_a_held_key : answer_to one_deleted 0 (Insert a) ≡ Done
not_full_for_a_held_key = refl

room_after_commit : answer_to (commit one_deleted) 16 (Insert a) ≡ Done
room_after_commit = refl

-- a last line without LF, and a CR that ends a line
cut : lines_of (97 ∷ 10 ∷ 10 ∷ 98 ∷ []) ≡ a ∷ [] ∷ b ∷ []
cut = refl

one_return : without_return (97 ∷ 13 ∷ 13 ∷ []) ≡ 97 ∷ 13 ∷ []
one_return = refl

-- a command is spelled by its word, and a space and its text for each field
inserted_line : spelling (WriteLine 1 2 3 (Insert a)) ≡ codes "insert 1 2 3 a"
inserted_line = rw (decimal_digit 1 (omega arith), decimal_digit 2 (omega arith), decimal_digit 3 (omega arith)) refl

opened_line : spelling (OpenLine 1 c 2 0 9) ≡ codes "open 1 c 2 0 9"
opened_line = rw (decimal_digit 1 (omega arith), decimal_digit 2 (omega arith), decimal_digit 0 (omega arith), decimal_digit 9 (omega arith)) refl

rollback_line : spelling (RollbackLine 1) ≡ codes "rollback 1"
rollback_line = rw (decimal_digit 1 (omega arith)) refl

marks_line : spelling MarksLine ≡ codes "marks"
marks_line = refl

-- the reply to one segment has no session in front, and a full segment is told with its number and its records
marks_reply : reply_text None (Marked 0 3 2) ≡ codes "segment 0 writes 3 lost 2" ++ 10 ∷ []
marks_reply = rw (decimal_digit 0 (omega arith), decimal_digit 3 (omega arith), decimal_digit 2 (omega arith)) refl

full_reply : reply_text (Some 1) (Refused (RollbackFull 0 9)) ≡ codes "1 rollback full 0 9" ++ 10 ∷ []
full_reply = rw (decimal_digit 1 (omega arith), decimal_digit 0 (omega arith), decimal_digit 9 (omega arith)) refl
