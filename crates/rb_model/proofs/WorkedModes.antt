-- What the modes of a transaction mean, computed on worked rows.
use Rattle.std.proofs.Common.{◌≡◌, ℕ, List, [], ◌∷◌, map, None, Some, refl}
use Rattle.rb_model.specs.Book.{fresh_book}
use Rattle.rb_model.specs.Calls.{Action, Insert, Update, Delete, Lock, Answer, Done, Refused, Write, early_tests, first_of, name_tests, SetMode, write_tests}
use Rattle.rb_model.specs.Change.{Change, gone, put}
use Rattle.rb_model.specs.Isolation.{isolation_at}
use Rattle.rb_model.specs.Late.{late}
use Rattle.rb_model.specs.NextState.{change_in, committed, ended, freeing, opened_cursor, rolled_to, with_cursors, with_isolation, with_savepoint, with_savepoints, written}
use Rattle.rb_model.specs.Rows.{Commits, last_scn}
use Rattle.rb_model.specs.State.{State, cursor_rows, isolation_of, opened}
use Rattle.rb_model.specs.declared.mode.Isolation.TheVariants as isolation
use Rattle.rb_model.specs.declared.mode.Mode.{Mode}
use Rattle.rb_model.specs.declared.mode.Mode.TheVariants as mode
use Rattle.rb_model.specs.declared.refusal.Refusal.TheVariants.{CantSerialize, NotFirst, NoTable, NotFound, ReadOnly, Waiting}

abbrev a : List ℕ
a = 97 ∷ []

abbrev b : List ℕ
b = 98 ∷ []

-- the changes of five commits: row 1 is inserted, updated, updated back, held, and deleted
abbrev held : Change
held = record (put 1 1 a) { kind = Rattle.rb_model.specs.Change.Held }

abbrev five : Commits
five = record {
  base = 7;
  rows = [];
  list = (put 1 1 a ∷ []) ∷ (put 1 2 a ∷ put 1 1 b ∷ []) ∷ (put 1 1 a ∷ []) ∷ (held ∷ []) ∷ (gone 1 1 ∷ []) ∷ [];
}

-- The first change above a snapshot is told, not the last; one that was changed back counts; what is held doesn't; a
-- delete does; other keys and tables don't.
first_above : late five 8 1 1 ≡ Some 9
first_above = refl

all_above : late five 7 1 1 ≡ Some 8
all_above = refl

changed_back : late five 9 1 1 ≡ Some 10
changed_back = refl

held_is_passed : late five 10 1 1 ≡ Some 12
held_is_passed = refl

none_above : late five 12 1 1 ≡ None
none_above = refl

other_key : late five 9 1 2 ≡ None
other_key = refl

other_table : late five 7 2 1 ≡ None
other_table = refl

-- A file of two tables, a block each, whose last commit has number 3.
abbrev start : State
start = opened (record { tables = 2; blocks = 1; segments = 1 }) 3 (record { table = 1; key = 1; value = a } ∷ []) (fresh_book ∷ []) []

abbrev set_to : ℕ → Mode → State → State
set_to s m h = with_isolation h s (isolation_at (last_scn h.commits) m)

-- Session 1 updates row 1 and commits.
abbrev update_by_one : List ℕ → State → State
update_by_one value h =
    let w = written h 1 0 0 (change_in h 0 1 1 (Update value)) in
    freeing (committed w 1 0 0) 1

abbrev rows_of : ℕ → State → List ℕ
rows_of s h = map (λ row. row.key) (cursor_rows h (opened_cursor h s a 1 0 9))

abbrev answer : ℕ → State → ℕ → Action → Answer
answer s h key action = first_of (write_tests h 1 0 s 1 key action) Done

-- *changed-back*: session 2 is serializable at 3; 4 and 5 change the row and change it back.
abbrev back_again : State
back_again = update_by_one a (update_by_one b (set_to 2 mode.Serializable start))

cannot_serialize : answer 2 back_again 1 (Update b) ≡ Refused (CantSerialize 3 4)
cannot_serialize = refl

-- a lock is a write too, and an insert of the row is refused for the same reason before it is one that is there
cannot_lock : answer 2 back_again 1 Lock ≡ Refused (CantSerialize 3 4)
cannot_lock = refl

cannot_insert : answer 2 back_again 1 (Insert b) ≡ Refused (CantSerialize 3 4)
cannot_insert = refl

-- another key isn't late, and in read committed no commit is
another_key : answer 2 back_again 2 (Update b) ≡ Refused NotFound
another_key = refl

in_read_committed : answer 3 back_again 1 (Update b) ≡ Done
in_read_committed = refl

-- Its cursors have the transaction's snapshot; those of others have the last number.
cursor_at_snapshot : ((opened_cursor back_again 2 a 1 0 9).number ≡ 3) × ((opened_cursor back_again 3 a 1 0 9).number ≡ 5)
cursor_at_snapshot = (refl, refl)

-- With the end of the transaction its mode ends; a rollback to a savepoint leaves it.
mode_ends : isolation_of (ended back_again 2 []) 2 ≡ isolation.ReadCommitted
mode_ends = refl

mode_stays : isolation_of (rolled_to back_again 2 a 0) 2 ≡ isolation.Serializable 3
mode_stays = refl

-- A mode can be set where there is none yet, nor a change, nor a savepoint. An open cursor doesn't matter.
abbrev setting : ℕ → State → Answer
setting s h = first_of (name_tests h (SetMode s mode.ReadOnly)) Done

after_a_query : setting 1 (with_cursors start 1 (opened_cursor start 1 a 1 0 9 ∷ [])) ≡ Done
after_a_query = refl

not_twice : setting 2 (set_to 2 mode.Serializable start) ≡ Refused NotFirst
not_twice = refl

not_behind_a_write : setting 1 (written start 1 0 0 (change_in start 0 1 1 Lock)) ≡ Refused NotFirst
not_behind_a_write = refl

not_behind_a_savepoint : setting 1 (with_savepoints start 1 (with_savepoint a 0 [])) ≡ Refused NotFirst
not_behind_a_savepoint = refl

read_committed_again : setting 2 (set_to 2 mode.ReadCommitted start) ≡ Done
read_committed_again = refl

-- A write of a read-only transaction is refused before its table is looked at, and not where the session waits.
abbrev asking : ℕ → ℕ → State → Answer
asking s table h = first_of (early_tests h (Write s table 1 Delete)) Done

read_only : asking 2 1 (set_to 2 mode.ReadOnly start) ≡ Refused ReadOnly
read_only = refl

before_the_table : asking 2 9 (set_to 2 mode.ReadOnly start) ≡ Refused ReadOnly
before_the_table = refl

table_is_tested : asking 2 9 (set_to 2 mode.Serializable start) ≡ Refused NoTable
table_is_tested = refl

waiting_first : asking 2 1 (record (set_to 2 mode.ReadOnly start) { queue = record { session = 2; on = Some 1 } ∷ [] }) ≡ Refused Waiting
waiting_first = refl
