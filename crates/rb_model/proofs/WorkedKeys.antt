-- Reads of one key, upserts and what sessions have under way, computed on worked rows.
use Rattle.std.proofs.Common.{arith, ◌≡◌, ◌++◌, ℕ, false, List, [], ◌∷◌, None, Some, refl}
use Rattle.std.specs.Prelude.{codes}
use Rattle.std.proofs.lemmas.Fmt.{decimal_digit}
use Rattle.rb_model.specs.Book.{fresh_book}
use Rattle.rb_model.specs.Calls.{Action, Delete, Upsert, Answer, Absent, Done, Get, Given, Idle, Refused, Show, Shown, Waits}
use Rattle.rb_model.specs.Calls.{early_tests, first_of, granted, write_tests}
use Rattle.rb_model.specs.Change.{put}
use Rattle.rb_model.specs.Lines.{reply_text}
use Rattle.rb_model.specs.NextState.{change_in, freeing, opened_cursor, queued, with_cursors, with_isolation, with_savepoint, with_savepoints, written}
use Rattle.rb_model.specs.State.{State, no_session}
use Rattle.rb_model.specs.declared.activity.Wait.TheVariants as wait
use Rattle.rb_model.specs.declared.mode.Isolation.TheVariants as isolation
use Rattle.rb_model.specs.declared.mode.Mode.TheVariants as mode
use Rattle.rb_model.specs.declared.refusal.Refusal.TheVariants.{NoSession, NoTable}

abbrev a : List ℕ
a = codes "a"

abbrev b : List ℕ
b = codes "b"

-- a file of one table, one block and one segment, of two commits that gave key 1 the values a and b, and two sessions
abbrev start : State
start = record {
  shape = record { tables = 1; blocks = 1; segments = 1 };
  commits = record { base = 0; rows = []; list = (put 1 1 a ∷ []) ∷ (put 1 1 b ∷ []) ∷ [] };
  sessions = no_session ∷ no_session ∷ [];
  books = fresh_book ∷ [];
  queue = [];
  asked = None ∷ None ∷ [];
  safe = 2;
  stopped = false;
}

-- what a write of session s in slot i answers, and makes
abbrev answer : ℕ → ℕ → State → ℕ → Action → Answer
answer s i h key action = first_of (write_tests h 2 0 s 1 key action) Done

abbrev write : ℕ → ℕ → State → ℕ → Action → State
write s i h key action = written h s 0 i (change_in h 0 1 key action)

-- A read of a key gives its last committed value, and tells where there is no row.
reads : granted start (Get 1 1 1) ≡ Given 1 b
reads = refl

reads_none : granted start (Get 1 1 2) ≡ Absent
reads_none = refl

-- It reads at the snapshot of a transaction that has one,
reads_before : granted (with_isolation start 1 (isolation.ReadOnly 1)) (Get 1 1 1) ≡ Given 1 a
reads_before = refl

-- with the session's own changes, and nobody else's.
abbrev changed : State
changed = write 1 0 start 1 Delete

reads_own : granted changed (Get 1 1 1) ≡ Absent
reads_own = refl

reads_others : granted changed (Get 2 1 1) ≡ Given 1 b
reads_others = refl

no_session_seventeen : first_of (early_tests start (Get 17 1 1)) Done ≡ Refused NoSession
no_session_seventeen = refl

no_table_two : first_of (early_tests start (Get 1 2 1)) Done ≡ Refused NoTable
no_table_two = refl

-- An upsert is done whether or not the key has a row,
puts_over : answer 1 0 start 1 (Upsert a) ≡ Done
puts_over = refl

puts_anew : answer 1 0 start 2 (Upsert a) ≡ Done
puts_anew = refl

puts_again : granted (write 1 0 changed 1 (Upsert a)) (Get 1 1 1) ≡ Given 1 a
puts_again = refl

-- and waits for who holds the row.
puts_later : answer 2 1 changed 1 (Upsert a) ≡ Waits 1
puts_later = refl

-- A session that has nothing under way isn't told.
idle : granted start (Show 1) ≡ Idle
idle = refl

idle_reply : reply_text None Idle ≡ []
idle_reply = refl

-- Of another one its changes, cursors, mode and wait are: here of one that waits for session 1.
abbrev busy : State
busy = queued (with_cursors (with_isolation changed 2 (isolation.Serializable 2)) 2 (opened_cursor changed 2 a 1 0 9 ∷ [])) 2
    (record { table = 1; key = 1; action = Upsert a }) 1

shows : granted busy (Show 2) ≡ Shown 2 (record { changes = 0; cursors = 1; mode = mode.Serializable; wait = wait.On 1 })
shows = refl

shows_changes : granted busy (Show 1) ≡ Shown 1 (record { changes = 1; cursors = 0; mode = mode.ReadCommitted; wait = wait.Free })
shows_changes = refl

shows_ready : granted (freeing busy 1) (Show 2) ≡ Shown 2 (record { changes = 0; cursors = 1; mode = mode.Serializable; wait = wait.Ready })
shows_ready = refl

-- a savepoint alone is something
shows_savepoint : granted (with_savepoints start 1 (with_savepoint a 0 [])) (Show 1) ≡ Shown 1 (record { changes = 0; cursors = 0; mode = mode.ReadCommitted; wait = wait.Free })
shows_savepoint = refl

shown_reply : reply_text None (granted busy (Show 2)) ≡ codes "session 2 changes 0 cursors 1 mode serializable waits 1" ++ 10 ∷ []
shown_reply = rw (decimal_digit 2 (omega arith), decimal_digit 0 (omega arith), decimal_digit 1 (omega arith)) refl

ready_reply : reply_text None (granted (freeing busy 1) (Show 2)) ≡ codes "session 2 changes 0 cursors 1 mode serializable ready" ++ 10 ∷ []
ready_reply = rw (decimal_digit 2 (omega arith), decimal_digit 0 (omega arith), decimal_digit 1 (omega arith)) refl

absent_reply : reply_text (Some 1) Absent ≡ codes "1 not found" ++ 10 ∷ []
absent_reply = rw (decimal_digit 1 (omega arith)) refl
