-- The queue of waiting sessions, computed on worked rows.
use Rattle.std.proofs.Common.{◌≡◌, ◌-◌, ℕ, true, false, List, [], ◌∷◌, None, Some, refl}
use Rattle.rb_model.specs.Book.{fresh_book}
use Rattle.rb_model.specs.Calls.{Action, Update, Insert, Answer, Done, Waits, Refused, Commit, Cancel, early_tests, first_of, name_tests, write_tests}
use Rattle.rb_model.specs.NextState.{change_in, committed, freeing, queued, unqueued, written}
use Rattle.rb_model.specs.Queue.{Waiter, closes, first_ready, freed_by, is_queued, left_by, waiting, waits_for}
use Rattle.rb_model.specs.State.{State, asked_of, opened}
use Rattle.rb_model.specs.declared.refusal.Refusal.TheVariants as Refusal
use Rattle.rb_model.specs.declared.refusal.Refusal.TheVariants.{Deadlock, NotWaiting}

-- Sessions 1, 2 and 3 hold the rows of their numbers; session 1 asks for row 2, and session 2 for row 3.
abbrev two_wait : List Waiter
two_wait = waiting 2 3 (waiting 1 2 [])

first_waits : waits_for 1 two_wait ≡ Some 2
first_waits = refl

holder_waits_for_none : waits_for 3 two_wait ≡ None
holder_waits_for_none = refl

-- Session 3 would close the ring if it waited for 1, or for 2; a fourth one would not.
ring_of_three : closes two_wait 3 1 ≡ true
ring_of_three = refl

ring_of_two : closes two_wait 3 2 ≡ true
ring_of_two = refl

no_ring : closes two_wait 4 1 ≡ false
no_ring = refl

-- nor would the second wait of a session whose own waiter waits for nobody
not_behind : closes (waiting 2 1 []) 3 2 ≡ false
not_behind = refl

-- Once session 3 commits, session 2 is ready, and session 1 goes on waiting for it.
second_is_ready : first_ready (freed_by 3 two_wait) ≡ Some 2
second_is_ready = refl

first_goes_on : waits_for 1 (freed_by 3 two_wait) ≡ Some 2
first_goes_on = refl

no_ring_any_more : closes (freed_by 3 two_wait) 3 2 ≡ false
no_ring_any_more = refl

-- Three wait for session 1, the first of them leaves, and 1 commits: who came first is ready first; once it holds the row,
-- the other waits for it, behind all.
abbrev three_wait : List Waiter
three_wait = waiting 4 1 (waiting 3 1 (waiting 2 1 []))

third_is_first : first_ready (freed_by 1 (left_by 2 three_wait)) ≡ Some 3
third_is_first = refl

fourth_is_next : first_ready (left_by 3 (freed_by 1 (left_by 2 three_wait))) ≡ Some 4
fourth_is_next = refl

fourth_waits_again : waits_for 4 (waiting 4 3 (left_by 4 (left_by 3 (freed_by 1 (left_by 2 three_wait))))) ≡ Some 3
fourth_waits_again = refl

nobody_else : is_queued 2 (left_by 2 three_wait) ≡ false
nobody_else = refl

-- The same queues in the machine's state: sessions 1, 2 and 3 of a new file hold the rows of their numbers.
abbrev a : List ℕ
a = 97 ∷ []

abbrev holding : State
holding =
    let h = opened (record { tables = 1; blocks = 1; segments = 1 }) 0 [] (fresh_book ∷ []) [] in
    let h1 = written h 1 0 0 (change_in h 0 1 1 (Insert a)) in
    let h2 = written h1 2 0 1 (change_in h1 0 1 2 (Insert a)) in written h2 3 0 2 (change_in h2 0 1 3 (Insert a))

abbrev answer : State → ℕ → ℕ → Action → Answer
answer h s key action = first_of (write_tests h 3 0 s 1 key action) Done

-- the write of a key by a session that has to wait for another one
abbrev waits : State → ℕ → ℕ → ℕ → State
waits h s key on = queued h s (record { table = 1; key = key; action = Update a }) on

abbrev ring : State
ring = waits (waits holding 1 2 2) 2 3 3

waits_for_2 : answer holding 1 2 (Update a) ≡ Waits 2
waits_for_2 = refl

waits_for_3 : answer (waits holding 1 2 2) 2 3 (Update a) ≡ Waits 3
waits_for_3 = refl

deadlock : answer ring 3 1 (Update a) ≡ Refused (Deadlock 1)
deadlock = refl

own_row : answer ring 3 3 (Update a) ≡ Done
own_row = refl

fourth_waits : answer ring 4 1 (Update a) ≡ Waits 1
fourth_waits = refl

-- one that waits does nothing but cancel, which another one can't
refused_waiting : first_of (early_tests ring (Commit 1)) Done ≡ Refused Refusal.Waiting
refused_waiting = refl

may_cancel : first_of (name_tests ring (Cancel 1)) Done ≡ Done
may_cancel = refl

not_waiting : first_of (name_tests ring (Cancel 3)) Done ≡ Refused NotWaiting
not_waiting = refl

cancelled : first_of (early_tests (unqueued ring 1) (Commit 1)) Done ≡ Done
cancelled = refl

-- Once session 3 has committed, session 2 is ready with its write, and 1 goes on waiting. Out of the queue it is done.
abbrev third_done : State
third_done = freeing (committed ring 3 0 2) 3

ready_with : (first_ready third_done.queue ≡ Some 2) × (asked_of third_done 2 ≡ Some (record { table = 1; key = 3; action = Update a }))
ready_with = (refl, refl)

still_refused : first_of (early_tests third_done (Commit 2)) Done ≡ Refused Refusal.Waiting
still_refused = refl

resumed : answer (unqueued third_done 2) 2 3 (Update a) ≡ Done
resumed = refl

nobody_ready : first_ready (unqueued third_done 2).queue ≡ None
nobody_ready = refl

-- What another session has taken meanwhile has to be waited for again, behind all others.
waits_again : (queued (unqueued third_done 2) 2 (record { table = 1; key = 3; action = Update a }) 4).queue
    ≡ record { session = 1; on = Some 2 } ∷ record { session = 2; on = Some 4 } ∷ []
waits_again = refl
