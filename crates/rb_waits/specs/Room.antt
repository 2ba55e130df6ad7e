-- How many sessions a queue can have, and what its calls leave of that.
use Rattle.std.specs.Prelude.{◌≡◌, ◌≢◌, ◌<◌, ◌≤◌, ℕ, ◌==◌, ◌||◌, true, false}
use Rattle.std.specs.Prelude.{List, [], ◌∷◌, length, ⊤, Some, None}
use Rattle.rb_model.specs.Queue.{Waiter, first_ready, freed_by, is_queued, left_by, ready_count, waiting}
use Rattle.rb_model.specs.State.{session_count}

-- each of them is a session that there is, and stands there once
abbrev pub AreQueuedOnce : List Waiter → Type 0
AreQueuedOnce [] = ⊤
AreQueuedOnce (w ∷ queue) =
    (1 ≤ w.session) × (w.session ≤ session_count) × (is_queued w.session queue ≡ false) × AreQueuedOnce queue

-- so a queue of so many has room for all sessions, and for one more where one isn't in it
abbrev pub HasRoom : ℕ → Type 0
HasRoom most = (queue : List Waiter) → AreQueuedOnce queue → (length queue ≤ most)
    × ((s : ℕ) → 1 ≤ s → s ≤ session_count → is_queued s queue ≡ false → length queue < most)

-- Each stands there once, too, after a session that wasn't there begins to wait,
abbrev pub WaitKeeps : Type 0
WaitKeeps = (s u : ℕ) (queue : List Waiter) → AreQueuedOnce queue → 1 ≤ s → s ≤ session_count
    → is_queued s queue ≡ false → AreQueuedOnce (waiting s u queue)

-- after one leaves,
abbrev pub LeaveKeeps : Type 0
LeaveKeeps = (s : ℕ) (queue : List Waiter) → AreQueuedOnce queue → AreQueuedOnce (left_by s queue)

-- and after those that waited for one are freed.
abbrev pub FreeKeeps : Type 0
FreeKeeps = (u : ℕ) (queue : List Waiter) → AreQueuedOnce queue → AreQueuedOnce (freed_by u queue)

-- who is in the queue after a session begins to wait
abbrev pub WaitAdds : Type 0
WaitAdds = (s on u : ℕ) (queue : List Waiter) → is_queued u (waiting s on queue) ≡ (is_queued u queue || (s == u))

-- one that leaves isn't in it any more
abbrev pub LeftIsOut : Type 0
LeftIsOut = (s : ℕ) (queue : List Waiter) → is_queued s (left_by s queue) ≡ false

-- and the others are as before
abbrev pub OthersStay : Type 0
OthersStay = (s u : ℕ) (queue : List Waiter) → u ≢ s → is_queued u (left_by s queue) ≡ is_queued u queue

-- those that are freed stay in it
abbrev pub FreedStay : Type 0
FreedStay = (u s : ℕ) (queue : List Waiter) → is_queued s (freed_by u queue) ≡ is_queued s queue

-- who is ready is a session that there is, and stands in the queue
abbrev pub ReadyIsThere : Type 0
ReadyIsThere = (s : ℕ) (queue : List Waiter) → AreQueuedOnce queue → first_ready queue ≡ Some s
    → (1 ≤ s) × (s ≤ session_count) × (is_queued s queue ≡ true)

-- no more are ready than are in it
abbrev pub FewReady : Type 0
FewReady = (queue : List Waiter) → ready_count queue ≤ length queue

-- fewer are ready after the first of them leaves
abbrev pub ReadyLeaves : Type 0
ReadyLeaves = (s : ℕ) (queue : List Waiter) → first_ready queue ≡ Some s → AreQueuedOnce queue
    → ready_count (left_by s queue) < ready_count queue

-- where none is, there is no first one
abbrev pub NoneReady : Type 0
NoneReady = (queue : List Waiter) → ready_count queue ≡ 0 → first_ready queue ≡ None

-- one that begins to wait isn't ready
abbrev pub WaitNotReady : Type 0
WaitNotReady = (s u : ℕ) (queue : List Waiter) → ready_count (waiting s u queue) ≡ ready_count queue
