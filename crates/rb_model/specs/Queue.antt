-- The queue of the sessions that wait for the end of another one's transaction, or are ready to try their writes again,
-- in order of arrival.
use Rattle.std.specs.Prelude.{◌≡◌, ℕ, zero, suc, ◌==◌, Bool, false, not, ◌||◌}
use Rattle.std.specs.Prelude.{if◌then◌else◌, is_none, List, [], ◌∷◌, ◌++◌, length, map, filter}
use Rattle.std.specs.Prelude.{Option, None, Some}
use Rattle.std.specs.List.{count_by, list_any}

pub record Waiter : Type 0 where
  pub session : ℕ
  -- for whom it waits; one that is ready waits for nobody
  pub on : Option ℕ

abbrev pub is_queued : ℕ → List Waiter → Bool
is_queued s queue = list_any (λ w. w.session == s) queue

-- for whom a session waits
abbrev pub waits_for : ℕ → List Waiter → Option ℕ
waits_for s [] = None
waits_for s (w ∷ queue) = if w.session == s then w.on else waits_for s queue

-- its place in the queue, where it has one: for whom it waits there, if it isn't ready
abbrev pub place_of : ℕ → List Waiter → Option (Option ℕ)
place_of s [] = None
place_of s (w ∷ queue) = if w.session == s then Some w.on else place_of s queue

-- Following "waits for" from session u reaches s.
pub data Reaches (queue : List Waiter) (s : ℕ) : ℕ → Type 0 where
  here : Reaches queue s s
  further : (u v : ℕ) → waits_for u queue ≡ Some v → Reaches queue s v → Reaches queue s u

-- there is one, and it passes the test
abbrev pub is_some_that : (ℕ → Bool) → Option ℕ → Bool
is_some_that passes None = false
is_some_that passes (Some v) = passes v

-- so it does in at most so many steps
abbrev pub leads : ℕ → List Waiter → ℕ → ℕ → Bool
leads zero queue s u = u == s
leads (suc n) queue s u = (u == s) || is_some_that (leads n queue s) (waits_for u queue)

-- Where s waits for u as well, they wait in a ring. No way through the queue has more steps than it has sessions.
abbrev pub closes : List Waiter → ℕ → ℕ → Bool
closes queue s u = leads (length queue) queue s u

-- the ready session that came first
abbrev pub first_ready : List Waiter → Option ℕ
first_ready [] = None
first_ready (w ∷ queue) = if is_none w.on then Some w.session else first_ready queue

-- how many are ready
abbrev pub ready_count : List Waiter → ℕ
ready_count queue = count_by (λ w. is_none w.on) queue

-- with a session that begins to wait for u, behind all others
abbrev pub waiting : ℕ → ℕ → List Waiter → List Waiter
waiting s u queue = queue ++ record { session = s; on = Some u } ∷ []

abbrev pub left_by : ℕ → List Waiter → List Waiter
left_by s queue = filter (λ w. not (w.session == s)) queue

-- those that waited for u are ready
abbrev pub freed_by : ℕ → List Waiter → List Waiter
freed_by u queue =
    map (λ w. if is_some_that (λ v. v == u) w.on then record { session = w.session; on = None } else w) queue
