-- Dead transactions: those that had a table slot as the file was opened. Each is a session behind the sixteen, which no
-- call can name, with its live changes and nothing else. They go one by one, whole, or are swept change by change.
use Rattle.std.specs.Prelude.{◌≡◌, ◌≤◌, ◌+◌, ◌-◌, ◌*◌, ◌/◌, ◌%◌, ◌==◌, ℕ, min}
use Rattle.std.specs.Prelude.{nat_lt, Bool, true, cond, List, [], ◌∷◌, length, take, Option, Some, None}
use Rattle.std.specs.List.{list_any, range_with_len, sum_by}
use Rattle.rb_model.specs.Book.{Owner, book_at}
use Rattle.rb_model.specs.Ended.{ended, with_own, without_owner}
use Rattle.rb_model.specs.State.{State, owner_at, session_count, session_of, session_own}
use Rattle.rb_model.specs.Tests.{is_in_home}

-- the number is that of a dead transaction
abbrev pub is_dead : ℕ → Bool
is_dead s = nat_lt session_count s

-- the dead transaction that owns a slot
abbrev pub dead_owner : Option Owner → Option ℕ
dead_owner None = None
dead_owner (Some o) = cond (is_dead o.session) (Some o.session) None

-- and table slot t, counted over all segments
abbrev pub dead_at : State → ℕ → Option ℕ
dead_at h t = dead_owner (owner_at h t)

-- dead transaction d of slot t put back whole: it has no change left, and its slot no owner
abbrev pub without : ℕ → ℕ → State → State
without t d h = without_owner (t / 16) (t % 16) (ended h d [])

-- the dead transaction of slot t goes where that holds of it
abbrev pub gone : (State → ℕ → Bool) → ℕ → Option ℕ → State → State
gone goes t None h = h
gone goes t (Some d) h = cond (goes h d) (without t d h) h

-- of these slots, one after another, each dead transaction goes of which that holds
abbrev pub all_gone : (State → ℕ → Bool) → List ℕ → State → State
all_gone goes [] h = h
all_gone goes (t ∷ slots) h = all_gone goes slots (gone goes t (dead_at h t) h)

abbrev pub all_slots : State → List ℕ
all_slots h = range_with_len 0 (16 * h.shape.segments)

-- one of its live changes is in the home of that key
abbrev pub works_at : ℕ → ℕ → State → ℕ → Bool
works_at table key h d = list_any (is_in_home h.shape table key) (session_own h d)

-- the state without the dead that have a live change in the home of a key
abbrev pub home_cleared : ℕ → ℕ → State → State
home_cleared table key h = all_gone (works_at table key) (all_slots h) h

-- without the dead of segment g
abbrev pub segment_cleared : ℕ → State → State
segment_cleared g h = all_gone (λ h d. true) (range_with_len (16 * g) 16) h

-- how many changes a sweep of k takes of the dead transaction of a slot
abbrev pub swept_from : ℕ → State → Option ℕ → ℕ
swept_from k h None = 0
swept_from k h (Some d) = min k (length (session_own h d))

-- it takes the newest, and the transaction goes whole where none is left
abbrev pub swept_at : ℕ → ℕ → Option ℕ → State → State
swept_at k t None h = h
swept_at k t (Some d) h =
    cond (length (session_own h d) - min k (length (session_own h d)) == 0) (without t d h)
    (with_own h d (take (length (session_own h d) - min k (length (session_own h d))) (session_own h d)))

-- a sweep of k changes over these slots, the lowest first
abbrev pub swept : ℕ → List ℕ → State → State
swept k [] h = h
swept k (t ∷ slots) h = swept (k - swept_from k h (dead_at h t)) slots (swept_at k t (dead_at h t) h)

-- and how many changes it takes
abbrev pub swept_count : ℕ → List ℕ → State → ℕ
swept_count k [] h = 0
swept_count k (t ∷ slots) h = swept_from k h (dead_at h t)
    + swept_count (k - swept_from k h (dead_at h t)) slots (swept_at k t (dead_at h t) h)

-- how many live changes the dead of a slot have, and of these slots
abbrev pub dead_changes_at : State → Option ℕ → ℕ
dead_changes_at h None = 0
dead_changes_at h (Some d) = length (session_own h d)

abbrev pub dead_changes : List ℕ → State → ℕ
dead_changes [] h = 0
dead_changes (t ∷ slots) h = dead_changes_at h (dead_at h t) + dead_changes slots h

-- how many groups put back what the dead of a slot have, and all the dead: one for each change, and one for the end
abbrev pub dead_owed_at : State → Option ℕ → ℕ
dead_owed_at h None = 0
dead_owed_at h (Some d) = length (session_own h d) + 1

abbrev pub dead_owed : State → ℕ
dead_owed h = sum_by (λ t. dead_owed_at h (dead_at h t)) (all_slots h)

-- All but the dead, and the slots that they have, is in one state as in another.
pub record KeepsRest (h h2 : State) : Type 0 where
  pub shape : h2.shape ≡ h.shape
  pub commits : h2.commits ≡ h.commits
  pub queue : h2.queue ≡ h.queue
  pub asked : h2.asked ≡ h.asked
  pub safe : h2.safe ≡ h.safe
  pub stopped : h2.stopped ≡ h.stopped
  pub many : length h2.sessions ≡ length h.sessions
  pub living : (s : ℕ) → 1 ≤ s → s ≤ session_count → session_of h2 s ≡ session_of h s
  pub marks : (g : ℕ) → ((book_at h2.books g).writes ≡ (book_at h.books g).writes)
      × ((book_at h2.books g).lost ≡ (book_at h.books g).lost)
