-- How many groups the dead owe: none where no slot is a dead one's, and as many as before where a session that lives
-- does something.
use Rattle.std.proofs.Common.{◌≡◌, inl, inr, ◌<◌, ◌≤◌, ◌+◌, ◌-◌, ◌*◌, ◌/◌, ◌%◌, ℕ, zero, suc, List, set, Option, Some, None, refl, ◌∙◌, ap, arith}
use Rattle.std.proofs.lemmas.Bool.{cases_eq}
use Rattle.std.proofs.lemmas.List.Sums.{sum_by-cons}
use Rattle.std.specs.List.{range_with_len, sum_by}
use Rattle.rb_model.specs.Book.{book_at}
use Rattle.rb_model.specs.Calls.{Owned, WritesIn}
use Rattle.rb_model.specs.Change.{Asked, Change}
use Rattle.rb_model.specs.Dead.{all_slots, dead_at, dead_owed, dead_owed_at, home_cleared, segment_cleared, swept, swept_at, swept_count, swept_from, works_at}
use Rattle.rb_model.specs.NextState.{EndsAs, committed, ended, freeing, queued, rolled_to, unqueued, with_cursors, with_isolation, with_own, with_savepoints, without_owner, written}
use Rattle.rb_model.specs.State.{Cursor, Savepoint, Session, State, all_safe, session_count}
use Rattle.rb_model.specs.declared.mode.Isolation.{Isolation}
use Rattle.law_dead.proofs.Leaving.{book_set, finished_in, left_dead, moves, owes_same, owned_none, written_dead}
use Rattle.law_dead.proofs.Room.{cleared_keeps, none_goes}

-- None owes where no group is owed.

sum_none : (f : ℕ → ℕ) (a n : ℕ) → sum_by f (range_with_len a n) ≡ 0 → (t : ℕ) → a ≤ t → t < a + n → f t ≡ 0
sum_none f a zero none t low high = absurd (omega (arith, low, high))
sum_none f a (suc n) none t low high =
    let sum = sum_by-cons f a (range_with_len (a + 1) n) in
    elim (cases_eq t a) [
      | inl at ↦ ap f at ∙ omega (arith, none, sum)
      | inr ne ↦ sum_none f (a + 1) n (omega (arith, none, sum)) t (omega (arith, low, ne)) (omega (arith, high))
    ]

owed_none : (h : State) (o : Option ℕ) → dead_owed_at h o ≡ 0 → o ≡ None
owed_none h None none = refl
owed_none h (Some d) none = absurd (omega (arith, none))

pub owes_none : (h : State) → dead_owed h ≡ 0 → (t : ℕ) → t < 16 * h.shape.segments → dead_at h t ≡ None
owes_none h none t within = owed_none h (dead_at h t) (sum_none (λ t. dead_owed_at h (dead_at h t)) 0 (16 * h.shape.segments) none t (omega arith) (omega (arith, within)))

swept_none : (a n k : ℕ) (h : State) → ((t : ℕ) → a ≤ t → t < a + n → dead_at h t ≡ None) → swept k (range_with_len a n) h ≡ h
swept_none a zero k h none = refl
swept_none a (suc n) k h none =
    ap (λ (o : Option ℕ). swept (k - swept_from k h o) (range_with_len (a + 1) n) (swept_at k a o h)) (none a (omega arith) (omega arith))
    ∙ swept_none (a + 1) n (k - 0) h (λ t low high. none t (omega (arith, low)) (omega (arith, high)))

counts_none : (a n k : ℕ) (h : State) → ((t : ℕ) → a ≤ t → t < a + n → dead_at h t ≡ None) → swept_count k (range_with_len a n) h ≡ 0
counts_none a zero k h none = refl
counts_none a (suc n) k h none =
    let here = ap (λ (o : Option ℕ). swept_from k h o + swept_count (k - swept_from k h o) (range_with_len (a + 1) n) (swept_at k a o h)) (none a (omega arith) (omega arith)) in
    let rest = counts_none (a + 1) n (k - 0) h (λ t low high. none t (omega (arith, low)) (omega (arith, high))) in
    omega (arith, here, rest)

pub home_calm : (h : State) (table key : ℕ) → dead_owed h ≡ 0 → home_cleared table key h ≡ h
home_calm h table key none = none_goes (works_at table key) 0 (16 * h.shape.segments) h (λ t low high. owes_none h none t (omega (arith, high)))

pub segment_calm : (h : State) (g : ℕ) → dead_owed h ≡ 0 → g < h.shape.segments → segment_cleared g h ≡ h
segment_calm h g none there = cleared_keeps h g (λ i within. owes_none h none (16 * g + i) (omega (arith, within, there)))

pub sweep_calm : (h : State) (k : ℕ) → dead_owed h ≡ 0 → swept k (all_slots h) h ≡ h
sweep_calm h k none = swept_none 0 (16 * h.shape.segments) k h (λ t low high. owes_none h none t (omega (arith, high)))

pub count_calm : (h : State) (k : ℕ) → dead_owed h ≡ 0 → swept_count k (all_slots h) h ≡ 0
count_calm h k none = counts_none 0 (16 * h.shape.segments) k h (λ t low high. owes_none h none t (omega (arith, high)))

-- What one of the sixteen does leaves what the dead owe.

module _ (h : State) (s : ℕ) (few : s ≤ session_count) where
  -- another session in its place
  pub session_owes : (session : Session) → dead_owed (record h { sessions = set h.sessions (s - 1) session }) ≡ dead_owed h
  session_owes session = owes_same h (record h { sessions = set h.sessions (s - 1) session }) refl (moves h _ _ s session few refl refl (λ t. refl))

  pub own_owes : (front : List Change) → dead_owed (with_own h s front) ≡ dead_owed h
  own_owes front = session_owes _

  pub cursors_owe : (cursors : List Cursor) → dead_owed (with_cursors h s cursors) ≡ dead_owed h
  cursors_owe cursors = session_owes _

  pub isolation_owes : (isolation : Isolation) → dead_owed (with_isolation h s isolation) ≡ dead_owed h
  isolation_owes isolation = session_owes _

  pub savepoints_owe : (savepoints : List Savepoint) → dead_owed (with_savepoints h s savepoints) ≡ dead_owed h
  savepoints_owe savepoints = session_owes _

  pub rolled_owes : (name : List ℕ) (kept : ℕ) → dead_owed (rolled_to h s name kept) ≡ dead_owed h
  rolled_owes name kept = session_owes _

  pub ended_owes : (cursors : List Cursor) → dead_owed (ended h s cursors) ≡ dead_owed h
  ended_owes cursors = session_owes _

  pub written_owes : (g i : ℕ) (c : Change) → WritesIn h s g i → dead_owed (written h s g i c) ≡ dead_owed h
  written_owes g i c writes = owes_same h (written h s g i c) refl (moves h _ _ s _ few refl refl (λ t. written_dead h s g i t few writes))

  pub committed_owes : (g i : ℕ) → Owned h s g i → dead_owed (committed h s g i) ≡ dead_owed h
  committed_owes g i owned = owes_same h (committed h s g i) refl (moves h _ _ s _ few refl refl (λ t. finished_in h _ s g i t few owned))

  -- the end of its transaction, with the slot that it had
  pub left_owes : (g i : ℕ) (cursors : List Cursor) → Owned h s g i → dead_owed (without_owner g i (ended h s cursors)) ≡ dead_owed h
  left_owes g i cursors owned =
      owes_same h (without_owner g i (ended h s cursors)) refl
      (moves h _ _ s _ few refl refl (λ t. book_set h.books g (t / 16) (t % 16) _ (left_dead i (t % 16) (book_at h.books g) (owned_none h s g i few owned))))

  pub ends_owe : (h2 : State) (cursors : List Cursor) → EndsAs h s cursors h2 → dead_owed h2 ≡ dead_owed h
  ends_owe h2 cursors (inl (g, i, owned, e)) = ap dead_owed e ∙ left_owes g i cursors owned
  ends_owe h2 cursors (inr (none, e)) = ap dead_owed e ∙ ended_owes cursors

-- and nothing of these touches sessions or books
pub queued_owes : (h : State) (s : ℕ) (asked : Asked) (u : ℕ) → dead_owed (queued h s asked u) ≡ dead_owed h
queued_owes h s asked u = refl

pub unqueued_owes : (h : State) (s : ℕ) → dead_owed (unqueued h s) ≡ dead_owed h
unqueued_owes h s = refl

pub freeing_owes : (h : State) (s : ℕ) → dead_owed (freeing h s) ≡ dead_owed h
freeing_owes h s = refl

pub safe_owes : (h : State) → dead_owed (all_safe h) ≡ dead_owed h
safe_owes h = refl
