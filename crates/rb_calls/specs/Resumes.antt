-- Writes of ready sessions that are tried again, and what hears of them.
use Rattle.std.specs.Prelude.{◌≡◌, ℕ, ◌≤◌, Bool, false, List, [], ◌∷◌, length, Some}
use Rattle.rb_model.specs.Calls.{Answer, is_fault}
use Rattle.rb_model.specs.Change.{Asked}
use Rattle.rb_model.specs.Out.{IsSettled, Logged, Outside, Resumed}
use Rattle.rb_model.specs.Queue.{first_ready}
use Rattle.rb_model.specs.State.{asked_of}

-- The write of the first ready session was tried once more.
pub record TriedAgain (m : Logged) (outside : Outside) (w : ℕ) (r : Answer) (now : Logged) : Type 0 where
  pub asked : Asked
  pub known : asked_of m.state w ≡ Some asked
  pub ready : first_ready m.state.queue ≡ Some w
  pub resumed : Resumed m outside w asked r now
  pub stopped : now.state.stopped ≡ is_fault r

-- Writes of ready sessions, that of the first ready one each time, until nothing is left to try. Each has its session
-- and its answer.
abbrev pub AllResumed : Logged → Outside → List (ℕ × Answer) → Logged → Type 0
AllResumed m outside [] m2 = IsSettled m × (m2 ≡ m)
AllResumed m outside (r ∷ more) m2 =
    (middle : Logged) × (m.state.stopped ≡ false)
    × TriedAgain m outside r.0 r.1 middle × AllResumed middle outside more m2

-- What hears answers is this after all of them.
abbrev pub AllHeard : {L : Type 0} → (L → ℕ → Answer → L → Type 0) → L → List (ℕ × Answer) → L
    → Type 0
AllHeard {L} heard a [] b = b ≡ a
AllHeard {L} heard a (r ∷ more) b = (middle : L) × heard a r.0 r.1 middle × AllHeard heard middle more b

-- It has heard so many answers at most.
abbrev pub HeardFew : {L : Type 0} → (L → ℕ → Answer → L → Type 0) → ℕ → L → L → Type 0
HeardFew heard most a b =
    (answers : List (ℕ × Answer)) × (length answers ≤ most) × AllHeard heard a answers b

-- Writes were tried again until none was ready, or one failed, and all answers heard.
pub record HasResumed {L : Type 0} (heard : L → ℕ → Answer → L → Type 0) (start : Logged) (outside : Outside)
    (now : Logged) (before after : L) (failed : Bool) : Type 0 where
  pub answers : List (ℕ × Answer)
  pub resumed : AllResumed start outside answers now
  pub all_heard : AllHeard heard before answers after
  pub stopped : now.state.stopped ≡ failed
