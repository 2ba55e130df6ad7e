-- What commands may be answered, one after another: as the lines of a script, by lists of answers in place of texts.
use Rattle.std.specs.Prelude.{◌≡◌, ℕ, ◌+◌, ◌<◌, false, MatchBool, List, [], ◌∷◌, ◌++◌, Some}
use Rattle.rb_model.specs.Calls.{Answer}
use Rattle.rb_model.specs.Change.{Asked}
use Rattle.rb_model.specs.Lines.{Command, call_of, most_calls}
use Rattle.rb_model.specs.Out.{IsSettled, Logged, CallOut, Resumed, goes_on, Outside}
use Rattle.rb_model.specs.Queue.{first_ready}
use Rattle.rb_model.specs.State.{asked_of}

-- The calls of a command from its k-th on, `most` at most. They end at the first answer that is neither a row nor the
-- marks of a segment.
abbrev pub CallsAnswered : Logged → Outside → Command → (most k : ℕ) → List Answer → Logged → Type 0
CallsAnswered m outside c most k [] m2 = (k ≡ most) × (m2 ≡ m)
CallsAnswered m outside c most k (r ∷ answers) m2 =
    (k < most) × (middle : Logged) × CallOut m outside (call_of c k) r middle
    × MatchBool (goes_on r) (CallsAnswered middle outside c most (k + 1) answers m2)
    ((answers ≡ []) × (m2 ≡ middle))

-- Writes of ready sessions, that of the first ready one each time, until nothing is left to try.
abbrev pub ResumesAnswered : Logged → Outside → List Answer → Logged → Type 0
ResumesAnswered m outside [] m2 = IsSettled m × (m2 ≡ m)
ResumesAnswered m outside (r ∷ answers) m2 = (s : ℕ) × (asked : Asked) × (middle : Logged)
    × (m.state.stopped ≡ false) × (first_ready m.state.queue ≡ Some s) × (asked_of m.state s ≡ Some asked)
    × Resumed m outside s asked r middle × ResumesAnswered middle outside answers m2

-- A command, and the writes that it has made ready.
abbrev pub CommandAnswered : Logged → Outside → Command → List Answer → Logged → Type 0
CommandAnswered m outside c answers m2 = (own : List Answer) × (resumed : List Answer) × (middle : Logged)
    × CallsAnswered m outside c (most_calls m.state.shape c) 0 own middle × (answers ≡ own ++ resumed)
    × ResumesAnswered middle outside resumed m2

-- One command after another. Nothing follows once the disk has failed.
abbrev pub CommandsAnswered : Logged → Outside → List Command → List Answer → Logged → Type 0
CommandsAnswered m outside [] answers m2 = (answers ≡ []) × (m2 ≡ m)
CommandsAnswered m outside (c ∷ commands) answers m2 =
    (first : List Answer) × (rest : List Answer) × (middle : Logged) × CommandAnswered m outside c first middle
    × (answers ≡ first ++ rest)
    × MatchBool middle.state.stopped ((rest ≡ []) × (m2 ≡ middle))
    (CommandsAnswered middle outside commands rest m2)
