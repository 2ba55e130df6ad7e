-- What a line runner did with lines.
use Rattle.std.specs.Prelude.{◌≡◌, ◌⊎◌, ℕ, ◌<◌, ◌≤◌, true, false, List, ◌∷◌}
use Rattle.std.specs.Prelude.{◌++◌, length, take, Result, Ok, Err}
use Rattle.rb_model.specs.Lines.{Command, Spells, most_calls, without_return}
use Rattle.rb_model.specs.Out.{Outside, Logged, CallsOut, LineOut, Out}
use Rattle.rb_lines.specs.declared.runner.StepFault.{StepFault}
use Rattle.rb_lines.specs.declared.runner.StepFault.TheVariants.{Disk, Sink}

-- Replies as a relation allows them, the state after them, and that the sink holds them then, where it tells.
pub record Replied (allows : List ℕ → Logged → Type 0) (now : Logged) (tells : Type 0)
    (held_before held_now : List ℕ) : Type 0 where
  pub out : List ℕ
  pub reply : allows out now
  pub written : tells → held_now ≡ held_before ++ out

-- The first calls of a command, two or more: only where one leaves no room for its reply are those before it sent.
abbrev pub CallsBegun : Logged → Outside → Command → List ℕ → Logged → Type 0
CallsBegun m outside c out m2 =
    (count : ℕ) × (1 < count) × (count ≤ most_calls m.state.shape c) × CallsOut m outside c 0 count out m2

-- What a line does, or the first calls of its command and nothing after them.
abbrev pub LineBegun : Logged → Outside → List ℕ → List ℕ → Logged → Type 0
LineBegun m outside line out m2 = LineOut m outside line out m2
    ⊎ ((length line ≤ 512) × (c : Command) × Spells (without_return line) c × CallsBegun m outside c out m2)

-- A front of replies as a relation allows them, and the state after what was done for them.
pub record CutShort (begun : List ℕ → Logged → Type 0) (now : Logged) (held_before held_now : List ℕ) : Type 0
  where
    pub out : List ℕ
    pub reply : begun out now
    pub size : ℕ
    pub written : held_now ≡ held_before ++ take size out

-- What was replied, by the answer: after a fault of the disk the state is stopped, and one of the sink cuts off what
-- was begun.
abbrev pub RepliedAs : (allows begun : List ℕ → Logged → Type 0) → Logged → Type 0 → List ℕ → List ℕ
    → Result (Unit {0}) StepFault → Type 0
RepliedAs allows begun now tells held_before held_now (Ok done) =
    Replied allows now tells held_before held_now × (now.state.stopped ≡ false)
RepliedAs allows begun now tells held_before held_now (Err Disk) =
    Replied allows now tells held_before held_now × (now.state.stopped ≡ true)
RepliedAs allows begun now tells held_before held_now (Err Sink) = tells → CutShort begun now held_before held_now

-- the same of one line
abbrev pub LineRanAs : Outside → Logged → Logged → List ℕ → Type 0 → List ℕ → List ℕ
    → Result (Unit {0}) StepFault → Type 0
LineRanAs outside before now line tells held_before held_now result =
    RepliedAs (LineOut before outside line) (LineBegun before outside line) now tells held_before held_now result

-- It did these lines one after another.
pub record Ran (outside : Outside) (before now : Logged) (lines : List (List ℕ)) (tells : Type 0)
    (held_before held_now : List ℕ) : Type 0 where
  pub out : List ℕ
  pub replies : Out before outside lines out now
  pub written : tells → held_now ≡ held_before ++ out

-- It was cut off in one of these lines: the sink holds all replies of those before it, and a front of its own. It ends
-- where it was cut, and no line after it was begun.
pub record CutIn (outside : Outside) (before now : Logged) (lines : List (List ℕ))
    (held_before held_now : List ℕ) : Type 0 where
  pub done : List (List ℕ)
  pub line : List ℕ
  pub more : List (List ℕ)
  pub split : lines ≡ done ++ line ∷ more
  pub middle : Logged
  pub held : List ℕ
  pub ran : Ran outside before middle done (Unit {0}) held_before held
  pub going : middle.state.stopped ≡ false
  pub cut : CutShort (LineBegun middle outside line) now held held_now

-- What it did with lines, by the answer. After a fault of the disk it is stopped, so that nothing follows.
abbrev pub RanAs : Outside → Logged → Logged → List (List ℕ) → Type 0 → List ℕ → List ℕ
    → Result (Unit {0}) StepFault → Type 0
RanAs outside before now lines tells held_before held_now (Ok done) =
    Ran outside before now lines tells held_before held_now × (now.state.stopped ≡ false)
RanAs outside before now lines tells held_before held_now (Err Disk) =
    Ran outside before now lines tells held_before held_now × (now.state.stopped ≡ true)
RanAs outside before now lines tells held_before held_now (Err Sink) =
    tells → CutIn outside before now lines held_before held_now

-- From a state that a runner stood for it came to another, which it stands for now, and did on the way what `As` says.
pub record Did {M : Type 0} (stands : M → Logged → Type 0) (since : M → M → Logged → Logged
    → Type 0) (old new : M)
    (before : Logged) (As : Logged → Type 0) : Type 0 where
  pub now : Logged
  pub reached : stands new now
  pub passed : since old new before now
  pub ran : As now
