-- What calls, commands and a whole run of the generator came to.
use Rattle.std.specs.Prelude.{◌≡◌, ℕ, Bool, true, false, List, [], ◌∷◌, ◌++◌, Result, Ok, Err}
use Rattle.rb_base.specs.declared.faults.Failed.{Failed}
use Rattle.rb_generator.specs.Answered.{CommandsAnswered}
use Rattle.rb_generator.specs.Counted.{counts_of, plus}
use Rattle.rb_generator.specs.Draws.{commands_of}
use Rattle.rb_generator.specs.declared.counts.Counts.{Counts}
use Rattle.rb_model.specs.Calls.{Answer, Refused}
use Rattle.rb_model.specs.Out.{Logged, Outside}
use Rattle.rb_model.specs.declared.refusal.Refusal.TheVariants.{DiskFault}

-- the last answer tells of a fault of the disk
abbrev pub EndsInFault : List Answer → Type 0
EndsInFault answers = (front : List Answer) × (answers ≡ front ++ Refused DiskFault ∷ [])

-- Answers up to a state: it is stopped behind a fault of the disk, which is the last of them, and goes on else.
abbrev pub StopsBy : Bool → List Answer → Logged → Type 0
StopsBy true answers now = EndsInFault answers × (now.state.stopped ≡ true)
StopsBy false answers now = now.state.stopped ≡ false

-- Answers as a relation allows them were added to counts, up to a fault of the disk, if there was one.
pub record HasCounted (allows : List Answer → Logged → Type 0) (now : Logged) (before after : Counts)
    (fault : Bool) : Type 0 where
  pub answers : List Answer
  pub allowed : allows answers now
  pub counted : after ≡ plus before (counts_of answers)
  pub stops : StopsBy fault answers now

-- A run of so many commands by its end: all were answered, and these are the counts of the answers; or a fault of the
-- disk was the last answer.
abbrev pub EndsAs : List Answer → Logged → Result Counts Failed → Type 0
EndsAs answers now (Ok counts) = (counts ≡ counts_of answers) × StopsBy false answers now
EndsAs answers now (Err failed) = StopsBy true answers now

pub record HasGenerated (m : Logged) (outside : Outside) (n : ℕ) (now : Logged) (result : Result Counts Failed) : Type
    0 where
  pub answers : List Answer
  pub answered : CommandsAnswered m outside (commands_of m.state.shape n) answers now
  pub ends : EndsAs answers now result
