-- What a run of the generator over a file does.
use Rattle.std.specs.Prelude.{◌≡◌, ◌≢◌, ℕ, Bool, false, List, ◌++◌, take}
use Rattle.rb_base.specs.declared.store.Store.{Ghosts}
use Rattle.rb_calls.specs.Since.{engine_outside}
use Rattle.rb_generator.specs.Answered.{CommandsAnswered}
use Rattle.rb_generator.specs.Counted.{counts_of}
use Rattle.rb_generator.specs.Draws.{commands_of}
use Rattle.rb_generator.specs.Ends.{StopsBy}
use Rattle.rb_generator.specs.Summary.{summary_text}
use Rattle.law_crash.specs.Crash.{Survives}
use Rattle.rb_layout.specs.declared.layout.Layout.{Layout}
use Rattle.rb_model.specs.Calls.{Answer}
use Rattle.rb_model.specs.Out.{Logged, Outside}
use Rattle.rb_model.specs.Rows.{last_scn}
use Rattle.rb_model.specs.State.{State}
use Rattle.rb_shell.specs.Runs.{FirstBlocks, IsSound, IsWhole, first_of}
use Rattle.rb_shell.specs.declared.status.Status.{Status}
use Rattle.rb_shell.specs.declared.status.Status.TheVariants.{Done, DiskFault, SinkFault}

-- The commands of a run of n were answered, from a state to another: all of them, or those up to a fault of the disk.
pub record HasMade (outside : Outside) (before : Logged) (n : ℕ) (fault : Bool) : Type 0 where
  pub answers : List Answer
  pub now : Logged
  pub answered : CommandsAnswered before outside (commands_of before.state.shape n) answers now
  pub stops : StopsBy fault answers now

-- the line that tells of these answers, in the state behind them
abbrev pub line_of : ℕ → List Answer → Logged → List ℕ
line_of n answers now = summary_text n (counts_of answers) (last_scn now.state.commits)

-- The machine that opened with the file's rows made the commands. A crash may leave no more than `endures` says of the
-- states before and after them.
pub record MadeOver {file : List ℕ} (sound : IsSound file) (n : ℕ) (fault : Bool)
    (endures : Layout → State → Logged → Type 0) : Type 0 where
  pub first : FirstBlocks sound
  pub made : HasMade engine_outside (first_of sound first) n fault
  pub endured : endures sound.store.layout sound.state made.now

-- It made them all, and the sink holds the line that tells of them, where it tells.
pub record HasTold {file : List ℕ} (sound : IsSound file) (n : ℕ) (tells : Type 0) (before now_held : List ℕ)
    (endures : Layout → State → Logged → Type 0) : Type 0 where
  pub over : MadeOver sound n false endures
  pub written : tells → now_held ≡ before ++ line_of n over.made.answers over.made.now

-- It made them all, and the sink holds a front of that line.
pub record WasNotTold {file : List ℕ} (sound : IsSound file) (n : ℕ) (before now_held : List ℕ)
    (endures : Layout → State → Logged → Type 0) : Type 0 where
  pub over : MadeOver sound n false endures
  pub size : ℕ
  pub written : now_held ≡ before ++ take size (line_of n over.made.answers over.made.now)

-- Commands were made over a store, and what waited was made last. At a fault of the disk there is no line.
pub record MadeOn {S : Type 0} (s : Ghosts S) (old new : S) (outside : Outside) (n : ℕ) (before : Logged)
    (tells : Type 0) (held_before held_now : List ℕ) (status : Status) : Type 0 where
  pub fault : Bool
  pub made : HasMade outside before n fault
  pub crash : s.keeps → Survives s (s.slots old) made.now.fault before.state made.now.state old new
  pub last : s.keeps → status ≢ DiskFault → (i : s.image) → s.left new i
      → IsWhole s.opens (s.slots old) made.now i
  pub all : status ≢ DiskFault → fault ≡ false
  pub told : status ≡ Done → tells → held_now ≡ held_before ++ line_of n made.answers made.now
  pub cut : status ≡ SinkFault → tells → (size : ℕ)
      × (held_now ≡ held_before ++ take size (line_of n made.answers made.now))
