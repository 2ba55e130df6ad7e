-- How a run of lines ends, and what it did with the bytes of its source by then.
use Rattle.std.specs.Prelude.{◌≡◌, ℕ, ◌≤◌, Bool, true, false, List, ◌++◌, length}
use Rattle.rb_model.specs.Lines.{lines_of}
use Rattle.rb_model.specs.Out.{Outside, Logged}
use Rattle.rb_lines.specs.Cut.{CutOff}
use Rattle.rb_lines.specs.Ran.{Ran}
use Rattle.rb_lines.specs.Whole.{whole_lines}
use Rattle.rb_lines.specs.declared.lines.LinesEnd.{LinesEnd}
use Rattle.rb_lines.specs.declared.lines.LinesEnd.TheVariants.{Done, SourceFault, DiskFault, SinkFault, TooLong}
use Rattle.rb_lines.specs.declared.runner.StepFault.{StepFault}
use Rattle.rb_lines.specs.declared.runner.StepFault.TheVariants.{Disk, Sink}

abbrev pub ends_by_source : LinesEnd → Bool
ends_by_source SourceFault = true
ends_by_source _ = false

abbrev pub ends_by_disk : LinesEnd → Bool
ends_by_disk DiskFault = true
ends_by_disk _ = false

abbrev pub ends_by_sink : LinesEnd → Bool
ends_by_sink SinkFault = true
ends_by_sink _ = false

-- how the lines end by a fault in one of them
abbrev pub end_of : StepFault → LinesEnd
end_of Disk = DiskFault
end_of Sink = SinkFault

-- The whole lines of these bytes were done, and nothing else was taken.
pub record WholeRan (outside : Outside) (before now : Logged) (taken left_before left_now : List ℕ) (tells : Type 0)
    (held_before held_now : List ℕ) : Type 0 where
  pub split : left_before ≡ taken ++ left_now
  pub ran : Ran outside before now (whole_lines taken) tells held_before held_now
  pub going : now.state.stopped ≡ false

-- A fault of the disk ended the lines. When the last piece of at most `most` bytes was asked for, no call had failed,
-- and the lines that were whole had been done: so nothing was asked for after the reply that tells of the fault.
pub record Halted (outside : Outside) (most : ℕ) (before now : Logged) (left_before left_now : List ℕ)
    (tells : Type 0) (held_before held_now : List ℕ) : Type 0 where
  pub taken : List ℕ
  pub piece : List ℕ
  pub few : length piece ≤ most
  pub split : left_before ≡ taken ++ (piece ++ left_now)
  pub middle : Logged
  pub held : List ℕ
  pub done : Ran outside before middle (whole_lines taken) tells held_before held
  pub going : middle.state.stopped ≡ false
  -- the lines that were not whole then, up to the fault
  pub rest : List (List ℕ)
  pub lines : lines_of left_before ≡ whole_lines taken ++ rest
  pub fault : Ran outside middle now rest tells held held_now
  pub stopped : now.state.stopped ≡ true

-- What was done by the end of a run.
abbrev pub EndsAs : Outside → ℕ → Logged → Logged → List ℕ → List ℕ → Type 0 → List ℕ → List ℕ
    → LinesEnd → Type 0
EndsAs outside most before now left_before left_now tells held_before held_now Done =
    Ran outside before now (lines_of left_before) tells held_before held_now × (now.state.stopped ≡ false)
EndsAs outside most before now left_before left_now tells held_before held_now SourceFault =
    (taken : List ℕ) × WholeRan outside before now taken left_before left_now tells held_before held_now
EndsAs outside most before now left_before left_now tells held_before held_now DiskFault =
    Halted outside most before now left_before left_now tells held_before held_now
EndsAs outside most before now left_before left_now tells held_before held_now SinkFault =
    tells → CutOff outside most before now left_before left_now held_before held_now
EndsAs outside most before now left_before left_now tells held_before held_now TooLong =
    (taken : List ℕ) × (length taken ≡ 1000000000)
    × WholeRan outside before now taken left_before left_now tells held_before held_now
