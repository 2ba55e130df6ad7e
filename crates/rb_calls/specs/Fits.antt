-- Which answers the calls of a session have.
use Rattle.std.specs.Prelude.{ℕ, Option, None, Some}
use Rattle.rb_model.specs.declared.outcome.Outcome as code
use Rattle.rb_model.specs.declared.outcome.Outcome.TheVariants as answers

-- An answer that a call of that session has, or one of none: what a segment or a session tells of itself, what a
-- flush has made last and what a sweep put back are told to none, and what only a session's call answers to a session.
abbrev pub FitsCaller : Option ℕ → code.Outcome → Type 0
FitsCaller to answers.Done = Unit {0}
FitsCaller to (answers.Refused why) = Unit {0}
FitsCaller None (answers.Marked seg writes lost) = Unit {0}
FitsCaller (Some s) (answers.Marked seg writes lost) = ⊥
FitsCaller None (answers.Waits on) = ⊥
FitsCaller (Some s) (answers.Waits on) = Unit {0}
FitsCaller None (answers.Committed number) = ⊥
FitsCaller (Some s) (answers.Committed number) = Unit {0}
FitsCaller None (answers.Numbered number) = ⊥
FitsCaller (Some s) (answers.Numbered number) = Unit {0}
FitsCaller None (answers.Flushed number) = Unit {0}
FitsCaller (Some s) (answers.Flushed number) = ⊥
FitsCaller None (answers.Swept changes) = Unit {0}
FitsCaller (Some s) (answers.Swept changes) = ⊥
FitsCaller None (answers.Shown session activity) = Unit {0}
FitsCaller (Some s) (answers.Shown session activity) = ⊥
FitsCaller None answers.Idle = Unit {0}
FitsCaller (Some s) answers.Idle = ⊥
FitsCaller None answers.Row = ⊥
FitsCaller (Some s) answers.Row = Unit {0}
FitsCaller None answers.End = ⊥
FitsCaller (Some s) answers.End = Unit {0}
FitsCaller None answers.Absent = ⊥
FitsCaller (Some s) answers.Absent = Unit {0}
