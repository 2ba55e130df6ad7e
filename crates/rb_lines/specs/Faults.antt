-- Which fault ended a line, and what it says of a count.
use Rattle.std.specs.Prelude.{◌≡◌, ℕ, ◌≤◌, Bool, true, false}
use Rattle.rb_base.specs.Counts.{Rose}
use Rattle.rb_lines.specs.declared.runner.StepFault.{StepFault}
use Rattle.rb_lines.specs.Ends.{ends_by_disk, ends_by_sink, end_of}

abbrev pub is_disk : StepFault → Bool
is_disk fault = ends_by_disk (end_of fault)

abbrev pub is_sink : StepFault → Bool
is_sink fault = ends_by_sink (end_of fault)

-- The count of a disk whose fault may be hidden by one of the sink, as where the reply that tells of it is lost: a
-- fault is answered only where the count rose, and anything else but what hides it only where the count is as before.
pub record IsCountedBeside (before now : ℕ) (fault hidden : Bool) : Type 0 where
  pub no_less : before ≤ now
  pub cause : fault ≡ true → Rose before now
  pub still : fault ≡ false → hidden ≡ false → now ≡ before
