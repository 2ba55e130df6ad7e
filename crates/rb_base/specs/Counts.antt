-- Counts of faults, as every object of the outside keeps one.
use Rattle.std.specs.Prelude.{◌≡◌, ℕ, ◌+◌, ◌^◌, ◌<◌, ◌≤◌, Bool, true, false, Result, Ok, Err}
use Rattle.std.specs.Prelude.{OnOk, OnErr}
use Rattle.rb_base.specs.declared.faults.OpenFault.{OpenFault}
use Rattle.rb_base.specs.declared.faults.OpenFault.TheVariants.{NoMemory, Failed, NotAStore}

-- A count rose in a call: it is greater than before, or stands at its last value.
abbrev pub Rose : ℕ → ℕ → Type 0
Rose before now = now + 1 < 2 ^ 64 → before < now

-- A count never falls. A call fails only where it rose, and answers Ok only where it is as before.
pub record IsCounted {T E : Type 0} (before now : ℕ) (result : Result T E) : Type 0 where
  pub no_less : before ≤ now
  pub cause : OnErr result (Rose before now)
  pub still : OnOk result (now ≡ before)

-- The same of a call that has other answers than Ok and a fault: it answers a fault only where the count rose, and
-- anything else only where it is as before.
pub record IsCountedAs (before now : ℕ) (fault : Bool) : Type 0 where
  pub no_less : before ≤ now
  pub cause : fault ≡ true → Rose before now
  pub still : fault ≡ false → now ≡ before

-- an error of which the test is true
abbrev pub err_is : {T E : Type 0} → (E → Bool) → Result T E → Bool
err_is test (Ok value) = false
err_is test (Err error) = test error

-- an opening failed by a fault of the disk
abbrev pub is_failed : OpenFault → Bool
is_failed NoMemory = false
is_failed Failed = true
is_failed NotAStore = false
