-- Calls that only read the segments.
use Rattle.std.specs.Prelude.{◌≡◌, ◌≤◌, ℕ, Bool, true, false, not}
use Rattle.rb_base.specs.Counts.{Rose}
use Rattle.rb_base.specs.declared.shape.Shape.{Shape}
use Rattle.law_home.specs.Walk.{Env}

-- the shape of a file, and what its segments say
pub record Said : Type 0 where
  pub shape : Shape
  pub env : Env

-- what holds where calls go on
abbrev pub When : Bool → Type 0 → Type 0
When true X = X
When false X = Unit {0}

-- The segments say what they said, and are ready for the next call. Where a call failed they aren't, and their count of
-- faults rose; else it is as before.
pub record OnlyReads {S : Type 0} (tells : Type 0) (says : S → Said) (ready : S → Type 0) (faults : S → ℕ)
    (calls : S → S → Bool → Type 0) (old new : S) (going : Bool) : Type 0 where
  pub same : tells → going ≡ true → says new ≡ says old
  pub next : When going (ready new)
  pub no_less : faults old ≤ faults new
  pub cause : not going ≡ true → Rose (faults old) (faults new)
  pub still : going ≡ true → faults new ≡ faults old
  pub made : calls old new going
