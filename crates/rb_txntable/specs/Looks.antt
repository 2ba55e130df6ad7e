-- How a transaction stands, as its table slot says it, and how that may age.
use Rattle.std.specs.Prelude.{◌≡◌, ◌≤◌, ◌==◌, ℕ, nat_lt, if◌then◌else◌}
use Rattle.rb_base.specs.declared.sizes.TheConstants.{ACTIVE}
use Rattle.rb_txntable.specs.declared.looks.Look.{Look}
use Rattle.rb_txntable.specs.declared.looks.Look.TheVariants.{Active, At, Before}
use Rattle.rb_txntable.specs.declared.slots.TableSlot.{TableSlot}
use Rattle.rb_txntable.specs.declared.slots.TheConstants.{COMMITTED}

-- What a slot says of the transaction that was the `wrap`th to take it. One that is still to come counts as running.
abbrev pub slot_look : TableSlot → ℕ → Look
slot_look s wrap =
    if nat_lt s.wrap wrap then Active
    else if s.wrap == wrap then (if s.state == ACTIVE then Active
    else if s.state == COMMITTED then At s.newest else Before s.newest)
    else if s.state == COMMITTED then Before s.before else Before s.newest

-- The transaction that was the nth to take the slot has it, and runs.
pub record IsRunning (s : TableSlot) (n : ℕ) : Type 0 where
  pub active : s.state ≡ ACTIVE
  pub wrap : s.wrap ≡ n

-- A look that ages. A bound that isn't above lost stays so; so a look that stays the same ages, whatever the segment
-- has.
abbrev pub LookAges : ℕ → ℕ → Look → Look → Type 0
LookAges lost lost2 Active look2 = Unit {0}
LookAges lost lost2 (At c) Active = ⊥
LookAges lost lost2 (At c) (At k) = c ≡ k
LookAges lost lost2 (At c) (Before b) = (c ≤ b) × (b ≤ lost2)
LookAges lost lost2 (Before b) Active = ⊥
LookAges lost lost2 (Before b) (At k) = ⊥
LookAges lost lost2 (Before b) (Before b2) = (b ≤ b2) × (b ≤ lost → b2 ≤ lost2)
