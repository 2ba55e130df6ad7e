-- Why a rebuild is refused.
use Rattle.std.specs.Prelude.{◌≡◌, ◌<◌, ℕ, Bool, true, false, Result, Ok, Err}
use Rattle.rb_cr.specs.declared.faults.CrFault.{CrFault}
use Rattle.rb_cr.specs.declared.faults.CrFault.TheVariants as faults
use Rattle.law_home.specs.Walk.{Env}

abbrev pub is_fault : CrFault → Bool
is_fault faults.Failed = true
is_fault (faults.TooOld scn lost) = false

abbrev pub is_failed : {T : Type 0} → Result T CrFault → Bool
is_failed (Ok x) = false
is_failed (Err fault) = is_fault fault

-- the fault is a failed call, or tells this snapshot and what a segment lost
abbrev pub Blames : ℕ → ℕ → CrFault → Type 0
Blames n gone faults.Failed = Unit {0}
Blames n gone (faults.TooOld scn lost) = (scn ≡ n) × (lost ≡ gone)

-- The fault is a failed call, or it tells the snapshot and what a segment lost, which is above the snapshot, and it has
-- this reason.
abbrev pub Because : Env → ℕ → (ℕ → Type 0) → CrFault → Type 0
Because env n why faults.Failed = Unit {0}
Because env n why (faults.TooOld scn lost) =
    (scn ≡ n) × (n < lost) × ((seg : ℕ) × (lost ≡ env.lost seg) × why seg)
