-- Calls that are planned to fail, by their numbers.
use Rattle.std.specs.Prelude.{ℕ, ◌+◌, ◌-◌, ◌^◌, List, Contains, min}

-- which calls are to fail, how many were made and how many of them failed
pub record Plan : Type 0 where
  pub failing : List ℕ
  pub calls : ℕ
  pub faults : ℕ

-- one more, or the last value again
abbrev pub next_count : ℕ → ℕ
next_count n = min (n + 1) (2 ^ 64 - 1)

-- before the first call
abbrev pub unused : List ℕ → Plan
unused failing = record { failing = failing; calls = 0; faults = 0 }

-- the next call, the first being number 1, is in the list
abbrev pub IsFailing : Plan → Type 0
IsFailing plan = Contains plan.failing (next_count plan.calls)

-- after a call that didn't fail
abbrev pub called : Plan → Plan
called plan = record plan { calls = next_count plan.calls }

-- after a fault
abbrev pub faulted : Plan → Plan
faulted plan = record plan { faults = next_count plan.faults }
