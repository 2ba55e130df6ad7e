-- Which numbers a file may have.
use Rattle.std.specs.Prelude.{ℕ, ◌≤◌}

pub record InRange (tables blocks segments log : ℕ) : Type 0 where
  pub few_tables : (1 ≤ tables) × (tables ≤ 16)
  pub few_blocks : (1 ≤ blocks) × (blocks ≤ 4096)
  pub few_segments : (1 ≤ segments) × (segments ≤ 16)
  pub few_slots : (64 ≤ log) × (log ≤ 4096)
