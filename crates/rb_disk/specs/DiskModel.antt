-- How a disk behaves: what a call leaves to be read, and what a crash may leave.
use Rattle.std.specs.Prelude.{◌≡◌, ℕ, ◌+◌, ◌≤◌, max, List, length, take, drop}

-- A file after a write of `count` bytes at `at` that may have been cut short: any bytes in the range and past
-- the old end, the same bytes elsewhere, and a length from the old one to the end of the write.
pub record Torn (at count : ℕ) (old new : List ℕ) : Type 0 where
  pub before : take at new ≡ take at old
  pub behind : drop (at + count) new ≡ drop (at + count) old
  pub no_shorter : length old ≤ length new
  pub no_longer : length new ≤ max (length old) (at + count)

-- each image that a crash may leave now is one that it might have left before, after this step
abbrev pub Follows : (List ℕ → List ℕ → Type 0) → (List ℕ → Type 0) → (List ℕ → Type 0) → Type 0
Follows step before now = (c : List ℕ) → now c → (d : List ℕ) × before d × step d c

-- each image is this
abbrev pub Only : List ℕ → (List ℕ → Type 0) → Type 0
Only file image = (c : List ℕ) → image c → c ≡ file
