-- Slots that go on.
use Rattle.std.specs.Prelude.{◌≡◌, ◌/◌, ◌%◌, ℕ, List}
use Rattle.law_home.specs.Steps.{Lives}
use Rattle.law_home.specs.Walk.{Change}

-- slot i of segment g goes on: it has live changes
abbrev pub Goes : List (List Change) → ℕ → ℕ → Type 0
Goes lives g i = (t : ℕ) × (t / 16 ≡ g) × (t % 16 ≡ i) × Lives lives t
