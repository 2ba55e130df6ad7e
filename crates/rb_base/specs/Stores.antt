-- What the calls of a store say of a crash: what it may leave of the groups that wait.
use Rattle.std.specs.Prelude.{◌≡◌, ℕ, ◌+◌, ◌≤◌, List, length, take, drop}
use Rattle.rb_base.specs.Blocks.{after_groups}
use Rattle.rb_base.specs.Groups.{Patch}

-- An image opens to these blocks, whose last log number is n, after some of these groups, in order from the first.
pub record OpensToSome {I : Type 0} (opens : I → List (List ℕ) → ℕ → Type 0) (n : ℕ)
    (given : List (List Patch)) (blocks : List (List ℕ)) (i : I) : Type 0 where
  pub count : ℕ
  pub few : count ≤ length given
  pub opening : opens i (after_groups (n + 1) (take count given) blocks) (n + count)

-- Of these groups, behind blocks whose last log number is n, the first ones were made last: the blocks with them are
-- stable, and the others wait.
pub record Settles (n : ℕ) (given : List (List Patch)) (blocks : List (List ℕ))
    (stable : List (List ℕ) → ℕ → Type 0) (pending : List (List Patch)) : Type 0 where
  pub count : ℕ
  pub few : count ≤ length given
  pub settled : stable (after_groups (n + 1) (take count given) blocks) (n + count)
  pub waits : pending ≡ drop count given
