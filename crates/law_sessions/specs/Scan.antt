-- The next row of a query, home by home.
use Rattle.std.specs.Prelude.{◌≡◌, ◌<◌, ◌≤◌, ◌%◌, ℕ, true, List, Option, Some, None}
use Rattle.rb_model.specs.Next.{is_after}

-- the key of home g is in the range and comes after the last one that was given
pub record IsAskedKey (blocks lo hi : ℕ) (last : Option ℕ) (g k : ℕ) : Type 0 where
  pub home : k % blocks ≡ g
  pub low : lo ≤ k
  pub high : k ≤ hi
  pub after : is_after blocks last k ≡ true

-- home g, which has these rows, has none that comes next
abbrev pub NoneIn : (blocks lo hi : ℕ) (last : Option ℕ) (rows : ℕ → Option (List ℕ)) (g : ℕ) → Type 0
NoneIn blocks lo hi last rows g = (k : ℕ) → IsAskedKey blocks lo hi last g k → rows k ≡ None

-- the least key of home g that is asked for and has a row
pub record IsNextIn (blocks lo hi : ℕ) (last : Option ℕ) (rows : ℕ → Option (List ℕ)) (g key : ℕ)
    (value : List ℕ) : Type 0 where
  pub asked : IsAskedKey blocks lo hi last g key
  pub row : rows key ≡ Some value
  pub least : (k : ℕ) → IsAskedKey blocks lo hi last g k → k < key → rows k ≡ None
