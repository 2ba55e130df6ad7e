-- What the search for the entry with the least number has found of the first few.
use Rattle.std.proofs.Common.{ℕ, ◌<◌, ◌≤◌, Option, IfSome, IfNone}
use Rattle.rb_itl.specs.declared.slots.Entry.{Entry}
use Rattle.rb_heap.specs.Choices.{IsTold}

-- entry c is to be taken, of the first n
pub record IsBest (entries : ℕ → Entry) (n c : ℕ) : Type 0 where
  pub within : c < n
  pub told : IsTold (entries c)
  pub least : (j : ℕ) → j < n → IsTold (entries j) → (entries c).number ≤ (entries j).number
  pub lower : (j : ℕ) → j < c → IsTold (entries j) → (entries c).number < (entries j).number

pub record IsChoice (entries : ℕ → Entry) (n : ℕ) (chosen : Option ℕ) : Type 0 where
  pub found : IfSome chosen (IsBest entries n)
  pub none : IfNone chosen ((j : ℕ) → j < n → ¬ IsTold (entries j))
