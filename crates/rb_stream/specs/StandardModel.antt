-- A source and a sink of std.
use Rattle.std.specs.Prelude.{ℕ, List, Option}
use Rattle.std.specs.declared.io.Error.{Error}

-- the bytes that the reader has left or the writer holds, where those are known, the faults, and the error of the last
-- call that failed
pub record StandardState : Type 0 where
  pub known : Option (List ℕ)
  pub faults : ℕ
  pub error : Option Error
