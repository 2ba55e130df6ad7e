use Rattle.std.proofs.Common.{◌+◌, ◌*◌, ◌<◌, ℕ}
use Rattle.rb_base.specs.Fields.{part}
use Rattle.rb_base.specs.declared.sizes.TheConstants.{UNIT}
use Rattle.rb_store.specs.Meaning.{IsHeaded}
use Rattle.rb_store.proofs.headers.are_headed.Given as goal

abbrev pub invariant-loop-k : goal.invariant-loop-k
invariant-loop-k l = (j : ℕ) → j < l.k → IsHeaded l.shape l.last (l.first + j) (part l.blocks (UNIT * j) UNIT)
