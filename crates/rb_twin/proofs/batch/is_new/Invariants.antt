use Rattle.std.proofs.Common.{◌≢◌, ◌+◌, ◌*◌, ◌<◌, ℕ}
use Rattle.rb_base.specs.Fields.{number_at}
use Rattle.rb_twin.proofs.batch.is_new.Given as goal

abbrev pub invariant-loop-place : goal.invariant-loop-place
invariant-loop-place l = (k : ℕ) → k < l.place → number_at l.area (8 + 4 * k) 4 ≢ l.block
