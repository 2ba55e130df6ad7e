use Rattle.std.proofs.Common.{◌≢◌, ◌<◌, ℕ}
use Rattle.rb_segment.specs.Header.{header_of, ord_in}
use Rattle.rb_sound.proofs.active.has_turn.Given as goal

abbrev pub invariant-loop-e : goal.invariant-loop-e
invariant-loop-e l = (k : ℕ) → k < l.e → ord_in (header_of l.header) k ≢ l.turn
