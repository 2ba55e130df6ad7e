use Rattle.std.proofs.Common.{ℕ, ◌<◌}
use Rattle.rb_heap.specs.Soundness.{IsFirstKeyed}
use Rattle.rb_sound.proofs.home.keys_apart.Given as goal

abbrev pub invariant-loop-c : goal.invariant-loop-c
invariant-loop-c l = (k : ℕ) → k < l.c → IsFirstKeyed l.block k
