-- those before i are marked, and the others are as they were
use Rattle.std.proofs.Common.{◌≡◌, ◌⊎◌, ◌+◌, ◌-◌, ℕ, ◌<◌, ◌≤◌, get_or}
use Rattle.std.specs.Prelude.{◌==◌}
use Rattle.rb_memfile.specs.Places.{at_place, after_write}
use Rattle.rb_memfile.proofs.marks.mark_over.Given as goal

abbrev pub invariant-loop-i : goal.invariant-loop-i
invariant-loop-i l = record {
  over : (k : ℕ) → l.at ≤ k → k < l.at + l.i → at_place l.places k ≡ after_write (get_or l.bytes k 0 == get_or l.piece (k - l.at) 0) (at_place l.fn.places k);
  outside : (k : ℕ) → (k < l.at) ⊎ (l.at + l.i ≤ k) → at_place l.places k ≡ at_place l.fn.places k;
}
