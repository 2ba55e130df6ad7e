-- those before the index are changed, and the others aren't
use Rattle.std.proofs.Common.{◌≡◌, ℕ, ◌<◌, ◌≤◌}
use Rattle.rb_memfile.specs.Places.{at_place, after_failure}
use Rattle.rb_memfile.proofs.marks.lose.Given as goal

abbrev pub invariant-loop-place : goal.invariant-loop-place
invariant-loop-place l = record {
  changed : (k : ℕ) → k < l.place-index → at_place l.places k ≡ after_failure (at_place l.fn.places k);
  rest : (k : ℕ) → l.place-index ≤ k → at_place l.places k ≡ at_place l.fn.places k;
}
