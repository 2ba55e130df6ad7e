-- those before i are written back, and those from it on are as they were
use Rattle.std.proofs.Common.{◌≡◌, ℕ, ◌<◌, ◌≤◌, get_or}
use Rattle.rb_memfile.specs.Places.{at_place, written_back}
use Rattle.rb_memfile.proofs.marks.write_back.Given as goal

abbrev pub invariant-loop-i : goal.invariant-loop-i
invariant-loop-i l = record {
  back : (k : ℕ) → k < l.i → get_or l.device k 0 ≡ written_back (at_place l.places k) (get_or l.bytes k 0) (get_or l.fn.device k 0);
  rest : (k : ℕ) → l.i ≤ k → get_or l.device k 0 ≡ get_or l.fn.device k 0;
}
