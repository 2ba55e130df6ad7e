use Rattle.std.proofs.Common.{ℕ, ◌<◌}
use Rattle.rb_itl.specs.Entries.{entry_at}
use Rattle.rb_heap.specs.Soundness.{IsEntrySound}
use Rattle.rb_segment.specs.Segments.{wrap_in}
use Rattle.rb_sound.proofs.home.entries_sound.Given as goal

abbrev pub invariant-loop-i : goal.invariant-loop-i
invariant-loop-i l = (k : ℕ) → k < l.i → IsEntrySound l.limits.shape l.limits.commit (wrap_in l.limits.wraps) (entry_at l.block k)
