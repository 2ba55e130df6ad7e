use Rattle.std.proofs.Common.{◌≡◌, ◌≤◌, ◌-◌, replicate, vec_len}
use Rattle.rb_fill.proofs.fill.repeated.Given as goal

abbrev pub invariant-loop-items : goal.invariant-loop-items
invariant-loop-items g l = record {
  copies : l.items.items ≡ replicate (vec_len l.items) l.fn.value;
  few : vec_len l.items ≤ l.count;
}

abbrev pub decreases-loop-items : goal.decreases-loop-items
decreases-loop-items g l = l.count - vec_len l.items
