use Rattle.std.proofs.Common.{◌≡◌}
use Rattle.std.specs.Map.{keys_of}
use Rattle.rb_cache.specs.Slots.{numbers_below}
use Rattle.rb_cache.proofs.order.all_numbers.Given as goal

abbrev pub invariant-loop-number : goal.invariant-loop-number
invariant-loop-number l = record {
  keys : keys_of l.order.entries ≡ numbers_below l.number;
  most : l.order.cap ≡ l.count;
}
