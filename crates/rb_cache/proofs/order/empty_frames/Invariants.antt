use Rattle.std.proofs.Common.{◌≡◌, ◌≤◌, length}
use Rattle.std.specs.Prelude.{vec_capacity}
use Rattle.std.specs.List.{AllByRecursion}
use Rattle.rb_cache.specs.Slots.{IsEmptyFrame}
use Rattle.rb_cache.proofs.order.empty_frames.Given as goal

abbrev pub invariant-loop : goal.invariant-loop
invariant-loop l = record {
  long : length l.frames.items ≡ l.counter;
  empty : AllByRecursion IsEmptyFrame l.frames.items;
  room : l.count ≤ vec_capacity l.frames;
}
