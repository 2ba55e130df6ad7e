use Rattle.std.proofs.Common.{◌≢◌, ◌<◌, ℕ}
use Rattle.rb_layout.specs.Regions.{block_count}
use Rattle.rb_twin.proofs.Images.{name_of}
use Rattle.rb_twin.proofs.batch.is_batch.Given as goal

abbrev pub invariant-loop-place : goal.invariant-loop-place
invariant-loop-place l = record {
  differ : (i j : ℕ) → i < j → j < l.place → name_of l.area i ≢ name_of l.area j;
  within : (k : ℕ) → k < l.place → name_of l.area k < block_count l.layout;
}
