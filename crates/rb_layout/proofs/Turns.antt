-- Two extents written over zeros are those of a new segment.
use Rattle.std.proofs.Common.{◌-◌, ◌≡◌, ℕ, List, replicate, ap}
use Rattle.rb_base.specs.declared.sizes.TheConstants.{BLOCK_HEAD, UNIT}
use Rattle.rb_base.specs.Blocks.{fresh_segment}
use Rattle.rb_base.specs.Fields.{with_number}

pub turns_put : (rest : List ℕ) → rest ≡ replicate (UNIT - BLOCK_HEAD) 0 → with_number (with_number rest 1024 8 2) 1056 8 1 ≡ fresh_segment
turns_put rest e = ap (λ (l : List ℕ). with_number (with_number l 1024 8 2) 1056 8 1) e
