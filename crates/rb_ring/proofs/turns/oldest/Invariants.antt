use Rattle.std.proofs.Common.{◌≡◌, ℕ, ◌<◌, ◌≤◌, MatchOption}
use Rattle.rb_ring.specs.declared.extents.TheConstants.{EXTENTS}
use Rattle.rb_ring.specs.Ring.{extent_ord}
use Rattle.rb_ring.proofs.turns.oldest.Given as goal

abbrev pub invariant-loop-e : goal.invariant-loop-e
invariant-loop-e l =
    MatchOption l.oldest ((k : ℕ) → k < l.e → extent_ord l.header k ≡ 0)
    (λ o. (o < EXTENTS) × (1 ≤ extent_ord l.header o) × ((k : ℕ) → k < l.e → 1 ≤ extent_ord l.header k → extent_ord l.header o ≤ extent_ord l.header k))
