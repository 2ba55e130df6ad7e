-- The segments with one that moved in its place.
use Rattle.std.proofs.Common.{◌≡◌, ◌≢◌, inl, inr, ◌==◌, ℕ, true, false, refl, sym, subst, arith}
use Rattle.std.proofs.lemmas.Bool.{cases_eq}
use Rattle.std.proofs.lemmas.Bool.Decides.{nat_tests}
use Rattle.rb_segment.specs.Header.{Segment}
use Rattle.rb_segment.specs.Moves.{SegmentAges, with_segment}
use Rattle.rb_segment.proofs.Moments.{ages_same}

-- a segment in its place, and the others
pub at_segment : (g : ℕ) (s : Segment) (segments : ℕ → Segment) → with_segment g s segments g ≡ s
at_segment g s segments = let test : (g == g) ≡ true = grind (arith, nat_tests) in rw test refl

pub off_segment : (g k : ℕ) (s : Segment) (segments : ℕ → Segment) → k ≢ g → with_segment g s segments k ≡ segments k
off_segment g k s segments ne = let test : (k == g) ≡ false = grind (arith, nat_tests) in rw test refl

-- where one segment ages, all do
pub one_ages : (goes : ℕ → ℕ → Type 0) (segments : ℕ → Segment) (g : ℕ) (s : Segment) → SegmentAges (goes g) (segments g) s → (k : ℕ) → SegmentAges (goes k) (segments k) (with_segment g s segments k)
one_ages goes segments g s ages k = elim (cases_eq k g) [
  | inl at ↦ let test : (k == g) ≡ true = grind (arith, nat_tests) in rw test (subst (λ (z : ℕ). SegmentAges (goes z) (segments z) s) (sym at) ages)
  | inr ne ↦ let test : (k == g) ≡ false = grind (arith, nat_tests) in rw test (ages_same (goes k) (segments k))
]
