-- The transaction that writes: of the segments one has the fewest that run.
use Rattle.std.proofs.Common.{◌≡◌, ℕ, ◌+◌, ◌<◌, ◌≤◌, List, refl, arith, inl, inr}
use Rattle.std.proofs.lemmas.Bool.{cases_lt}
use Rattle.rb_base.specs.declared.sizes.TheConstants.{SLOTS}
use Rattle.rb_base.specs.Blocks.{block_of, header_block}
use Rattle.rb_base.specs.declared.shape.Shape.{Shape}
use Rattle.rb_txntable.proofs.Counted.{active_before-few}
use Rattle.rb_txntable.specs.Slots.{active_count}
use Rattle.rb_write.specs.Asks.{IsFewest}

-- g has the least of the first n numbers, and is the lowest with it
pub record IsLeast (f : ℕ → ℕ) (n g : ℕ) : Type 0 where
  pub within : g < n
  pub least : (k : ℕ) → k < n → f g ≤ f k
  pub lower : (k : ℕ) → k < g → f g < f k

-- of the first n, none yet or that one
pub record IsSoFar (f : ℕ → ℕ) (n g least : ℕ) : Type 0 where
  pub none : n ≡ 0 → least ≡ 4294967295
  pub one : 1 ≤ n → (least ≡ f g) × IsLeast f n g

pub none_yet : (f : ℕ → ℕ) (g : ℕ) → IsSoFar f 0 g 4294967295
none_yet f g = record { none = λ _. refl; one = λ some. absurd (omega arith) }

-- number n is less than the least
pub less : (f : ℕ → ℕ) (n g least : ℕ) → IsSoFar f n g least → f n < least → IsSoFar f (n + 1) n (f n)
less f n g least so_far lt = record {
  none = λ is. absurd (omega arith);
  one = λ _. (
    refl,
    record {
      within = omega arith;
      least = λ k few. elim (cases_lt k n) [
        | inl before ↦ let one = so_far.one (omega arith) in let le = one.1.least k before in omega (arith, le, one.0, lt)
        | inr le ↦ let same : k ≡ n = omega arith in rw same (omega arith)
      ];
      lower = λ k before. let one = so_far.one (omega arith) in let le = one.1.least k before in omega (arith, le, one.0, lt);
    },
  );
}

-- or isn't
pub no_less : (f : ℕ → ℕ) (n g least : ℕ) → IsSoFar f n g least → f n ≤ SLOTS → least ≤ f n → IsSoFar f (n + 1) g least
no_less f n g least so_far few le = elim (cases_lt 0 n) [
  | inl some ↦
      let one = so_far.one (omega arith) in
      record {
        none = λ is. absurd (omega arith);
        one = λ _. (
          one.0,
          record {
            within = omega (arith, one.1.within);
            least = λ k lt. elim (cases_lt k n) [
              | inl before ↦ one.1.least k before
              | inr at ↦ let same : k ≡ n = omega arith in rw same (omega (arith, one.0))
            ];
            lower = one.1.lower;
          },
        );
      }
  | inr empty ↦ let none = so_far.none (omega arith) in absurd (omega (arith, none, few, le))
]

pub active_few : (header : List ℕ) → active_count header ≤ SLOTS
active_few header = active_before-few header SLOTS

module _ (shape : Shape) (blocks : List (List ℕ)) where
  -- how many of segment k run
  abbrev pub run_in : ℕ → ℕ
  run_in k = active_count (block_of blocks (header_block shape k))

  pub fewest_of : (g least : ℕ) → 1 ≤ shape.segments → IsSoFar run_in shape.segments g least → IsFewest shape blocks g
  fewest_of g least some so_far = let one = (so_far.one some).1 in record { within = one.within; least = one.least; lower = one.lower }
