-- Rolling forward twice is rolling forward once, and over a block below all groups it makes them all.
use Rattle.std.proofs.Common.{◌≡◌, inl, inr, ⊎_elim, ℕ, ◌+◌, ◌^◌, ◌<◌, ◌≤◌, Bool, true, false, if◌then◌else◌, nat_lt, List, [], ◌∷◌, ◌++◌, length, drop, refl, arith, ap, sym, ◌∙◌, subst}
use Rattle.std.proofs.lemmas.Bool.{cases_lt}
use Rattle.std.proofs.lemmas.Bool.Decides.{nat_tests}
use Rattle.byteorder.specs.Numbers.{big_number-reads_back}
use Rattle.rb_base.specs.Blocks.{written_to}
use Rattle.rb_base.specs.Fields.{number_at, with_number}
use Rattle.rb_base.specs.Groups.{Patch}
use Rattle.law_redo.specs.Rolled.{has_block, numbered_by, after_block, after_blocks, step, rolled}

-- the number that a group leaves in front
pub front_is : (n : ℕ) (y : List ℕ) → n < 2 ^ 63 → number_at (with_number y 0 8 n) 0 8 ≡ n
front_is n y few = big_number-reads_back 8 n (drop 8 y) (omega (arith, few))

module _ (which : ℕ) where
  numbered : (n : ℕ) (g : List Patch) (x : List ℕ) → n < 2 ^ 63 → number_at (numbered_by n g which x) 0 8 ≡ n
  numbered n g x few = front_is n (written_to which g x) few

  by_has : (n : ℕ) (g : List Patch) (x : List ℕ) (b : Bool) → n < 2 ^ 63 → number_at x 0 8 < n → number_at x 0 8 ≤ number_at (if b then numbered_by n g which x else x) 0 8
  by_has n g x true few lt = let e = numbered n g x few in omega (arith, e, lt)
  by_has n g x false few lt = omega arith

  no_lower_step : (n : ℕ) (g : List Patch) (x : List ℕ) → n < 2 ^ 63 → number_at x 0 8 ≤ number_at (step n g which x) 0 8
  no_lower_step n g x few = elim (cases_lt (number_at x 0 8) n) [
    | inl lt ↦ let test : nat_lt (number_at x 0 8) n ≡ true = grind (arith, nat_tests) in rw test (by_has n g x (has_block which g) few lt)
    | inr ge ↦ let test : nat_lt (number_at x 0 8) n ≡ false = grind (arith, nat_tests) in rw test (omega arith)
  ]

  pub no_lower : (n : ℕ) (gs : List (List Patch)) (x : List ℕ) → n + length gs ≤ 2 ^ 63 → number_at x 0 8 ≤ number_at (rolled n gs which x) 0 8
  no_lower n [] x few = omega arith
  no_lower n (g ∷ gs) x few =
      let one = no_lower_step n g x (omega (arith, few)) in
      let more = no_lower (n + 1) gs (step n g which x) (omega (arith, few)) in omega (arith, one, more)

  skip : (n : ℕ) (g : List Patch) (z : List ℕ) (a : Bool) → a ≡ false → (if a then after_block n g which z else z) ≡ z
  skip n g z a e = rw e refl

  -- a step that was made isn't made again, on what came of it
  step_again : (n : ℕ) (g : List Patch) (x z : List ℕ) → n < 2 ^ 63 → number_at (step n g which x) 0 8 ≤ number_at z 0 8 → step n g which z ≡ z
  step_again n g x z few le = by (has_block which g) refl
    where
      by : (b : Bool) → has_block which g ≡ b → step n g which z ≡ z
      by false e = either (nat_lt (number_at z 0 8) n)
        where
          either : (a : Bool) → (if a then after_block n g which z else z) ≡ z
          either true = rw e refl
          either false = refl
      by true e = elim (cases_lt (number_at x 0 8) n) [
        | inl lt ↦
            let test : nat_lt (number_at x 0 8) n ≡ true = grind (arith, nat_tests) in
            let is : step n g which x ≡ numbered_by n g which x = rw (test, e) refl in
            let at = numbered n g x few in
            let same = ap (λ (y : List ℕ). number_at y 0 8) is in
            let high : nat_lt (number_at z 0 8) n ≡ false = grind (arith, nat_tests) in skip n g z (nat_lt (number_at z 0 8) n) high
        | inr ge ↦
            let test : nat_lt (number_at x 0 8) n ≡ false = grind (arith, nat_tests) in
            let is : step n g which x ≡ x = rw test refl in
            let same = ap (λ (y : List ℕ). number_at y 0 8) is in
            let high : nat_lt (number_at z 0 8) n ≡ false = grind (arith, nat_tests) in skip n g z (nat_lt (number_at z 0 8) n) high
      ]

  pub rolled_again : (n : ℕ) (gs : List (List Patch)) (x : List ℕ) → n + length gs ≤ 2 ^ 63 → rolled n gs which (rolled n gs which x) ≡ rolled n gs which x
  rolled_again n [] x few = refl
  rolled_again n (g ∷ gs) x few =
      ap (rolled (n + 1) gs which) (step_again n g x (rolled (n + 1) gs which (step n g which x)) (omega (arith, few)) (no_lower (n + 1) gs (step n g which x) (omega (arith, few))))
      ∙ rolled_again (n + 1) gs (step n g which x) (omega (arith, few))

  pub rolled_joined : (n : ℕ) (gs more : List (List Patch)) (x : List ℕ) → rolled n (gs ++ more) which x ≡ rolled (n + length gs) more which (rolled n gs which x)
  rolled_joined n [] more x = ap (λ (k : ℕ). rolled k more which x) (omega arith)
  rolled_joined n (g ∷ gs) more x = rolled_joined (n + 1) gs more (step n g which x) ∙ ap (λ (k : ℕ). rolled k more which (rolled (n + 1) gs which (step n g which x))) (omega arith)

  -- a block that has the first groups already comes to the same
  pub rolled_prefix : (n : ℕ) (gs more : List (List Patch)) (x : List ℕ) → n + length gs ≤ 2 ^ 63 → rolled n (gs ++ more) which (rolled n gs which x) ≡ rolled n (gs ++ more) which x
  rolled_prefix n gs more x few =
      rolled_joined n gs more (rolled n gs which x) ∙ ap (rolled (n + length gs) more which) (rolled_again n gs x few) ∙ sym (rolled_joined n gs more x)

  high_step : (n : ℕ) (g : List Patch) (x : List ℕ) (b : Bool) → n < 2 ^ 63 → number_at x 0 8 < n → number_at (if b then numbered_by n g which x else x) 0 8 < n + 1
  high_step n g x true few low = let e = numbered n g x few in omega (arith, e)
  high_step n g x false few low = omega (arith, low)

  -- groups above its number are all made
  pub rolled_above : (n : ℕ) (gs : List (List Patch)) (x : List ℕ) → n + length gs ≤ 2 ^ 63 → number_at x 0 8 < n → rolled n gs which x ≡ after_blocks n gs which x
  rolled_above n [] x few low = refl
  rolled_above n (g ∷ gs) x few low =
      let test : nat_lt (number_at x 0 8) n ≡ true = grind (arith, nat_tests) in
      rw test (rolled_above (n + 1) gs (after_block n g which x) (omega (arith, few)) (high_step n g x (has_block which g) (omega (arith, few)) low))

  -- and then the number is below the next group's
  pub after_high : (n : ℕ) (gs : List (List Patch)) (x : List ℕ) → n + length gs ≤ 2 ^ 63 → number_at x 0 8 < n → number_at (after_blocks n gs which x) 0 8 < n + length gs
  after_high n [] x few low = omega (arith, low)
  after_high n (g ∷ gs) x few low =
      let one = high_step n g x (has_block which g) (omega (arith, few)) low in
      let more = after_high (n + 1) gs (after_block n g which x) (omega (arith, few)) one in omega (arith, more)

  step_high : (n : ℕ) (g : List Patch) (x : List ℕ) (most : ℕ) (a b : Bool) → n < 2 ^ 63 → n ≤ most → number_at x 0 8 ≤ most → number_at (if a then (if b then numbered_by n g which x else x) else x) 0 8 ≤ most
  step_high n g x most true true few le low = let e = numbered n g x few in omega (arith, e, le)
  step_high n g x most true false few le low = low
  step_high n g x most false b few le low = low

  -- rolled forward a number stays at or below that of the last group
  pub rolled_high : (n : ℕ) (gs : List (List Patch)) (x : List ℕ) (most : ℕ) → n + length gs ≤ 2 ^ 63 → n + length gs ≤ most + 1 → number_at x 0 8 ≤ most → number_at (rolled n gs which x) 0 8 ≤ most
  rolled_high n [] x most few le low = low
  rolled_high n (g ∷ gs) x most few le low =
      rolled_high (n + 1) gs (step n g which x) most (omega (arith, few)) (omega (arith, le))
      (step_high n g x most (nat_lt (number_at x 0 8) n) (has_block which g) (omega (arith, few)) (omega (arith, le)) low)
