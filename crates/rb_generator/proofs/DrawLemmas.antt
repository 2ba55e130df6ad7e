-- Four draws lead from one command to the next.
use Rattle.std.proofs.Common.{◌≡◌, ◌∙◌, ap, arith, ℕ, suc, ◌+◌, ◌*◌}
use Rattle.rb_generator.specs.Draws.{next, state_after}

pub four_on : (seed i x y : ℕ) → x ≡ state_after seed (4 * i) → y ≡ next (next (next (next x))) → y ≡ state_after seed (4 * (i + 1))
four_on seed i x y is four =
    let on : suc (suc (suc (suc (4 * i)))) ≡ 4 * (i + 1) = omega arith in
    four ∙ ap (λ (z : ℕ). next (next (next (next z)))) is ∙ ap (state_after seed) on
