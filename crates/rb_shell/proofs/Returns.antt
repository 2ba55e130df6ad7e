-- A line with and without the CR that ends it.
use Rattle.std.proofs.Common.{◌≡◌, ◌==◌, refl, ap, ℕ, false, List, [], ◌∷◌, ◌++◌}
use Rattle.rb_model.specs.Lines.{without_return}

-- a CR at the end goes
pub return_goes : (front : List ℕ) (last : ℕ) → last ≡ 13 → without_return (front ++ last ∷ []) ≡ front
return_goes [] last e = rw (e) refl
return_goes (b ∷ []) last e = ap (λ xs. b ∷ xs) (return_goes [] last e)
return_goes (b ∷ c ∷ front) last e = ap (λ xs. b ∷ xs) (return_goes (c ∷ front) last e)

-- and nothing else
pub other_stays : (front : List ℕ) (last : ℕ) → (last == 13) ≡ false → without_return (front ++ last ∷ []) ≡ front ++ last ∷ []
other_stays [] last e = rw (e) refl
other_stays (b ∷ []) last e = ap (λ xs. b ∷ xs) (other_stays [] last e)
other_stays (b ∷ c ∷ front) last e = ap (λ xs. b ∷ xs) (other_stays (c ∷ front) last e)
