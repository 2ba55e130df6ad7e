-- That `same_key` tells just whether two keys are equal.
use Rattle.std.proofs.Common.{◌≡◌, ◌≢◌, ℕ, true, false, refl, arith}
use Rattle.std.proofs.lemmas.Bool.Decides.{nat_tests}
use Rattle.std.specs.Cmp.{IsEquivalence, decided}
use Rattle.rb_copies.specs.Copies.{copy_key, same_key}
use Rattle.rb_copies.specs.declared.homes.CopyKey.{CopyKey}

of_parts : (a b c d : ℕ) → a ≡ c → b ≡ d → copy_key a b ≡ copy_key c d
of_parts a b c d blocks numbers = cc

pub equal_keys : (a b : CopyKey) → same_key a b ≡ true → a ≡ b
equal_keys a b is = of_parts a.block a.scn b.block b.scn (grind (arith, nat_tests, is)) (grind (arith, nat_tests, is))

pub same_key-refl : (a : CopyKey) → same_key a a ≡ true
same_key-refl a = grind (arith, nat_tests)

pub same_key-of : (a b : CopyKey) → a ≡ b → same_key a b ≡ true
same_key-of a b is = rw (← is) (same_key-refl a)

pub key_laws : IsEquivalence same_key
key_laws = decided same_key (λ a b. (equal_keys a b, same_key-of a b))

pub other_keys : (a b : CopyKey) → a ≢ b → same_key a b ≡ false
other_keys a b differ = (elim (same_key a b) as (λ y. same_key a b ≡ y → same_key a b ≡ false) [
  | true ↦ λ is. absurd (differ (equal_keys a b is))
  | false ↦ λ is. is
]) refl
