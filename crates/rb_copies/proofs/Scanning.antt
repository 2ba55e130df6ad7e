-- How far a search for the least number has come.
use Rattle.std.proofs.Common.{◌≡◌, ◌≤◌, ℕ, min, List, [], ◌∷◌, ◌++◌, map, All, Option, Some, None, IfSome, IfNone, Bor, refl, subst, ⊎_elim, inl, inr, ◌⊎◌, true, false, nat_lt, arith}
use borrow.Author.Tests.{ltb-true, ltb-false}
use Rattle.std.specs.Option.{option_map_or, IsSomeAnd}
use Rattle.std.specs.Map.Iter.{deref_pair}
use Rattle.std.proofs.lemmas.List.Elements.{All-contains, All-map, All-push, All-weaker}
use Rattle.std.proofs.lemmas.Map.Views.{Contains-from_lookup}
use Rattle.rb_copies.proofs.Keys.{equal_keys}
use Rattle.rb_copies.specs.Copies.{IsLeast, KeptHomes, Serves, copy_key}
use Rattle.rb_copies.specs.declared.homes.CopyKey.{CopyKey}
use Rattle.rb_copies.specs.declared.homes.KeptHome.{KeptHome}

abbrev Seen : Type 0
Seen = List (Bor CopyKey × Bor KeptHome)

module _ (kept : KeptHomes) (block number n : ℕ) where
  -- the number that was found so far isn't above that of an entry, if it serves
  abbrev pub IsCovered : Option ℕ → CopyKey × KeptHome → Type 0
  IsCovered least e = e.0.block ≡ block → e.1.number ≡ number → n ≤ e.0.scn → IsSomeAnd least (λ m. m ≤ e.0.scn)

  -- it serves, and isn't above that of any entry that was seen
  pub record IsScanned (least : Option ℕ) (seen : List (Bor CopyKey × Bor KeptHome)) : Type 0 where
    pub found : IfSome least (Serves kept block number n)
    pub covered : All (λ e. IsCovered least (deref_pair e)) seen

  either : (a b : ℕ) → (min a b ≡ a) ⊎ (min a b ≡ b)
  either a b = (elim (nat_lt a b) as (λ y. nat_lt a b ≡ y → (min a b ≡ a) ⊎ (min a b ≡ b)) [
    | true ↦ λ is. inl (omega (arith, ltb-true a b is))
    | false ↦ λ is. inr (omega (arith, ltb-false a b is))
  ]) refl

  abbrev lesser : Option ℕ → ℕ → ℕ
  lesser least m = option_map_or (λ f. min f m) least m

  lesser_serves : (least : Option ℕ) (m : ℕ) → IfSome least (Serves kept block number n) → Serves kept block number n m
      → Serves kept block number n (lesser least m)
  lesser_serves None m found serves = serves
  lesser_serves (Some f) m found serves =
      ⊎_elim (λ is. rw is found) (λ is. rw is serves) (either f m)

  lesser_covers : (least : Option ℕ) (m : ℕ) (e : CopyKey × KeptHome) → IsCovered least e → IsCovered (Some (lesser least m)) e
  lesser_covers None m e covered = λ a b c. absurd (covered a b c)
  lesser_covers (Some f) m e covered = λ a b c. let below : f ≤ e.0.scn = covered a b c in omega arith

  lesser_below : (least : Option ℕ) (m : ℕ) → lesser least m ≤ m
  lesser_below None m = omega arith
  lesser_below (Some f) m = omega arith

  -- an entry that serves is taken into account
  pub scanned_more : (least : Option ℕ) (seen : Seen) (x : Bor CopyKey × Bor KeptHome) → IsScanned least seen
      → Serves kept block number n x.0.now.scn → IsScanned (Some (lesser least x.0.now.scn)) (seen ++ x ∷ [])
  scanned_more least seen x scanned serves = record {
    found = lesser_serves least x.0.now.scn scanned.found serves;
    covered = All-push (λ e. IsCovered (Some (lesser least x.0.now.scn)) (deref_pair e)) seen x
        (All-weaker (λ e. IsCovered least (deref_pair e)) (λ e. IsCovered (Some (lesser least x.0.now.scn)) (deref_pair e))
        (λ e. lesser_covers least x.0.now.scn (deref_pair e)) seen scanned.covered)
        (λ a b c. lesser_below least x.0.now.scn);
  }

  -- where all were seen, the number is not above that of any that serves
  below_all : (least : Option ℕ) (seen : Seen) → IsScanned least seen → map deref_pair seen ≡ kept
      → (k : ℕ) → Serves kept block number n k → IsSomeAnd least (λ m. m ≤ k)
  below_all least seen scanned all k serves =
      let each = subst (All (IsCovered least)) all (All-map (IsCovered least) deref_pair seen scanned.covered) in
      All-contains (IsCovered least) kept (copy_key block k, serves.home) each
      (Contains-from_lookup equal_keys (copy_key block k) serves.home kept serves.there) refl serves.unchanged serves.high

  pub scanned_some : (least : Option ℕ) (seen : Seen) → IsScanned least seen → map deref_pair seen ≡ kept
      → IfSome least (λ m. IsLeast kept block number n m)
  scanned_some None seen scanned all = tt
  scanned_some (Some m) seen scanned all = record { serves = scanned.found; least = below_all (Some m) seen scanned all }

  pub scanned_none : (least : Option ℕ) (seen : Seen) → IsScanned least seen → map deref_pair seen ≡ kept
      → IfNone least ((m : ℕ) → Serves kept block number n m → ⊥)
  scanned_none None seen scanned all = below_all None seen scanned all
  scanned_none (Some m) seen scanned all = tt
