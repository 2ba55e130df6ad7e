-- Where a build begins among the homes that are kept, and what it makes of the table.
use Rattle.std.proofs.Common.{◌≡◌, ◌≢◌, ◌⊎◌, inl, inr, ⊎_elim, ◌≤◌, ◌==◌, ℕ, Bool, true, false, not, nat_eq, List, Option, Some, None, Ok, IfSome, IfNone, IsSome, refl, sym, ◌∙◌, ap, subst, arith}
use Rattle.std.proofs.lemmas.Bool.{eqb-true}
use Rattle.std.proofs.lemmas.Bool.Decides.{nat_tests}
use Rattle.std.specs.Option.{option_eq}
use Rattle.rb_base.specs.declared.shape.Shape.{Shape}
use Rattle.rb_copies.specs.Copies.{CopyTable, IsLeast, KeptHomes, Serves, copy_key, kept_under, used, with_copy}
use Rattle.rb_copies.specs.declared.homes.CopyKey.{CopyKey}
use Rattle.rb_copies.specs.declared.homes.KeptHome.{KeptHome}
use Rattle.rb_cr.specs.Copies.{BeginsAt, IsMade, Keeps, Turns, begun}
use Rattle.rb_cr.specs.declared.scratch.Snapshot.{Snapshot}

is_some_by : (o : Option KeptHome) (x : KeptHome) → o ≡ Some x → IsSome o
is_some_by None x is = absurd (cc (is))
is_some_by (Some y) x is = search

module _ (kept : KeptHomes) (b number n : ℕ) where
  pub begins_at : (first : Option ℕ) → IfSome first (λ k. IsLeast kept b number n k) → IfNone first ((k : ℕ) → Serves kept b number n k → ⊥) → BeginsAt kept b number n first
  begins_at None some none = none
  begins_at (Some k) some none = some

  -- it is kept, and at least at the snapshot
  pub is_there : (first : Option ℕ) → IfSome first (λ k. IsLeast kept b number n k) → IfSome first (λ k. IsSome (kept_under kept (copy_key b k)) × (n ≤ k))
  is_there None some = tt
  is_there (Some k) some = (is_some_by (kept_under kept (copy_key b k)) some.serves.home some.serves.there, some.serves.high)

  pub unserved : (first : Option ℕ) → BeginsAt kept b number n first → ((k : ℕ) → Serves kept b number n k → ⊥) → first ≡ None
  unserved None begins none = refl
  unserved (Some k) begins none = absurd (none k begins.serves)

  pub least_is : (first : Option ℕ) → BeginsAt kept b number n first → (k : ℕ) → IsLeast kept b number n k → first ≡ Some k
  least_is None begins k least = absurd (begins k least.serves)
  least_is (Some m) begins k least =
      let low = begins.least k least.serves in
      let high = least.least m begins.serves in
      let same : m ≡ k = omega (arith, low, high) in
      ap (λ (z : ℕ). Some z) same

  pub first_is : (first : Option ℕ) → BeginsAt kept b number n first → Serves kept b number n n → first ≡ Some n
  first_is first begins serves = least_is first begins n (record { serves = serves; least = λ k at. at.high })

  -- where one serves at the snapshot itself, it begins there
  pub passes : (first : Option ℕ) → BeginsAt kept b number n first → first ≢ Some n → Serves kept b number n n → ⊥
  passes first begins other serves = other (first_is first begins serves)

pub is_first : (first : Option ℕ) (n : ℕ) → not (option_eq nat_eq first (Some n)) ≡ false → first ≡ Some n
is_first None n is = absurd (cc (is))
is_first (Some k) n is = ap (λ (z : ℕ). Some z) (eqb-true k n (was (k == n) is))
  where
    was : (t : Bool) → not t ≡ false → t ≡ true
    was true is = refl
    was false is = absurd (cc (is))

pub not_first : (first : Option ℕ) (n : ℕ) → not (option_eq nat_eq first (Some n)) ≡ true → first ≢ Some n
not_first None n is same = absurd (cc (same))
not_first (Some k) n is same =
    let at : k ≡ n = cc in
    let same_is : (k == n) ≡ true = grind (arith, nat_tests) in
    wrong (k == n) same_is is
  where
    wrong : (t : Bool) → t ≡ true → not t ≡ true → ⊥
    wrong true is not_is = absurd (cc (not_is))
    wrong false is not_is = absurd (cc (is))

-- the homes that were kept before, as a use of one leaves them, and one that was put
module _ (shape : Shape) (blocks : List (List ℕ)) (b : ℕ) (snap : Snapshot) (old mid : KeptHomes) (same : (key : CopyKey) → kept_under mid key ≡ kept_under old key) where
  pub keeps_same : Keeps shape blocks b snap old mid
  keeps_same key copy is = inl (sym (same key) ∙ is)

  pub keeps_put : (new : KeptHomes) (home : KeptHome) → ((k : CopyKey) (copy : KeptHome) → kept_under new k ≡ Some copy → (kept_under mid k ≡ Some copy) ⊎ ((k ≡ copy_key b snap.scn) × (copy ≡ home)))
      → IsMade shape blocks old b snap home → Keeps shape blocks b snap old new
  keeps_put new home others made key copy is = ⊎_elim (λ before. inl (sym (same key) ∙ before)) (λ one. inr (one.0, subst (IsMade shape blocks old b snap) (sym one.1) made)) (others key copy is)

pub put_is : (old mid new : CopyTable) (b n : ℕ) (first : Option ℕ) (home : KeptHome) → mid ≡ begun old b first → (new ≡ mid) ⊎ (new ≡ with_copy mid (copy_key b n) home)
    → (new ≡ begun old b first) ⊎ ((copy : KeptHome) × (new ≡ with_copy (begun old b first) (copy_key b n) copy))
put_is old mid new b n first home was put = ⊎_elim (λ same. inl (same ∙ was)) (λ more. inr (home, more ∙ ap (λ (z : CopyTable). with_copy z (copy_key b n) home) was)) put

-- the home at n itself was used, and nothing else
pub turns_there : {T : Type 0} (b number n : ℕ) (x : T) (old new : CopyTable) → Serves old.kept b number n n → new ≡ used old (copy_key b n) → Turns b number n (Ok x) old new
turns_there b number n x old new serves was = record {
  first = Some n;
  begins = record { serves = serves; least = λ k at. at.high };
  refused = tt;
  served = λ is. was;
  put = inl was;
}

-- what is told of where a build begins
pub if_some : {X : Type 0} (P : X → Type 0) (found : Option X) (x : X) → found ≡ Some x → IfSome found P → P x
if_some P None x is holds = absurd (cc (is))
if_some P (Some y) x is holds = let same : y ≡ x = cc in subst P same holds

pub if_none : {X : Type 0} (P : Type 0) (found : Option X) → found ≡ None → IfNone found P → P
if_none P None is holds = holds
if_none P (Some y) is holds = absurd (cc (is))
