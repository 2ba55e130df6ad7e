-- What of the changes concerns one home.
use Rattle.std.proofs.Common.{◌≡◌, ◌≤◌, ℕ, zero, suc, List, [], ◌∷◌, length, map, refl, sym, ◌∙◌, ap, arith}
use Rattle.law_home.specs.Homes.{here}
use Rattle.law_home.specs.Walk.{Change, Commit, OldChanges, OldCommits, own}

-- the live changes of a slot that concern a home
pub own_here : (b : ℕ) (lives : List (List Change)) (s : ℕ) → own (map (here b) lives) s ≡ here b (own lives s)
own_here b [] s = refl
own_here b (l ∷ lives) zero = refl
own_here b (l ∷ lives) (suc s) = own_here b lives s

pub length_here : (b : ℕ) (lives : List (List Change)) → length (map (here b) lives) ≡ length lives
length_here b [] = refl
length_here b (l ∷ lives) = let h : length (map (here b) lives) ≡ length lives = length_here b lives in omega arith

-- more was made since
pub old_later : (w w2 : ℕ → ℕ) → ((g : ℕ) → w g ≤ w2 g) → (list : List Commit) → OldCommits w list → OldCommits w2 list
old_later w w2 le [] old = tt
old_later w w2 le (t ∷ older) old = (changes t.changes old.0, old_later w w2 le older old.1)
  where
    changes : (chs : List Change) → OldChanges w chs → OldChanges w2 chs
    changes [] old = tt
    changes (ch ∷ more) old = let h = le ch.place.seg in (omega (arith, old.0, h), changes more old.1)

-- where a slot has a change here, it has one
pub some_here : (b : ℕ) (lives : List (List Change)) (s : ℕ) (ch : Change) (more : List Change) → own (map (here b) lives) s ≡ ch ∷ more → (c : Change) × (l : List Change) × (own lives s ≡ c ∷ l)
some_here b lives s ch more has = some (own lives s) refl (sym (own_here b lives s) ∙ has)
  where
    some : (chs : List Change) → own lives s ≡ chs → here b (own lives s) ≡ ch ∷ more → (c : Change) × (l : List Change) × (own lives s ≡ c ∷ l)
    some [] is has = let none : here b (own lives s) ≡ [] = ap (here b) is in absurd (cc)
    some (c ∷ l) is has = (c, l, is)
