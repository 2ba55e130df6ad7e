-- What is said of groups that are given to a store in two steps: what was made last, and to what an image opens.
use Rattle.std.specs.Prelude.{◌≡◌, ℕ, ◌+◌, ◌≤◌, List, [], ◌∷◌, ◌++◌, length, take, drop}
use Rattle.std.proofs.Common.{arith, sym, ap, ◌∙◌, subst, length-append}
use Rattle.std.proofs.lemmas.List.{take-append-le, drop-append-le, drop-drop, length-drop, length-take-le}
use Rattle.std.proofs.Math.Seq.{take-add}
use Rattle.rb_base.specs.Blocks.{after_group, after_groups}
use Rattle.rb_base.specs.Groups.{Patch}
use Rattle.rb_base.specs.Stores.{OpensToSome, Settles}

-- groups after others: the blocks are those after all of them
pub after_joined : (number : ℕ) (groups more : List (List Patch)) (blocks : List (List ℕ))
    → after_groups number (groups ++ more) blocks
    ≡ after_groups (number + length groups) more (after_groups number groups blocks)
after_joined number [] more blocks = ap (λ (n : ℕ). after_groups n more blocks) (omega arith)
after_joined number (g ∷ groups) more blocks = after_joined (number + 1) groups more (after_group number g blocks)
    ∙ ap (λ (n : ℕ). after_groups n more (after_groups (number + 1) groups (after_group number g blocks)))
    (omega arith)

-- some of the groups, then some of what is left of them and of more
pub two_steps : (n : ℕ) (given more : List (List Patch)) (count later : ℕ) (blocks : List (List ℕ))
    → count ≤ length given
    → after_groups (n + count + 1) (take later (drop count given ++ more))
    (after_groups (n + 1) (take count given) blocks)
    ≡ after_groups (n + 1) (take (count + later) (given ++ more)) blocks
two_steps n given more count later blocks few =
    let long = length-take-le count given few in
    let made = after_groups (n + 1) (take count given) blocks in
    let all = given ++ more in
    ap (λ (k : ℕ). after_groups k (take later (drop count given ++ more)) made) (omega (arith, long))
    ∙ ap (λ (groups : List (List Patch)). after_groups (n + 1 + length (take count given)) (take later groups) made)
    (sym (drop-append-le count given more few))
    ∙ sym (after_joined (n + 1) (take count given) (take later (drop count all)) blocks)
    ∙ ap (λ (groups : List (List Patch)). after_groups (n + 1) (groups ++ take later (drop count all)) blocks)
    (sym (take-append-le count given more few))
    ∙ ap (λ (groups : List (List Patch)). after_groups (n + 1) groups blocks) (sym (take-add count later all))

-- what is told of blocks and a last log number is told of the same ones
pub told_same : (told : List (List ℕ) → ℕ → Type 0) (a b : List (List ℕ)) (m n : ℕ) → a ≡ b → m ≡ n
    → told a m → told b n
told_same told a b m n blocks number has =
    subst (λ (x : List (List ℕ)). told x n) blocks (subst (told a) number has)

few_joined : (given more mid : List (List Patch)) (count later : ℕ) → count ≤ length given
    → mid ≡ drop count given → later ≤ length (mid ++ more) → count + later ≤ length (given ++ more)
few_joined given more mid count later few waits fewer =
    let same = ap length waits in
    omega (arith, few, fewer, length-append given more, length-append mid more, length-drop count given, same)

-- what was made last in a second step is made last of all
pub settles_joined : (n : ℕ) (given more : List (List Patch)) (b : List (List ℕ))
    (was is : List (List ℕ) → ℕ → Type 0) (mid now : List (List Patch)) → (one : Settles n given b was mid)
    → Settles (n + one.count) (mid ++ more) (after_groups (n + 1) (take one.count given) b) is now
    → Settles n (given ++ more) b is now
settles_joined n given more b was is mid now one two =
    let made = after_groups (n + 1) (take one.count given) b in
    let rest : mid ++ more ≡ drop one.count given ++ more = ap (λ (l : List (List Patch)). l ++ more) one.waits in
    record {
      count = one.count + two.count;
      few = few_joined given more mid one.count two.count one.few one.waits two.few;
      settled = told_same is _ _ _ _
          (ap (λ (l : List (List Patch)). after_groups (n + one.count + 1) (take two.count l) made) rest
          ∙ two_steps n given more one.count two.count b one.few)
          (omega arith) two.settled;
      waits = two.waits ∙ ap (drop two.count) (rest ∙ sym (drop-append-le one.count given more one.few))
          ∙ drop-drop two.count one.count (given ++ more);
    }

module _ {I : Type 0} (opens : I → List (List ℕ) → ℕ → Type 0) where
  -- an image that opens after some groups does so where more are given
  pub some_front : (n : ℕ) (given more : List (List Patch)) (b : List (List ℕ)) (i : I)
      → OpensToSome opens n given b i → OpensToSome opens n (given ++ more) b i
  some_front n given more b i some = record {
    count = some.count;
    few = omega (arith, length-append given more, some.few);
    opening = subst (λ (l : List (List Patch)). opens i (after_groups (n + 1) l b) (n + some.count))
        (sym (take-append-le some.count given more some.few)) some.opening;
  }

  -- an image that opens after some groups of a second step opens after some of all
  pub some_later : (n : ℕ) (given more : List (List Patch)) (b : List (List ℕ))
      (was : List (List ℕ) → ℕ → Type 0) (mid : List (List Patch)) (i : I) → (one : Settles n given b was mid)
      → OpensToSome opens (n + one.count) (mid ++ more) (after_groups (n + 1) (take one.count given) b) i
      → OpensToSome opens n (given ++ more) b i
  some_later n given more b was mid i one some =
      let made = after_groups (n + 1) (take one.count given) b in
      let rest : mid ++ more ≡ drop one.count given ++ more = ap (λ (l : List (List Patch)). l ++ more) one.waits in
      record {
        count = one.count + some.count;
        few = few_joined given more mid one.count some.count one.few one.waits some.few;
        opening = told_same (opens i) _ _ _ _
            (ap (λ (l : List (List Patch)). after_groups (n + one.count + 1) (take some.count l) made) rest
            ∙ two_steps n given more one.count some.count b one.few)
            (omega arith) some.opening;
      }
