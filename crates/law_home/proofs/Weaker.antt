-- What is left of a home once its live changes are taken back may be said in weaker words.
use Rattle.std.proofs.Common.{◌≡◌, ℕ, zero, suc, List, set, sym, ◌∙◌}
use Rattle.law_home.specs.Walk.{Change, Home, Env, Rows, Match, Tree, Next, back}

-- over what follows from the end
pub tree_weaker : (env : Env) (P Q : Home → Type 0) → ((b : Home) → P b → Q b) → (m : ℕ) (lives : List (List Change)) (b : Home) → Tree env m lives b P → Tree env m lives b Q
tree_weaker env P Q from zero lives b tree = (tree.0, tree.1, from b tree.2)
tree_weaker env P Q from (suc m) lives b tree = (
  λ s ch more has. let next : Next env m lives b P s ch more = tree.0 s ch more has in (next.0, next.1, tree_weaker env P Q from m (set lives s more) (back next.0 b) next.2),
  tree.1,
  λ none. from b (tree.2 none),
  tree.3,
)

-- the rows of a home, said by other words
pub match_same : (b : Home) (rows rows2 : Rows) → ((k : ℕ) → rows2 k ≡ rows k) → Match b rows → Match b rows2
match_same b rows rows2 same is = record {
  sound = λ j k v shown. same k ∙ is.sound j k v shown;
  complete = λ k v has. is.complete k v (sym (same k) ∙ has);
}
