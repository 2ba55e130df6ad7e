-- What the cells of a home show: the rows after all commits, and over those the live changes.
use Rattle.std.proofs.Common.{◌≡◌, ◌≢◌, inl, inr, ⊎_elim, ℕ, zero, suc, List, [], ◌∷◌, length, set, refl, sym, ◌∙◌, ap, subst, arith}
use Rattle.std.proofs.lemmas.Bool.{cases_eq}
use Rattle.law_home.specs.Steps.{Stands, Names, live_rows}
use Rattle.law_home.specs.Walk.{Change, Commit, Home, Env, Rows, Tree, Next, Walk, Match, AllEmpty, Distinct, Unique, own, back, behind, changed, rows_of}
use Rattle.law_home.proofs.Bottom.{some_live}
use Rattle.law_home.proofs.Committing.{changed_other, match_step, top, unique_back}
use Rattle.law_home.proofs.Holding.{one_slot_names}
use Rattle.law_home.proofs.Homes.{changed_agrees}

behind_agrees : (chs : List Change) (rows rows2 : Rows) (k : ℕ) → rows k ≡ rows2 k → behind chs rows k ≡ behind chs rows2 k
behind_agrees [] rows rows2 k same = same
behind_agrees (ch ∷ more) rows rows2 k same = changed_agrees ch.kind ch.key (behind more rows) (behind more rows2) k (behind_agrees more rows rows2 k same)

-- a change of a key goes past changes of other keys
behind_past : (ch : Change) (chs : List Change) (rows : Rows) (k : ℕ) → (Names chs ch.key → ⊥)
    → behind chs (changed ch.kind ch.key rows) k ≡ changed ch.kind ch.key (behind chs rows) k
behind_past ch [] rows k apart = refl
behind_past ch (c ∷ more) rows k apart =
    let deep : behind more (changed ch.kind ch.key rows) k ≡ changed ch.kind ch.key (behind more rows) k = behind_past ch more rows k (λ named. apart (inr named)) in
    elim (cases_eq k ch.key) [
      | inl at ↦
          let other : k ≢ c.key = λ is. apart (inl (sym is ∙ at)) in
          changed_other c.kind c.key (behind more (changed ch.kind ch.key rows)) k other
          ∙ (deep ∙ sym (changed_agrees ch.kind ch.key (behind (c ∷ more) rows) (behind more rows) k (changed_other c.kind c.key (behind more rows) k other)))
      | inr ne ↦ changed_agrees c.kind c.key (behind more (changed ch.kind ch.key rows)) (behind more rows) k (deep ∙ changed_other ch.kind ch.key (behind more rows) k ne)
          ∙ sym (changed_other ch.kind ch.key (behind (c ∷ more) rows) k ne)
    ]

-- the newest live change of a session is over all others, where no other session has its key
live_step : (lives : List (List Change)) (s : ℕ) (ch : Change) (more : List Change) (rows : Rows) (k : ℕ) → own lives s ≡ ch ∷ more
    → ((u : ℕ) → u ≢ s → Names (own lives u) ch.key → ⊥) → live_rows lives rows k ≡ changed ch.kind ch.key (live_rows (set lives s more) rows) k
live_step [] s ch more rows k is apart = absurd (cc)
live_step (l ∷ lives) zero ch more rows k is apart = ap (λ (z : List Change). behind z (live_rows lives rows) k) is
live_step (l ∷ lives) (suc s) ch more rows k is apart =
    let deep : live_rows lives rows k ≡ changed ch.kind ch.key (live_rows (set lives s more) rows) k = live_step lives s ch more rows k is (λ u ne. apart (suc u) (λ same. ne (omega (arith, same)))) in
    behind_agrees l (live_rows lives rows) (changed ch.kind ch.key (live_rows (set lives s more) rows)) k deep
    ∙ behind_past ch l (live_rows (set lives s more) rows) k (apart 0 (λ same. omega (arith, same)))

none_live : (lives : List (List Change)) (rows : Rows) (k : ℕ) → AllEmpty lives → live_rows lives rows k ≡ rows k
none_live [] rows k none = refl
none_live (l ∷ lives) rows k none = ap (λ (z : List Change). behind z (live_rows lives rows) k) (none 0) ∙ none_live lives rows k (λ s. none (suc s))

match_agrees : (b : Home) (rows rows2 : Rows) → ((k : ℕ) → rows2 k ≡ rows k) → Match b rows → Match b rows2
match_agrees b rows rows2 same is = record {
  sound = λ j k v shown. same k ∙ is.sound j k v shown;
  complete = λ k v has. is.complete k v (sym (same k) ∙ has);
}

module _ (env : Env) (base : ℕ) (rows : Rows) (list : List Commit) (distinct : Distinct env) where
  shows : (m : ℕ) (lives : List (List Change)) (b : Home) → Unique b → Tree env m lives b (Walk env base rows list) → Match b (live_rows lives (rows_of rows list))
  shows zero lives b unique tree = match_agrees b (rows_of rows list) (live_rows lives (rows_of rows list)) (λ k. none_live lives (rows_of rows list) k tree.0) (top env base rows list b tree.2).is
  shows (suc m) lives b unique tree = ⊎_elim
      (λ none. match_agrees b (rows_of rows list) (live_rows lives (rows_of rows list)) (λ k. none_live lives (rows_of rows list) k none) (top env base rows list b (tree.2 none)).is)
      (λ some.
      let next : Next env m lives b (Walk env base rows list) some.0 some.1 some.2 = tree.0 some.0 some.1 some.2 some.3 in
      let before : Match (back next.0 b) (live_rows (set lives some.0 some.2) (rows_of rows list)) =
      shows m (set lives some.0 some.2) (back next.0 b) (unique_back env some.0 some.1 (suc (length some.2)) b next.0 next.1 unique) next.2 in
      let named : Names (own lives some.0) some.1.key = subst (λ (z : List Change). Names z some.1.key) (sym some.3) (inl refl) in
      let step : (k : ℕ) → live_rows lives (rows_of rows list) k ≡ changed some.1.kind some.1.key (live_rows (set lives some.0 some.2) (rows_of rows list)) k =
      λ k. live_step lives some.0 some.1 some.2 (rows_of rows list) k some.3 (λ u ne other. ne (one_slot_names env (Walk env base rows list) (suc m) lives b distinct unique tree u some.0 some.1.key other named)) in
      match_agrees b (changed some.1.kind some.1.key (live_rows (set lives some.0 some.2) (rows_of rows list))) (live_rows lives (rows_of rows list)) step
      (match_step env some.0 some.1 (suc (length some.2)) b next.0 next.1 unique (live_rows (set lives some.0 some.2) (rows_of rows list)) before))
      (some_live lives)

pub shows_live : (env : Env) (w : ℕ → ℕ) (base : ℕ) (rows : Rows) (list : List Commit) (lives : List (List Change)) (b : Home)
    → Stands env w base rows list lives b → Match b (live_rows lives (rows_of rows list))
shows_live env w base rows list lives b stands = shows env base rows list stands.distinct stands.m lives b stands.unique stands.tree
