-- What a tree says of its top: the row of a key that the changes of one slot alone may name.
use Rattle.std.proofs.Common.{◌≡◌, ◌≢◌, ◌⊎◌, inl, inr, ⊎_elim, ◌<◌, ◌==◌, ℕ, zero, suc, true, List, [], ◌∷◌, length, set, Option, Some, refl, sym, ◌∙◌, ap, subst, arith}
use Rattle.std.proofs.lemmas.Bool.{cases_eq}
use Rattle.std.proofs.lemmas.Bool.Decides.{nat_tests}
use Rattle.std.proofs.lemmas.List.{get_or-set_same, get_or-set_other}
use Rattle.rb_model.specs.Change.{Kind, Put, Gone, Held}
use Rattle.law_home.specs.Kinds.{Cell, Empty, Undo}
use Rattle.law_home.specs.Steps.{Names}
use Rattle.law_home.specs.Walk.{Change, Commit, Home, Env, Rows, Head, Tree, Next, AllEmpty, Match, Unique, Walk, own, back, row_of, rows_of, behind, changed, cell_at}
use Rattle.law_home.proofs.Bottom.{some_live}
use Rattle.law_home.proofs.Committing.{unique_back, top, shown_taken, changed_other}
use Rattle.law_home.proofs.Homes.{changed_agrees}
use Rattle.law_home.proofs.Lives.{own_within}

-- what the cells show of one key is this
pub record KeyMatch (b : Home) (k : ℕ) (x : Option (List ℕ)) : Type 0 where
  pub sound : (j : ℕ) (v : List ℕ) → row_of (cell_at b j) k ≡ Some v → x ≡ Some v
  pub complete : (v : List ℕ) → x ≡ Some v → (j : ℕ) × (row_of (cell_at b j) k ≡ Some v)

-- at its own key a change is one answer, or none
changed_own : (kind : Kind) (key : ℕ) → ((rows rows2 : Rows) → changed kind key rows key ≡ changed kind key rows2 key) ⊎ ((rows : Rows) → changed kind key rows key ≡ rows key)
changed_own (Put v) key = let test : (key == key) ≡ true = grind (arith, nat_tests) in inl (λ rows rows2. rw test refl)
changed_own Gone key = let test : (key == key) ≡ true = grind (arith, nat_tests) in inl (λ rows rows2. rw test refl)
changed_own Held key = inr (λ rows. refl)

module _ (env : Env) (s : ℕ) (ch : Change) (n : ℕ) (b : Home) (r : Undo) (head : Head env s ch n b r) (unique : Unique b) (k : ℕ) (x : Option (List ℕ)) (before : KeyMatch (back r b) k x) where
  at_cell : cell_at (back r b) r.cell ≡ r.cell_before
  at_cell = get_or-set_same b.cells r.cell r.cell_before Empty head.cell

  at_other : (j : ℕ) → j ≢ r.cell → cell_at (back r b) j ≡ cell_at b j
  at_other j ne = get_or-set_other b.cells r.cell j r.cell_before Empty ne

  -- what the change's cell shows of another key is what it showed before
  pub key_other : k ≢ ch.key → KeyMatch b k x
  key_other other = record {
    sound = λ j v shown. elim (cases_eq j r.cell) [
      | inl at ↦ before.sound r.cell v (ap (λ (c : Cell). row_of c k) at_cell ∙ (sym (head.shows k ∙ changed_other ch.kind ch.key (row_of r.cell_before) k other) ∙ subst (λ (z : ℕ). row_of (cell_at b z) k ≡ Some v) at shown))
      | inr ne ↦ before.sound j v (ap (λ (c : Cell). row_of c k) (at_other j ne) ∙ shown)
    ];
    complete = λ v has. let p : (j : ℕ) × (row_of (cell_at (back r b) j) k ≡ Some v) = before.complete v has in
        elim (cases_eq p.0 r.cell) [
          | inl at ↦
              let shown : row_of (cell_at (back r b) r.cell) k ≡ Some v = subst (λ (z : ℕ). row_of (cell_at (back r b) z) k ≡ Some v) at p.1 in
              (r.cell, head.shows k ∙ (changed_other ch.kind ch.key (row_of r.cell_before) k other ∙ (sym (ap (λ (c : Cell). row_of c k) at_cell) ∙ shown)))
          | inr nj ↦ (p.0, ap (λ (c : Cell). row_of c k) (sym (at_other p.0 nj)) ∙ p.1)
        ];
  }

  pub key_own : k ≡ ch.key → KeyMatch b k (changed ch.kind ch.key (λ q. x) k)
  key_own is = record { sound = sound; complete = complete }
    where
      shows : row_of (cell_at b r.cell) k ≡ changed ch.kind ch.key (row_of r.cell_before) k
      shows = head.shows k

      sound : (j : ℕ) (v : List ℕ) → row_of (cell_at b j) k ≡ Some v → changed ch.kind ch.key (λ q. x) k ≡ Some v
      sound j v shown =
          let at : j ≡ r.cell = unique j r.cell k (shown_taken (cell_at b j) k v shown) (head.has_key ∙ ap Some (sym is)) in
          let there : changed ch.kind ch.key (row_of r.cell_before) k ≡ Some v = sym shows ∙ subst (λ (z : ℕ). row_of (cell_at b z) k ≡ Some v) at shown in
          let here : changed ch.kind ch.key (row_of r.cell_before) ch.key ≡ Some v = subst (λ (z : ℕ). changed ch.kind ch.key (row_of r.cell_before) z ≡ Some v) is there in
          let goal : changed ch.kind ch.key (λ q. x) ch.key ≡ Some v = ⊎_elim
          (λ alone. alone (λ q. x) (row_of r.cell_before) ∙ here)
          (λ stays.
          let old : row_of r.cell_before ch.key ≡ Some v = sym (stays (row_of r.cell_before)) ∙ here in
          let was : row_of (cell_at (back r b) r.cell) k ≡ Some v = ap (λ (c : Cell). row_of c k) at_cell ∙ subst (λ (z : ℕ). row_of r.cell_before z ≡ Some v) (sym is) old in
          stays (λ q. x) ∙ before.sound r.cell v was)
          (changed_own ch.kind ch.key) in
          subst (λ (z : ℕ). changed ch.kind ch.key (λ q. x) z ≡ Some v) (sym is) goal

      complete : (v : List ℕ) → changed ch.kind ch.key (λ q. x) k ≡ Some v → (j : ℕ) × (row_of (cell_at b j) k ≡ Some v)
      complete v has =
          let here : changed ch.kind ch.key (λ q. x) ch.key ≡ Some v = subst (λ (z : ℕ). changed ch.kind ch.key (λ q. x) z ≡ Some v) is has in
          ⊎_elim
          (λ alone. let goal : changed ch.kind ch.key (row_of r.cell_before) ch.key ≡ Some v = alone (row_of r.cell_before) (λ q. x) ∙ here in (r.cell, shows ∙ subst (λ (z : ℕ). changed ch.kind ch.key (row_of r.cell_before) z ≡ Some v) (sym is) goal))
          (λ stays.
          let p : (j : ℕ) × (row_of (cell_at (back r b) j) k ≡ Some v) = before.complete v (sym (stays (λ q. x)) ∙ here) in
          elim (cases_eq p.0 r.cell) [
            | inl at ↦
                let shown : row_of (cell_at (back r b) r.cell) k ≡ Some v = subst (λ (z : ℕ). row_of (cell_at (back r b) z) k ≡ Some v) at p.1 in
                let old : row_of r.cell_before ch.key ≡ Some v = subst (λ (z : ℕ). row_of r.cell_before z ≡ Some v) is (sym (ap (λ (c : Cell). row_of c k) at_cell) ∙ shown) in
                let goal : changed ch.kind ch.key (row_of r.cell_before) ch.key ≡ Some v = stays (row_of r.cell_before) ∙ old in
                (r.cell, shows ∙ subst (λ (z : ℕ). changed ch.kind ch.key (row_of r.cell_before) z ≡ Some v) (sym is) goal)
            | inr nj ↦ (p.0, ap (λ (c : Cell). row_of c k) (sym (at_other p.0 nj)) ∙ p.1)
          ])
          (changed_own ch.kind ch.key)

-- no change of another slot names the key
abbrev pub Alone : List (List Change) → ℕ → ℕ → Type 0
Alone lives t k = (u : ℕ) → u ≢ t → Names (own lives u) k → ⊥

module _ (env : Env) (base : ℕ) (rows : Rows) (list : List Commit) (t k : ℕ) where
  quiet : (lives : List (List Change)) (b : Home) → AllEmpty lives → Walk env base rows list b → KeyMatch b k (behind (own lives t) (rows_of rows list) k)
  quiet lives b none walk =
      let match : Match b (rows_of rows list) = (top env base rows list b walk).is in
      let same : rows_of rows list k ≡ behind (own lives t) (rows_of rows list) k = ap (λ (l : List Change). behind l (rows_of rows list) k) (sym (none t)) in
      subst (λ (x : Option (List ℕ)). KeyMatch b k x) same (record { sound = λ j v shown. match.sound j k v shown; complete = λ v has. match.complete k v has })

  -- the rows at the top, of a key that one slot's changes alone may name
  pub tree_key : (m : ℕ) (lives : List (List Change)) (b : Home) → Unique b → Alone lives t k → Tree env m lives b (Walk env base rows list) → KeyMatch b k (behind (own lives t) (rows_of rows list) k)
  tree_key zero lives b unique alone tree = quiet lives b tree.0 tree.2
  tree_key (suc m) lives b unique alone tree = ⊎_elim
      (λ none. quiet lives b none (tree.2 none))
      (λ some. step (λ l c u a tr. tree_key m l c u a tr) some.0 some.1 some.2 some.3 (tree.0 some.0 some.1 some.2 some.3) (cases_eq some.0 t))
      (some_live lives)
    where
      still : (s : ℕ) (ch : Change) (more : List Change) → own lives s ≡ ch ∷ more → Alone (set lives s more) t k
      still s ch more is u ne named = elim (cases_eq u s) [
        | inl us ↦
            let s_in : s < length lives = own_within lives s ch more is in
            let here : own (set lives s more) u ≡ more = ap (own (set lives s more)) us ∙ get_or-set_same lives s more [] s_in in
            let old : own lives u ≡ ch ∷ more = ap (own lives) us ∙ is in
            let named2 : Names more k = subst (λ (l : List Change). Names l k) here named in
            alone u ne (subst (λ (l : List Change). Names l k) (sym old) (inr named2))
        | inr ns ↦ alone u ne (subst (λ (l : List Change). Names l k) (get_or-set_other lives s u more [] ns) named)
      ]

      step : ((l : List (List Change)) (c : Home) → Unique c → Alone l t k → Tree env m l c (Walk env base rows list) → KeyMatch c k (behind (own l t) (rows_of rows list) k)) → (s : ℕ) (ch : Change) (more : List Change) → own lives s ≡ ch ∷ more → Next env m lives b (Walk env base rows list) s ch more → (s ≡ t) ⊎ (s ≢ t) → KeyMatch b k (behind (own lives t) (rows_of rows list) k)
      step deeper s ch more is next (inr ne) =
          let deep : KeyMatch (back next.0 b) k (behind (own (set lives s more) t) (rows_of rows list) k) = deeper (set lives s more) (back next.0 b) (unique_back env s ch (suc (length more)) b next.0 next.1 unique) (still s ch more is) next.2 in
          let same : own (set lives s more) t ≡ own lives t = get_or-set_other lives s t more [] (λ ts. ne (sym ts)) in
          let other : k ≢ ch.key = λ ks. alone s ne (subst (λ (l : List Change). Names l k) (sym is) (inl (sym ks))) in
          key_other env s ch (suc (length more)) b next.0 next.1 unique k _ (subst (λ (l : List Change). KeyMatch (back next.0 b) k (behind l (rows_of rows list) k)) same deep) other
      step deeper s ch more is next (inl st) =
          let s_in : s < length lives = own_within lives s ch more is in
          let deep : KeyMatch (back next.0 b) k (behind (own (set lives s more) t) (rows_of rows list) k) = deeper (set lives s more) (back next.0 b) (unique_back env s ch (suc (length more)) b next.0 next.1 unique) (still s ch more is) next.2 in
          let same : own (set lives s more) t ≡ more = ap (own (set lives s more)) (sym st) ∙ get_or-set_same lives s more [] s_in in
          let here : own lives t ≡ ch ∷ more = ap (own lives) (sym st) ∙ is in
          let down : KeyMatch (back next.0 b) k (behind more (rows_of rows list) k) = subst (λ (l : List Change). KeyMatch (back next.0 b) k (behind l (rows_of rows list) k)) same deep in
          let up : KeyMatch b k (behind (ch ∷ more) (rows_of rows list) k) = elim (cases_eq k ch.key) [
            | inl ks ↦ subst (λ (x : Option (List ℕ)). KeyMatch b k x) (changed_agrees ch.kind ch.key (λ q. behind more (rows_of rows list) k) (behind more (rows_of rows list)) k refl) (key_own env s ch (suc (length more)) b next.0 next.1 unique k (behind more (rows_of rows list) k) down ks)
            | inr ks ↦ subst (λ (x : Option (List ℕ)). KeyMatch b k x) (sym (changed_other ch.kind ch.key (behind more (rows_of rows list)) k ks)) (key_other env s ch (suc (length more)) b next.0 next.1 unique k (behind more (rows_of rows list) k) down ks)
          ] in
          subst (λ (l : List Change). KeyMatch b k (behind l (rows_of rows list) k)) (sym here) up
