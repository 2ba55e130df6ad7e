-- Two trees over one block end at one block: which changes are live is told by the block and the records.
use Rattle.std.proofs.Common.{◌≡◌, inl, inr, ⊎_elim, ◌⊎◌, ℕ, zero, suc, List, [], ◌∷◌, length, set, Some, refl, sym, ◌∙◌, ap, subst}
use Rattle.law_home.specs.Kinds.{Undo}
use Rattle.law_home.specs.Walk.{Change, Home, Env, Head, Tree, Next, IsActive, AllEmpty, Distinct, own, back, entry_at}

-- all are empty, or one isn't
pub some_live : (lives : List (List Change)) → AllEmpty lives ⊎ ((s : ℕ) × (ch : Change) × (more : List Change) × (own lives s ≡ ch ∷ more))
some_live [] = inl (λ s. refl)
some_live ((ch ∷ more) ∷ lives) = inr (0, ch, more, refl)
some_live ([] ∷ lives) = ⊎_elim (λ none. inl (none_too none)) (λ some. inr (suc some.0, some.1, some.2, some.3)) (some_live lives)
  where
    none_too : AllEmpty lives → (s : ℕ) → own ([] ∷ lives) s ≡ []
    none_too none zero = refl
    none_too none (suc s) = none s

empty_by : (l : List Change) → ((ch : Change) (more : List Change) → l ≡ ch ∷ more → ⊥) → l ≡ []
empty_by [] never = refl
empty_by (ch ∷ more) never = absurd (never ch more refl)

module _ (env : Env) (distinct : Distinct env) where
  head_active : (s : ℕ) (ch : Change) (n : ℕ) (b : Home) (r : Undo) → Head env s ch n b r → IsActive env (entry_at b r.entry)
  head_active s ch n b r head = (head.status, ap env.look head.leads.xid ∙ head.active)

  none_live : (k : ℕ) (lives : List (List Change)) (b : Home) (Q : Home → Type 0) → ((j : ℕ) → IsActive env (entry_at b j) → ⊥) → Tree env k lives b Q → Q b
  none_live zero lives b Q quiet tree = tree.2
  none_live (suc k) lives b Q quiet tree =
      tree.2 (λ s. empty_by (own lives s) (λ ch more is. let next : Next env k lives b Q s ch more = tree.0 s ch more is in quiet next.0.entry (head_active s ch (suc (length more)) b next.0 next.1)))

  pub one_bottom : (m k : ℕ) (lives others : List (List Change)) (b : Home) (P Q : Home → Type 0) → Tree env m lives b P → Tree env k others b Q
      → (c : Home) × P c × Q c
  one_bottom zero k lives others b P Q one two = (b, one.2, none_live k others b Q one.1 two)
  one_bottom (suc m) k lives others b P Q one two = ⊎_elim
      (λ none. (b, one.2 none, none_live k others b Q (λ j active. let f : (s : ℕ) × (ch : Change) × (more : List Change) × (own lives s ≡ ch ∷ more) × ((entry_at b j).xid ≡ env.xid s) = one.1 j active in let a : own lives f.0 ≡ [] = none f.0 in let c : own lives f.0 ≡ f.1 ∷ f.2 = f.3 in cc) two))
      (λ some. step (λ k l o c t u. one_bottom m k l o c P Q t u) k some.0 some.1 some.2 some.3 two)
      (some_live lives)
    where
      step : ((k : ℕ) (l o : List (List Change)) (b : Home) → Tree env m l b P → Tree env k o b Q → (c : Home) × P c × Q c)
          → (k s : ℕ) (ch : Change) (more : List Change) → own lives s ≡ ch ∷ more → Tree env k others b Q → (c : Home) × P c × Q c
      step deeper zero s ch more is two =
          let next : Next env m lives b P s ch more = one.0 s ch more is in
          absurd (two.1 next.0.entry (head_active s ch (suc (length more)) b next.0 next.1))
      step deeper (suc k) s ch more is two =
          let next : Next env m lives b P s ch more = one.0 s ch more is in
          let active : IsActive env (entry_at b next.0.entry) = head_active s ch (suc (length more)) b next.0 next.1 in
          let f : (u : ℕ) × (chu : Change) × (moreu : List Change) × (own others u ≡ chu ∷ moreu)
          × ((entry_at b next.0.entry).xid ≡ env.xid u) = two.1 next.0.entry active in
          let other : Next env k others b Q f.0 f.1 f.2 = two.0 f.0 f.1 f.2 f.3 in
          let at : other.0.entry ≡ next.0.entry = sym (other.1.only next.0.entry active f.4) in
          let places : ch.place ≡ f.1.place = sym next.1.leads.newest ∙ (ap (λ (i : ℕ). (entry_at b i).newest) (sym at) ∙ other.1.leads.newest) in
          let here : env.store ch.place ≡ Some next.0 = next.1.there in
          let there : env.store ch.place ≡ Some other.0 = ap env.store places ∙ other.1.there in
          let same : next.0 ≡ other.0 = cc in
          deeper k (set lives s more) (set others f.0 f.2) (back next.0 b) next.2 (subst (λ (r : Undo). Tree env k (set others f.0 f.2) (back r b) Q) (sym same) other.2)
