-- The first live changes of a tree.
use Rattle.std.proofs.Common.{refl, ap, subst, ◌∙◌, ◌≡◌, ◌≢◌, ◌<◌, ℕ, zero, suc, List, [], ◌∷◌, length, arith}
use Rattle.law_home.specs.Kinds.{Open, Undo}
use Rattle.law_home.specs.Walk.{Change, Home, Env, Head, Tree, Next, IsActive, own, entry_at}

pub own_within : (lives : List (List Change)) (s : ℕ) (ch : Change) (more : List Change) → own lives s ≡ ch ∷ more → s < length lives
own_within [] s ch more has = cc
own_within (l ∷ lives) zero ch more has = omega arith
own_within (l ∷ lives) (suc s) ch more has = let h : s < length lives = own_within lives s ch more has in omega arith

-- an Active entry is of a slot with live changes here
pub found : (env : Env) (rest : Home → Type 0) (m : ℕ) (lives : List (List Change)) (b : Home) (k : ℕ) → IsActive env (entry_at b k)
    → Tree env m lives b rest → (s : ℕ) × (ch : Change) × (more : List Change) × (own lives s ≡ ch ∷ more) × ((entry_at b k).xid ≡ env.xid s)
found env rest zero lives b k active tree = absurd (tree.1 k active)
found env rest (suc m) lives b k active tree = tree.1 k active

-- the newest live change of a slot is the head of its entry
pub first : (env : Env) (rest : Home → Type 0) (m : ℕ) (lives : List (List Change)) (b : Home) (s : ℕ) (ch : Change) (more : List Change)
    → own lives s ≡ ch ∷ more → Tree env m lives b rest → (r : Undo) × Head env s ch (suc (length more)) b r
first env rest zero lives b s ch more has tree = let none : own lives s ≡ [] = tree.0 s in absurd (cc)
first env rest (suc m) lives b s ch more has tree = let next : Next env m lives b rest s ch more = tree.0 s ch more has in (next.0, next.1)

-- while a slot has live changes, its entry is open, leads to them and is of its transaction
pub leads_on : (env : Env) (rest : Home → Type 0) (s i : ℕ) (chs : List Change) (m : ℕ) (lives : List (List Change)) (b : Home) → own lives s ≡ chs
    → ((j : ℕ) → IsActive env (entry_at b j) → (entry_at b j).xid ≡ env.xid s → j ≡ i) → Tree env m lives b rest → length chs ≢ 0
    → ((entry_at b i).status ≡ Open) × ((entry_at b i).xid ≡ env.xid s) × ((entry_at b i).chain ≡ length chs)
leads_on env rest s i [] m lives b is only tree some = absurd (some refl)
leads_on env rest s i (ch ∷ more) m lives b is only tree some =
    let h : (r : Undo) × Head env s ch (suc (length more)) b r = first env rest m lives b s ch more is tree in
    let at : h.0.entry ≡ i = only h.0.entry (h.1.status, ap env.look h.1.leads.xid ∙ h.1.active) h.1.leads.xid in (
      subst (λ (z : ℕ). (entry_at b z).status ≡ Open) at h.1.status,
      subst (λ (z : ℕ). (entry_at b z).xid ≡ env.xid s) at h.1.leads.xid,
      subst (λ (z : ℕ). (entry_at b z).chain ≡ suc (length more)) at h.1.leads.chain,
    )
