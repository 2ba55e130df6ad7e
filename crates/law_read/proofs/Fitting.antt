-- Each record of a chain fits, where it is there.
use Rattle.std.proofs.Common.{◌≡◌, ◌≢◌, ◌<◌, ℕ, suc, true, List, [], ◌∷◌, length, set, Some, refl, sym}
use Rattle.std.proofs.Common.{◌∙◌, ap, subst, arith, inl, inr, ◌≤◌}
use Rattle.std.proofs.lemmas.Bool.{cases_eq}
use Rattle.std.proofs.lemmas.Bool.Decides.{nat_tests}
use Rattle.std.proofs.lemmas.List.{get_or-set_same, get_or-set_other}
use Rattle.rb_base.specs.declared.ids.Xid.{Xid}
use Rattle.law_read.specs.Chains.{fits, leads_back, number_falls}
use Rattle.law_read.specs.Heights.{Numbered, StatusNumbered}
use Rattle.law_home.specs.Kinds.{Status, Free, Open, Exact, Bound, Entry, Undo}
use Rattle.law_home.specs.Walk.{Change, Commit, Home, Env, Rows, Walk, Chain, Names, Head, Next, IsActive}
use Rattle.law_home.specs.Walk.{StatusBelow, back, entry_at, free_entry, last, own}
use Rattle.law_home.proofs.Committing.{top}
use Rattle.law_home.proofs.Lives.{leads_on, own_within}
use Rattle.law_read.proofs.Unwinding.{fits_record, leads_own, leads_other}

-- each record of these changes that is there fits, newest first
abbrev pub Fitting : Env → Xid → ℕ → List Change → Home → Type 0
Fitting env t i [] b = Unit {0}
Fitting env t i (ch ∷ more) b = (r : Undo) → env.store ch.place ≡ Some r → (fits i t b r ≡ true) × Fitting env t i more (back r b)

falls : (s s2 : Status) (c : ℕ) → ((k : ℕ) → s ≡ Exact k → k < c) → ((k : ℕ) → s2 ≡ Exact k → k ≡ c) → number_falls s s2 ≡ true
falls Free s2 c low is = refl
falls Open s2 c low is = refl
falls (Bound b) s2 c low is = refl
falls (Exact k) Free c low is = refl
falls (Exact k) Open c low is = refl
falls (Exact k) (Bound b) c low is = refl
falls (Exact k) (Exact j) c low is = let l : k < c = low k refl in let e : j ≡ c = is j refl in grind (arith, nat_tests)

-- what an entry and the one that comes to light say of their number
abbrev Says : ℕ → Entry → Type 0
Says c e = (k : ℕ) → e.status ≡ Exact k → k ≡ c

abbrev Lower : ℕ → Entry → Type 0
Lower c e = (k : ℕ) → e.status ≡ Exact k → k < c

falls_open : (s : Status) → number_falls s Open ≡ true
falls_open Free = refl
falls_open Open = refl
falls_open (Exact k) = refl
falls_open (Bound b) = refl

module _ (env : Env) (t : Xid) (c i : ℕ) (rest : Home → Type 0) (lower : (b : Home) → rest b → Lower c (entry_at b i)) where
  pub chain_fitting : (chs : List Change) (b : Home) → (length chs ≢ 0 → Says c (entry_at b i)) → Chain env t c i chs b rest → Fitting env t i chs b
  chain_fitting [] b says chain = tt
  chain_fitting (ch ∷ more) b says chain = λ r there. let names : Names r t i ch (length more) b = (chain.2 r there).0 in (
    fits_record i t b r names.entry names.xid names.here names.cell (leads more r names refl (chain.2 r there).1),
    chain_fitting more (back r b) (λ some k exact. let still : r.entry_before.status ≡ Open = names.later some in let is : r.entry_before.status ≡ Exact k = ap (λ (e : Entry). e.status) (sym (before r names)) ∙ exact in absurd (cc (still, is))) (chain.2 r there).1,
  )
    where
      before : (r : Undo) → Names r t i ch (length more) b → entry_at (back r b) i ≡ r.entry_before
      before r names = subst (λ (z : ℕ). entry_at (back r b) z ≡ r.entry_before) names.entry (get_or-set_same b.entries r.entry r.entry_before free_entry names.within)

      leads : (more2 : List Change) (r : Undo) → Names r t i ch (length more) b → more ≡ more2 → Chain env t c i more2 (back r b) rest → leads_back t (entry_at b i) r.entry_before ≡ true
      leads [] r names is deeper =
          let one : (entry_at b i).chain ≡ 1 = chain.0.chain ∙ ap (λ (l : List Change). suc (length l)) is in
          leads_other t (entry_at b i) r.entry_before (names.oldest (ap length is)) one
          (falls r.entry_before.status (entry_at b i).status c (λ k exact. lower (back r b) deeper k (ap (λ (e : Entry). e.status) (before r names) ∙ exact)) (says (λ none. cc (none))))
      leads (ch2 ∷ more2) r names is deeper =
          let long : (entry_at b i).chain ≡ suc (suc (length more2)) = chain.0.chain ∙ ap (λ (l : List Change). suc (length l)) is in
          let shorter : r.entry_before.chain ≡ suc (length more2) = ap (λ (e : Entry). e.chain) (sym (before r names)) ∙ deeper.0.chain in
          let some : length more ≢ 0 = λ none. omega (arith, none, ap length is) in
          leads_own t (entry_at b i) r.entry_before (names.later some) (ap (λ (e : Entry). e.xid) (sym (before r names)) ∙ deeper.0.xid) (omega (arith, long, shorter))

status_numbered : (env : Env) (xid : Xid) (s : Status) (c k : ℕ) → StatusNumbered env xid s c → s ≡ Exact k → k ≡ c
status_numbered env xid Free c k is exact = absurd is
status_numbered env xid Open c k is exact = absurd (cc (exact))
status_numbered env xid (Exact j) c k is exact = let same : j ≡ k = cc in omega (arith, same, is)
status_numbered env xid (Bound b) c k is exact = absurd is

status_lower : (env : Env) (xid : Xid) (s : Status) (m k : ℕ) → StatusBelow env xid s m → s ≡ Exact k → k ≤ m
status_lower env xid Free m k below exact = absurd (cc (exact))
status_lower env xid Open m k below exact = absurd (cc (exact))
status_lower env xid (Exact j) m k below exact = let same : j ≡ k = cc in omega (arith, same, below)
status_lower env xid (Bound b) m k below exact = absurd (cc (exact))

-- the same of the chain of a commit that its entry numbers, over the commits below it
pub commit_fitting : (env : Env) (base : ℕ) (rows : Rows) (older : List Commit) (t : Xid) (c i : ℕ) (chs : List Change) (b : Home) → last base older < c → Numbered env (entry_at b i) c
    → Chain env t c i chs b (Walk env base rows older) → Fitting env t i chs b
commit_fitting env base rows older t c i chs b lower is chain =
    chain_fitting env t c i (Walk env base rows older)
    (λ b2 walk k exact. let le : k ≤ last base older = status_lower env (entry_at b2 i).xid (entry_at b2 i).status (last base older) k ((top env base rows older b2 walk).below i) exact in omega (arith, le, lower))
    chs b (λ some k exact. status_numbered env (entry_at b i).xid (entry_at b i).status c k is exact) chain

-- the newest live change of a slot has a record that fits
pub live_fitting : (env : Env) (rest : Home → Type 0) (s i : ℕ) (ch : Change) (more : List Change) (m : ℕ) (lives : List (List Change)) (b : Home) → own lives s ≡ ch ∷ more
    → ((j : ℕ) → IsActive env (entry_at b j) → (entry_at b j).xid ≡ env.xid s → j ≡ i) → (next : Next env m lives b rest s ch more) → fits i (env.xid s) b next.0 ≡ true
live_fitting env rest s i ch more m lives b has only next = fits_record i (env.xid s) b r at head.xid head.here head.cell (by_more more refl)
  where
    r : Undo
    r = next.0

    head : Head env s ch (suc (length more)) b r
    head = next.1

    at : r.entry ≡ i
    at = only r.entry (head.status, ap env.look head.leads.xid ∙ head.active) head.leads.xid

    before : entry_at (back r b) i ≡ r.entry_before
    before = subst (λ (z : ℕ). entry_at (back r b) z ≡ r.entry_before) at (get_or-set_same b.entries r.entry r.entry_before free_entry head.within)

    chain : (entry_at b i).chain ≡ suc (length more)
    chain = subst (λ (z : ℕ). (entry_at b z).chain ≡ suc (length more)) at head.leads.chain

    status : (entry_at b i).status ≡ Open
    status = subst (λ (z : ℕ). (entry_at b z).status ≡ Open) at head.status

    only_more : (j : ℕ) → IsActive env (entry_at (back r b) j) → (entry_at (back r b) j).xid ≡ env.xid s → j ≡ i
    only_more j active same = elim (cases_eq j r.entry) [
      | inl je ↦ je ∙ at
      | inr ne ↦ only j (rw (sym (get_or-set_other b.entries r.entry j r.entry_before free_entry ne)) active) (rw (sym (get_or-set_other b.entries r.entry j r.entry_before free_entry ne)) same)
    ]

    by_more : (more2 : List Change) → more ≡ more2 → leads_back (env.xid s) (entry_at b i) r.entry_before ≡ true
    by_more [] is =
        let none : length more ≡ 0 = ap length is in
        leads_other (env.xid s) (entry_at b i) r.entry_before (head.oldest (omega (arith, none))) (omega (arith, chain, none)) (subst (λ (z : Status). number_falls r.entry_before.status z ≡ true) (sym status) (falls_open r.entry_before.status))
    by_more (ch2 ∷ more2) is =
        let long : length more ≡ suc (length more2) = ap length is in
        let on = leads_on env rest s i more m (set lives s more) (back r b) (get_or-set_same lives s more [] (own_within lives s ch more has)) only_more next.2 (λ none. omega (arith, none, long)) in
        let shorter : r.entry_before.chain ≡ length more = ap (λ (e : Entry). e.chain) (sym before) ∙ on.2 in
        leads_own (env.xid s) (entry_at b i) r.entry_before (ap (λ (e : Entry). e.status) (sym before) ∙ on.0) (ap (λ (e : Entry). e.xid) (sym before) ∙ on.1) (omega (arith, chain, shorter))
