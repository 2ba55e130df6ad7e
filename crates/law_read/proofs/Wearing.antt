-- Where a chain can't be taken back, one of its records is gone; else each entry is one of the block's or of a record's.
use Rattle.std.proofs.Common.{suc, ap, sym, refl, set, subst, zero, ◌<◌, inl, inr, ◌≡◌, ◌≢◌, ◌⊎◌, ⊎_elim, ℕ, List, []}
use Rattle.std.proofs.Common.{◌∷◌, length, Option, Some, None, ◌∙◌}
use Rattle.std.proofs.lemmas.Bool.{cases_eq}
use Rattle.std.proofs.lemmas.List.{get_or-set_same, get_or-set_other, length-set}
use Rattle.rb_base.specs.declared.ids.Xid.{Xid}
use Rattle.rb_model.specs.Change.{Place}
use Rattle.law_read.specs.Chains.{stepped, unwound, and_then, applied}
use Rattle.law_home.specs.Kinds.{Open, Undo}
use Rattle.law_home.specs.Walk.{Head, Tree, Next, IsActive, own, In, Change, Home, Env, Chain, Names, entry_at, back}
use Rattle.law_home.specs.Walk.{free_entry}
use Rattle.law_read.proofs.Fitting.{Fitting, live_fitting}
use Rattle.law_read.proofs.Unwinding.{passes}

module _ (env : Env) where
  -- a record of one of these changes is gone
  abbrev pub Gone : List Change → Type 0
  Gone chs = (ch : Change) × In ch chs × (env.store ch.place ≡ None)

  -- entry j is what a record of one of these changes saved, and it isn't open
  abbrev pub Saved : List Change → Home → ℕ → Type 0
  Saved chs b2 j = (ch : Change) × (r : Undo) × In ch chs × (env.store ch.place ≡ Some r) × (r.entry_before.status ≢ Open) × (entry_at b2 j ≡ r.entry_before)

  -- at entry i stands what the oldest of these changes saved there, which isn't open, and the others stayed
  pub record From (i : ℕ) (chs : List Change) (b b2 : Home) : Type 0 where
    pub others : (j : ℕ) → j ≢ i → entry_at b2 j ≡ entry_at b j
    pub here : ((chs ≡ []) × (entry_at b2 i ≡ entry_at b i)) ⊎ Saved chs b2 i

  abbrev pub Worn : ℕ → List Change → Home → Option Home → Type 0
  Worn i chs b None = Gone chs
  Worn i chs b (Some b2) = From i chs b b2

  later : (i : ℕ) (ch : Change) (more : List Change) (r : Undo) (b : Home) → env.store ch.place ≡ Some r → r.entry ≡ i → r.entry < length b.entries → (length more ≡ 0 → r.entry_before.status ≢ Open) → (o : Option Home) → Worn i more (back r b) o → Worn i (ch ∷ more) b o
  later i ch more r b there at e_in oldest None gone = (gone.0, inr gone.1, gone.2)
  later i ch more r b there at e_in oldest (Some b2) from = record {
    others = λ j ne. from.others j ne ∙ get_or-set_other b.entries r.entry j r.entry_before free_entry (λ same. ne (same ∙ at));
    here = ⊎_elim
        (λ last.
        let saved : entry_at (back r b) i ≡ r.entry_before = subst (λ (z : ℕ). entry_at (back r b) z ≡ r.entry_before) at (get_or-set_same b.entries r.entry r.entry_before free_entry e_in) in
        inr (ch, r, inl refl, there, oldest (ap length last.0), last.1 ∙ saved))
        (λ saved. inr (saved.0, saved.1, inr saved.2, saved.3, saved.4, saved.5))
        from.here;
  }

  pub chain_wears : (t : Xid) (c i : ℕ) (rest : Home → Type 0) (chs : List Change) (b : Home) → Chain env t c i chs b rest → Fitting env t i chs b → Worn i chs b (unwound env (length chs) i t b)
  chain_wears t c i rest [] b chain fit = record { others = λ j ne. refl; here = inl (refl, refl) }
  chain_wears t c i rest (ch ∷ more) b chain fit = rw chain.0.newest (one (env.store ch.place) refl (λ r there. chain_wears t c i rest more (back r b) (chain.2 r there).1 (fit r there).1))
    where
      one : (o : Option Undo) → env.store ch.place ≡ o → ((r : Undo) → env.store ch.place ≡ Some r → Worn i more (back r b) (unwound env (length more) i t (back r b))) → Worn i (ch ∷ more) b (and_then (applied i t b o) (unwound env (length more) i t))
      one None is deeper = (ch, inl refl, is)
      one (Some r) is deeper = let names : Names r t i ch (length more) b = (chain.2 r is).0 in rw (passes r i t b (fit r is).0) (later i ch more r b is names.entry names.within names.oldest (unwound env (length more) i t (back r b)) (deeper r is))

-- after a live chain the entry is one that was saved in a record of it
pub live_from : (env : Env) (rest : Home → Type 0) (s i : ℕ) (chs : List Change) (m : ℕ) (lives : List (List Change)) (b b2 : Home) → own lives s ≡ chs → s < length lives → ((j : ℕ) → IsActive env (entry_at b j) → (entry_at b j).xid ≡ env.xid s → j ≡ i) → Tree env m lives b rest → unwound env (length chs) i (env.xid s) b ≡ Some b2 → ((chs ≡ []) × (entry_at b2 i ≡ entry_at b i)) ⊎ Saved env chs b2 i
live_from env rest s i [] m lives b b2 is s_in only tree done = let same : b2 ≡ b = cc in inl (refl, ap (λ (z : Home). entry_at z i) same)
live_from env rest s i (ch ∷ more) zero lives b b2 is s_in only tree done = let none : own lives s ≡ [] = tree.0 s in absurd (cc (none, is))
live_from env rest s i (ch ∷ more) (suc m) lives b b2 is s_in only tree done =
    let next : Next env m lives b rest s ch more = tree.0 s ch more is in
    let head : Head env s ch (suc (length more)) b next.0 = next.1 in
    let at : next.0.entry ≡ i = only next.0.entry (head.status, ap env.look head.leads.xid ∙ head.active) head.leads.xid in
    let place : (entry_at b i).newest ≡ ch.place = subst (λ (z : ℕ). (entry_at b z).newest ≡ ch.place) at head.leads.newest in
    let taken : stepped env i (env.xid s) b ≡ Some (back next.0 b) = ap (λ (z : Place). applied i (env.xid s) b (env.store z)) place ∙ (ap (applied i (env.xid s) b) head.there ∙ passes next.0 i (env.xid s) b (live_fitting env rest s i ch more m lives b is only next)) in
    let done2 : unwound env (length more) i (env.xid s) (back next.0 b) ≡ Some b2 = ap (λ (z : Option Home). and_then z (unwound env (length more) i (env.xid s))) (sym taken) ∙ done in
    let here : entry_at (back next.0 b) i ≡ next.0.entry_before = subst (λ (z : ℕ). entry_at (back next.0 b) z ≡ next.0.entry_before) at (get_or-set_same b.entries next.0.entry next.0.entry_before free_entry head.within) in
    ⊎_elim (λ last. inr (ch, next.0, inl refl, head.there, head.oldest (ap suc (ap length last.0)), last.1 ∙ here)) (λ saved. inr (saved.0, saved.1, inr saved.2, saved.3, saved.4, saved.5))
    (live_from env rest s i more m (set lives s more) (back next.0 b) b2 (get_or-set_same lives s more [] s_in) (simp length-set s_in)
    (λ j active same. elim (cases_eq j next.0.entry) [
      | inl je ↦ je ∙ at
      | inr ne ↦ only j (rw (sym (get_or-set_other b.entries next.0.entry j next.0.entry_before free_entry ne)) active) (rw (sym (get_or-set_other b.entries next.0.entry j next.0.entry_before free_entry ne)) same)
    ]) next.2 done2)
