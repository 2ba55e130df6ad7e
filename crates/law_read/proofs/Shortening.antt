-- A record that is taken back makes the chain shorter, or ends it, whatever the records are.
use Rattle.std.proofs.Common.{◌≡◌, ◌⊎◌, inl, inr, ◌<◌, ◌+◌, ◌==◌, ◌&&◌, ℕ, Bool, true, false, if◌then◌else◌, length}
use Rattle.std.proofs.Common.{Option, Some, None, refl, sym, ◌∙◌, ap, subst, arith, nat_lt}
use Rattle.std.proofs.lemmas.Bool.Decides.{nat_tests}
use Rattle.std.proofs.lemmas.List.{get_or-set_same}
use Rattle.rb_base.specs.declared.ids.Xid.{Xid}
use Rattle.law_read.specs.Chains.{applied, fits, is_own, leads_back, names, number_falls, same_xid, stepped}
use Rattle.law_home.specs.Kinds.{Entry, Undo}
use Rattle.law_home.specs.Walk.{Env, Home, back, entry_at, free_entry}

both_parts : (t rest : Bool) → t && rest ≡ true → (t ≡ true) × (rest ≡ true)
both_parts true rest is = (refl, is)
both_parts false rest is = absurd (cc (is))

same_home : (a b : Home) → Some a ≡ Some b → a ≡ b
same_home a b is = cc

module _ (env : Env) (i : ℕ) (xid : Xid) (b b2 : Home) (within : i < length b.entries) where
  abbrev Shorter : Entry → Type 0
  Shorter before = ((is_own xid before ≡ true) × (before.chain + 1 ≡ (entry_at b i).chain)) ⊎ ((entry_at b i).chain ≡ 1)

  by_own : (before : Entry) (t : Bool) → is_own xid before ≡ t
      → (if t then before.chain + 1 == (entry_at b i).chain else (entry_at b i).chain == 1 && number_falls before.status (entry_at b i).status) ≡ true → Shorter before
  by_own before true own test = inl (own, grind (arith, nat_tests))
  by_own before false own test =
      let one : ((entry_at b i).chain == 1) ≡ true = (both_parts ((entry_at b i).chain == 1) (number_falls before.status (entry_at b i).status) test).0 in
      inr (grind (arith, nat_tests))

  of_fit : (r : Undo) → fits i xid b r ≡ true → back r b ≡ b2 → Shorter (entry_at b2 i)
  of_fit r fit same =
      let parts = both_parts (names i xid b r) (leads_back xid (entry_at b i) r.entry_before) fit in
      let test : (r.entry == i) ≡ true = (both_parts (r.entry == i) (same_xid r.xid xid && (r.home == b.block && nat_lt r.cell (length b.cells))) parts.0).0 in
      let at : r.entry ≡ i = grind (arith, nat_tests) in
      let here : entry_at (back r b) i ≡ r.entry_before = subst (λ (z : ℕ). entry_at (back r b) z ≡ r.entry_before) at (get_or-set_same b.entries r.entry r.entry_before free_entry (omega (arith, at, within))) in
      subst Shorter (sym here ∙ ap (λ (h : Home). entry_at h i) same) (by_own r.entry_before (is_own xid r.entry_before) refl parts.1)

  by_fit : (r : Undo) (t : Bool) → fits i xid b r ≡ t → (if t then Some (back r b) else None) ≡ Some b2 → Shorter (entry_at b2 i)
  by_fit r true fit is = of_fit r fit (same_home (back r b) b2 is)
  by_fit r false fit is = absurd (cc (is))

  by_store : (o : Option Undo) → applied i xid b o ≡ Some b2 → Shorter (entry_at b2 i)
  by_store None is = absurd (cc (is))
  by_store (Some r) is = by_fit r (fits i xid b r) refl is

  pub shorter : stepped env i xid b ≡ Some b2 → Shorter (entry_at b2 i)
  shorter is = by_store (env.store (entry_at b i).newest) is
