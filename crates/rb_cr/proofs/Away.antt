-- Whether a reader's transaction has an entry in a home.
use Rattle.std.proofs.Common.{◌≡◌, ◌≢◌, ⊎_elim, ◌&&◌, ℕ, Bool, true, false, Option, Some, None, refl, sym, ◌∙◌, ap, subst}
use Rattle.rb_base.specs.declared.ids.Xid.{Xid}
use Rattle.law_read.specs.Chains.{is_own, same_xid}
use Rattle.law_read.specs.Copies.{HasNone, IsAway}
use Rattle.law_read.proofs.Unwinding.{is_same}
use Rattle.law_home.specs.Kinds.{Bound, Entry, Exact, Free, Open, Status}
use Rattle.law_home.specs.Walk.{Env, Home, IsActive, entry_at}
use Rattle.law_home.specs.Writes.{is_open}

opens : (status : Status) → is_open status ≡ true → status ≡ Open
opens Free is = absurd (cc (is))
opens Open is = refl
opens (Exact k) is = absurd (cc (is))
opens (Bound b) is = absurd (cc (is))

-- an entry that is a transaction's
both : (a b : Bool) → a && b ≡ true → (a ≡ true) × (b ≡ true)
both true b is = (refl, is)
both false b is = absurd (cc (is))

pub own_is : (x : Xid) (e : Entry) → is_own x e ≡ true → (e.status ≡ Open) × (e.xid ≡ x)
own_is x e is = let two = both (is_open e.status) (same_xid e.xid x) is in (opens e.status two.0, is_same e.xid x two.1)

module _ (env : Env) (b : Home) (x : Xid) where
  pub is_here : (j : ℕ) → is_own x (entry_at b j) ≡ true → IsAway env b x → ⊥
  is_here j own away = let e = own_is x (entry_at b j) own in away.1 j (e.0, ap env.look e.1 ∙ away.0) e.1

-- where a reader sees changes of its own, it has none in a home exactly where its transaction is away
pub none_away : (env : Env) (b : Home) (mine : Option Xid) (upto : ℕ) (x : Xid) → mine ≡ Some x → upto ≢ 0 → HasNone env b mine upto → IsAway env b x
none_away env b mine upto x is some none =
    ⊎_elim (λ nobody. let both : None ≡ Some x = sym nobody ∙ is in absurd (cc (both)))
    (λ rest. ⊎_elim (λ zero_is. absurd (some zero_is))
    (λ y. let same : Some y.0 ≡ Some x = sym y.1 ∙ is in let at : y.0 ≡ x = cc in subst (IsAway env b) at y.2) rest) none

-- the same of a home with the same entries
pub away_same : (env env2 : Env) (b b2 : Home) (x : Xid) → env2 ≡ env → ((j : ℕ) → entry_at b2 j ≡ entry_at b j) → IsAway env b x → IsAway env2 b2 x
away_same env env2 b b2 x same each away = (
  ap (λ (z : Env). z.look x) same ∙ away.0,
  λ j on is. away.1 j
      (subst (λ (z : Env). IsActive z (entry_at b j)) same (subst (IsActive env2) (each j) on))
      (sym (ap (λ (e : Entry). e.xid) (each j)) ∙ is),
)
