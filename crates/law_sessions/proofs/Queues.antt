-- The table remembers a state with another queue or other commits acknowledged, and a write that a session waits with:
-- sessions have none of these.
use Rattle.std.proofs.Common.{◌≡◌, inl, inr, ◌≤◌, ◌-◌, ◌∙◌, ℕ, List, [], Option, refl, sym, subst, arith, append-nil}
use Rattle.std.proofs.lemmas.Bool.{cases_eq}
use Rattle.std.proofs.lemmas.List.{get_or-set_other, get_or-set_same, length-set}
use Rattle.rb_base.specs.declared.ids.Xid.{Xid}
use Rattle.rb_model.specs.Change.{Asked}
use Rattle.rb_model.specs.Queue.{Waiter}
use Rattle.rb_model.specs.State.{State}
use Rattle.rb_sessions.specs.Kept.{KeptSession, fresh, holding, kept_at, with_kept}
use Rattle.rb_sessions.specs.declared.sessions.TheConstants.{SESSIONS}
use Rattle.law_sessions.specs.Views.{IsSession, Remembers}
use Rattle.law_sessions.proofs.Lasting.{Keeps}
use Rattle.law_sessions.proofs.Tables.{Moves, session_last}
use Rattle.law_home.specs.Walk.{Env}

module _ (h : State) (queue : List Waiter) (asked : List (Option Asked)) (safe : ℕ) (xids : List Xid) (env : Env) where
  abbrev Next : State
  Next = record h { queue = queue; asked = asked; safe = safe }

  keeps : Keeps h Next xids xids
  keeps = record { shape = refl; base = refl; rows = refl; more = []; list = sym (append-nil h.commits.list); ids = λ i lt. refl }

  -- no session moves, as none has number 0
  moves : Moves h Next xids xids env env 0
  moves = record {
    keeps = keeps;
    counted = refl;
    others = λ u low ne. refl;
    owns = λ u t ne o. record { owner = o.owner; at = o.at; session = o.session };
    owned = λ u t ne o. record { owner = o.owner; at = o.at; session = o.session };
    ids = λ u t o. refl;
  }

  pub queue_remembered : (table : List KeptSession) → Remembers h xids env table → Remembers Next xids env table
  queue_remembered table is = record {
    counted = is.counted;
    as_many = is.as_many;
    each = λ u low high. session_last h Next xids xids env env 0 moves u low (λ none. omega (arith, none, low)) (kept_at table u) (is.each u low high);
  }

-- a session that holds a write
pub held_remembered : (h : State) (xids : List Xid) (env : Env) (table : List KeptSession) (s : ℕ) (a : Asked) → 1 ≤ s → s ≤ SESSIONS → Remembers h xids env table
    → Remembers h xids env (with_kept table s (holding a (kept_at table s)))
held_remembered h xids env table s a low high is =
    let k : KeptSession = holding a (kept_at table s) in
    let before : IsSession h xids env s (kept_at table s) = is.each s low high in
    let now : IsSession h xids env s k = record { isolation = before.isolation; snapshot = before.snapshot; id = record { owns = before.id.owns; owned = before.id.owned }; count = before.count; savepoints = before.savepoints; cursors = before.cursors } in record {
      counted = length-set table (s - 1) k ∙ is.counted;
      as_many = is.as_many;
      each = λ u u_low u_high. elim (cases_eq u s) [
        | inl this ↦
            let at : kept_at (with_kept table s k) s ≡ k = get_or-set_same table (s - 1) k fresh (let n = is.counted in omega (arith, low, high, n)) in
            subst (λ (z : ℕ). IsSession h xids env z (kept_at (with_kept table s k) z)) (sym this) (subst (λ (x : KeptSession). IsSession h xids env s x) (sym at) now)
        | inr other ↦
            let at : kept_at (with_kept table s k) u ≡ kept_at table u = get_or-set_other table (s - 1) (u - 1) k fresh (λ same. other (omega (arith, same, low, u_low))) in
            subst (λ (x : KeptSession). IsSession h xids env u x) (sym at) (is.each u u_low u_high)
      ];
    }
