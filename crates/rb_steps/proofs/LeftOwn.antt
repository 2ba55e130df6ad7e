-- The machine's state as a session's last changes are put back, one after another.
use Rattle.std.proofs.Common.{◌≡◌, ◌<◌, ◌≤◌, ◌-◌, ◌++◌, ℕ, zero, suc, List, [], ◌∷◌, length, set, take, refl, ◌∙◌, ap, arith}
use Rattle.std.proofs.lemmas.List.{get_or-set_same, set-get_or, set-set}
use Rattle.rb_model.specs.Change.{Change}
use Rattle.rb_model.specs.State.{State, Session, no_session, session_own, with_changes}
use Rattle.rb_model.specs.NextState.{with_own}

-- the first items of a list, and the next one
pub last_of : {A : Type 0} (l : List A) (m : ℕ) → m < length l → (c : A) × (take (suc m) l ≡ take m l ++ c ∷ [])
last_of [] m lt = absurd (omega (arith, lt))
last_of (a ∷ l) zero lt = (a, refl)
last_of {A} (a ∷ l) (suc m) lt = let r = last_of l m (omega (arith, lt)) in (r.0, ap (λ (z : List A). a ∷ z) r.1)

-- with all its changes the state is as it was
pub own_all : (h : State) (s : ℕ) → with_own h s (session_own h s) ≡ h
own_all h s = ap (λ (z : List Session). let n : State = record h { sessions = z } in n) (set-get_or h.sessions (s - 1) no_session)

module _ (h : State) (s : ℕ) (first : 1 ≤ s) (last : s ≤ length h.sessions) (a : List Change) where
  there : (Rattle.std.proofs.Common.get_or (set h.sessions (s - 1) (with_changes h s a)) (s - 1) no_session) ≡ with_changes h s a
  there = get_or-set_same h.sessions (s - 1) (with_changes h s a) no_session (omega (arith, first, last))

  -- its changes are those that are left,
  pub own_left : session_own (with_own h s a) s ≡ a
  own_left = ap (λ (z : Session). z.own) there

  -- and what is left of these is what is left of all
  pub own_again : (b : List Change) → with_own (with_own h s a) s b ≡ with_own h s b
  own_again b =
      ap (λ (z : List Session). let n : State = record h { sessions = z } in n)
      (ap (λ (y : Session). set (set h.sessions (s - 1) (with_changes h s a)) (s - 1) (record y { own = b })) there
      ∙ set-set h.sessions (s - 1) (with_changes h s a) (with_changes h s b))
