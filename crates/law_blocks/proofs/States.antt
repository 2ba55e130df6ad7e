-- The live changes that a machine's state names.
use Rattle.std.proofs.Common.{◌≡◌, ◌<◌, ◌+◌, ◌*◌, ℕ, List, [], ◌∷◌, length, ◌∙◌, ap, arith}
use Rattle.std.proofs.lemmas.List.FromFn.{get_or-map-range_with_len}
use Rattle.rb_base.specs.declared.sizes.TheConstants.{SLOTS}
use Rattle.rb_base.specs.declared.ids.Xid.{Xid}
use Rattle.rb_base.specs.declared.shape.Shape.{Shape}
use Rattle.rb_model.specs.State.{State, session_own, owner_at}
use Rattle.law_blocks.specs.States.{owned, walk_change, newest_first, lives_of, Owns}
use Rattle.law_home.specs.Walk.{Change, Env, own}
use Rattle.rb_model.specs.Change as model

pub length_newest : (shape : Shape) (x : Xid) (n : ℕ) (cs : List model.Change) (before : List Change) → length (newest_first shape x n cs before) ≡ length cs + length before
length_newest shape x n [] before = omega arith
length_newest shape x n (c ∷ cs) before = let h : length (newest_first shape x (n + 1) cs (walk_change shape x n c ∷ before)) ≡ length cs + length (walk_change shape x n c ∷ before) = length_newest shape x (n + 1) cs (walk_change shape x n c ∷ before) in omega arith

-- the live changes of a slot are those of its owner
pub lives_at : (h : State) (env : Env) (t : ℕ) → t < SLOTS * h.shape.segments → own (lives_of h env) t ≡ owned h (env.xid t) (owner_at h t)
lives_at h env t t_in = get_or-map-range_with_len (λ (u : ℕ). owned h (env.xid u) (owner_at h u)) 0 (SLOTS * h.shape.segments) t t [] t_in (omega arith)

pub lives_owned : (h : State) (env : Env) (s t : ℕ) → t < SLOTS * h.shape.segments → (owns : Owns h s t) → own (lives_of h env) t ≡ newest_first h.shape (env.xid t) 1 (session_own h s) []
lives_owned h env s t t_in owns = lives_at h env t t_in ∙ (ap (owned h (env.xid t)) owns.at ∙ ap (λ (z : ℕ). newest_first h.shape (env.xid t) 1 (session_own h z) []) owns.session)
