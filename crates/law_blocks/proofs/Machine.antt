-- The live changes and the past that a machine's state names, through a write and a commit.
use Rattle.std.proofs.Common.{◌≡◌, ◌≢◌, inl, inr, ◌<◌, ◌+◌, ◌*◌, ◌++◌, ℕ, suc, List, [], ◌∷◌, length, get_or, set, sym, ◌∙◌, ap, subst, arith}
use Rattle.std.proofs.lemmas.Bool.{cases_eq}
use Rattle.std.proofs.lemmas.List.{get_or-set_same, get_or-set_other, length-set, ext_get_or}
use Rattle.std.proofs.lemmas.List.FromFn.{length-map-range_with_len}
use Rattle.rb_base.specs.declared.sizes.TheConstants.{SLOTS}
use Rattle.rb_base.specs.declared.ids.Xid.{Xid}
use Rattle.rb_base.specs.declared.shape.Shape.{Shape}
use Rattle.rb_model.specs.State.{State, owner_at}
use Rattle.law_blocks.specs.States.{owned, walk_change, newest_first, lives_of, commits_from}
use Rattle.law_home.specs.Walk.{Change, Commit, Env}
use Rattle.law_blocks.proofs.States.{lives_at}
use Rattle.rb_model.specs.Change as model

-- one change more is one more in front
pub newest_more : (shape : Shape) (x : Xid) (n : ℕ) (cs : List model.Change) (c : model.Change) (before : List Change) → newest_first shape x n (cs ++ c ∷ []) before ≡ walk_change shape x (n + length cs) c ∷ newest_first shape x n cs before
newest_more shape x n [] c before = let same : n ≡ n + 0 = omega arith in ap (λ (z : ℕ). walk_change shape x z c ∷ before) same
newest_more shape x n (d ∷ cs) c before = newest_more shape x (n + 1) cs c (walk_change shape x n d ∷ before) ∙ (let same : n + 1 + length cs ≡ n + suc (length cs) = omega arith in ap (λ (z : ℕ). walk_change shape x z c ∷ newest_first shape x (n + 1) cs (walk_change shape x n d ∷ before)) same)

-- one commit more is one more in front
pub commits_more : (shape : Shape) (n : ℕ) (list : List (List model.Change)) (xids : List Xid) (changes : List model.Change) (x : Xid) (before : List Commit) → length xids ≡ length list → commits_from shape n (list ++ changes ∷ []) (xids ++ x ∷ []) before ≡ record { xid = x; number = n + length list; changes = newest_first shape x 1 changes [] } ∷ commits_from shape n list xids before
commits_more shape n [] [] changes x before long = let same : n ≡ n + 0 = omega arith in ap (λ (z : ℕ). (let t : Commit = record { xid = x; number = z; changes = newest_first shape x 1 changes [] } in t) ∷ before) same
commits_more shape n [] (y ∷ xids) changes x before long = absurd (omega (arith, long))
commits_more shape n (d ∷ list) [] changes x before long = absurd (omega (arith, long))
commits_more shape n (d ∷ list) (y ∷ xids) changes x before long = commits_more shape (n + 1) list xids changes x (record { xid = y; number = n; changes = newest_first shape y 1 d [] } ∷ before) (omega (arith, long)) ∙ (let same : n + 1 + length list ≡ n + suc (length list) = omega arith in ap (λ (z : ℕ). (let t : Commit = record { xid = x; number = z; changes = newest_first shape x 1 changes [] } in t) ∷ commits_from shape (n + 1) list xids (record { xid = y; number = n; changes = newest_first shape y 1 d [] } ∷ before)) same)

pub lives_counted : (h : State) (env : Env) → length (lives_of h env) ≡ SLOTS * h.shape.segments
lives_counted h env = length-map-range_with_len (λ (u : ℕ). owned h (env.xid u) (owner_at h u)) 0 (SLOTS * h.shape.segments)

-- Where one slot's live changes are these now and every other's are what they were, the list has one place set.
pub lives_set : (h h2 : State) (env env2 : Env) (t : ℕ) (chs : List Change) → h2.shape ≡ h.shape → t < SLOTS * h.shape.segments → owned h2 (env2.xid t) (owner_at h2 t) ≡ chs → ((u : ℕ) → u ≢ t → u < SLOTS * h.shape.segments → owned h2 (env2.xid u) (owner_at h2 u) ≡ owned h (env.xid u) (owner_at h u)) → lives_of h2 env2 ≡ set (lives_of h env) t chs
lives_set h h2 env env2 t chs same t_in here others = ext_get_or [] (lives_of h2 env2) (set (lives_of h env) t chs) long (λ u u_in. at u (omega (arith, u_in, long2)))
  where
    segments : h2.shape.segments ≡ h.shape.segments
    segments = ap (λ (z : Shape). z.segments) same

    long2 : length (lives_of h2 env2) ≡ SLOTS * h.shape.segments
    long2 = lives_counted h2 env2 ∙ ap (λ (z : ℕ). SLOTS * z) segments

    long : length (lives_of h2 env2) ≡ length (set (lives_of h env) t chs)
    long = long2 ∙ (sym (lives_counted h env) ∙ sym (length-set (lives_of h env) t chs))

    at : (u : ℕ) → u < SLOTS * h.shape.segments → get_or (lives_of h2 env2) u [] ≡ get_or (set (lives_of h env) t chs) u []
    at u u_in = lives_at h2 env2 u (omega (arith, u_in, segments)) ∙ elim (cases_eq u t) [
      | inl is ↦ subst (λ (z : ℕ). owned h2 (env2.xid z) (owner_at h2 z) ≡ get_or (set (lives_of h env) t chs) z []) (sym is) (here ∙ sym (get_or-set_same (lives_of h env) t chs [] (omega (arith, t_in, lives_counted h env))))
      | inr ne ↦ others u ne u_in ∙ (sym (lives_at h env u u_in) ∙ sym (get_or-set_other (lives_of h env) t u chs [] ne))
    ]
