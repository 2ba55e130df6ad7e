-- What follows from the definitions on writes and syncs: they say no less and no more than is meant.
use Rattle.std.proofs.Common.{◌≡◌, ◌⊎◌, ℕ, ◌+◌, ◌<◌, ◌≤◌, List, length, drop, get_or}
use Rattle.std.proofs.Common.{◌-◌, refl, sym, subst, ◌∙◌, ap, arith, rules, inl, inr}
use Rattle.std.proofs.lemmas.List.{get_or-take, get_or-drop, places, same_lists}
use Rattle.rb_base.specs.Fields.{overwritten}
use Rattle.rb_base.specs.Moments.{NoMore}
use Rattle.rb_disk.specs.DiskModel.{Torn, Follows, Only}

-- a write that was done is one that may have been cut short, at any length
pub done_is_torn : (at : ℕ) (file bytes : List ℕ) → at ≤ length file
    → Torn at (length bytes) file (overwritten file at bytes)
done_is_torn at file bytes begins = record {
  before = same_lists _ _ (search (rules, places)) (λ k d h. grind (arith, places));
  behind = same_lists _ _ (search (rules, places)) (λ k d h. grind (arith, places));
  no_shorter = grind (arith, places);
  no_longer = grind (arith, places);
}

-- so is none of it
pub none_is_torn : (at count : ℕ) (file : List ℕ) → Torn at count file file
none_is_torn at count file = record { before = refl; behind = refl; no_shorter = omega arith; no_longer = omega arith }

-- a byte outside the range stays
pub torn_stays : (i at count : ℕ) (old new : List ℕ) → (i < at) ⊎ (at + count ≤ i) → Torn at count old new
    → get_or new i 0 ≡ get_or old i 0
torn_stays i at count old new (inl before) torn = sym (get_or-take at new i 0 before)
    ∙ ap (λ (l : List ℕ). get_or l i 0) torn.before ∙ get_or-take at old i 0 before
torn_stays i at count old new (inr behind) torn =
    let there : (l : List ℕ) → get_or (drop (at + count) l) (i - (at + count)) 0 ≡ get_or l i 0 =
    λ l. get_or-drop (at + count) l (i - (at + count)) 0 ∙ ap (λ (j : ℕ). get_or l j 0) (omega (arith, behind)) in
    sym (there new) ∙ ap (λ (l : List ℕ). get_or l (i - (at + count)) 0) torn.behind ∙ there old

-- a write within a file leaves its length
pub torn_within : (at count : ℕ) (old new : List ℕ) → at + count ≤ length old → Torn at count old new
    → length new ≡ length old
torn_within at count old new within torn = omega (arith, within, torn.no_shorter, torn.no_longer)

-- an image after two writes is one before them, torn by each in turn
pub both_torn : (first second : List ℕ → List ℕ → Type 0) (old mid new : List ℕ → Type 0)
    → Follows first old mid → Follows second mid new
    → (c : List ℕ) → new c → (d : List ℕ) × (e : List ℕ) × old d × first d e × second e c
both_torn first second old mid new one two c now =
    let was = two c now in
    let before = one was.0 was.1 in
    (before.0, was.0, before.1, before.2, was.2)

-- what holds of what was read at a sync holds of each image that it left, and of each while nothing is written
pub sync_leaves : (file : List ℕ) (image later : List ℕ → Type 0) (P : List ℕ → Type 0) → Only file image
    → NoMore image later → P file → (c : List ℕ) → later c → P c
sync_leaves file image later P only still has c now = subst P (sym (only c (still c now))) has
