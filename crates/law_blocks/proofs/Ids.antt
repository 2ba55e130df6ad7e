-- Who owns an Active slot, and ids through a step.
use Rattle.std.proofs.Common.{◌≡◌, ◌<◌, ◌≤◌, ◌*◌, ◌/◌, ◌%◌, ◌++◌, ℕ, List, [], ◌∷◌, Option, Some, None, refl, subst, arith}
use Rattle.std.specs.List.{AllByRecursion}
use Rattle.std.proofs.Math.Nat.{div-add-mod}
use Rattle.rb_base.specs.declared.sizes.TheConstants.{SLOTS}
use Rattle.rb_base.specs.declared.ids.Xid.{Xid}
use Rattle.rb_base.specs.declared.shape.Shape.{Shape}
use Rattle.rb_model.specs.Book.{Owner, book_at}
use Rattle.rb_model.specs.State.{State, owner_at}
use Rattle.rb_segment.specs.Books.{IsOwned, IsBook}
use Rattle.rb_segment.specs.Header.{Segment}
use Rattle.law_blocks.specs.States.{IsMade}
use Rattle.law_blocks.specs.Values.{slot_of}
use Rattle.law_blocks.proofs.StandingWritten.{slot_few}

module _ (h : State) (segments : ℕ → Segment) (books : (g : ℕ) → g < h.shape.segments → IsBook (segments g).header (book_at h.books g)) (t : ℕ) (t_in : t < SLOTS * h.shape.segments) where
  is_owned : IsOwned (segments (t / SLOTS)).header (slot_of segments t) (owner_at h t)
  is_owned = let a = div-add-mod t SLOTS in (books (t / SLOTS) (omega (arith, a, t_in))).owners (t % SLOTS) (slot_few t)

  -- an Active slot is owned, and the other way round
  pub owner_of : (slot_of segments t).state ≡ 1 → (o : Owner) × (owner_at h t ≡ Some o)
  owner_of active = by (owner_at h t) refl
    where
      by : (o : Option Owner) → owner_at h t ≡ o → (o : Owner) × (owner_at h t ≡ Some o)
      by None is = let idle : IsOwned (segments (t / SLOTS)).header (slot_of segments t) None = subst (λ (z : Option Owner). IsOwned (segments (t / SLOTS)).header (slot_of segments t) z) is is_owned in absurd (idle active)
      by (Some o) is = (o, is)

  pub active_of : (o : Owner) → owner_at h t ≡ Some o → (slot_of segments t).state ≡ 1
  active_of o at = let is : IsOwned (segments (t / SLOTS)).header (slot_of segments t) (Some o) = subst (λ (z : Option Owner). IsOwned (segments (t / SLOTS)).header (slot_of segments t) z) at is_owned in is.state

-- what was made stays so where wraps rise
pub made_later : (shape : Shape) (segments after : ℕ → Segment) (x : Xid) → ((t : ℕ) → (slot_of segments t).wrap ≤ (slot_of after t).wrap) → IsMade shape segments x → IsMade shape after x
made_later shape segments after x rises made = record { slot = made.slot; within = made.within; at = made.at; wrap = let a = rises made.slot in let b = made.wrap in omega (arith, a, b) }

-- the first of some
pub all_front : {X : Type 0} (P : X → Type 0) (xs ys : List X) → AllByRecursion P (xs ++ ys) → AllByRecursion P xs
all_front P [] ys all = tt
all_front P (x ∷ xs) ys all = (all.0, all_front P xs ys all.1)
