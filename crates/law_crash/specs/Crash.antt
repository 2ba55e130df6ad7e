-- What a crash may leave of a store, by the states of an engine over it. An image is what is left; `opens` says to
-- which blocks and which last log number it opens, in a file of that shape and so many slots.
use Rattle.std.specs.Prelude.{ℕ, List, Option}
use Rattle.rb_base.specs.Moments.{LeavesOnly}
use Rattle.rb_base.specs.declared.shape.Shape.{Shape}
use Rattle.rb_base.specs.declared.store.Store.{Ghosts}
use Rattle.law_crash.specs.Between.{Extends, FoundAtEnd, FoundBetween, FoundSome}
use Rattle.law_crash.specs.Images.{HasState}
use Rattle.rb_model.specs.Book.{Book}
use Rattle.rb_model.specs.Calls.{Call}
use Rattle.rb_model.specs.State.{State}

-- An image opens to blocks that have a state at the number n, and no more marks than these books.
pub record RestartsAt {I : Type 0} (opens : Shape → Option ℕ → I → List (List ℕ) → ℕ → Type 0)
    (slots : Option ℕ) (books : List Book) (h : State) (n : ℕ) (i : I) : Type 0 where
  pub blocks : List (List ℕ)
  pub lsn : ℕ
  pub opening : opens h.shape slots i blocks lsn
  pub has : HasState h books n blocks lsn

-- it has the state at some number, from that of the last acknowledged commit on
abbrev pub Restarts : {I : Type 0} → (Shape → Option ℕ → I → List (List ℕ) → ℕ → Type 0)
    → Option ℕ → State → I → Type 0
Restarts opens slots h i = FoundSome (RestartsAt opens slots) h.books h i

-- what a crash leaves at the end of calls, and at some moment on the way
abbrev pub AtEnd : {I : Type 0} → (Shape → Option ℕ → I → List (List ℕ) → ℕ → Type 0) → Option ℕ
    → Option Call → State → I → Type 0
AtEnd opens slots fault h i = FoundAtEnd (RestartsAt opens slots) fault h i

abbrev pub OnTheWay : {I : Type 0} → (Shape → Option ℕ → I → List (List ℕ) → ℕ → Type 0)
    → Option ℕ → Option Call → (before now : State) → I → Type 0
OnTheWay opens slots fault before now i = FoundBetween (RestartsAt opens slots) fault before now i

-- What a crash may leave at any moment since an earlier store, and what it may leave now.
pub record Survives {S : Type 0} (s : Ghosts S) (slots : Option ℕ) (fault : Option Call) (before now : State)
    (old new : S) : Type 0 where
  pub extends : Extends before now
  pub any_moment : LeavesOnly s.moment s.left_since old new (OnTheWay s.opens slots fault before now)
  pub now_only : (i : s.image) → s.left new i → AtEnd s.opens slots fault now i
