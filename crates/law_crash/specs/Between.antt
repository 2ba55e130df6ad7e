-- What is found of a state at the end of calls, and on the way to it. What that is is open here (`has`): an image may
-- have a state's rows after its commits up to a number, and marks that are no more than those of some books.
use Rattle.std.specs.Prelude.{◌≡◌, ◌⊎◌, ℕ, ◌+◌, ◌<◌, ◌≤◌, true, false, List, [], ◌∷◌}
use Rattle.std.specs.Prelude.{◌++◌, Option, Some}
use Rattle.rb_base.specs.declared.shape.Shape.{Shape}
use Rattle.rb_model.specs.Book.{Book, book_at}
use Rattle.rb_model.specs.Calls.{Action, Call, Commit, CommitLater, Write, WritesIn, has_slot, is_empty}
use Rattle.rb_model.specs.Change.{Change}
use Rattle.rb_model.specs.NextState.{books_written}
use Rattle.rb_model.specs.Rows.{last_scn}
use Rattle.rb_model.specs.State.{State, session_own}

-- in no segment fewer records are made, or less is given up, than these books said before
pub record MarksGrow (shape : Shape) (before now : List Book) : Type 0 where
  pub writes : (g : ℕ) → g < shape.segments → (book_at before g).writes ≤ (book_at now g).writes
  pub lost : (g : ℕ) → g < shape.segments → (book_at before g).lost ≤ (book_at now g).lost

-- a later state has the commits of the earlier one, and perhaps more, its marks are no less, and no fewer commits are
-- acknowledged
pub record Extends (before now : State) : Type 0 where
  pub shape : now.shape ≡ before.shape
  pub base : now.commits.base ≡ before.commits.base
  pub rows : now.commits.rows ≡ before.commits.rows
  pub more : List (List Change)
  pub list : now.commits.list ≡ before.commits.list ++ more
  pub marks : MarksGrow before.shape before.books now.books
  pub safe : before.safe ≤ now.safe

-- the state with a session's live changes as one commit more
abbrev pub with_commit : State → ℕ → State
with_commit h s = record h { commits = record h.commits { list = h.commits.list ++ session_own h s ∷ [] } }

-- An image has a state's commits up to a number: all that are acknowledged, and of the later ones the first, none
-- without all before it.
pub record FoundSome {I : Type 0} (has : List Book → State → ℕ → I → Type 0) (books : List Book) (h : State)
    (i : I) : Type 0 where
  pub number : ℕ
  pub acknowledged : h.safe ≤ number
  pub made : number ≤ last_scn h.commits
  pub found : has books h number i

-- a commit of that session, which was to be made last at once or later
abbrev pub IsCommit : ℕ → Option Call → Type 0
IsCommit s call = (call ≡ Some (Commit s)) ⊎ (call ≡ Some (CommitLater s))

-- An image of an engine that is in that state, and of the call in which the disk failed, if it has. A commit that
-- answered the fault may be in the image, behind all others, or not; so may a write that did, of which the marks alone
-- tell, as it is put back. Any other call leaves the state.
pub data FoundAtEnd {I : Type 0} (has : List Book → State → ℕ → I → Type 0) (fault : Option Call) (h : State)
    (i : I) : Type 0 where
  up_to : FoundSome has h.books h i → FoundAtEnd has fault h i
  one_commit : (s : ℕ) → IsCommit s fault → h.stopped ≡ true → is_empty (session_own h s) ≡ false
      → has h.books (with_commit h s) (last_scn h.commits + 1) i → FoundAtEnd has fault h i
  one_write : (s table key : ℕ) (action : Action) (g k : ℕ) → fault ≡ Some (Write s table key action)
      → h.stopped ≡ true → WritesIn h s g k
      → FoundSome has (books_written s g k (has_slot h s g k) h.books) h i → FoundAtEnd has fault h i

-- An image at some moment on the way from a state to a later one: it has a number in between, from the first's
-- acknowledged ones on, and that state at it.
pub data FoundBetween {I : Type 0} (has : List Book → State → ℕ → I → Type 0) (fault : Option Call)
    (before now : State) (i : I) : Type 0 where
  reached : (n : ℕ) → before.safe ≤ n → n ≤ last_scn now.commits → has now.books now n i
      → FoundBetween has fault before now i
  at_end : FoundAtEnd has fault now i → FoundBetween has fault before now i
