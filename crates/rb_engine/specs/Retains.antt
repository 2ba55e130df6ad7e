-- What a write that is done gives up of what segments keep for readers.
use Rattle.std.specs.Prelude.{◌≡◌, ◌≢◌, ◌⊎◌, ◌<◌, ℕ, if◌then◌else◌, is_some, IsTrue}
use Rattle.rb_model.specs.Book.{Book, book_at, book_slot, slot_owner, taken}
use Rattle.rb_model.specs.BookLaws.{IsTurnDropped}
use Rattle.rb_model.specs.Calls.{WritesIn, has_slot}
use Rattle.rb_model.specs.State.{State}

-- slot i, whose number is c, is taken again: each other slot has an owner or a greater number
pub record IsOldestSlot (b : Book) (i c : ℕ) : Type 0 where
  pub number : c ≡ (book_slot b i).newest
  pub others : (j : ℕ) → j < 16 → j ≢ i → IsTrue (is_some (slot_owner b j)) ⊎ (c < (book_slot b j).newest)

-- the book of a session's segment as the write's record comes to it: the session has its slot
abbrev pub book_ready : State → ℕ → ℕ → ℕ → Book
book_ready h s g i = if has_slot h s g i then book_at h.books g else taken s i (book_at h.books g)

-- The write was in segment g, by slot i. What was given up rises there alone, and only to the number of the turn that
-- is dropped for the record, in which no owner has made one and behind which forty were made, or to the number of the
-- slot that was taken.
pub record Retains (h : State) (s : ℕ) (now : State) : Type 0 where
  pub g : ℕ
  pub i : ℕ
  pub within : WritesIn h s g i
  pub others : (k : ℕ) → k ≢ g → book_at now.books k ≡ book_at h.books k
  pub cause : (book_at h.books g).lost < (book_at now.books g).lost
      → IsTurnDropped (book_ready h s g i) (book_at now.books g) (book_at now.books g).lost
      ⊎ IsOldestSlot (book_at h.books g) i (book_at now.books g).lost
