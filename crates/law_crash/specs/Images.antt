-- What the blocks that a file opens to have of a state of the machine.
use Rattle.std.specs.Prelude.{◌≡◌, ◌<◌, ◌≤◌, ℕ, List}
use Rattle.rb_base.specs.declared.shape.Shape.{Shape}
use Rattle.law_crash.specs.Between.{FoundSome}
use Rattle.rb_model.specs.Book.{Book, book_at}
use Rattle.rb_model.specs.Rows.{rows_at}
use Rattle.rb_model.specs.State.{State}
use Rattle.law_blocks.specs.Standing.{SoundAs, logged_of, segments_of}

-- no segment has made or given up more than these books say
pub record MarksWithin (shape : Shape) (books : List Book) (blocks : List (List ℕ)) : Type 0 where
  pub writes : (g : ℕ) → g < shape.segments
      → (segments_of shape blocks g).header.writes ≤ (book_at books g).writes
  pub lost : (g : ℕ) → g < shape.segments → (segments_of shape blocks g).header.lost ≤ (book_at books g).lost

-- Once what is under way is put back the blocks have the rows after a state's commits up to n. The last log number is
-- that of the last group that patched a block.
pub record HasState (h : State) (books : List Book) (n : ℕ) (blocks : List (List ℕ)) (lsn : ℕ) : Type 0 where
  pub logged : lsn ≡ logged_of h.shape blocks
  pub sound : SoundAs h.shape blocks n (rows_at h.shape.blocks h.commits n)
  pub marks : MarksWithin h.shape books blocks

-- They have it at some number, from that of the last acknowledged commit to that of the last.
abbrev pub HasSome : State → List Book → List (List ℕ) → ℕ → Type 0
HasSome h books blocks lsn = FoundSome (λ b k n made. HasState k b n made lsn) books h blocks
