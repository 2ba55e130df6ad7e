-- The books that an opening finds in the blocks of a file, and the state that they open to.
use Rattle.std.specs.Prelude.{◌≡◌, ℕ, List, [], map}
use Rattle.std.specs.List.{range_with_len}
use Rattle.rb_base.specs.declared.shape.Shape.{Shape}
use Rattle.rb_model.specs.Book.{Book}
use Rattle.rb_model.specs.Rows.{TableRow}
use Rattle.rb_model.specs.State.{State, opened}
use Rattle.rb_restart.specs.Rollback.{found_book}
use Rattle.rb_segment.specs.Header.{segment_of}
use Rattle.law_blocks.specs.Standing.{SoundAs}

-- the book of each segment, as its header tells it where no transaction runs
abbrev pub books_of : Shape → List (List ℕ) → List Book
books_of shape blocks = map (λ g. found_book (segment_of shape blocks g).header) (range_with_len 0 shape.segments)

-- The state that blocks open to: once what is under way is put back they have its number and its rows, and their
-- headers tell its books.
pub record OpensAs (shape : Shape) (blocks : List (List ℕ)) (h : State) : Type 0 where
  pub number : ℕ
  pub rows : List TableRow
  pub sound : SoundAs shape blocks number rows
  pub state : h ≡ opened shape number rows (books_of shape blocks) []
