-- The books of a new file: nothing was made, and nothing given up.
use Rattle.std.specs.Prelude.{List, replicate}
use Rattle.rb_base.specs.declared.shape.Shape.{Shape}
use Rattle.rb_model.specs.Book.{Book, fresh_book}

abbrev pub new_books : Shape → List Book
new_books shape = replicate shape.segments fresh_book
