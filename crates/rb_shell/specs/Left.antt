-- The files that a person may have, each with the state and the last log number that a run over it opens with: a new
-- file, and what a run over such a file leaves, at whatever moment it is stopped. Who has such a file needs not read
-- what stands here: `run` says of a new file that it is one, of each file that a run over one may leave that it is one,
-- and of each what a run does.
use Rattle.std.specs.Prelude.{◌≡◌, ◌≤◌, ◌+◌, ℕ, List, [], Some}
use Rattle.law_crash.specs.Between.{Extends}
use Rattle.law_crash.specs.Crash.{RestartsAt}
use Rattle.rb_layout.specs.Regions.{file_version, fresh_file, shape_of}
use Rattle.rb_layout.specs.declared.layout.Layout.{Layout}
use Rattle.rb_model.specs.Book.{Book}
use Rattle.rb_model.specs.Rows.{last_scn, rows_at}
use Rattle.rb_model.specs.State.{State, opened}
use Rattle.rb_recovery.specs.Opens.{books_of}
use Rattle.rb_segment.specs.Segments.{owed_in}
use Rattle.rb_shell.specs.NewBooks.{new_books}
use Rattle.rb_store.specs.Meaning.{Opens}

-- The log has so many slots. A new file opens with no commit, and no group has a number. What a run left, which opened
-- with one state and came to a later one, opens with the rows after the commits up to some number in between; what is
-- under way in it is put back, and takes the next log numbers.
pub data Left (slots : ℕ) : List ℕ → State → ℕ → Type 0 where
  fresh : (l : Layout) → l.log ≡ slots → (file : List ℕ) → file ≡ fresh_file file_version l → (h : State)
      → h ≡ opened (shape_of l) 0 [] (new_books (shape_of l)) [] → (lsn : ℕ) → lsn ≡ 0
      → Left slots file h lsn
  later : (before : List ℕ) (first : State) (number : ℕ) → Left slots before first number → (now : State)
      → Extends first now → (books : List Book) (n : ℕ) → last_scn first.commits ≤ n → (file : List ℕ)
      → (r : RestartsAt Opens (Some slots) books now n file) → (h : State)
      → h ≡ opened now.shape n (rows_at now.shape.blocks now.commits n) (books_of now.shape r.blocks) []
      → (lsn : ℕ) → lsn ≡ r.lsn + owed_in now.shape r.blocks → Left slots file h lsn
