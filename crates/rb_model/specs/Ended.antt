-- A transaction that has fewer changes, or has ended.
use Rattle.std.specs.Prelude.{◌-◌, ℕ, false, List, map, set}
use Rattle.rb_model.specs.Book.{book_at, left}
use Rattle.rb_model.specs.Change.{Change}
use Rattle.rb_model.specs.State.{Cursor, State, no_session, with_changes}

abbrev pub not_present : Cursor → Cursor
not_present c = record c { present = false }

-- the session as a new one but for these cursors, which are of no present transaction
abbrev pub ended : State → ℕ → List Cursor → State
ended h s cursors = record h {
  sessions = set h.sessions (s - 1) (record no_session { cursors = map not_present cursors });
}

-- and its slot without an owner
abbrev pub without_owner : ℕ → ℕ → State → State
without_owner g i h = record h { books = set h.books g (left i (book_at h.books g)) }

-- session s has these changes left, once its last one is put back
abbrev pub with_own : State → ℕ → List Change → State
with_own h s front = record h { sessions = set h.sessions (s - 1) (with_changes h s front) }
