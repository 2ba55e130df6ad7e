-- The machine's state after each kind of group: a change, its put back, a commit, the end of a transaction.
use Rattle.std.specs.Prelude.{◌≡◌, ◌≢◌, ◌⊎◌, ◌≤◌, ◌-◌, ◌/◌, ◌%◌, ◌++◌, ℕ}
use Rattle.std.specs.Prelude.{List, [], ◌∷◌, set}
use Rattle.rb_base.specs.Blocks.{home_block}
use Rattle.rb_base.specs.declared.ids.Uba.{Uba}
use Rattle.rb_base.specs.declared.shape.Shape.{Shape}
use Rattle.rb_base.specs.declared.sizes.TheConstants.{ACTIVE}
use Rattle.rb_model.specs.Book.{marked, finished, left, book_at}
use Rattle.rb_model.specs.Change.{Change, Kind}
use Rattle.rb_model.specs.State.{State, Cursor, no_session, session_own, with_changes}
use Rattle.rb_segment.specs.Header.{Segment}
use Rattle.rb_segment.specs.MoveLaws.{book_ready}
use Rattle.law_blocks.specs.Says.{place_of}
use Rattle.law_blocks.specs.States.{Owns}
use Rattle.law_blocks.specs.Values.{slot_of}
use Rattle.rb_undoblock.specs.declared.record.UndoRecord.{UndoRecord}

-- a session and its slot: it owns this one, or none and this is free
abbrev pub Takes : State → (ℕ → Segment) → ℕ → ℕ → Type 0
Takes h segments s t = Owns h s t ⊎ (((slot_of segments t).state ≢ ACTIVE) × ((u : ℕ) → Owns h s u → ⊥))

-- the change of the model is the one that a write made
pub record SameChange (shape : Shape) (c : Change) (kind : Kind) (address : Uba) (u : UndoRecord) : Type 0 where
  pub home : u.home ≡ home_block shape c.table c.key
  pub place : c.place ≡ place_of shape address
  pub key : u.key ≡ c.key
  pub kind_is : c.kind ≡ kind
  -- of a table that there is
  pub table : (1 ≤ c.table) × (c.table ≤ shape.tables)

-- a write of session s in slot t, which had that state: one change more, in the session and in the book
abbrev pub after_write : State → ℕ → ℕ → ℕ → Change → State
after_write h s t state c = record h {
  sessions = set h.sessions (s - 1) (with_changes h s (session_own h s ++ c ∷ []));
  books = set h.books (t / 16) (marked (t % 16) (book_ready s (t % 16) state (book_at h.books (t / 16))));
}

-- a commit of session s, whose slot is t, at number n, which leaves it these cursors
abbrev pub after_commit : State → ℕ → ℕ → ℕ → List Cursor → State
after_commit h s t n cursors = record h {
  commits = record h.commits { list = h.commits.list ++ session_own h s ∷ [] };
  sessions = set h.sessions (s - 1) (record no_session { cursors = cursors });
  books = set h.books (t / 16) (finished n (t % 16) (book_at h.books (t / 16)));
}

-- the transaction of slot t has ended without a change
abbrev pub after_end : State → ℕ → State
after_end h t = record h { books = set h.books (t / 16) (left (t % 16) (book_at h.books (t / 16))) }
