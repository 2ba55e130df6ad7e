-- All that is under way in the blocks of a file, put back.
use Rattle.std.specs.Prelude.{◌≡◌, ◌≢◌, ◌<◌, ◌≤◌, ◌*◌, ◌+◌}
use Rattle.std.specs.Prelude.{ℕ, zero, suc, List, length, take}
use Rattle.rb_base.specs.Blocks.{after_groups, block_of, header_block}
use Rattle.rb_base.specs.Groups.{Patch}
use Rattle.rb_base.specs.declared.shape.Shape.{Shape}
use Rattle.rb_base.specs.declared.sizes.TheConstants.{ACTIVE}
use Rattle.rb_model.specs.Book.{Book}
use Rattle.rb_model.specs.Rows.{TableRow}
use Rattle.rb_segment.specs.Books.{book_of, ring_count}
use Rattle.rb_segment.specs.Header.{Header, header_of}
use Rattle.rb_segment.specs.Segments.{owed_in}
use Rattle.law_blocks.specs.Groups.{IsEnded, IsPutBack, last_record}
use Rattle.law_blocks.specs.Standing.{SoundAs, logged_of, segments_of}
use Rattle.law_blocks.specs.Values.{slot_of}

abbrev pub header_in : Shape → List (List ℕ) → ℕ → Header
header_in shape blocks g = header_of (block_of blocks (header_block shape g))

-- the book that a header tells where no transaction runs
abbrev pub found_book : Header → Book
found_book h = book_of h (ring_count h)

-- each header tells the book that it told
abbrev pub SameBooks : Shape → List (List ℕ) → List (List ℕ) → Type 0
SameBooks shape before now = (g : ℕ) → g < shape.segments
    → found_book (header_in shape now g) ≡ found_book (header_in shape before g)

-- One group of a put back: the newest change of a table slot is taken back as its record keeps it, or the slot ends.
pub data IsBackGroup (shape : Shape) (before now : List (List ℕ)) : Type 0 where
  change : (t : ℕ) → t < 16 * shape.segments → IsPutBack shape t (last_record shape before t) before now
      → IsBackGroup shape before now
  slot : (t : ℕ) → t < 16 * shape.segments → IsEnded shape t before now → IsBackGroup shape before now

-- So many of them, one after another.
abbrev pub BackBy : Shape → ℕ → (before now : List (List ℕ)) → Type 0
BackBy shape zero before now = now ≡ before
BackBy shape (suc n) before now = (middle : List (List ℕ))
    × IsBackGroup shape before middle × BackBy shape n middle now

-- Blocks behind so many groups that put back: they have that number and those rows once the rest is taken back, each
-- group was the next to be logged and one of those that were owed, and no book changed.
pub record IsPartlyBack (shape : Shape) (number : ℕ) (rows : List TableRow) (count : ℕ)
    (before now : List (List ℕ)) : Type 0 where
  pub sound : SoundAs shape now number rows
  pub logged : logged_of shape now ≡ logged_of shape before + count
  pub owed : owed_in shape now + count ≡ owed_in shape before
  pub back : BackBy shape count before now
  pub books : SameBooks shape before now

-- The blocks are so after any number of these groups, from the first on: a stop in between leaves nothing else to find.
abbrev pub StaySound : Shape → ℕ → List TableRow → ℕ → List (List Patch) → List (List ℕ) → Type 0
StaySound shape number rows logged groups blocks = (count : ℕ) → count ≤ length groups
    → IsPartlyBack shape number rows count blocks (after_groups (logged + 1) (take count groups) blocks)

-- no transaction runs
abbrev pub AreIdle : Shape → List (List ℕ) → Type 0
AreIdle shape blocks = (t : ℕ) → t < 16 * shape.segments → (slot_of (segments_of shape blocks) t).state ≢ ACTIVE

-- All is put back: as many groups as are owed, each the next that is logged and a change or a slot, and then no
-- transaction runs.
pub record RolledBack (shape : Shape) (groups : List (List Patch)) (before now : List (List ℕ)) : Type 0 where
  pub count : length groups ≡ owed_in shape before
  pub logged : logged_of shape now ≡ logged_of shape before + length groups
  pub back : BackBy shape (length groups) before now
  pub idle : AreIdle shape now
  pub books : SameBooks shape before now
