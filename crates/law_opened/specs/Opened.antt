-- The state that the blocks of a file open to where nothing is put back: each Active table slot is a dead
-- transaction's. It is a session behind the sixteen, number 17 + t for slot t, with its live changes alone, which no
-- call can name.
use Rattle.std.specs.Prelude.{◌+◌, ◌*◌, ◌/◌, ◌==◌, ◌++◌, cond, ℕ, zero, suc}
use Rattle.std.specs.Prelude.{List, [], ◌∷◌, map, Option, Some, None}
use Rattle.std.specs.List.{range_with_len}
use Rattle.rb_base.specs.declared.shape.Shape.{Shape}
use Rattle.rb_base.specs.declared.sizes.TheConstants.{ACTIVE}
use Rattle.rb_model.specs.Book.{Book, BookSlot, Owner}
use Rattle.rb_model.specs.Change as model
use Rattle.rb_model.specs.State.{Session, State, no_session, opened, session_count}
use Rattle.rb_model.specs.Rows.{TableRow}
use Rattle.rb_segment.specs.Books.{book_of, ring_count}
use Rattle.rb_segment.specs.Header.{Header, has_bit, ord_in, slot_in}
use Rattle.rb_txntable.specs.declared.slots.TableSlot.{TableSlot}
use Rattle.law_blocks.specs.Standing.{segments_of}
use Rattle.law_home.specs.Walk.{Change}

-- the change of a table slot as the machine's: its home tells the table
abbrev pub told_change : Shape → Change → model.Change
told_change shape ch = record { table = ch.home / shape.blocks + 1; key = ch.key; kind = ch.kind; place = ch.place }

-- the live changes of a slot, which stand newest first, as the machine's, oldest first
abbrev pub told_changes : Shape → List Change → List model.Change
told_changes shape [] = []
told_changes shape (ch ∷ more) = told_changes shape more ++ told_change shape ch ∷ []

-- a dead transaction: its live changes, and nothing else
abbrev pub dead_session : Shape → List Change → Session
dead_session shape chs = record no_session { own = told_changes shape chs }

-- the number of the dead transaction that has table slot t, the slots of all segments counted in order
abbrev pub dead_number : ℕ → ℕ
dead_number t = session_count + 1 + t

-- the turns of n extents from e on that a slot's bits name
abbrev pub turns_from : Header → ℕ → ℕ → ℕ → List ℕ
turns_from h bits e zero = []
turns_from h bits e (suc n) =
    cond (has_bit bits e) (ord_in h e ∷ turns_from h bits (e + 1) n) (turns_from h bits (e + 1) n)

-- and of all
abbrev pub turns_of : Header → ℕ → List ℕ
turns_of h bits = turns_from h bits 0 8

-- a slot as an opening finds it: an Active one is a dead transaction's
abbrev pub found_owner : Header → ℕ → TableSlot → Option Owner
found_owner h session slot =
    cond (slot.state == ACTIVE)
    (Some (record { session = session; start = slot.start; touched = turns_of h slot.touched })) None

abbrev pub found_slot : Header → ℕ → TableSlot → BookSlot
found_slot h session slot = record { newest = slot.newest; owner = found_owner h session slot }

-- the book of segment g, whose slots are numbered from 16 g on
abbrev pub owned_book : Header → ℕ → Book
owned_book h g = record (book_of h (ring_count h)) {
  slots = map (λ i. found_slot h (dead_number (16 * g + i)) (slot_in h i)) (range_with_len 0 16);
}

abbrev pub owned_books : Shape → List (List ℕ) → List Book
owned_books shape blocks =
    map (λ g. owned_book (segments_of shape blocks g).header g) (range_with_len 0 shape.segments)

-- The state that a file of that number, these rows, these books and these live changes opens to.
abbrev pub opened_with : Shape → ℕ → List TableRow → List Book → List (List Change) → State
opened_with shape number rows books lives = opened shape number rows books (map (dead_session shape) lives)
