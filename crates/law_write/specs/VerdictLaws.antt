-- What holds of a write's tests where the blocks of a file stand for the machine's state.
use Rattle.std.specs.Prelude.{◌≡◌, ◌<◌, ◌≤◌, ◌+◌, ◌==◌, ℕ, true, Bool, List, map, Option}
use Rattle.std.specs.List.{count_by}
use Rattle.rb_base.specs.Blocks.{block_of, home_block, table_blocks}
use Rattle.rb_base.specs.declared.ids.Xid.{Xid}
use Rattle.rb_base.specs.declared.sizes.TheConstants.{ACTIVE}
use Rattle.rb_heap.specs.Cleaning.{cleaned_home}
use Rattle.rb_heap.specs.Homes.{home_of}
use Rattle.rb_model.specs.Book.{Book, IsBegun, book_at, is_full, owners}
use Rattle.rb_model.specs.BookLaws.{IsBookSound}
use Rattle.rb_model.specs.State.{State}
use Rattle.rb_model.specs.Tests.{made_since}
use Rattle.rb_segment.specs.Books.{next_is_full}
use Rattle.rb_segment.specs.Calls.{IsSince}
use Rattle.rb_segment.specs.Header.{Header, Segment}
use Rattle.rb_segment.specs.Moves.{MayClaim, NoneMayTurn}
use Rattle.law_blocks.specs.Says.{says, walk_home}
use Rattle.law_blocks.specs.Standing.{env_of, homes_of}
use Rattle.law_blocks.specs.States.{BlocksStand}
use Rattle.law_blocks.specs.Writing.{IsHeaderReady}
use Rattle.law_write.specs.Chosen.{IsLeastActive, active_in, book_number, free_number, header_in}
use Rattle.law_write.specs.Stood.{IsClean, Stood}
use Rattle.law_write.specs.Verdict.{IsOwnId, home_verdict, model_verdict}
use Rattle.law_home.specs.Steps.{cleaned}
use Rattle.law_home.specs.Walk.{Home}

-- block b's home, cleaned of the transactions that have ended by what the headers say
abbrev pub clean_home : State → List (List ℕ) → ℕ → Home
clean_home h blocks b = cleaned (env_of h.shape blocks) (homes_of h.shape blocks b)

-- The first test of a write that applies is the machine's: by the key's home, once that is cleaned, and by the header
-- of a segment, with slot i taken where no transaction had it.
abbrev pub VerdictIsMachines : Type 0
VerdictIsMachines = (h : State) (xids : List Xid) (blocks : List (List ℕ)) (s table key g i : ℕ) (ready : Header)
    (own : Option Xid) (adds : Bool)
    → BlocksStand h xids blocks → 1 ≤ s → 1 ≤ table → table ≤ h.shape.tables → g < h.shape.segments
    → IsHeaderReady (header_in h blocks g) i ready → IsOwnId h (env_of h.shape blocks) s own
    → home_verdict h (clean_home h blocks (home_block h.shape table key)) ready own s key adds
    ≡ model_verdict h (book_at h.books g) s table key adds

-- So it is of any segments and homes that stand, by a home that is clean and a header that is full where the book is.
abbrev pub CleanVerdictIsMachines : Type 0
CleanVerdictIsMachines = (h : State) (xids : List Xid) (segments : ℕ → Segment) (homes : ℕ → Home)
    (s table key : ℕ) (header : Header) (book : Book) (own : Option Xid) (adds : Bool)
    → Stood h xids segments homes → 1 ≤ s → 1 ≤ table → table ≤ h.shape.tables
    → IsClean (says h.shape segments) (homes (home_block h.shape table key))
    → next_is_full header ≡ is_full book → IsOwnId h (says h.shape segments) s own
    → home_verdict h (homes (home_block h.shape table key)) header own s key adds
    ≡ model_verdict h book s table key adds

-- The cleaned home is that of the block, cleaned as a home of slot entries and cells.
abbrev pub CleanHomeIsBlocks : Type 0
CleanHomeIsBlocks = (h : State) (xids : List Xid) (blocks : List (List ℕ)) (b : ℕ)
    → BlocksStand h xids blocks → b < table_blocks h.shape
    → walk_home h.shape b (cleaned_home (env_of h.shape blocks).look (home_of (block_of blocks b)))
    ≡ clean_home h blocks b

-- A segment has no place for a record by its header, with slot i taken where no transaction had it, exactly where its
-- book is full.
abbrev pub FullIsBooks : Type 0
FullIsBooks = (h : State) (xids : List Xid) (blocks : List (List ℕ)) (g i : ℕ) (ready : Header)
    → BlocksStand h xids blocks → g < h.shape.segments → IsHeaderReady (header_in h blocks g) i ready
    → (NoneMayTurn ready → is_full (book_at h.books g) ≡ true)
    × (is_full (book_at h.books g) ≡ true → NoneMayTurn ready)

-- The number that RollbackFull tells by such a header is the book's,
abbrev pub SinceIsBooks : Type 0
SinceIsBooks = (h : State) (xids : List Xid) (blocks : List (List ℕ)) (g i since : ℕ) (ready : Header)
    → BlocksStand h xids blocks → g < h.shape.segments → IsHeaderReady (header_in h blocks g) i ready
    → IsSince ready since → since ≡ made_since (book_at h.books g)

-- and that of a full book is 281 to 320.
abbrev pub SinceInRange : Type 0
SinceInRange = (h : State) (xids : List Xid) (blocks : List (List ℕ)) (g : ℕ)
    → BlocksStand h xids blocks → g < h.shape.segments → is_full (book_at h.books g) ≡ true
    → (281 ≤ made_since (book_at h.books g)) × (made_since (book_at h.books g) ≤ 320)

-- The book of each segment is sound.
abbrev pub BooksAreSound : Type 0
BooksAreSound = (h : State) (xids : List Xid) (blocks : List (List ℕ)) (g : ℕ)
    → BlocksStand h xids blocks → g < h.shape.segments → IsBookSound (book_at h.books g)

-- Header and book say the same of which slots are free and with which newest number,
abbrev pub FreeSlotsAlike : Type 0
FreeSlotsAlike = (h : State) (xids : List Xid) (blocks : List (List ℕ)) (g : ℕ)
    → BlocksStand h xids blocks → g < h.shape.segments
    → map free_number (header_in h blocks g).slots ≡ map book_number (book_at h.books g).slots

-- and of how many are owned.
abbrev pub OwnersAlike : Type 0
OwnersAlike = (h : State) (xids : List Xid) (blocks : List (List ℕ)) (g : ℕ)
    → BlocksStand h xids blocks → g < h.shape.segments
    → (count_by (λ slot. slot.state == ACTIVE) (header_in h blocks g).slots ≡ owners (book_at h.books g))
    × (active_in h blocks g ≡ owners (book_at h.books g))

-- So the segment in which the fewest transactions run, and its slot that a transaction takes, are those of the machine.
abbrev pub BeginsWhereChosen : Type 0
BeginsWhereChosen = (h : State) (xids : List Xid) (blocks : List (List ℕ)) (g i : ℕ)
    → BlocksStand h xids blocks → IsLeastActive h blocks g → MayClaim (header_in h blocks g) i
    → IsBegun h.books g i
