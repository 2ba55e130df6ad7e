-- What holds of the moves of a segment: which records they leave, how they age it, and what they are in its book.
use Rattle.std.specs.Prelude.{◌≡◌, ◌≢◌, ◌<◌, ◌≤◌, ◌==◌, ◌+◌, ◌*◌, ℕ, true}
use Rattle.std.specs.Prelude.{if◌then◌else◌}
use Rattle.std.specs.Prelude.{length, get_or, set, Some, None}
use Rattle.rb_base.specs.declared.ids.Uba.{Uba}
use Rattle.rb_base.specs.declared.sizes.TheConstants.{ACTIVE, SLOTS}
use Rattle.rb_model.specs.Book as model
use Rattle.rb_model.specs.Book.{Book, IsFirstFree, free_slot, fresh_book, turn_of, needs_turn, is_full, touches}
use Rattle.rb_ring.specs.Ring.{IsRing}
use Rattle.rb_ring.specs.declared.extents.TheConstants.{EXTENT_RECORDS}
use Rattle.rb_segment.specs.Books.{IsBook, book_of, fresh_header, fresh_segment, next_is_full}
use Rattle.rb_segment.specs.Header.{Header, Segment, HeaderInOrder, SegmentInOrder}
use Rattle.rb_segment.specs.Header.{slot_in, extent_in, ord_in, head_turn, record_in, extent_with}
use Rattle.rb_segment.specs.Moves.{claimed, turned, added, with_header, with_record, taken_back, committed, ended}
use Rattle.rb_segment.specs.Moves.{Ring, MayClaim, MayTurn, NoneMayTurn, Also, Records, SegmentAges, SegmentCommits}
use Rattle.rb_segment.specs.Running.{KeepsRecords, RunningSlot, FirstTurns}
use Rattle.rb_undoblock.specs.declared.record.UndoRecord.{UndoRecord}

-- A segment with room for one record more in its head.
pub record HasPlace (s : Segment) : Type 0 where
  pub ring : Ring s.header
  pub few : s.header.records < EXTENT_RECORDS
  pub undo : length s.undo ≡ 320

-- The record that is added is the next one, and each earlier one is what it was.
abbrev pub AddedIsNext : Type 0
AddedIsNext = (s : Segment) (i : ℕ) (address : Uba) (touched : ℕ) (r : UndoRecord) → HasPlace s
    → record_in (with_record i address touched r s) (s.header.writes + 1) ≡ Some r

abbrev pub AddedLeavesOthers : Type 0
AddedLeavesOthers = (s : Segment) (i : ℕ) (address : Uba) (touched : ℕ) (r : UndoRecord) → HasPlace s
    → (k : ℕ) → k ≤ s.header.writes → record_in (with_record i address touched r s) k ≡ record_in s k

-- A turn drops the records of its extent's old turn, and no others.
abbrev pub TurnedDropsOld : Type 0
TurnedDropsOld = (s : Segment) (e : ℕ) → Ring s.header → MayTurn s.header e → (k : ℕ)
    → k ≤ s.header.writes
    → extent_with s.header.extents (turn_of k) ≡ Some e → record_in (with_header (turned e s.header) s) k ≡ None

abbrev pub TurnedLeavesOthers : Type 0
TurnedLeavesOthers = (s : Segment) (e : ℕ) → Ring s.header → MayTurn s.header e → (k : ℕ)
    → k ≤ s.header.writes
    → extent_with s.header.extents (turn_of k) ≢ Some e
    → record_in (with_header (turned e s.header) s) k ≡ record_in s k

-- A turn and a record leave a ring.
abbrev pub TurnedIsRing : Type 0
TurnedIsRing = (h : Header) (e : ℕ) → Ring h → MayTurn h e → Ring (turned e h)

abbrev pub AddedIsRing : Type 0
AddedIsRing = (h : Header) (i : ℕ) (address : Uba) (touched : ℕ) → Ring h → h.records < EXTENT_RECORDS
    → Ring (added i address touched h)

-- The other moves leave every record.
abbrev pub LeavesRecords : (Header → Header) → Type 0
LeavesRecords move = (s : Segment) (k : ℕ) → record_in (with_header (move s.header) s) k ≡ record_in s k

abbrev pub OtherMovesLeaveRecords : Type 0
OtherMovesLeaveRecords = (i c : ℕ) (previous : Uba) → LeavesRecords (claimed i)
    × LeavesRecords (taken_back i previous) × LeavesRecords (committed c i) × LeavesRecords (ended i)

-- the slots that go on: all, all but one, and those that run and keep their records
abbrev pub Each : ℕ → Type 0
Each j = Unit {0}

abbrev pub AllBut : ℕ → ℕ → Type 0
AllBut i j = j ≢ i

abbrev pub RunsOn : Segment → ℕ → Type 0
RunsOn s j = ((slot_in s.header j).state ≡ ACTIVE) × KeepsRecords s j

-- Each move only ages its segment.
abbrev pub ClaimAges : Type 0
ClaimAges = (s : Segment) (i : ℕ) → i < length s.header.slots → (slot_in s.header i).state ≢ ACTIVE
    → (slot_in s.header i).before ≤ (slot_in s.header i).newest
    → SegmentAges (AllBut i) s (with_header (claimed i s.header) s)

abbrev pub TurnAges : Type 0
TurnAges = (s : Segment) (e : ℕ) → Ring s.header → length s.header.slots ≡ SLOTS → MayTurn s.header e
    → SegmentAges (RunsOn s) s (with_header (turned e s.header) s)

abbrev pub AddAges : Type 0
AddAges = (s : Segment) (i : ℕ) (address : Uba) (touched : ℕ) (r : UndoRecord) → HasPlace s
    → SegmentAges Each s (with_record i address touched r s)

-- and so do those of a write together, in which a slot may be taken
abbrev pub WriteAges : Type 0
WriteAges = (s : Segment) (i : ℕ) (address : Uba) (r : UndoRecord) (s2 : Segment) → Ring s.header
    → length s.header.slots ≡ SLOTS → length s.undo ≡ 320 → i < SLOTS
    → (slot_in s.header i).before ≤ (slot_in s.header i).newest → Records s i address r s2
    → SegmentAges (RunsOn s) s s2

abbrev pub BackAges : Type 0
BackAges = (s : Segment) (i : ℕ) (previous : Uba) → i < length s.header.slots
    → SegmentAges Each s (with_header (taken_back i previous s.header) s)

abbrev pub EndAges : Type 0
EndAges = (s : Segment) (i : ℕ) → i < length s.header.slots → (slot_in s.header i).state ≡ ACTIVE
    → SegmentAges (AllBut i) s (with_header (ended i s.header) s)

-- A commit of a slot that runs and keeps its records, at a number that no extent is above.
abbrev pub CommitCommits : Type 0
CommitCommits = (s : Segment) (i c : ℕ) → i < length s.header.slots → RunsOn s i
    → (slot_in s.header i).before ≡ (slot_in s.header i).newest
    → ((e : ℕ) → e < length s.header.extents → (extent_in s.header e).newest ≤ c)
    → SegmentCommits s (with_header (committed c i s.header) s) i c

-- A header in order tells a book, in a file of that commit number.
pub record TellsBook (commit : ℕ) (h : Header) (b : Book) : Type 0 where
  pub book : IsBook h b
  pub order : HeaderInOrder commit h
  pub count : h.writes + 80 ≡ 40 * head_turn h + h.records
  pub begun : h.records ≡ 0 → h.writes ≡ 0

-- a slot is taken
abbrev pub ClaimedTellsTaken : Type 0
ClaimedTellsTaken = (h : Header) (b : Book) (session i : ℕ) → IsBook h b → length h.slots ≡ SLOTS → i < SLOTS
    → (slot_in h i).state ≢ ACTIVE → IsBook (claimed i h) (model.taken session i b)

-- a turn is needed exactly where the head is full, and then the book takes it too
abbrev pub NeedsWhereFull : Type 0
NeedsWhereFull = (commit : ℕ) (h : Header) (b : Book) → TellsBook commit h b
    → needs_turn b ≡ (h.records == EXTENT_RECORDS)

abbrev pub TurnedTellsTurned : Type 0
TurnedTellsTurned = (commit : ℕ) (h : Header) (b : Book) (e : ℕ) → TellsBook commit h b → FirstTurns h
    → MayTurn h e
    → IsBook (turned e h) (model.turned b)

-- the book with one record more of slot i in its last turn, as `marked` makes of it once it is turned
abbrev pub with_mark : ℕ → Book → Book
with_mark i b =
    let s = get_or b.slots i free_slot in
    record b {
      writes = b.writes + 1;
      slots = set b.slots i (record s { owner = touches (turn_of (b.writes + 1)) s.owner });
    }

abbrev pub AddedTellsMark : Type 0
AddedTellsMark = (commit : ℕ) (h : Header) (b : Book) (i : ℕ) (address : Uba) (touched : ℕ) → IsBook h b
    → HeaderInOrder commit h → h.writes + 80 ≡ 40 * head_turn h + h.records → i < SLOTS
    → (slot_in h i).state ≡ ACTIVE → (slot_in h i).start ≤ h.writes → h.records < EXTENT_RECORDS
    → Also (slot_in h i).touched h.head touched → IsBook (added i address touched h) (with_mark i b)

-- the book once slot i, of that state, is the session's
abbrev pub book_ready : ℕ → ℕ → ℕ → Book → Book
book_ready session i state b = if state == ACTIVE then b else model.taken session i b

-- a whole write, of a segment in which each Active slot is one of an engine that runs
abbrev pub WrittenTellsMarked : Type 0
WrittenTellsMarked = (s : Segment) (i : ℕ) (address : Uba) (u : UndoRecord) (s2 : Segment) (commit logged : ℕ)
    (session : ℕ) (b : Book) → Records s i address u s2 → SegmentInOrder commit logged s → i < SLOTS
    → ((j : ℕ) → (slot_in s.header j).state ≡ ACTIVE → KeepsRecords s j)
    → ((j : ℕ) → (slot_in s.header j).state ≡ ACTIVE → RunningSlot s.header (slot_in s.header j))
    → IsBook s.header b
    → IsBook s2.header (model.marked i (book_ready session i (slot_in s.header i).state b))

abbrev pub CommittedTellsFinished : Type 0
CommittedTellsFinished = (commit : ℕ) (h : Header) (b : Book) (n i : ℕ) → TellsBook commit h b → i < SLOTS
    → (slot_in h i).state ≡ ACTIVE → IsBook (committed n i h) (model.finished n i b)

abbrev pub EndedTellsLeft : Type 0
EndedTellsLeft = (h : Header) (b : Book) (i : ℕ) → IsBook h b → length h.slots ≡ SLOTS → i < SLOTS
    → IsBook (ended i h) (model.left i b)

abbrev pub BackTellsSame : Type 0
BackTellsSame = (h : Header) (b : Book) (i : ℕ) (previous : Uba) → IsBook h b → length h.slots ≡ SLOTS
    → i < SLOTS
    → IsBook (taken_back i previous h) b

-- No extent may take the next turn exactly where the book is full.
abbrev pub FullWhereNoneMayTurn : Type 0
FullWhereNoneMayTurn = (commit : ℕ) (h : Header) (b : Book) → TellsBook commit h b → FirstTurns h
    → (NoneMayTurn h → is_full b ≡ true) × (is_full b ≡ true → NoneMayTurn h)

abbrev pub FullIsNextFull : Type 0
FullIsNextFull = (commit : ℕ) (h : Header) (b : Book) → TellsBook commit h b → FirstTurns h
    → next_is_full h ≡ is_full b

-- The slot that a transaction takes is the one that a session takes in the book.
abbrev pub ClaimsFirstFree : Type 0
ClaimsFirstFree = (h : Header) (b : Book) (i : ℕ) → IsBook h b
    → (MayClaim h i → IsFirstFree b i) × (IsFirstFree b i → MayClaim h i)

-- A new file's segment is in order, and its header tells the book of a new file.
abbrev pub FreshInOrder : Type 0
FreshInOrder = SegmentInOrder 0 0 fresh_segment

abbrev pub FreshTellsFresh : Type 0
FreshTellsFresh = IsBook fresh_header fresh_book

-- Each header in order tells a book, where no slot is Active.
abbrev pub IdleTellsBook : Type 0
IdleTellsBook = (commit : ℕ) (h : Header) (k : ℕ) → HeaderInOrder commit h → IsRing (ord_in h) h.head k
    → ((i : ℕ) → i < SLOTS → (slot_in h i).state ≢ ACTIVE) → IsBook h (book_of h k)
