-- What the moves of a book keep, and where a number is given up.
use Rattle.std.specs.Prelude.{◌≡◌, ◌≢◌, ◌⊎◌, ◌<◌, ◌≤◌, ◌+◌, ◌-◌, ℕ, true, false}
use Rattle.std.specs.Prelude.{List, length, Some, is_some, IsTrue}
use Rattle.rb_model.specs.Book.{Book, Owner, fresh_book, turn_of, last_turn, oldest_turn, first_turn, needs_turn}
use Rattle.rb_model.specs.Book.{is_full, is_touched, oldest_number, book_slot, slot_owner, IsFirstFree, IsBegun}
use Rattle.rb_model.specs.Book.{book_at, begun, marked, taken, finished, left}

-- An owner began at one of the records that there are, and the turns from its first on are all kept: each that it
-- touched is one of those.
pub record IsOwnerSound (b : Book) (o : Owner) : Type 0 where
  pub start : o.start ≤ b.writes
  pub kept : oldest_turn b ≤ first_turn o
  pub touched : (t : ℕ) → is_touched t (Some o) ≡ true → (first_turn o ≤ t) × (t ≤ last_turn b)

-- A book has two to eight turns, the oldest of which is 1 or later, and sixteen slots.
pub record IsBookSound (b : Book) : Type 0 where
  pub two : 2 ≤ length b.turns
  pub eight : length b.turns ≤ 8
  pub from_one : length b.turns ≤ last_turn b
  pub sixteen : length b.slots ≡ 16
  pub owners : (i : ℕ) (o : Owner) → slot_owner b i ≡ Some o → IsOwnerSound b o

abbrev pub FreshIsSound : Type 0
FreshIsSound = IsBookSound fresh_book

-- Each move keeps a book sound; a record is made where the book isn't full.
abbrev pub TakenIsSound : Type 0
TakenIsSound = (session i : ℕ) (b : Book) → IsBookSound b → IsBookSound (taken session i b)

abbrev pub MarkedIsSound : Type 0
MarkedIsSound = (i : ℕ) (b : Book) → IsBookSound b → is_full b ≡ false → IsBookSound (marked i b)

abbrev pub FinishedIsSound : Type 0
FinishedIsSound = (n i : ℕ) (b : Book) → IsBookSound b → IsBookSound (finished n i b)

abbrev pub LeftIsSound : Type 0
LeftIsSound = (i : ℕ) (b : Book) → IsBookSound b → IsBookSound (left i b)

-- a record is counted, and nothing else is
abbrev pub CountsRecords : Type 0
CountsRecords = (session n i : ℕ) (b : Book) → ((marked i b).writes ≡ b.writes + 1)
    × ((taken session i b).writes ≡ b.writes) × ((finished n i b).writes ≡ b.writes)
    × ((left i b).writes ≡ b.writes)

-- what was given up stays so, and one that ends gives nothing up
abbrev pub KeepsLost : Type 0
KeepsLost = (session n i : ℕ) (b : Book) → (b.lost ≤ (marked i b).lost) × (b.lost ≤ (taken session i b).lost)
    × ((finished n i b).lost ≡ b.lost) × ((left i b).lost ≡ b.lost)

-- A move is of its own slot, and only a commit gives that a number.
abbrev pub KeepsSlots : Type 0
KeepsSlots = (session n i j : ℕ) (b : Book) → j ≢ i → (book_slot (marked i b) j ≡ book_slot b j)
    × (book_slot (taken session i b) j ≡ book_slot b j) × (book_slot (finished n i b) j ≡ book_slot b j)
    × (book_slot (left i b) j ≡ book_slot b j)

abbrev pub KeepsNewest : Type 0
KeepsNewest = (session i : ℕ) (b : Book) → ((book_slot (marked i b) i).newest ≡ (book_slot b i).newest)
    × ((book_slot (taken session i b) i).newest ≡ (book_slot b i).newest)
    × ((book_slot (left i b) i).newest ≡ (book_slot b i).newest)

-- What it means that c is the number of the turn that is dropped: it was the oldest and is kept no more, and the last
-- forty records, up to the one of number writes, are all of one turn, which comes after it. No owner began in it or
-- touched it.
pub record IsTurnDropped (b after : Book) (c : ℕ) : Type 0 where
  pub needed : needs_turn b ≡ true
  pub number : c ≡ oldest_number b.turns
  pub dropped : oldest_turn after ≡ oldest_turn b + 1
  pub forty : (r : ℕ) → b.writes < r + 40 → r ≤ b.writes → turn_of r ≡ last_turn b
  pub before : oldest_turn b < last_turn b
  pub began : (i : ℕ) (o : Owner) → slot_owner b i ≡ Some o → oldest_turn b < first_turn o
  pub touched : (i t : ℕ) (o : Owner) → slot_owner b i ≡ Some o → is_touched t (Some o) ≡ true
      → oldest_turn b < t

-- a record gives up no more than the turn that is dropped for it
abbrev pub DropsOneTurn : Type 0
DropsOneTurn = (i : ℕ) (b : Book) → IsBookSound b → is_full b ≡ false → b.lost < (marked i b).lost
    → IsTurnDropped b (marked i b) (marked i b).lost

-- After a record the oldest kept turn is the same or the next, and each turn that an owner touched is kept.
pub record IsTurnKept (b after : Book) : Type 0 where
  pub one : oldest_turn after ≤ oldest_turn b + 1
  pub owned : (i t : ℕ) (o : Owner) → slot_owner b i ≡ Some o → is_touched t (Some o) ≡ true
      → oldest_turn after ≤ t

abbrev pub DropsNoOwnersTurn : Type 0
DropsNoOwnersTurn = (i : ℕ) (b : Book) → IsBookSound b → is_full b ≡ false → IsTurnKept b (marked i b)

-- the numbers of the slots that have one differ
abbrev pub AreSlotsApart : Book → Type 0
AreSlotsApart b = (i j : ℕ) → i < 16 → j < 16 → 1 ≤ (book_slot b i).newest
    → (book_slot b i).newest ≡ (book_slot b j).newest → i ≡ j

-- What it means that c is the newest of slot i, which is taken: every other slot is owned, or has c or more, and where
-- their numbers differ more than c.
pub record IsSlotReused (b : Book) (i c : ℕ) : Type 0 where
  pub number : c ≡ (book_slot b i).newest
  pub others : (j : ℕ) → j < 16 → j ≢ i → IsTrue (is_some (slot_owner b j)) ⊎ (c ≤ (book_slot b j).newest)
  pub apart : AreSlotsApart b → (j : ℕ) → j < 16 → j ≢ i
      → IsTrue (is_some (slot_owner b j)) ⊎ (c < (book_slot b j).newest)

-- a beginning gives up no more than the number of the slot that is taken
abbrev pub ReusesOneSlot : Type 0
ReusesOneSlot = (session i : ℕ) (b : Book) → IsFirstFree b i → b.lost < (taken session i b).lost
    → IsSlotReused b i (taken session i b).lost

-- A beginning takes its slot, and is of its own segment: no other book moves.
abbrev pub BeginsThere : Type 0
BeginsThere = (session g h i : ℕ) (books : List Book)
    → (g < length books → book_at (begun session g i books) g ≡ taken session i (book_at books g))
    × (h ≢ g → book_at (begun session g i books) h ≡ book_at books h)

-- one segment and slot is the one that a session takes
abbrev pub BeginsAtOne : Type 0
BeginsAtOne = (books : List Book) (g h i j : ℕ) → IsBegun books g i → IsBegun books h j → (g ≡ h) × (i ≡ j)

-- A full book has an owner that began at least 281 records ago, and none that began more than 320 ago.
abbrev pub FullSince : Type 0
FullSince = (b : Book) → IsBookSound b → is_full b ≡ true
    → ((i : ℕ) × (o : Owner) × (slot_owner b i ≡ Some o) × (281 ≤ b.writes - o.start))
    × ((i : ℕ) (o : Owner) → slot_owner b i ≡ Some o → b.writes - o.start ≤ 320)
