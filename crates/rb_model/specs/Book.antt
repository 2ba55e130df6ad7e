-- The book of a rollback segment: its turns and its slots, as the machine sees them, and how they move.
use Rattle.std.specs.Prelude.{◌≡◌, ◌≢◌, ◌<◌, ◌≤◌, ◌==◌, ◌&&◌, ◌+◌, ◌-◌, ◌/◌}
use Rattle.std.specs.Prelude.{◌%◌, ℕ, max, Bool, false, nat_le, if◌then◌else◌, is_some, count_by}
use Rattle.std.specs.Prelude.{List, [], ◌∷◌, ◌++◌, length, get_or, set, replicate, Option, Some, None}
use Rattle.std.specs.List.{list_any}

-- a session that has a slot: how many records there were as it took it, and the turns in which it has made one
pub record Owner : Type 0 where
  pub session : ℕ
  pub start : ℕ
  pub touched : List ℕ

-- the number of the last commit in the slot, and who has it now
pub record BookSlot : Type 0 where
  pub newest : ℕ
  pub owner : Option Owner

pub record Book : Type 0 where
  -- how many records were made
  pub writes : ℕ
  -- the greatest commit number that was given up
  pub lost : ℕ
  -- for each turn that is kept the greatest commit number with a record there, the oldest turn first
  pub turns : List ℕ
  pub slots : List BookSlot

abbrev pub free_slot : BookSlot
free_slot = record { newest = 0; owner = None }

-- the book of a new file
abbrev pub fresh_book : Book
fresh_book = record { writes = 0; lost = 0; turns = 0 ∷ 0 ∷ []; slots = replicate 16 free_slot }

-- the turn of record i, counted from 1: forty records make one, and the first is 2
abbrev pub turn_of : ℕ → ℕ
turn_of i = 2 + (i - 1) / 40

abbrev pub last_turn : Book → ℕ
last_turn b = turn_of b.writes

abbrev pub oldest_turn : Book → ℕ
oldest_turn b = last_turn b + 1 - length b.turns

-- the turn of the first record that the owner makes
abbrev pub first_turn : Owner → ℕ
first_turn o = 2 + o.start / 40

abbrev pub is_pinned_by : ℕ → Option Owner → Bool
is_pinned_by turn None = false
is_pinned_by turn (Some o) = first_turn o == turn

-- an owner began in the oldest turn
abbrev pub is_pinned : Book → Bool
is_pinned b = list_any (λ s. is_pinned_by (oldest_turn b) s.owner) b.slots

-- the next record needs a turn of its own
abbrev pub needs_turn : Book → Bool
needs_turn b = nat_le 1 b.writes && (b.writes % 40 == 0)

-- it needs one, and none can be had
abbrev pub is_full : Book → Bool
is_full b = needs_turn b && (is_pinned b && nat_le 8 (length b.turns))

abbrev pub oldest_number : List ℕ → ℕ
oldest_number [] = 0
oldest_number (n ∷ turns) = n

abbrev pub later_numbers : List ℕ → List ℕ
later_numbers [] = []
later_numbers (n ∷ turns) = turns

-- with a turn for the next record: in the place of the oldest, or where that is in use one more
abbrev pub turned : Book → Book
turned b =
    if needs_turn b
    then (if is_pinned b then record b { turns = b.turns ++ 0 ∷ [] }
    else record b { lost = max b.lost (oldest_number b.turns); turns = later_numbers b.turns ++ 0 ∷ [] })
    else b

abbrev pub touches : ℕ → Option Owner → Option Owner
touches turn None = None
touches turn (Some o) = Some (record o { touched = turn ∷ o.touched })

-- one record more, of the owner of slot i
abbrev pub marked : ℕ → Book → Book
marked i b =
    let t = turned b in
    let s = get_or t.slots i free_slot in
    record t {
      writes = t.writes + 1;
      slots = set t.slots i (record s { owner = touches (turn_of (t.writes + 1)) s.owner });
    }

-- slot i taken by a session
abbrev pub taken : ℕ → ℕ → Book → Book
taken session i b =
    let s = get_or b.slots i free_slot in
    record b {
      lost = max b.lost s.newest;
      slots = set b.slots i (record s { owner = Some (record { session = session; start = b.writes; touched = [] }) });
    }

abbrev pub is_touched : ℕ → Option Owner → Bool
is_touched turn None = false
is_touched turn (Some o) = list_any (λ t. t == turn) o.touched

-- the numbers of the turns from that one on, of which those that the owner touched become n
abbrev pub numbered : ℕ → ℕ → Option Owner → List ℕ → List ℕ
numbered n turn owner [] = []
numbered n turn owner (m ∷ turns) =
    (if is_touched turn owner then n else m) ∷ numbered n (turn + 1) owner turns

-- the owner of slot i committed at n
abbrev pub finished : ℕ → ℕ → Book → Book
finished n i b =
    let s = get_or b.slots i free_slot in
    record b {
      turns = numbered n (oldest_turn b) s.owner b.turns;
      slots = set b.slots i (record { newest = n; owner = None });
    }

-- the owner of slot i left it without a number
abbrev pub left : ℕ → Book → Book
left i b = let s = get_or b.slots i free_slot in record b { slots = set b.slots i (record s { owner = None }) }

abbrev pub book_slot : Book → ℕ → BookSlot
book_slot b i = get_or b.slots i free_slot

-- who has slot i
abbrev pub slot_owner : Book → ℕ → Option Owner
slot_owner b i = (book_slot b i).owner

-- how many slots are owned
abbrev pub owners : Book → ℕ
owners b = count_by (λ s. is_some s.owner) b.slots

-- Slot i is the one that a session takes in this book: none has it, and of those that none has it has the least newest,
-- and is the first of that number.
pub record IsFirstFree (b : Book) (i : ℕ) : Type 0 where
  pub within : i < 16
  pub free : slot_owner b i ≡ None
  pub least : (j : ℕ) → j < 16 → slot_owner b j ≡ None → (book_slot b i).newest ≤ (book_slot b j).newest
  pub first : (j : ℕ) → j < i → slot_owner b j ≡ None → (book_slot b j).newest ≢ (book_slot b i).newest

abbrev pub book_at : List Book → ℕ → Book
book_at books g = get_or books g fresh_book

-- A session that begins takes slot i of segment g: the segment has the fewest owners, and is the first with so few.
pub record IsBegun (books : List Book) (g i : ℕ) : Type 0 where
  pub within : g < length books
  pub least : (h : ℕ) → h < length books → owners (book_at books g) ≤ owners (book_at books h)
  pub first : (h : ℕ) → h < g → owners (book_at books h) ≢ owners (book_at books g)
  pub slot : IsFirstFree (book_at books g) i

-- the books with slot i of segment g taken
abbrev pub begun : ℕ → ℕ → ℕ → List Book → List Book
begun session g i books = set books g (taken session i (book_at books g))
