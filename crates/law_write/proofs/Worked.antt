-- The first test that applies to a home and a header, computed on worked rows.
use Rattle.std.proofs.Common.{◌≡◌, ℕ, true, false, [], ◌∷◌, map, None, Some, refl}
use Rattle.std.specs.List.{range_with_len}
use Rattle.rb_ring.specs.declared.extents.TheConstants.{EXTENT_RECORDS}
use Rattle.rb_base.specs.declared.ids.Xid.{Xid}
use Rattle.rb_model.specs.Book.{fresh_book, taken}
use Rattle.rb_model.specs.State.{State, no_session}
use Rattle.rb_segment.specs.Books.{fresh_header}
use Rattle.rb_segment.specs.Header.{Header}
use Rattle.rb_txntable.specs.Slots.{no_slot}
use Rattle.law_write.specs.Verdict.{Waits, Duplicate, NotFound, BlockFull, SlotsFull, RollbackFull, Fine, home_verdict}
use Rattle.law_home.specs.Kinds.{Open, Entry, Row, Stub}
use Rattle.law_home.specs.Walk.{Home, free_entry}

-- sessions 1 and 2 own slots 0 and 1
abbrev two : State
two = record {
  shape = record { tables = 1; blocks = 1; segments = 1 };
  commits = record { base = 0; rows = []; list = [] };
  sessions = no_session ∷ no_session ∷ no_session ∷ [];
  books = taken 2 1 (taken 1 0 fresh_book) ∷ [];
  queue = [];
  asked = None ∷ None ∷ None ∷ [];
  safe = 0;
  stopped = false;
}

abbrev id : ℕ → Xid
id slot = record { seg = 0; slot = slot; wrap = 1 }

abbrev open_entry : ℕ → Entry
open_entry slot = record free_entry { status = Open; xid = id slot }

-- session 1 has put key 1, session 2 has deleted key 3, and key 7 is nobody's
abbrev home : Home
home = record { block = 0; entries = open_entry 0 ∷ open_entry 1 ∷ []; cells = Row 1 [] 1 ∷ Stub 3 2 ∷ Row 7 [] 0 ∷ [] }

other_waits : home_verdict two home fresh_header (Some (id 1)) 2 1 true ≡ Waits 1
other_waits = refl

deleted_waits : home_verdict two home fresh_header (Some (id 0)) 1 3 false ≡ Waits 2
deleted_waits = refl

own_is_there : home_verdict two home fresh_header (Some (id 0)) 1 1 true ≡ Duplicate
own_is_there = refl

own_is_deleted : home_verdict two home fresh_header (Some (id 1)) 2 3 false ≡ NotFound
own_is_deleted = refl

-- the cell of the key is its own, though all are taken
put_again : home_verdict two home fresh_header (Some (id 1)) 2 3 true ≡ Fine
put_again = refl

no_cell : home_verdict two home fresh_header (Some (id 1)) 2 5 true ≡ BlockFull
no_cell = refl

-- session 3 owns no slot, so each entry is another's
no_entry : home_verdict two home fresh_header None 3 7 false ≡ SlotsFull
no_entry = refl

own_entry : home_verdict two home fresh_header (Some (id 0)) 1 7 false ≡ Fine
own_entry = refl

-- eight turns, and a transaction that began in the oldest of them
abbrev full_header : Header
full_header = record fresh_header {
  slots = record no_slot { state = 1; touched = 1; first = 2 } ∷ [];
  extents = map (λ n. record { ord = n; newest = 0 }) (range_with_len 2 8);
  head = 7;
  records = EXTENT_RECORDS;
}

no_place : home_verdict two home full_header (Some (id 0)) 1 7 false ≡ RollbackFull
no_place = refl

-- an earlier test counts first
there_first : home_verdict two home full_header (Some (id 0)) 1 1 true ≡ Duplicate
there_first = refl
