-- A new file stands, also for the machine's first state; so the definitions can be met.
use Rattle.std.proofs.Common.{◌≡◌, ◌<◌, ◌≤◌, ◌≢◌, ◌+◌, inl, inr, ◌==◌, ◌*◌, ◌/◌, ◌%◌, Some, ℕ, Bool, true, false, if◌then◌else◌, List, [], length, map, Option, None, refl, sym, ◌∙◌, ap, subst, arith}
use Rattle.rb_cell.specs.declared.cell.TheConstants.{CELLS}
use Rattle.rb_base.specs.declared.sizes.TheConstants.{SLOTS}
use Rattle.rb_ring.specs.declared.extents.TheConstants.{EXTENTS, EXTENT_RECORDS}
use Rattle.rb_base.specs.declared.shape.Shape.{Shape}
use Rattle.rb_segment.specs.Books.{fresh_header, fresh_segment}
use Rattle.rb_segment.specs.Header.{Header, Segment, HeaderInOrder, SegmentInOrder, SlotNumbers, head_turn, slot_in}
use Rattle.rb_segment.proofs.Records.{made_of}
use Rattle.std.proofs.Math.Nat.{div-add-mod}
use Rattle.rb_txntable.specs.Slots.{no_slot}
use Rattle.rb_undoblock.specs.Undo.{no_undo}
use Rattle.law_blocks.specs.Fresh.{IsFresh, fresh_home, no_past}
use Rattle.law_blocks.specs.Says.{says}
use Rattle.law_blocks.specs.Values.{HomeStands, rows_here, made_by, slot_of, StandingAs}
use Rattle.rb_txntable.specs.declared.slots.TableSlot.{TableSlot}
use Rattle.law_home.specs.Homes.{here}
use Rattle.std.proofs.lemmas.Bool.{cases_lt}
use Rattle.std.proofs.lemmas.List.{length-replicate, get_or_past}
use Rattle.rb_base.specs.Blocks.{IsShape}
use Rattle.rb_model.specs.Book.{Book, BookSlot, free_slot, fresh_book, book_at, slot_owner}
use Rattle.rb_model.specs.State.{State, Session, session_own, owner_at}
use Rattle.rb_segment.specs.Books.{IsBook}
use Rattle.rb_segment.proofs.Fresh.{fresh_is_book}
use Rattle.law_blocks.specs.Fresh.{fresh_state}
use Rattle.law_blocks.specs.States.{BlocksStandAs, InTables, Owns, lives_of, owned}
use Rattle.law_blocks.specs.Values.{Running}
use Rattle.law_blocks.proofs.Machine.{lives_counted}
use Rattle.law_blocks.proofs.States.{lives_at}
use Rattle.law_home.specs.Kinds.{Status, Entry, Cell, Empty, Free, Open}
use Rattle.law_home.specs.Walk.{Change, Env, Home, Rows, StatusBelow, AllEmpty, entry_at, cell_at, free_entry, taken, lock_of, row_of}
use Rattle.rb_segment.proofs.Fresh.{all_same, fresh_slot, fresh_order}
use Rattle.law_blocks.proofs.Homes.{own_here}

-- before any change; the look of an id that is to come is Active, so no look is asked for
pub home_fresh : (env : Env) (made : ℕ → ℕ) (rows : Rows) (lives : List (List Change)) (b : Home) → AllEmpty lives → ((k : ℕ) → rows k ≡ None) → ((i : ℕ) → (entry_at b i).status ≡ Free) → ((j : ℕ) → cell_at b j ≡ Empty) → HomeStands env made 0 rows [] lives b
home_fresh env made rows lives b none no_row free empty = record {
  m = 0;
  tree = (
    none,
    λ j active. let wrong : Free ≡ Open = sym (free j) ∙ active.0 in cc,
    record {
      is = record { sound = λ j k v shown. let x : row_of (cell_at b j) k ≡ None = ap (λ (z : Cell). row_of z k) (empty j) in absurd (cc (x, shown)); complete = λ k v has. let n = no_row k in absurd (cc (n, has)) };
      below = λ i. subst (λ (z : Status). StatusBelow env (entry_at b i).xid z 0) (sym (free i)) tt;
    },
  );
  unique = λ i j k ti tj. let x : taken (cell_at b i) ≡ None = ap taken (empty i) in absurd (cc (x, ti));
  locks = λ i j lock. let x : lock_of (cell_at b j) ≡ 0 = ap lock_of (empty j) in absurd (cc (x, lock));
  old = tt;
}

-- a segment with the header of a new file
order_fresh : (s : Segment) → s.header ≡ fresh_header → length s.undo ≡ (EXTENTS * EXTENT_RECORDS) → SegmentInOrder 0 0 s
order_fresh s is undo = let n = fresh_order.numbers in record {
  header = subst (λ (z : Header). HeaderInOrder 0 z) (sym is) fresh_order.header;
  undo_counted = undo;
  numbers = record {
    writes = subst (λ (z : Header). z.writes ≤ 0) (sym is) n.writes;
    records = λ k r has. let m = made_of s k r has in let none = ap (λ (z : Header). z.writes) is in absurd (omega (arith, m.0, m.1, none));
    count = subst (λ (z : Header). z.writes + 2 * EXTENT_RECORDS ≡ EXTENT_RECORDS * head_turn z + z.records) (sym is) n.count;
    begun = subst (λ (z : Header). z.records ≡ 0 → z.writes ≡ 0) (sym is) n.begun;
    slots = subst (λ (z : Header). (i : ℕ) → i < SLOTS → SlotNumbers 0 z.lost (slot_in z i)) (sym is) n.slots;
  };
}

-- a new file of any shape
module _ (shape : Shape) (segments : ℕ → Segment) (homes : ℕ → Home) (is : IsFresh shape segments homes) where
  slot_fresh : (t : ℕ) → t < SLOTS * shape.segments → slot_of segments t ≡ no_slot
  slot_fresh t t_in = let a = div-add-mod t SLOTS in ap (λ (z : Header). slot_in z (t % SLOTS)) (is.headers (t / SLOTS) (omega (arith, a, t_in))) ∙ fresh_slot (t % SLOTS)

  -- no slot of it runs
  idle_fresh : (t : ℕ) → t < SLOTS * shape.segments → (slot_of segments t).state ≢ 1
  idle_fresh t t_in active = let a = ap (λ (z : TableSlot). z.state) (slot_fresh t t_in) in omega (arith, a, active)

  pub fresh_stands : (lives : List (List Change)) → length lives ≡ SLOTS * shape.segments → AllEmpty lives → StandingAs shape 0 0 segments homes no_past lives
  fresh_stands lives counted none = record {
    slots_counted = counted;
    number = refl;
    in_order = λ g g_in. order_fresh (segments g) (is.headers g g_in) (is.undo g g_in);
    apart = λ t u t_in u_in some same. let a = ap (λ (z : TableSlot). z.newest) (slot_fresh t t_in) in absurd (omega (arith, a, some));
    slots = λ t t_in. record { active = λ active. absurd (idle_fresh t t_in active); idle = λ not. none t };
    homes_stand = λ b b_in. home_fresh (says shape segments) (made_by segments) (rows_here shape b []) (map (here b) lives) (homes b) (λ s. own_here b lives s ∙ ap (here b) (none s)) (λ k. no_row (k % shape.blocks == b % shape.blocks)) (λ i. is.entries b i b_in) (λ j. is.cells b j b_in);
  }
    where
      no_row : (x : Bool) → (let o : Option (List ℕ) = if x then None else None in o) ≡ None
      no_row true = refl
      no_row false = refl

  pub fresh_running : Running shape segments
  fresh_running t t_in active = absurd (idle_fresh t t_in active)

  -- and it stands for the machine's first state
  module _ (sessions : List Session) (in_range : IsShape shape) (idle : (s : ℕ) → session_own (fresh_state shape sessions) s ≡ []) where
    abbrev First : State
    First = fresh_state shape sessions

    book_is : (g : ℕ) → book_at First.books g ≡ fresh_book
    book_is g = all_same fresh_book shape.segments g

    unowned : (t : ℕ) → owner_at First t ≡ None
    unowned t = ap (λ (z : Book). slot_owner z (t % SLOTS)) (book_is (t / SLOTS)) ∙ ap (λ (z : BookSlot). z.owner) (all_same free_slot SLOTS (t % SLOTS))

    pub nobody : (s t : ℕ) → Owns First s t → ⊥
    nobody s t owns = let none = unowned t in let some : owner_at First t ≡ Some owns.owner = owns.at in cc

    abbrev Fresh : Env
    Fresh = says shape segments

    counted : length (lives_of First Fresh) ≡ SLOTS * shape.segments
    counted = lives_counted First Fresh

    empty : AllEmpty (lives_of First Fresh)
    empty t = elim (cases_lt t (SLOTS * shape.segments)) [
      | inl t_in ↦ lives_at First Fresh t t_in ∙ ap (owned First (Fresh.xid t)) (unowned t)
      | inr past ↦ get_or_past (lives_of First Fresh) t [] (omega (arith, past, counted))
    ]

    pub state_fresh : BlocksStandAs First [] 0 0 segments homes
    state_fresh = record {
      tell = record {
        in_range = in_range;
        counted = refl;
        books_counted = length-replicate shape.segments fresh_book;
        books = λ g g_in. subst (λ (z : Book). IsBook (segments g).header z) (sym (book_is g)) (subst (λ (z : Header). IsBook z fresh_book) (sym (is.headers g g_in)) fresh_is_book);
        owner_there = λ s t owns. absurd (nobody s t owns);
        one_slot = λ s t u owns also. absurd (nobody s t owns);
        has_slot = λ s c more s_in has. let none = idle s in absurd (cc);
        tables = λ s. subst (InTables shape) (sym (idle s)) tt;
        commit_tables = tt;
        ids_differ = λ i j i_in. absurd (omega (arith, i_in));
        ids_made = λ i i_in. absurd (omega (arith, i_in));
        ids_over = λ i t i_in. absurd (omega (arith, i_in));
        running = fresh_running;
      };
      stands = fresh_stands (lives_of First Fresh) counted empty;
    }

-- the definition can be met
pub fresh_met : (shape : Shape) → IsFresh shape (λ g. fresh_segment) fresh_home
fresh_met shape = record {
  headers = λ g g_in. refl;
  undo = λ g g_in. length-replicate (EXTENTS * EXTENT_RECORDS) no_undo;
  entries = λ b i b_in. ap (λ (z : Entry). z.status) (all_same free_entry 8 i);
  cells = λ b j b_in. all_same Empty CELLS j;
}
