-- A write in a new file's home, so what is asked of a write can be met.
use Rattle.std.proofs.Common.{◌*◌, ◌≡◌, ◌≢◌, inl, inr, ◌<◌, ◌≤◌, ◌==◌, ◌-◌, ◌^◌, ◌/◌, ◌%◌, ℕ, zero, suc, false, if◌then◌else◌, List, [], ◌∷◌, get_or, replicate, Some, None, refl, sym, ◌∙◌, ap, arith}
use Rattle.std.proofs.lemmas.Bool.Decides.{nat_tests}
use Rattle.std.proofs.lemmas.List.{length-replicate}
use Rattle.std.proofs.Math.Nat.{div-eq_of_lt, zero-div}
use Rattle.rb_base.specs.declared.sizes.TheConstants.{SLOTS}
use Rattle.rb_ring.specs.declared.extents.TheConstants.{EXTENTS, EXTENT_RECORDS}
use Rattle.rb_base.specs.Addresses.{no_uba}
use Rattle.rb_base.specs.Blocks.{IsShape}
use Rattle.rb_base.specs.declared.ids.Uba.{Uba}
use Rattle.rb_base.specs.declared.shape.Shape.{Shape}
use Rattle.rb_itl.specs.Entries.{entry_of}
use Rattle.rb_model.specs.Change.{Put}
use Rattle.rb_model.specs.Change as model
use Rattle.rb_model.specs.State.{Session, no_session, session_own}
use Rattle.rb_segment.specs.Books.{fresh_header, fresh_segment}
use Rattle.rb_segment.specs.Header.{Segment, has_bit}
use Rattle.rb_segment.specs.Moves.{claimed, with_header, with_record, with_segment, Also, Records}
use Rattle.law_blocks.specs.FirstWrite.{FirstWrite}
use Rattle.law_blocks.specs.Fresh.{IsFresh, fresh_state}
use Rattle.law_blocks.specs.NextStates.{Takes}
use Rattle.law_blocks.specs.Says.{says, place_of, walk_entry, walk_undo}
use Rattle.law_blocks.specs.States.{lives_of}
use Rattle.law_blocks.specs.Writes.{Written}
use Rattle.rb_undoblock.specs.Undo.{no_undo}
use Rattle.rb_undoblock.specs.declared.record.UndoRecord.{UndoRecord}
use Rattle.law_home.specs.Kinds.{Entry, Empty, Free, Open}
use Rattle.law_home.specs.Steps.{cleaned}
use Rattle.law_home.specs.Walk.{Home, Env, free_entry, taken}
use Rattle.law_home.specs.Writes.{written}
use Rattle.rb_segment.proofs.Fresh.{all_same}
use Rattle.law_blocks.proofs.Fresh.{nobody}

abbrev one_each : Shape
one_each = record { tables = 1; blocks = 1; segments = 1 }

-- as zero bytes say it
abbrev unused : Entry
unused = walk_entry one_each (entry_of (replicate 48 0))

abbrev segments : ℕ → Segment
segments g = fresh_segment

abbrev homes : ℕ → Home
homes b = record { block = b; entries = replicate 8 unused; cells = replicate SLOTS Empty }

abbrev sessions : List Session
sessions = no_session ∷ []

abbrev Old : Env
Old = says one_each segments

abbrev address : Uba
address = record { block = 2; rec = 0; ord = 2 }

abbrev undo : UndoRecord
undo = record {
  wrap = 1;
  key = 7;
  number = 1;
  home = 0;
  table = 1;
  slot = 0;
  kind = 1;
  entry = 0;
  cell = 0;
  previous = no_uba;
  entry_before = replicate 48 0;
  cell_before = replicate 92 0;
}

abbrev change : model.Change
change = record { table = 1; key = 7; kind = Put (1 ∷ []); place = record { seg = 0; index = 1 } }

abbrev ready : Segment
ready = with_header (claimed 0 fresh_header) fresh_segment

abbrev segment : Segment
segment = with_record 0 address 1 undo ready

abbrev after : ℕ → Segment
after = with_segment 0 segment segments

abbrev changed : Home
changed = written (Put (1 ∷ [])) (walk_undo one_each 0 undo) (place_of one_each address) (cleaned Old (homes 0))

abbrev homes2 : ℕ → Home
homes2 b = if b == 0 then changed else homes b

free_entries : (n j : ℕ) → (get_or (replicate n unused) j free_entry).status ≡ Free
free_entries zero j = refl
free_entries (suc n) zero = refl
free_entries (suc n) (suc j) = free_entries n j

fresh : IsFresh one_each segments homes
fresh = record {
  headers = λ g g_in. refl;
  undo = λ g g_in. length-replicate (EXTENTS * EXTENT_RECORDS) no_undo;
  entries = λ b i b_in. free_entries 8 i;
  cells = λ b j b_in. all_same Empty SLOTS j;
}

idle : (s : ℕ) → session_own (fresh_state one_each sessions) s ≡ []
idle s = ap (λ (z : Session). z.own) (all_same no_session 1 (s - 1))

in_range : IsShape one_each
in_range = record { few_tables = (omega arith, omega arith); few_blocks = (omega arith, omega arith); few_segments = (omega arith, omega arith) }

one_bit : (f : ℕ) → f ≢ 0 → has_bit 1 f ≡ has_bit 0 f
one_bit f ne =
    let above : 1 < 2 ^ f = two_up f ne in
    let none : 1 / 2 ^ f ≡ 0 = div-eq_of_lt above in
    let zero_is : 0 / 2 ^ f ≡ 0 = zero-div (2 ^ f) in
    ap (λ (z : ℕ). z % 2 == 1) (none ∙ sym zero_is)
  where
    up : (k : ℕ) → 1 ≤ 2 ^ k
    up zero = omega arith
    up (suc k) = let h = up k in omega (arith, h)

    two_up : (f : ℕ) → f ≢ 0 → 1 < 2 ^ f
    two_up zero ne = absurd (ne refl)
    two_up (suc k) ne = let h = up k in omega (arith, h)

bits : Also 0 0 1
bits = record { this = refl; others = one_bit }

abbrev records : Records fresh_segment 0 address undo segment
records = record {
  ready = ready;
  room = ready;
  touched = 1;
  is_ready = inr (λ is. let wrong : 0 ≡ 1 = is in omega (arith, wrong), refl);
  has_room = inl (omega arith, refl);
  bits = bits;
  made = refl;
}

is_written : Written one_each 0 segments after homes homes2 (lives_of (fresh_state one_each sessions) Old) 0 (Put (1 ∷ [])) address undo
is_written = record {
  segment = segment;
  records = records;
  others = λ g. refl;
  slot = refl;
  wrap = refl;
  number = refl;
  previous = refl;
  there = omega arith;
  given = record {
    behind = omega arith;
    within = omega arith;
    rec = omega arith;
    first = omega arith;
    given = omega arith;
    extent = λ e at. let is : Some 0 ≡ Some e = at in cc;
  };
  place = refl;
  saved = record {
    there = omega arith;
    entry = omega arith;
    cell = omega arith;
    entry_sound = record { kind = omega arith; taken = λ ne. absurd (ne refl) };
    cell_sound = record { state = omega arith; unlocked = λ is. refl; key = λ ne. absurd (ne refl) };
    value = omega arith;
  };
  reads = record {
    xid = refl;
    here = refl;
    sort = refl;
    entry_before = refl;
    cell_before = refl;
    fits = record {
      within = omega arith;
      cell = omega arith;
      own = inr (refl, λ j mine. let free = free_entries 8 j in let wrong : Free ≡ Open = sym free ∙ mine.0 in cc);
      fresh = inr (refl, λ j has. let none : taken (get_or (replicate SLOTS Empty) j Empty) ≡ None = ap taken (all_same Empty SLOTS j) in let wrong : None ≡ Some 7 = sym none ∙ has in cc);
      lock = inl refl;
    };
  };
  home = refl;
  homes_same = λ b ne. let test : (b == 0) ≡ false = grind (arith, nat_tests) in rw test refl;
}

takes : Takes (fresh_state one_each sessions) segments 1 0
takes = inr (λ is. let wrong : 0 ≡ 1 = is in omega (arith, wrong), λ u owns. nobody one_each segments homes fresh sessions in_range idle 1 u owns)

pub first_write : FirstWrite
first_write = record {
  shape = one_each;
  in_range = in_range;
  segments = segments;
  after = after;
  homes = homes;
  homes2 = homes2;
  fresh = fresh;
  sessions = sessions;
  idle = idle;
  some = omega arith;
  takes = takes;
  change = change;
  kind = Put (1 ∷ []);
  address = address;
  undo = undo;
  is_written = is_written;
  same = record { home = refl; place = refl; key = refl; kind_is = refl; table = (omega arith, omega arith) };
}
