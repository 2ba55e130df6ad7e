-- What the bytes of a block say can be written, since each is a byte.
use Rattle.std.proofs.Common.{ℕ, ◌^◌, ◌<◌, List, length, take, drop, arith, sym, subst, inl, inr}
use Rattle.std.proofs.lemmas.Bool.{cases_lt}
use Rattle.std.proofs.lemmas.List.{length-take, length-drop, get_or-take, get_or_past}
use Rattle.std.specs.List.{All}
use Rattle.rb_itl.specs.declared.slots.TheConstants.{ENTRY_BYTES}
use Rattle.rb_cell.specs.declared.cell.TheConstants.{CELL_BYTES, HEAD_BYTES}
use Rattle.rb_base.specs.Fields.{part, number_at}
use Rattle.rb_base.proofs.Fronts.{IsBytes, IsBytes-drop}
use Rattle.rb_cell.specs.Cells.{cell_place, cell_at, IsCell}
use Rattle.rb_itl.specs.Entries.{entry_place, entry_at, IsEntry}
use Rattle.rb_heap.specs.Homes.{home_of, IsHome}
use Rattle.rb_heap.proofs.Reading.{entries_counted, cells_counted, entry_read, cell_read}

all_bytes : (block : List ℕ) → All (λ b. b < 256) block → IsBytes block
all_bytes block all i =
    elim (cases_lt i (length block)) [
      | inl lt ↦ all i 0 lt
      | inr le ↦ rw (get_or_past block i 0 le) (omega arith)
    ]

IsBytes-take : (n : ℕ) (bytes : List ℕ) → IsBytes bytes → IsBytes (take n bytes)
IsBytes-take n bytes is i =
    elim (cases_lt i n) [
      | inl lt ↦ rw (get_or-take n bytes i 0 lt) (is i)
      | inr le ↦ rw (get_or_past (take n bytes) i 0 (omega (arith, length-take n bytes))) (omega arith)
    ]

IsBytes-part : (bytes : List ℕ) (at count : ℕ) → IsBytes bytes → IsBytes (part bytes at count)
IsBytes-part bytes at count is = IsBytes-take count (drop at bytes) (IsBytes-drop at bytes is)

two_fit : (bytes : List ℕ) (at : ℕ) → IsBytes bytes → number_at bytes at 2 < 2 ^ 16
two_fit bytes at is = let h = IsBytes-drop at bytes is in omega (arith, h 0, h 1)

four_fit : (bytes : List ℕ) (at : ℕ) → IsBytes bytes → number_at bytes at 4 < 2 ^ 32
four_fit bytes at is = let h = IsBytes-drop at bytes is in omega (arith, h 0, h 1, h 2, h 3)

eight_fit : (bytes : List ℕ) (at : ℕ) → IsBytes bytes → number_at bytes at 8 < 2 ^ 64
eight_fit bytes at is = let h = IsBytes-drop at bytes is in omega (arith, h 0, h 1, h 2, h 3, h 4, h 5, h 6, h 7)

cell_fits : (block : List ℕ) (c : ℕ) → IsBytes block → IsCell (cell_at block c)
cell_fits block c is =
    let bytes = part block (cell_place c) CELL_BYTES in
    let value = drop HEAD_BYTES bytes in
    record {
      key_fits = eight_fit bytes 4 (IsBytes-part block (cell_place c) CELL_BYTES is);
      short_value = omega (arith, length-take (number_at bytes 2 2) value, length-drop HEAD_BYTES bytes, length-take CELL_BYTES (drop (cell_place c) block));
    }

entry_fits : (block : List ℕ) (i : ℕ) → IsBytes block → IsEntry (entry_at block i)
entry_fits block i is =
    let bytes = part block (entry_place i) ENTRY_BYTES in
    let h = IsBytes-part block (entry_place i) ENTRY_BYTES is in
    record {
      kind = h 0;
      seg = two_fit bytes 4 h;
      slot = two_fit bytes 6 h;
      wrap = eight_fit bytes 8 h;
      number = eight_fit bytes 16 h;
      newest = record { block = four_fit bytes 24 h; rec = two_fit bytes 28 h; ord = eight_fit bytes 32 h };
      length = four_fit bytes 40 h;
    }

pub home_fits : (block : List ℕ) → All (λ b. b < 256) block → IsHome (home_of block)
home_fits block all =
    let is = all_bytes block all in
    record {
      entry_count = entries_counted block;
      cell_count = cells_counted block;
      entries = λ k d lt. subst IsEntry (sym (entry_read block k d (omega (arith, entries_counted block)))) (entry_fits block k is);
      cells = λ k d lt. subst IsCell (sym (cell_read block k d (omega (arith, cells_counted block)))) (cell_fits block k is);
    }
