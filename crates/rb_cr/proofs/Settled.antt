-- A block none of whose entries is Open has nothing to clean.
use Rattle.std.proofs.Common.{◌≡◌, ◌≢◌, ◌==◌, ℕ, zero, suc, ◌<◌, false, List, length, map, refl, arith, ap, sym, ◌∙◌, inl, inr, slice_index_or, ext_get_or}
use Rattle.std.proofs.lemmas.Bool.{cases_lt, cond-false, ne_eqb}
use Rattle.std.proofs.lemmas.List.{length-map, get_or-map, get_or_past}
use Rattle.rb_base.specs.declared.ids.Xid.{Xid}
use Rattle.rb_cell.specs.Cells.{locked_by}
use Rattle.rb_heap.proofs.Reading.{entries_counted, entry_read}
use Rattle.rb_heap.specs.Cleaning.{cleaned_cell, cleaned_entry, cleaned_home, cleaned_lock, told_entry}
use Rattle.rb_heap.specs.Homes.{Home, empty_cell, home_entry, home_of}
use Rattle.rb_itl.specs.Entries.{entry_at, free_entry}
use Rattle.rb_itl.specs.declared.slots.Entry.{Entry}
use Rattle.rb_itl.specs.declared.slots.TheConstants.{ENTRIES, OPEN}
use Rattle.rb_txntable.specs.declared.looks.Look.{Look}

module _ (look : Xid → Look) (home : Home) (none : (i : ℕ) → (home_entry home i).kind ≢ OPEN) where
  closed : (i : ℕ) → ((home_entry home i).kind == OPEN) ≡ false
  closed i = ne_eqb (home_entry home i).kind OPEN (none i)

  entry_stays : (i : ℕ) → cleaned_entry look (home_entry home i) ≡ home_entry home i
  entry_stays i = cond-false ((home_entry home i).kind == OPEN) (told_entry (home_entry home i) (look (home_entry home i).xid)) (home_entry home i) (closed i)

  lock_stays : (lock : ℕ) → cleaned_lock look home lock ≡ lock
  lock_stays zero = refl
  lock_stays (suc i) = rw (closed i) refl

  clean_stays : cleaned_home look home ≡ home
  clean_stays =
      let entries : map (cleaned_entry look) home.entries ≡ home.entries =
      ext_get_or free_entry (map (cleaned_entry look) home.entries) home.entries (length-map home.entries (cleaned_entry look))
      (λ i lt. let within : i < length home.entries = omega (arith, lt, length-map home.entries (cleaned_entry look)) in
      get_or-map (cleaned_entry look) home.entries i free_entry free_entry within ∙ entry_stays i) in
      let cells : map (cleaned_cell look home) home.cells ≡ home.cells =
      ext_get_or empty_cell (map (cleaned_cell look home) home.cells) home.cells (length-map home.cells (cleaned_cell look home))
      (λ c lt. let within : c < length home.cells = omega (arith, lt, length-map home.cells (cleaned_cell look home)) in
      get_or-map (cleaned_cell look home) home.cells c empty_cell empty_cell within
      ∙ ap (locked_by (slice_index_or home.cells c empty_cell)) (lock_stays (slice_index_or home.cells c empty_cell).lock)) in
      rw (entries, cells) refl

pub none_open : (block : List ℕ) → ((i : ℕ) → i < ENTRIES → (entry_at block i).kind ≢ OPEN) → (look : Xid → Look) → cleaned_home look (home_of block) ≡ home_of block
none_open block none look = clean_stays look (home_of block) (λ i. elim (cases_lt i ENTRIES) [
  | inl lt ↦ λ is. none i lt (ap (λ (e : Entry). e.kind) (sym (entry_read block i free_entry lt)) ∙ is)
  | inr past ↦ λ is.
      let free : home_entry (home_of block) i ≡ free_entry = get_or_past (home_of block).entries i free_entry (omega (arith, past, entries_counted block)) in
      let kind : 0 ≡ OPEN = ap (λ (e : Entry). e.kind) (sym free) ∙ is in
      absurd (omega (arith, kind))
])
