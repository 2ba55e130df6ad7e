-- Homes that are cleaned entry by entry, and then cell by cell.
use Rattle.std.proofs.Common.{◌≡◌, ◌≢◌, ◌==◌, ◌&&◌, ℕ, zero, suc, ◌+◌, ◌<◌, Bool, true, false, if◌then◌else◌, List, length, map, refl, arith, ap, sym, ◌∙◌, inl, inr, slice_index_or, slice_set, ext_get_or}
use Rattle.std.proofs.lemmas.Bool.{cases_lt}
use Rattle.std.proofs.lemmas.Bool.Decides.{nat_tests}
use Rattle.std.proofs.lemmas.Grind.{get_or-set_at}
use Rattle.std.proofs.lemmas.List.{length-map, get_or-map, get_or-set_other, get_or_past, set-get_or}
use Rattle.rb_itl.specs.declared.slots.TheConstants.{ENTRIES}
use Rattle.rb_cell.specs.declared.cell.TheConstants.{CELLS}
use Rattle.rb_base.specs.declared.ids.Xid.{Xid}
use Rattle.rb_cell.specs.Cells.{locked_by}
use Rattle.rb_cell.specs.declared.cell.Cell.{Cell}
use Rattle.rb_cleanout.specs.Cleaned.{is_named, EntriesCleaned, LocksCleared}
use Rattle.rb_heap.specs.Cleaning.{cleaned_cell, cleaned_entry, cleaned_home, cleaned_lock, has_ended, to_clean, told_entry}
use Rattle.rb_heap.specs.Homes.{Home, empty_cell, home_cell, home_entry, with_home_entry, with_home_lock}
use Rattle.rb_itl.specs.Entries.{free_entry}
use Rattle.rb_itl.specs.declared.slots.Entry.{Entry}
use Rattle.rb_txntable.specs.declared.looks.Look.{Look}
use Rattle.rb_txntable.specs.declared.looks.Look.TheVariants.{Active, At, Before}

-- a home with an entry that it has is the same
pub same_entry : (home : Home) (i : ℕ) (entry : Entry) → entry ≡ home_entry home i → home ≡ with_home_entry home i entry
same_entry home i entry same = rw same (ap (λ (l : List Entry). record home { entries = l }) (sym (set-get_or home.entries i free_entry)))

both : (b : Bool) (e : Entry) → ((b && false) ≡ false) × ((if b then e else e) ≡ e)
both true e = (refl, refl)
both false e = (refl, refl)

-- What becomes of an entry: one that isn't Open stays, and so does that of a transaction that runs.
module _ (look : Xid → Look) (e : Entry) where
  pub not_open : e.kind ≢ 1 → (to_clean look e ≡ false) × (cleaned_entry look e ≡ e)
  not_open differ = let test : (e.kind == 1) ≡ false = grind (arith, nat_tests) in rw test (refl, refl)

  pub runs : (x : Look) → x ≡ look e.xid → has_ended x ≡ false → (to_clean look e ≡ false) × (cleaned_entry look e ≡ e)
  runs Active is no_end = rw (← is) (both (e.kind == 1) e)
  runs (At n) is no_end = let clash : true ≡ false = no_end in cc
  runs (Before n) is no_end = let clash : true ≡ false = no_end in cc

  pub ends : (x : Look) → e.kind ≡ 1 → x ≡ look e.xid → has_ended x ≡ true → (to_clean look e ≡ true) × (cleaned_entry look e ≡ told_entry e x)
  ends x open_kind is end = let test : (e.kind == 1) ≡ true = grind (arith, nat_tests) in rw (test, ← is, end) (refl, refl)

module _ (look : Xid → Look) where
  -- one entry more
  next_entry : (n : ℕ) (old mid now : Home) (flags : List Bool) (flag : Bool) → n < length flags → n < length mid.entries → EntriesCleaned look n old mid flags
      → flag ≡ to_clean look (home_entry mid n) → now ≡ with_home_entry mid n (cleaned_entry look (home_entry mid n)) → EntriesCleaned look (n + 1) old now (slice_set flags n flag)
  next_entry n old mid now flags flag many within so_far told made =
      let entry = cleaned_entry look (home_entry mid n) in
      let first : home_entry mid n ≡ home_entry old n = so_far.behind n (omega arith) in
      record {
        before = λ i lt. elim (cases_lt i n) [
          | inl less ↦ ap (λ (h : Home). home_entry h i) made ∙ get_or-set_other mid.entries n i entry free_entry (omega arith) ∙ so_far.before i less
          | inr le ↦ let same : i ≡ n = omega arith in
              rw same (ap (λ (h : Home). home_entry h n) made ∙ get_or-set_at mid.entries n n entry free_entry refl within ∙ ap (cleaned_entry look) first)
        ];
        behind = λ i le. ap (λ (h : Home). home_entry h i) made ∙ get_or-set_other mid.entries n i entry free_entry (omega arith) ∙ so_far.behind i (omega arith);
        told = λ i lt. elim (cases_lt i n) [
          | inl less ↦ get_or-set_other flags n i flag false (omega arith) ∙ so_far.told i less
          | inr le ↦ let same : i ≡ n = omega arith in
              rw same (get_or-set_at flags n n flag false refl many ∙ told ∙ ap (to_clean look) first)
        ];
        cells = ap (λ (h : Home). h.cells) made ∙ so_far.cells;
      }

  -- by looks that are the same
  pub next_seen : (seen : Xid → Look) → seen ≡ look → (n : ℕ) (old mid now : Home) (flags : List Bool) (flag : Bool) → n < length flags → n < length mid.entries → EntriesCleaned look n old mid flags
      → flag ≡ to_clean seen (home_entry mid n) → now ≡ with_home_entry mid n (cleaned_entry seen (home_entry mid n)) → EntriesCleaned look (n + 1) old now (slice_set flags n flag)
  next_seen seen same n old mid now flags flag many within so_far told made =
      next_entry n old mid now flags flag many within so_far
      (told ∙ ap (λ (l : Xid → Look). to_clean l (home_entry mid n)) same)
      (made ∙ ap (λ (l : Xid → Look). with_home_entry mid n (cleaned_entry l (home_entry mid n))) same)

-- one cell more: the lock of one that isn't named stays
pub next_kept : (flags : List Bool) (n : ℕ) (old now : Home) → LocksCleared flags n old now → is_named flags (home_cell now n).lock ≡ false → LocksCleared flags (n + 1) old now
next_kept flags n old now so_far unnamed =
    let first : home_cell now n ≡ home_cell old n = so_far.behind n (omega arith) in
    record {
      before = λ c lt. elim (cases_lt c n) [
        | inl less ↦ so_far.before c less
        | inr le ↦ let same : c ≡ n = omega arith in rw (same, ← first, unnamed) refl
      ];
      behind = λ c le. so_far.behind c (omega arith);
      entries = so_far.entries;
    }

-- and that of one that is is cleared
pub next_cleared : (flags : List Bool) (n : ℕ) (old mid now : Home) → n < length mid.cells → LocksCleared flags n old mid → is_named flags (home_cell mid n).lock ≡ true → now ≡ with_home_lock mid n 0 → LocksCleared flags (n + 1) old now
next_cleared flags n old mid now within so_far named made =
    let first : home_cell mid n ≡ home_cell old n = so_far.behind n (omega arith) in
    let cell = locked_by (home_cell mid n) 0 in
    record {
      before = λ c lt. elim (cases_lt c n) [
        | inl less ↦ ap (λ (h : Home). home_cell h c) made ∙ get_or-set_other mid.cells n c cell empty_cell (omega arith) ∙ so_far.before c less
        | inr le ↦ let same : c ≡ n = omega arith in
            rw (same, ← first, named) (ap (λ (h : Home). home_cell h n) made ∙ get_or-set_at mid.cells n n cell empty_cell refl within)
      ];
      behind = λ c le. ap (λ (h : Home). home_cell h c) made ∙ get_or-set_other mid.cells n c cell empty_cell (omega arith) ∙ so_far.behind c (omega arith);
      entries = ap (λ (h : Home). h.entries) made ∙ so_far.entries;
    }

-- A lock is cleared by the flags where it is by the looks.
same_lock : (look : Xid → Look) (home : Home) (flags : List Bool) → length home.entries ≡ ENTRIES → length flags ≡ 8 → ((i : ℕ) → i < ENTRIES → slice_index_or flags i false ≡ to_clean look (home_entry home i))
    → (cell : Cell) (lock : ℕ) → cell.lock ≡ lock → (if is_named flags lock then locked_by cell 0 else cell) ≡ locked_by cell (cleaned_lock look home lock)
same_lock look home flags entries many told cell zero is = ap (locked_by cell) is
same_lock look home flags entries many told cell (suc i) is = rw flag (chosen (to_clean look (home_entry home i)))
  where
    flag : slice_index_or flags i false ≡ to_clean look (home_entry home i)
    flag = elim (cases_lt i ENTRIES) [
      | inl lt ↦ told i lt
      | inr le ↦ get_or_past flags i false (omega (arith, many)) ∙ sym (ap (to_clean look) (get_or_past home.entries i free_entry (omega (arith, entries))))
    ]

    chosen : (b : Bool) → (if b then locked_by cell 0 else cell) ≡ locked_by cell (if b then 0 else suc i)
    chosen true = refl
    chosen false = ap (locked_by cell) is

-- where all entries and all cells are done, the home is cleaned
pub all_cleaned : (look : Xid → Look) (old mid now : Home) (flags : List Bool) → length old.entries ≡ ENTRIES → length now.entries ≡ ENTRIES → length old.cells ≡ CELLS → length now.cells ≡ CELLS → length flags ≡ 8
    → EntriesCleaned look 8 old mid flags → LocksCleared flags CELLS mid now → now ≡ cleaned_home look old
all_cleaned look old mid now flags entries entries_now cells cells_now many cleaned cleared =
    let one : now.entries ≡ map (cleaned_entry look) old.entries =
    ext_get_or free_entry now.entries (map (cleaned_entry look) old.entries) (entries_now ∙ sym (length-map old.entries (cleaned_entry look) ∙ entries))
    (λ i lt. ap (λ (l : List Entry). slice_index_or l i free_entry) cleared.entries ∙ cleaned.before i (omega (arith, lt, entries_now)) ∙ sym (get_or-map (cleaned_entry look) old.entries i free_entry free_entry (omega (arith, lt, entries_now, entries)))) in
    let other : now.cells ≡ map (cleaned_cell look old) old.cells =
    ext_get_or empty_cell now.cells (map (cleaned_cell look old) old.cells) (cells_now ∙ sym (length-map old.cells (cleaned_cell look old) ∙ cells))
    (λ c lt. cleared.before c (omega (arith, lt, cells_now)) ∙ ap (λ (l : List Cell). let cell = slice_index_or l c empty_cell in if is_named flags cell.lock then locked_by cell 0 else cell) cleaned.cells
    ∙ same_lock look old flags entries many cleaned.told (home_cell old c) (home_cell old c).lock refl
    ∙ sym (get_or-map (cleaned_cell look old) old.cells c empty_cell empty_cell (omega (arith, lt, cells_now, cells)))) in
    ap (λ (l : List Entry). record now { entries = l }) one ∙ ap (λ (l : List Cell). record (cleaned_home look old) { cells = l }) other
