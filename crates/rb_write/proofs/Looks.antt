-- A home is cleaned by the headers as they are read, and by what the segments say: these differ of no entry that names a
-- table slot which there is.
use Rattle.std.proofs.Common.{◌≡◌, ◌==◌, nat_lt, ℕ, zero, suc, ◌<◌, true, false, List, length, map, refl, arith, ap, sym, ◌∙◌, inl, inr, slice_index_or, ext_get_or}
use Rattle.std.proofs.lemmas.Bool.{cases_eq, cases_lt, cond-true, cond-false}
use Rattle.std.proofs.lemmas.Bool.Decides.{nat_tests}
use Rattle.std.proofs.lemmas.List.{length-map, get_or-map, get_or_past}
use Rattle.rb_base.specs.declared.sizes.TheConstants.{SLOTS}
use Rattle.rb_base.specs.Blocks.{block_of, header_block, table_blocks}
use Rattle.rb_base.specs.declared.ids.Xid.{Xid}
use Rattle.rb_base.specs.declared.shape.Shape.{Shape}
use Rattle.rb_cell.specs.Cells.{locked_by}
use Rattle.rb_cleanout.specs.Cleaned.{look_of}
use Rattle.rb_heap.proofs.Reading.{entries_counted}
use Rattle.rb_heap.specs.Cleaning.{cleaned_cell, cleaned_entry, cleaned_home, cleaned_lock, to_clean, told_entry}
use Rattle.rb_heap.specs.Homes.{Home, empty_cell, home_entry, home_of}
use Rattle.rb_itl.specs.Entries.{free_entry}
use Rattle.rb_itl.specs.declared.slots.Entry.{Entry}
use Rattle.rb_itl.specs.declared.slots.TheConstants.{ENTRIES, OPEN}
use Rattle.rb_segment.proofs.Parts.{slot_read}
use Rattle.rb_segment.specs.Header.{Header, slot_in}
use Rattle.law_blocks.proofs.SegmentRead.{header_is}
use Rattle.law_blocks.specs.Standing.{env_of}
use Rattle.rb_txntable.specs.Looks.{slot_look}
use Rattle.rb_txntable.specs.declared.looks.Look.{Look}
use Rattle.rb_txntable.specs.declared.looks.Look.TheVariants.{Active, At, Before}
use Rattle.rb_txntable.specs.declared.slots.TableSlot.{TableSlot}
use Rattle.rb_write.specs.Asks.{AreYoung}

pub look_same : (shape : Shape) (blocks : List (List ℕ)) (x : Xid) → x.seg < shape.segments → x.slot < SLOTS → look_of shape blocks x ≡ (env_of shape blocks).look x
look_same shape blocks x seg slot =
    let one : nat_lt x.seg shape.segments ≡ true = grind (arith, nat_tests) in
    let two : nat_lt x.slot SLOTS ≡ true = grind (arith, nat_tests) in
    rw (one, two) (ap (λ (s : TableSlot). slot_look s x.wrap) (sym (slot_read (block_of blocks (header_block shape x.seg)) x.slot slot) ∙ ap (λ (h : Header). slot_in h x.slot) (sym (header_is shape blocks x.seg))))

-- two looks that agree of the transactions of a home's Open entries
module _ (look other : Xid → Look) (home : Home) (many : length home.entries ≡ ENTRIES) (same : (i : ℕ) → i < ENTRIES → (home_entry home i).kind ≡ 1 → look (home_entry home i).xid ≡ other (home_entry home i).xid) where
  entry_same : (e : Entry) → (e.kind ≡ 1 → look e.xid ≡ other e.xid) → (to_clean look e ≡ to_clean other e) × (cleaned_entry look e ≡ cleaned_entry other e)
  entry_same e agree = elim (cases_eq e.kind 1) [
    | inl is ↦ rw (agree is) (refl, refl)
    | inr not_is ↦ let test : (e.kind == 1) ≡ false = grind (arith, nat_tests) in rw test (refl, refl)
  ]

  place_same : (i : ℕ) → (to_clean look (home_entry home i) ≡ to_clean other (home_entry home i)) × (cleaned_entry look (home_entry home i) ≡ cleaned_entry other (home_entry home i))
  place_same i = elim (cases_lt i ENTRIES) [
    | inl lt ↦ entry_same (home_entry home i) (same i lt)
    | inr le ↦ rw (get_or_past home.entries i free_entry (omega (arith, many))) (refl, refl)
  ]

  lock_same : (lock : ℕ) → cleaned_lock look home lock ≡ cleaned_lock other home lock
  lock_same zero = refl
  lock_same (suc i) = rw ((place_same i).0) refl

  pub clean_same : cleaned_home look home ≡ cleaned_home other home
  clean_same =
      let entries : map (cleaned_entry look) home.entries ≡ map (cleaned_entry other) home.entries =
      ext_get_or free_entry (map (cleaned_entry look) home.entries) (map (cleaned_entry other) home.entries) (length-map home.entries (cleaned_entry look) ∙ sym (length-map home.entries (cleaned_entry other)))
      (λ i lt. let within : i < length home.entries = omega (arith, lt, length-map home.entries (cleaned_entry look)) in
      get_or-map (cleaned_entry look) home.entries i free_entry free_entry within ∙ (place_same i).1 ∙ sym (get_or-map (cleaned_entry other) home.entries i free_entry free_entry within)) in
      let cells : map (cleaned_cell look home) home.cells ≡ map (cleaned_cell other home) home.cells =
      ext_get_or empty_cell (map (cleaned_cell look home) home.cells) (map (cleaned_cell other home) home.cells) (length-map home.cells (cleaned_cell look home) ∙ sym (length-map home.cells (cleaned_cell other home)))
      (λ c lt. let within : c < length home.cells = omega (arith, lt, length-map home.cells (cleaned_cell look home)) in
      get_or-map (cleaned_cell look home) home.cells c empty_cell empty_cell within
      ∙ ap (locked_by (slice_index_or home.cells c empty_cell)) (lock_same (slice_index_or home.cells c empty_cell).lock)
      ∙ sym (get_or-map (cleaned_cell other home) home.cells c empty_cell empty_cell within)) in
      rw (entries, cells) refl

-- so a block of rows is cleaned by the one as by the other
pub block_same : (shape : Shape) (blocks : List (List ℕ)) (b : ℕ) → b < table_blocks shape → AreYoung shape blocks
    → cleaned_home (look_of shape blocks) (home_of (block_of blocks b)) ≡ cleaned_home (env_of shape blocks).look (home_of (block_of blocks b))
block_same shape blocks b lt young =
    let home = home_of (block_of blocks b) in
    clean_same (look_of shape blocks) (env_of shape blocks).look home (entries_counted (block_of blocks b))
    (λ i few is. let entry = young.entries b i lt few is in look_same shape blocks (home_entry home i).xid entry.seg entry.slot)

-- a cleaned entry that is Open still is as it was
told_open : (e : Entry) (x : Look) → (told_entry e x).kind ≡ 1 → told_entry e x ≡ e
told_open e Active is = refl
told_open e (At c) is = let clash : (told_entry e (At c)).kind ≡ OPEN = is in absurd (omega arith)
told_open e (Before c) is = let clash : (told_entry e (Before c)).kind ≡ OPEN = is in absurd (omega arith)

pub still_open : (look : Xid → Look) (e : Entry) → (cleaned_entry look e).kind ≡ 1 → cleaned_entry look e ≡ e
still_open look e is = elim (cases_eq e.kind 1) [
  | inl open_kind ↦ let test : (e.kind == 1) ≡ true = grind (arith, nat_tests) in
      let told = cond-true (e.kind == 1) (told_entry e (look e.xid)) e test in
      told ∙ told_open e (look e.xid) (ap (λ (x : Entry). x.kind) (sym told) ∙ is)
  | inr not_open ↦ let test : (e.kind == 1) ≡ false = grind (arith, nat_tests) in
      cond-false (e.kind == 1) (told_entry e (look e.xid)) e test
]
