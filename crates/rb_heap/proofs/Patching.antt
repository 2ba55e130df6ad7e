-- What bytes written over a block make of its home, and what a patch leaves of the head in front.
use Rattle.std.proofs.Common.{◌≡◌, ◌≢◌, ℕ, ◌+◌, ◌*◌, ◌<◌, List, length, take, drop, refl, arith, ap, sym, ◌∙◌, inl, inr, slice_index}
use Rattle.std.proofs.lemmas.List.{drop-drop}
use Rattle.rb_itl.specs.declared.slots.TheConstants.{ENTRIES, ENTRY_BYTES}
use Rattle.rb_cell.specs.declared.cell.TheConstants.{CELLS, CELL_BYTES}
use Rattle.rb_base.specs.declared.sizes.TheConstants.{BLOCK_HEAD, UNIT}
use Rattle.rb_base.specs.Blocks.{patched, behind_head}
use Rattle.rb_base.specs.Fields.{part, number_at}
use Rattle.rb_base.specs.Groups.{Patch, IsPatch}
use Rattle.rb_txntable.proofs.Patched.{number_kept, byte_kept}
use Rattle.rb_cell.specs.declared.cell.Cell.{Cell}
use Rattle.rb_cell.specs.Cells.{cell_place, cell_of, cell_at, with_cell, with_lock, locked_by, IsCell}
use Rattle.rb_cell.proofs.CellBytes.{cell_there, cell_others, cell_outside, lock_there, lock_others, lock_outside}
use Rattle.rb_itl.specs.declared.slots.Entry.{Entry}
use Rattle.rb_itl.specs.Entries.{entry_place, entry_of, entry_at, with_entry, free_entry, IsEntry}
use Rattle.rb_itl.proofs.Places.{own_read, others_kept, entry_kept_outside}
use Rattle.rb_heap.specs.Homes.{home_of, empty_cell, home_cell, with_home_entry, with_home_cell, with_home_lock}
use Rattle.rb_base.proofs.Listed.{listed_same, listed_set}
use Rattle.rb_heap.proofs.Reading.{cell_read}

-- A home is read behind the head alone.
pub read_behind : (one other : List ℕ) (at more count : ℕ) → at ≡ BLOCK_HEAD + more → behind_head one ≡ behind_head other → part one at count ≡ part other at count
read_behind one other at more count split same = rw split (ap (take count) (sym (drop-drop more BLOCK_HEAD one) ∙ ap (drop more) same ∙ drop-drop more BLOCK_HEAD other))

pub same_behind : (one other : List ℕ) → behind_head one ≡ behind_head other → home_of one ≡ home_of other
unfolding home_of
same_behind one other same =
    let entries = listed_same (entry_at one) (entry_at other) ENTRIES free_entry (λ i few. ap entry_of (read_behind one other (entry_place i) (ENTRY_BYTES * i) ENTRY_BYTES refl same)) in
    let cells = listed_same (cell_at one) (cell_at other) CELLS empty_cell (λ c few. ap cell_of (read_behind one other (cell_place c) (384 + CELL_BYTES * c) CELL_BYTES (omega arith) same)) in
    rw (entries, cells) refl

-- where a cell alone was written
set_cell : (one other : List ℕ) (c : ℕ) (cell : Cell) → c < CELLS → ((i : ℕ) → i < ENTRIES → entry_at one i ≡ entry_at other i) → cell_at one c ≡ cell → ((k : ℕ) → k < CELLS → k ≢ c → cell_at one k ≡ cell_at other k) → home_of one ≡ with_home_cell (home_of other) c cell
unfolding home_of
set_cell one other c cell few same there others =
    rw (listed_same (entry_at one) (entry_at other) ENTRIES free_entry same, listed_set (cell_at one) (cell_at other) CELLS c cell empty_cell few there others) refl

pub cell_written : (block : List ℕ) (c : ℕ) (cell : Cell) → length block ≡ UNIT → c < CELLS → IsCell cell → home_of (with_cell block c cell) ≡ with_home_cell (home_of block) c cell
cell_written block c cell long few sound =
    set_cell (with_cell block c cell) block c cell few
    (λ i lt. ap entry_of (cell_outside block c (entry_place i) ENTRY_BYTES cell long few sound (inl (omega arith))))
    (cell_there block c cell long few sound) (λ k lt differ. cell_others block c k cell long few sound differ)

pub lock_written : (block : List ℕ) (c lock : ℕ) → length block ≡ UNIT → c < CELLS → home_of (with_lock block c lock) ≡ with_home_lock (home_of block) c lock
lock_written block c lock long few =
    let there = lock_there block c lock long few ∙ ap (λ (x : Cell). locked_by x lock) (sym (cell_read block c empty_cell few)) in
    set_cell (with_lock block c lock) block c (locked_by (home_cell (home_of block) c) lock) few
    (λ i lt. ap entry_of (lock_outside block c (entry_place i) ENTRY_BYTES lock long few (inl (omega arith))))
    there (λ k lt differ. lock_others block c k lock long few differ)

pub entry_written : (block : List ℕ) (i : ℕ) (entry : Entry) → length block ≡ UNIT → i < ENTRIES → IsEntry entry → home_of (with_entry block i entry) ≡ with_home_entry (home_of block) i entry
unfolding home_of
entry_written block i entry long few sound =
    let after = with_entry block i entry in
    let entries = listed_set (entry_at after) (entry_at block) 8 i entry free_entry few (own_read block i entry long few sound) (λ k lt differ. others_kept block i k entry long few lt differ) in
    let cells = listed_same (cell_at after) (cell_at block) CELLS empty_cell (λ c lt. ap cell_of (entry_kept_outside block i (cell_place c) CELL_BYTES entry long few (inr (omega arith)))) in
    rw (entries, cells) refl

-- a patch leaves the head behind the number
module _ (block : List ℕ) (number : ℕ) (p : Patch) (long : length block ≡ UNIT) (is : IsPatch p) where
  pub kind_patched : slice_index (patched number p block) 8 ≡ slice_index block 8
  kind_patched = byte_kept block number (length p.bytes) p long is.within_block refl 8 (omega arith) (inl (omega (arith, is.behind_head)))

  pub own_patched : number_at (patched number p block) 12 4 ≡ number_at block 12 4
  own_patched = number_kept block number (length p.bytes) p long is.within_block refl 12 4 (omega arith) (inl (omega (arith, is.behind_head)))
