-- The lengths of a block's values, as the block says them: read behind its head, and not too long after a change.
use Rattle.std.proofs.Common.{◌≡◌, ℕ, ◌+◌, ◌*◌, ◌<◌, ◌≤◌, ◌==◌, if◌then◌else◌, true, List, [], ◌∷◌, length, refl, arith, ap, ◌∙◌, inl, inr}
use Rattle.std.proofs.lemmas.Bool.{cases_eq, eq-eqb}
use Rattle.std.specs.List.{AllByRecursion}
use Rattle.rb_base.specs.declared.sizes.TheConstants.{UNIT}
use Rattle.rb_itl.specs.declared.slots.TheConstants.{ENTRIES}
use Rattle.rb_cell.specs.declared.cell.TheConstants.{CELLS, CELL_BYTES}
use Rattle.rb_base.specs.Blocks.{behind_head, written_to}
use Rattle.rb_base.specs.Fields.{overwritten}
use Rattle.rb_base.specs.Groups.{Patch}
use Rattle.rb_cell.proofs.CellBytes.{lock_size}
use Rattle.rb_cell.proofs.Lengths.{by_part, length_lock, length_others, length_own}
use Rattle.rb_cell.specs.Cells.{cell_place, value_length, with_cell, with_lock, IsCell}
use Rattle.rb_cell.specs.declared.cell.Cell.{Cell}
use Rattle.rb_heap.proofs.Patching.{read_behind}
use Rattle.rb_heap.specs.Cleaning.{IsCleanPatch}
use Rattle.rb_heap.specs.Soundness.{StaysShort}
use Rattle.rb_itl.proofs.Places.{entry_kept_outside, length_kept}
use Rattle.rb_itl.specs.Entries.{with_entry}
use Rattle.rb_itl.specs.declared.slots.Entry.{Entry}

pub length_behind : (one other : List ℕ) (c : ℕ) → behind_head one ≡ behind_head other → value_length one c ≡ value_length other c
length_behind one other c same = by_part one other c (read_behind one other (cell_place c + 2) (386 + CELL_BYTES * c) 2 (omega arith) same)

pub length_entry : (block : List ℕ) (i c : ℕ) (e : Entry) → length block ≡ UNIT → i < ENTRIES → value_length (with_entry block i e) c ≡ value_length block c
length_entry block i c e long few = by_part (with_entry block i e) block c (entry_kept_outside block i (cell_place c + 2) 2 e long few (inr (omega arith)))

-- A cell that can be written has no value too long.
pub short_cell : (block : List ℕ) (c : ℕ) (cell : Cell) → length block ≡ UNIT → c < CELLS → IsCell cell → StaysShort block (with_cell block c cell)
short_cell block c cell long few sound short k k_in = elim (cases_eq k c) [
  | inl same ↦ let l = length_own block c cell long few sound in let e = ap (value_length (with_cell block c cell)) same in omega (arith, l, e, sound.short_value)
  | inr differ ↦ let l = length_others block c k cell long few sound differ in let s = short k k_in in omega (arith, l, s)
]

-- What leaves every length leaves none too long.
pub short_same : (one other : List ℕ) → ((c : ℕ) → value_length other c ≡ value_length one c) → StaysShort one other
short_same one other same short c c_in = let e = same c in let s = short c c_in in omega (arith, e, s)

-- The patches of a cleaning leave every length.
pub length_cleaned : (which : ℕ) (patches : List Patch) (block : List ℕ) (c : ℕ) → length block ≡ UNIT → AllByRecursion (IsCleanPatch which) patches → value_length (written_to which patches block) c ≡ value_length block c
length_cleaned which [] block c long all = refl
length_cleaned which (p ∷ patches) block c long all = elim all.0 [
  | inl entry ↦
      let i = entry.0 in
      let e = entry.1 in
      let own : (which == which) ≡ true = eq-eqb which which refl in
      let is : (if p.block == which then overwritten block p.at p.bytes else block) ≡ with_entry block i e = rw (entry.4, own) refl in
      ap (λ (l : List ℕ). value_length (written_to which patches l) c) is
      ∙ length_cleaned which patches (with_entry block i e) c (length_kept block i e long entry.2) all.1
      ∙ length_entry block i c e long entry.2
  | inr lock ↦
      let k = lock.0 in
      let own : (which == which) ≡ true = eq-eqb which which refl in
      let is : (if p.block == which then overwritten block p.at p.bytes else block) ≡ with_lock block k 0 = rw (lock.2, own) refl in
      ap (λ (l : List ℕ). value_length (written_to which patches l) c) is
      ∙ length_cleaned which patches (with_lock block k 0) c (lock_size block k 0 long lock.1) all.1
      ∙ length_lock block k c 0 long lock.1
]
