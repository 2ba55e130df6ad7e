-- The tests of an opening on a block of rows, from what its entries and cells say one by one and from what its home stands
-- for; and how they go on as a home is cleaned and as a change is put back.
use Rattle.std.proofs.Common.{◌≡◌, ◌<◌, ◌≤◌, ◌-◌, ◌==◌, ◌&&◌, ◌||◌, cond, inl, inr, ℕ, zero, suc, Bool, true, false, not, List, [], ◌∷◌, length, map, Some, None, refl, sym, ◌∙◌, ap, arith}
use Rattle.std.proofs.Math.ListN as lists
use Rattle.std.proofs.lemmas.List.{get_or-map}
use Rattle.std.proofs.lemmas.Bool.{cases_lt, and_parts, cond-true}
use Rattle.std.proofs.lemmas.Bool.Decides.{nat_tests}
use Rattle.rb_base.specs.declared.shape.Shape.{Shape}
use Rattle.rb_base.specs.declared.sizes.TheConstants.{VALUE_BYTES}
use Rattle.rb_cell.specs.declared.cell.Cell as cells
use Rattle.rb_cell.specs.Cells as cells_of
use Rattle.rb_cell.specs.declared.cell.TheConstants.{CELLS, EMPTY, ROW}
use Rattle.rb_heap.specs.Homes.{home_of, empty_cell, is_keyed}
use Rattle.rb_heap.specs.Soundness.{IsHomeSound, IsEntrySound, IsCellSound, IsLock}
use Rattle.rb_heap.proofs.Reading.{entries_counted, entry_read, cell_read}
use Rattle.rb_itl.specs.Entries as itl
use Rattle.rb_itl.specs.declared.slots.Entry as entries
use Rattle.rb_itl.specs.declared.slots.TheConstants.{ENTRIES, FREE, OPEN, EXACT, BOUND}
use Rattle.law_blocks.specs.Says.{status_of, walk_entry, walk_cell, walk_home}
use Rattle.law_home.specs.Kinds.{Free, Open, Exact, Bound, Empty, Row, Stub, Entry}
use Rattle.law_home.specs.Walk as walk

same_number : (a b : ℕ) → (a == b) ≡ true → a ≡ b
same_number a b is = grind (arith, nat_tests)

-- a cell's lock is the same in both words
by_lock : (r e : Bool) (key : ℕ) (v : List ℕ) (lock : ℕ) → walk.lock_of (cond r (Row key v lock) (cond (e && (lock == 0)) Empty (Stub key lock))) ≡ lock
by_lock true e key v lock = refl
by_lock false false key v lock = refl
by_lock false true key v zero = refl
by_lock false true key v (suc lock) = let test : (suc lock == 0) ≡ false = grind (arith, nat_tests) in rw test refl

pub lock_same : (x : cells.Cell) → walk.lock_of (walk_cell x) ≡ x.lock
lock_same x = by_lock (x.state == ROW) (x.state == EMPTY) x.key x.value.items x.lock

taken_by : (r e : Bool) (key : ℕ) (v : List ℕ) (lock : ℕ) → walk.taken (cond r (Row key v lock) (cond (e && (lock == 0)) Empty (Stub key lock))) ≡ cond (r || not (lock == 0)) (Some key) None
taken_by true e key v lock = refl
taken_by false true key v zero = refl
taken_by false false key v zero = refl
taken_by false true key v (suc lock) = let test : (suc lock == 0) ≡ false = grind (arith, nat_tests) in rw test refl
taken_by false false key v (suc lock) = let test : (suc lock == 0) ≡ false = grind (arith, nat_tests) in rw test refl

-- a cell keeps its key for itself where it is a row or locked
pub taken_is : (x : cells.Cell) → walk.taken (walk_cell x) ≡ cond ((x.state == ROW) || not (x.lock == 0)) (Some x.key) None
taken_is x = taken_by (x.state == ROW) (x.state == EMPTY) x.key x.value.items x.lock

pub keyed_taken : (key : ℕ) (x : cells.Cell) → is_keyed key x ≡ true → walk.taken (walk_cell x) ≡ Some key
keyed_taken key x is =
    let parts = and_parts ((x.state == ROW) || not (x.lock == 0)) (x.key == key) is in
    let same : x.key ≡ key = same_number x.key key parts.1 in
    taken_is x ∙ (cond-true ((x.state == ROW) || not (x.lock == 0)) (Some x.key) None parts.0 ∙ ap Some same)

-- an entry is Open in both words
pub open_kind : (kind number : ℕ) → status_of kind number ≡ Open → kind ≡ OPEN
open_kind kind number is = by_kind (kind == OPEN) (kind == EXACT) (kind == BOUND) refl is
  where
    by_kind : (o e b : Bool) → (kind == OPEN) ≡ o → cond o Open (cond e (Exact number) (cond b (Bound number) Free)) ≡ Open → kind ≡ OPEN
    by_kind true e b test was = same_number kind OPEN test
    by_kind false true b test was = absurd cc
    by_kind false false true test was = absurd cc
    by_kind false false false test was = absurd cc

-- what stands in a block, whatever its number
module _ (shape : Shape) (block : List ℕ) where
  abbrev home : walk.Home
  home = walk_home shape 0 (home_of block)

  pub cell_here : (c : ℕ) → c < CELLS → walk.cell_at home c ≡ walk_cell (cells_of.cell_at block c)
  cell_here c few = lists.get_or-map walk_cell (home_of block).cells c empty_cell ∙ ap walk_cell (cell_read block c empty_cell few)

  pub entry_here : (i : ℕ) → i < ENTRIES → walk.entry_at home i ≡ walk_entry shape (itl.entry_at block i)
  entry_here i few =
      get_or-map (walk_entry shape) (home_of block).entries i itl.free_entry walk.free_entry (let l = entries_counted block in omega (arith, l, few))
      ∙ ap (walk_entry shape) (entry_read block i itl.free_entry few)

  -- an entry that is Open is one of the eight
  pub open_here : (i : ℕ) → (walk.entry_at home i).status ≡ Open → (i < ENTRIES) × ((itl.entry_at block i).kind ≡ OPEN)
  open_here i is = elim (cases_lt i ENTRIES) [
    | inl few ↦ (few, open_kind (itl.entry_at block i).kind (itl.entry_at block i).number (ap (λ (e : Entry). e.status) (sym (entry_here i few)) ∙ is))
    | inr many ↦
        let l = entries_counted block in
        let out : walk.entry_at home i ≡ walk.free_entry = lists.get_or-eq_default home.entries walk.free_entry (let m = map_length (home_of block).entries in omega (arith, l, m, many)) in
        let never : Free ≡ Open = sym (ap (λ (e : Entry). e.status) out) ∙ is in
        absurd cc
  ]
    where
      map_length : (xs : List entries.Entry) → length (map (walk_entry shape) xs) ≡ length xs
      map_length [] = refl
      map_length (x ∷ xs) = let l = map_length xs in omega (arith, l)

  -- The tests, from each entry and cell and from what the home stands for.
  pub home_sound : (commit : ℕ) (wraps : ℕ → ℕ → ℕ) (h : ℕ) → ((i : ℕ) → i < ENTRIES → IsEntrySound shape commit wraps (itl.entry_at block i))
      → ((c : ℕ) → c < CELLS → IsCellSound shape h (cells_of.cell_at block c)) → ((c : ℕ) → c < CELLS → cells_of.value_length block c ≤ VALUE_BYTES)
      → walk.Unique home → ((i j : ℕ) → walk.lock_of (walk.cell_at home j) ≡ suc i → (walk.entry_at home i).status ≡ Open)
      → IsHomeSound shape commit wraps h block
  home_sound commit wraps h entries cells values unique locks = record {
    entries = entries;
    cells = record {
      each = cells;
      values = values;
      locks = λ c few. lock_fine c few (cells_of.cell_at block c).lock (ap walk.lock_of (cell_here c few) ∙ lock_same (cells_of.cell_at block c));
      keys = record { one = λ key c other few many is was. unique c other key (ap walk.taken (cell_here c few) ∙ keyed_taken key (cells_of.cell_at block c) is) (ap walk.taken (cell_here other many) ∙ keyed_taken key (cells_of.cell_at block other) was) };
    };
  }
    where
      lock_fine : (c : ℕ) → c < CELLS → (lock : ℕ) → walk.lock_of (walk.cell_at home c) ≡ lock → IsLock block lock
      lock_fine c few zero is = record { few = omega arith; taken = λ some. absurd (some refl) }
      lock_fine c few (suc i) is =
          let open_at = open_here i (locks i c is) in
          record {
            few = omega (arith, open_at.0);
            taken = λ some free. let at : suc i - 1 ≡ i = omega arith in let k : (itl.entry_at block i).kind ≡ FREE = ap (λ (z : ℕ). (itl.entry_at block z).kind) (sym at) ∙ free in omega (arith, k, open_at.1);
          }
