-- Who holds a key, by what is read of its block and of a header.
use Rattle.std.proofs.Common.{◌≡◌, ◌≢◌, ◌==◌, ◌-◌, ◌<◌, ◌≤◌, cond, ℕ, zero, suc, Bool, true, false, List, [], ◌∷◌, length, get_or, find, Option, Some, None, inl, inr, refl, sym, ap, ◌∙◌, arith}
use Rattle.std.proofs.lemmas.Bool.{cases_lt, cond-true, cond-false, eqb-true}
use Rattle.std.proofs.lemmas.List.{get_or_past}
use Rattle.std.specs.Bool.{then_some}
use Rattle.rb_write.specs.Asks.{AreYoung}
use Rattle.rb_write.specs.Holding.{cell_locker, cell_of_key, holder_in, if_runs, key_home, locker, open_xid}
use Rattle.rb_write.proofs.Looks.{look_same}
use Rattle.rb_base.specs.Blocks.{block_of, home_block, table_blocks}
use Rattle.rb_base.specs.Logs.{Logs}
use Rattle.rb_base.specs.declared.ids.Xid.{Xid}
use Rattle.rb_base.specs.declared.shape.Shape.{Shape}
use Rattle.rb_base.specs.declared.store.Store.{Ghosts}
use Rattle.rb_cell.specs.Cells.{cell_at}
use Rattle.rb_cell.specs.declared.cell.Cell.{Cell}
use Rattle.rb_cleanout.specs.Cleaned.{look_of}
use Rattle.rb_cleanout.proofs.Looking.{same_looks}
use Rattle.rb_heap.proofs.Reading.{cell_read, cells_counted, entries_counted, entry_read}
use Rattle.rb_heap.specs.Cleaning.{has_ended}
use Rattle.rb_heap.specs.Homes.{Home, IsFirst, IsNowhere, empty_cell, home_entry, home_of, is_keyed}
use Rattle.rb_itl.specs.Entries.{entry_at, free_entry}
use Rattle.rb_itl.specs.declared.slots.Entry.{Entry}
use Rattle.rb_itl.specs.declared.slots.TheConstants.{ENTRIES, OPEN}
use Rattle.law_blocks.specs.Standing.{env_of}
use Rattle.rb_txntable.specs.declared.looks.Look.{Look}
use Rattle.rb_txntable.specs.declared.looks.Look.TheVariants.{Active, At, Before}

-- the block of a key's home, as its number is computed
pub home_at : (k shape : Shape) (table key b : ℕ) → k ≡ shape → b ≡ home_block k table key → b < table_blocks k → (b ≡ home_block shape table key) × (home_block shape table key < table_blocks shape)
home_at k shape table key b same is there =
    let at : b ≡ home_block shape table key = is ∙ ap (λ (x : Shape). home_block x table key) same in
    (at, omega (arith, at, there, ap table_blocks same))

-- a transaction is taken where the entry is Open
pub then_open : (entry : Entry) → then_some (entry.kind == OPEN) entry.xid ≡ open_xid entry
then_open entry = by (entry.kind == OPEN)
  where
    by : (b : Bool) → then_some b entry.xid ≡ cond b (Some entry.xid) None
    by true = refl
    by false = refl

-- the first that passes is found, and none where none does
pub find_first : {X : Type 0} (p : X → Bool) (xs : List X) (c : ℕ) (d : X) → c < length xs → p (get_or xs c d) ≡ true → ((k : ℕ) → k < c → p (get_or xs k d) ≡ false) → find p xs ≡ Some (get_or xs c d)
find_first p [] c d within is lower = absurd (omega (arith, within))
find_first p (x ∷ xs) zero d within is lower = cond-true (p x) (Some x) (find p xs) is
find_first p (x ∷ xs) (suc c) d within is lower =
    cond-false (p x) (Some x) (find p xs) (lower 0 (omega arith)) ∙ find_first p xs c d (omega (arith, within)) is (λ k lt. lower (suc k) (omega (arith, lt)))

pub find_nowhere : {X : Type 0} (p : X → Bool) (xs : List X) (d : X) → ((k : ℕ) → k < length xs → p (get_or xs k d) ≡ false) → find p xs ≡ None
find_nowhere p [] d none = refl
find_nowhere p (x ∷ xs) d none = cond-false (p x) (Some x) (find p xs) (none 0 (omega arith)) ∙ find_nowhere p xs d (λ k lt. none (suc k) (omega (arith, lt)))

-- the cell of a key is the first that has it
pub keyed_cell : (block : List ℕ) (key c : ℕ) → IsFirst (is_keyed key) (home_of block).cells c → cell_of_key (home_of block) key ≡ Some (cell_at block c)
keyed_cell block key c first =
    let count = cells_counted block in
    let lt = first.within in
    find_first (is_keyed key) (home_of block).cells c empty_cell (omega (arith, count, lt)) first.passes first.lower
    ∙ ap (λ (x : Cell). Some x) (cell_read block c empty_cell lt)

pub no_cell : (block : List ℕ) (key : ℕ) → IsNowhere (is_keyed key) (home_of block).cells → cell_of_key (home_of block) key ≡ None
no_cell block key none = let count = cells_counted block in find_nowhere (is_keyed key) (home_of block).cells empty_cell (λ k lt. none k (omega (arith, count, lt)))

-- what a lock names
pub names_none : (block : List ℕ) (lock : ℕ) → 8 < lock → locker (home_of block) lock ≡ None
names_none block zero above = absurd (omega (arith, above))
names_none block (suc i) above = ap open_xid (get_or_past (home_of block).entries i free_entry (let count = entries_counted block in omega (arith, count, above)))

pub names_entry : (block : List ℕ) (lock : ℕ) → lock ≢ 0 → lock ≤ 8 → locker (home_of block) lock ≡ open_xid (entry_at block (lock - 1))
names_entry block zero some few = absurd (some refl)
names_entry block (suc i) some few =
    let at : suc i - 1 ≡ i = omega arith in
    ap open_xid (entry_read block i free_entry (omega (arith, few)) ∙ ap (entry_at block) (sym at))

-- whether a transaction runs
runs : (look : Xid → Look) (x : Xid) → look x ≡ Active → if_runs look (Some x) ≡ Some x
runs look x is = cond-false (has_ended (look x)) None (Some x) (ap has_ended is)

ended : (look : Xid → Look) (x : Xid) → look x ≢ Active → if_runs look (Some x) ≡ None
ended look x other = cond-true (has_ended (look x)) None (Some x) (by (look x) other)
  where
    by : (l : Look) → l ≢ Active → has_ended l ≡ true
    by Active not_active = absurd (not_active refl)
    by (At c) not_active = refl
    by (Before c) not_active = refl

-- The transaction that a lock of a block of rows names stands as the segments say.
named_look : (shape : Shape) (blocks : List (List ℕ)) (b key : ℕ) → b < table_blocks shape → AreYoung shape blocks
    → (x : Xid) → cell_locker (home_of (block_of blocks b)) (cell_of_key (home_of (block_of blocks b)) key) ≡ Some x → look_of shape blocks x ≡ (env_of shape blocks).look x
named_look shape blocks b key b_in young x is = by_cell (cell_of_key home key) is
  where
    home : Home
    home = home_of (block_of blocks b)

    by_entry : (i : ℕ) (opened : Bool) → ((home_entry home i).kind == 1) ≡ opened → cond opened (Some (home_entry home i).xid) None ≡ Some x → look_of shape blocks x ≡ (env_of shape blocks).look x
    by_entry i false test some = absurd cc
    by_entry i true test some =
        let xid : (home_entry home i).xid ≡ x = cc in
        let opened : (home_entry home i).kind ≡ 1 = eqb-true (home_entry home i).kind 1 test in
        elim (cases_lt i ENTRIES) [
          | inl few ↦
              let entry = young.entries b i b_in few opened in
              ap (look_of shape blocks) (sym xid) ∙ look_same shape blocks (home_entry home i).xid entry.seg entry.slot ∙ ap (env_of shape blocks).look xid
          | inr past ↦
              let free : home_entry home i ≡ free_entry = get_or_past home.entries i free_entry (let count = entries_counted (block_of blocks b) in omega (arith, count, past)) in
              let none : (home_entry home i).kind ≡ 0 = ap (λ (e : Entry). e.kind) free in
              absurd (omega (arith, none, opened))
        ]

    by_lock : (lock : ℕ) → locker home lock ≡ Some x → look_of shape blocks x ≡ (env_of shape blocks).look x
    by_lock zero some = absurd cc
    by_lock (suc i) some = by_entry i ((home_entry home i).kind == 1) refl some

    by_cell : (o : Option Cell) → cell_locker home o ≡ Some x → look_of shape blocks x ≡ (env_of shape blocks).look x
    by_cell None some = absurd cc
    by_cell (Some cell) some = by_lock cell.lock some

-- What a look-up of the transaction that the key's block names says of who holds the key.
module _ {S : Type 0} (s : Ghosts S) (old loaded : S) (loads : Logs s old loaded [] true) (told : s.tells) (young : AreYoung (s.shape_of old) (s.blocks old)) (table key : ℕ) (block : List ℕ) (there : home_block (s.shape_of old) table key < table_blocks (s.shape_of old))
    (read : block ≡ block_of (s.blocks old) (home_block (s.shape_of old) table key)) (x : Xid) (l : Look) (names : cell_locker (home_of block) (cell_of_key (home_of block) key) ≡ Some x) (look : l ≡ look_of (s.shape_of loaded) (s.blocks loaded) x) where
  abbrev Says : Xid → Look
  Says = (env_of (s.shape_of old) (s.blocks old)).look

  named : cell_locker (key_home (s.shape_of old) (s.blocks old) table key) (cell_of_key (key_home (s.shape_of old) (s.blocks old) table key) key) ≡ Some x
  named = ap (λ (b : List ℕ). cell_locker (home_of b) (cell_of_key (home_of b) key)) (sym read) ∙ names

  says : l ≡ Says x
  says = look ∙ (ap (λ (f : Xid → Look). f x) (same_looks s old loaded loads told) ∙ named_look (s.shape_of old) (s.blocks old) (home_block (s.shape_of old) table key) key there young x named)

  pub holder_runs : l ≡ Active → Some x ≡ holder_in (s.shape_of old) (s.blocks old) table key
  holder_runs is = sym (ap (if_runs Says) named ∙ runs Says x (sym says ∙ is))

  pub holder_ended : l ≢ Active → None ≡ holder_in (s.shape_of old) (s.blocks old) table key
  holder_ended other = sym (ap (if_runs Says) named ∙ ended Says x (λ is. other (says ∙ is)))
