-- A block of rows of a file that stands, cleaned as the headers say: its home in both words, and its entries and cells in
-- order.
use Rattle.std.proofs.Common.{◌≡◌, ◌<◌, ◌≤◌, ◌%◌, ◌==◌, cond, inl, inr, ℕ, suc, Bool, true, false, List, [], ◌∷◌, length, map, get_or, nat_lt, sym, ◌∙◌, ap, subst, arith}
use Rattle.std.proofs.lemmas.List.{get_or-map}
use Rattle.std.proofs.lemmas.Bool.{cases_Bool, cond-true, cond-false}
use Rattle.std.proofs.lemmas.Bool.Decides.{nat_tests}
use Rattle.std.specs.List.{AllByRecursion}
use Rattle.rb_cell.specs.declared.cell.TheConstants.{CELLS}
use Rattle.rb_base.specs.Blocks.{block_of, table_blocks}
use Rattle.rb_base.specs.declared.shape.Shape.{Shape}
use Rattle.rb_base.specs.declared.ids.Xid.{Xid}
use Rattle.rb_base.specs.declared.sizes.TheConstants.{ACTIVE, SLOTS}
use Rattle.rb_cell.specs.declared.cell.Cell as cells
use Rattle.rb_cell.specs.Cells as cells_of
use Rattle.rb_heap.specs.Cleaning.{cleaned_home, cleaned_entry, cleaned_cell, cleaned_lock, told_entry}
use Rattle.rb_heap.specs.Homes.{Home, home_of, home_entry, home_cell, empty_cell}
use Rattle.rb_heap.specs.Soundness.{IsHomeSound, IsEntrySound, IsCellSound, IsTaken}
use Rattle.rb_heap.proofs.Reading.{entries_counted, cells_counted, entry_read, cell_read}
use Rattle.rb_itl.specs.Entries as itl
use Rattle.rb_itl.specs.declared.slots.Entry as entries
use Rattle.rb_itl.specs.declared.slots.TheConstants.{ENTRIES, OPEN}
use Rattle.rb_segment.specs.Header.{HeaderInOrder, slot_in}
use Rattle.rb_segment.specs.Segments.{commit_scn}
use Rattle.law_blocks.specs.Says.{says, walk_home}
use Rattle.law_blocks.specs.Standing.{Standing, env_of, homes_of, segments_of}
use Rattle.law_blocks.specs.Values.{HomeStands, Past, made_by, rows_here, wraps_of}
use Rattle.law_blocks.proofs.HomesCleaned.{IsLockedOpen, home_cleaned}
use Rattle.law_blocks.proofs.HomesSound.{cell_here, lock_same, open_here}
use Rattle.rb_txntable.specs.Looks.{slot_look}
use Rattle.rb_txntable.specs.declared.looks.Look.{Look}
use Rattle.rb_txntable.specs.declared.looks.Look.TheVariants.{Active, At, Before}
use Rattle.rb_txntable.specs.declared.slots.TableSlot.{TableSlot}
use Rattle.rb_txntable.specs.declared.slots.TheConstants.{COMMITTED}
use Rattle.law_home.specs.Homes.{here, narrow}
use Rattle.law_home.specs.Steps.{cleaned}
use Rattle.law_home.specs.Walk as walk

-- a look tells no number above the file's
abbrev pub LookFew : ℕ → Look → Type 0
LookFew commit Active = Unit {0}
LookFew commit (At c) = c ≤ commit
LookFew commit (Before b) = b ≤ commit

slot_few : (s : TableSlot) (wrap commit : ℕ) → s.newest ≤ commit → s.before ≤ s.newest → LookFew commit (slot_look s wrap)
slot_few s wrap commit newest before = by_case (nat_lt s.wrap wrap) (s.wrap == wrap) (s.state == ACTIVE) (s.state == COMMITTED)
  where
    by_case : (l e a c : Bool) → LookFew commit (cond l Active (cond e (cond a Active (cond c (At s.newest) (Before s.newest))) (cond c (Before s.before) (Before s.newest))))
    by_case true e a c = tt
    by_case false true true c = tt
    by_case false true false true = newest
    by_case false true false false = newest
    by_case false false a true = omega (arith, newest, before)
    by_case false false a false = newest

-- an entry in order is so, cleaned
entry_fine : (shape : Shape) (commit : ℕ) (wraps : ℕ → ℕ → ℕ) (look : Xid → Look) (e : entries.Entry) → ((x : Xid) → x.seg < shape.segments → x.slot < SLOTS → LookFew commit (look x)) → IsEntrySound shape commit wraps e
    → IsEntrySound shape commit wraps (cleaned_entry look e)
entry_fine shape commit wraps look e few sound = elim (cases_Bool (e.kind == OPEN)) [
  | inl is ↦
      let kind : e.kind ≡ OPEN = same_kind e.kind OPEN is in
      let taken : IsTaken shape commit wraps e = sound.taken (λ free. omega (arith, kind, free)) in
      subst (IsEntrySound shape commit wraps) (sym (cond-true (e.kind == OPEN) (told_entry e (look e.xid)) e is)) (told (look e.xid) (few e.xid taken.segment taken.slot) taken)
  | inr not_is ↦ subst (IsEntrySound shape commit wraps) (sym (cond-false (e.kind == OPEN) (told_entry e (look e.xid)) e not_is)) sound
]
  where
    same_kind : (a b : ℕ) → (a == b) ≡ true → a ≡ b
    same_kind a b is = grind (arith, nat_tests)

    told : (l : Look) → LookFew commit l → IsTaken shape commit wraps e → IsEntrySound shape commit wraps (told_entry e l)
    told Active is taken = sound
    told (At c) is taken = record { kind = omega arith; taken = λ _. record { segment = taken.segment; slot = taken.slot; wrap = taken.wrap; chain = taken.chain; number = is } }
    told (Before b) is taken = record { kind = omega arith; taken = λ _. record { segment = taken.segment; slot = taken.slot; wrap = taken.wrap; chain = taken.chain; number = is } }

-- a cell in order is so, cleaned
cell_fine : (shape : Shape) (h : ℕ) (look : Xid → Look) (home : Home) (x : cells.Cell) → IsCellSound shape h x → IsCellSound shape h (cleaned_cell look home x)
cell_fine shape h look home x sound = record {
  state = sound.state;
  unlocked = λ is. ap (cleaned_lock look home) (sound.unlocked is);
  key = sound.key;
}

-- all items of a list, one by one
all_of : {X : Type 0} (P : X → Type 0) (xs : List X) (d : X) → ((i : ℕ) → i < length xs → P (get_or xs i d)) → AllByRecursion P xs
all_of P [] d each = tt
all_of P (x ∷ xs) d each = (each 0 (omega arith), all_of P xs d (λ i lt. each (suc i) (omega (arith, lt))))

module _ (shape : Shape) (blocks : List (List ℕ)) (past : Past) (lives : List (List walk.Change)) (stand : Standing shape blocks past lives) (b : ℕ) (b_in : b < table_blocks shape) where
  abbrev Looks : Xid → Look
  Looks = (env_of shape blocks).look

  abbrev Old : List ℕ
  Old = block_of blocks b

  abbrev Commit : ℕ
  Commit = commit_scn shape blocks

  abbrev Wraps : ℕ → ℕ → ℕ
  Wraps = wraps_of (segments_of shape blocks)

  abbrev pub Cleaned : Home
  Cleaned = cleaned_home Looks (home_of Old)

  pub block_sound : IsHomeSound shape Commit Wraps (b % shape.blocks) Old
  block_sound = stand.homes_sound b b_in

  stands_here : HomeStands (says shape (segments_of shape blocks)) (made_by (segments_of shape blocks)) past.base (rows_here shape b past.rows) (map (narrow b) past.list) (map (here b) lives) (homes_of shape blocks b)
  stands_here = stand.stands.homes_stand b b_in

  -- what the locks of the block name
  locked : (c : ℕ) → c < CELLS → IsLockedOpen (home_of Old) (cells_of.cell_at Old c)
  locked c few = record {
    unlocked = (block_sound.cells.each c few).unlocked;
    opens = λ i is.
        let opened = open_here shape Old i (stands_here.locks i c (ap walk.lock_of (cell_here shape Old c few) ∙ lock_same (cells_of.cell_at Old c) ∙ is)) in
        ap (λ (e : entries.Entry). e.kind) (entry_read Old i itl.free_entry opened.0) ∙ opened.1;
  }

  all_locked : AllByRecursion (IsLockedOpen (home_of Old)) (home_of Old).cells
  all_locked = all_of (IsLockedOpen (home_of Old)) (home_of Old).cells empty_cell (λ c lt. let few : c < CELLS = let n = cells_counted Old in omega (arith, n, lt) in subst (IsLockedOpen (home_of Old)) (sym (cell_read Old c empty_cell few)) (locked c few))

  -- the home is the walk's
  pub home_walked : walk_home shape b Cleaned ≡ cleaned (env_of shape blocks) (homes_of shape blocks b)
  home_walked = home_cleaned shape (env_of shape blocks) b (home_of Old) all_locked

  -- each entry and each cell
  pub entry_cleaned_is : (i : ℕ) → i < ENTRIES → home_entry Cleaned i ≡ cleaned_entry Looks (itl.entry_at Old i)
  entry_cleaned_is i few =
      get_or-map (cleaned_entry Looks) (home_of Old).entries i itl.free_entry itl.free_entry (let n = entries_counted Old in omega (arith, n, few))
      ∙ ap (cleaned_entry Looks) (entry_read Old i itl.free_entry few)

  pub cell_cleaned_is : (c : ℕ) → c < CELLS → home_cell Cleaned c ≡ cleaned_cell Looks (home_of Old) (cells_of.cell_at Old c)
  cell_cleaned_is c few =
      get_or-map (cleaned_cell Looks (home_of Old)) (home_of Old).cells c empty_cell empty_cell (let n = cells_counted Old in omega (arith, n, few))
      ∙ ap (cleaned_cell Looks (home_of Old)) (cell_read Old c empty_cell few)

  looks_few : (x : Xid) → x.seg < shape.segments → x.slot < SLOTS → LookFew Commit (Looks x)
  looks_few x seg slot =
      let order : HeaderInOrder Commit (segments_of shape blocks x.seg).header = (stand.stands.in_order x.seg seg).header in
      let s = order.slots x.slot slot in
      slot_few (slot_in (segments_of shape blocks x.seg).header x.slot) x.wrap Commit s.newest s.before

  pub entry_in_order : (i : ℕ) → i < ENTRIES → IsEntrySound shape Commit Wraps (home_entry Cleaned i)
  entry_in_order i few = subst (IsEntrySound shape Commit Wraps) (sym (entry_cleaned_is i few)) (entry_fine shape Commit Wraps Looks (itl.entry_at Old i) looks_few (block_sound.entries i few))

  pub cell_in_order : (c : ℕ) → c < CELLS → IsCellSound shape (b % shape.blocks) (home_cell Cleaned c)
  cell_in_order c few = subst (IsCellSound shape (b % shape.blocks)) (sym (cell_cleaned_is c few)) (cell_fine shape (b % shape.blocks) Looks (home_of Old) (cells_of.cell_at Old c) (block_sound.cells.each c few))
