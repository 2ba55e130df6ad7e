-- A block that was cleaned has nothing left to clean, by the headers as they are read then.
use Rattle.std.proofs.Common.{◌≡◌, ◌==◌, ◌<◌, if◌then◌else◌, ℕ, zero, suc, Bool, true, false, List, length, map, refl, sym, ◌∙◌, ap, arith, inl, inr, slice_index_or, ext_get_or}
use Rattle.std.proofs.lemmas.Bool.{cases_lt}
use Rattle.std.proofs.lemmas.List.{length-map, get_or-map, get_or_past}
use Rattle.std.specs.List.{AllByRecursion}
use Rattle.rb_base.specs.Blocks.{after_group, block_of, header_block, table_blocks, written_to, AreBlocks}
use Rattle.rb_base.specs.Groups.{Patch}
use Rattle.rb_base.specs.declared.ids.Xid.{Xid}
use Rattle.rb_base.specs.declared.shape.Shape.{Shape}
use Rattle.rb_cell.specs.Cells.{locked_by}
use Rattle.rb_cleanout.proofs.Grouped.{copy_home, others_stay}
use Rattle.rb_cleanout.specs.Cleaned.{PlansClean, look_of}
use Rattle.rb_heap.specs.Cleaning.{IsCleanPatch, cleaned_cell, cleaned_entry, cleaned_home, cleaned_lock, to_clean, told_entry}
use Rattle.rb_heap.specs.Homes.{Home, empty_cell, home_entry, home_of}
use Rattle.rb_itl.specs.Entries.{free_entry}
use Rattle.rb_itl.specs.declared.slots.Entry.{Entry}
use Rattle.rb_itl.specs.declared.slots.TheConstants.{OPEN}
use Rattle.rb_heap.proofs.Reading.{entries_counted}
use Rattle.rb_txntable.specs.declared.looks.Look.{Look}
use Rattle.rb_txntable.specs.declared.looks.Look.TheVariants.{Active, At, Before}
use Rattle.rb_write.proofs.Looks.{block_same, clean_same}
use Rattle.rb_write.specs.Asks.{AreYoung}
use Rattle.law_blocks.specs.Standing.{env_of}

-- nothing of block b is left to clean, by the headers as they are read
abbrev pub NothingLeft : Shape → List (List ℕ) → ℕ → Type 0
NothingLeft shape blocks b = cleaned_home (look_of shape blocks) (home_of (block_of blocks b)) ≡ home_of (block_of blocks b)

module _ (look : Xid → Look) where
  -- An entry that is cleaned isn't to be cleaned again, and then it stays.
  told_once : (e : Entry) (x : Look) → (e.kind == OPEN) ≡ true → x ≡ look e.xid → (to_clean look (told_entry e x) ≡ false) × (cleaned_entry look (told_entry e x) ≡ told_entry e x)
  told_once e Active test is = rw (test, ← is) (refl, refl)
  told_once e (At c) test is = (refl, refl)
  told_once e (Before c) test is = (refl, refl)

  by_kind : (e : Entry) (open_kind : Bool) → (e.kind == OPEN) ≡ open_kind → (to_clean look (if open_kind then told_entry e (look e.xid) else e) ≡ false) × (cleaned_entry look (if open_kind then told_entry e (look e.xid) else e) ≡ (if open_kind then told_entry e (look e.xid) else e))
  by_kind e true test = told_once e (look e.xid) test refl
  by_kind e false test = rw test (refl, refl)

  entry_once : (e : Entry) → (to_clean look (cleaned_entry look e) ≡ false) × (cleaned_entry look (cleaned_entry look e) ≡ cleaned_entry look e)
  entry_once e = by_kind e (e.kind == OPEN) refl

  module _ (home : Home) where
    abbrev Once : Home
    Once = cleaned_home look home

    place_once : (i : ℕ) → home_entry Once i ≡ cleaned_entry look (home_entry home i)
    place_once i = elim (cases_lt i (length home.entries)) [
      | inl lt ↦ get_or-map (cleaned_entry look) home.entries i free_entry free_entry lt
      | inr past ↦
          get_or_past (map (cleaned_entry look) home.entries) i free_entry (omega (arith, past, length-map home.entries (cleaned_entry look)))
          ∙ ap (cleaned_entry look) (sym (get_or_past home.entries i free_entry past))
    ]

    lock_once : (lock : ℕ) → cleaned_lock look Once (cleaned_lock look home lock) ≡ cleaned_lock look home lock
    lock_once zero = refl
    lock_once (suc i) = by_test (to_clean look (home_entry home i))
      where
        none : to_clean look (home_entry Once i) ≡ false
        none = ap (to_clean look) (place_once i) ∙ (entry_once (home_entry home i)).0

        by_test : (b : Bool) → cleaned_lock look Once (if b then 0 else suc i) ≡ (if b then 0 else suc i)
        by_test true = refl
        by_test false = rw none refl

    -- Cleaning a second time changes nothing.
    pub cleaned_once : cleaned_home look (cleaned_home look home) ≡ cleaned_home look home
    cleaned_once =
        let entries : map (cleaned_entry look) Once.entries ≡ Once.entries =
        ext_get_or free_entry (map (cleaned_entry look) Once.entries) Once.entries (length-map Once.entries (cleaned_entry look))
        (λ i lt. let within : i < length Once.entries = omega (arith, lt, length-map Once.entries (cleaned_entry look)) in
        get_or-map (cleaned_entry look) Once.entries i free_entry free_entry within
        ∙ ap (cleaned_entry look) (place_once i) ∙ (entry_once (home_entry home i)).1 ∙ sym (place_once i)) in
        let cells : map (cleaned_cell look Once) Once.cells ≡ Once.cells =
        ext_get_or empty_cell (map (cleaned_cell look Once) Once.cells) Once.cells (length-map Once.cells (cleaned_cell look Once))
        (λ c lt. let within : c < length Once.cells = omega (arith, lt, length-map Once.cells (cleaned_cell look Once)) in
        let first : c < length home.cells = omega (arith, within, length-map home.cells (cleaned_cell look home)) in
        let was : slice_index_or Once.cells c empty_cell ≡ cleaned_cell look home (slice_index_or home.cells c empty_cell) = get_or-map (cleaned_cell look home) home.cells c empty_cell empty_cell first in
        get_or-map (cleaned_cell look Once) Once.cells c empty_cell empty_cell within
        ∙ ap (cleaned_cell look Once) was
        ∙ ap (locked_by (slice_index_or home.cells c empty_cell)) (lock_once (slice_index_or home.cells c empty_cell).lock)
        ∙ sym was) in
        rw (entries, cells) refl

module _ (shape : Shape) (before : List (List ℕ)) (whole : AreBlocks shape before) (b : ℕ) (there : b < table_blocks shape) (patches : List Patch) (clean : AllByRecursion (IsCleanPatch b) patches)
    (plans : PlansClean (look_of shape before) b patches (block_of before b)) (number : ℕ) where
  abbrev Now : List (List ℕ)
  Now = after_group number patches before

  home_now : home_of (block_of Now b) ≡ cleaned_home (look_of shape before) (home_of (block_of before b))
  home_now = copy_home number b patches clean shape before (written_to b patches (block_of before b)) whole (omega (arith, there)) refl ∙ plans

  -- no header is patched
  look_stays : (x : Xid) → look_of shape Now x ≡ look_of shape before x
  look_stays x = rw (others_stay number b patches clean before (header_block shape x.seg) (λ same. omega (arith, same, there))) refl

  -- Behind a group that cleans a block nothing is left to clean there.
  pub still_after : NothingLeft shape Now b
  still_after =
      clean_same (look_of shape Now) (look_of shape before) (home_of (block_of Now b)) (entries_counted (block_of Now b)) (λ i few is. look_stays (home_entry (home_of (block_of Now b)) i).xid)
      ∙ ap (cleaned_home (look_of shape before)) home_now
      ∙ cleaned_once (look_of shape before) (home_of (block_of before b))
      ∙ sym home_now

-- the same of a shape and of blocks that are the same
pub still_as : (shape shape_now : Shape) (blocks now : List (List ℕ)) (b : ℕ) → shape_now ≡ shape → now ≡ blocks → NothingLeft shape blocks b → NothingLeft shape_now now b
still_as shape shape_now blocks now b same same_blocks still = rw (same, same_blocks) still

-- Where no Open entry is of a table slot that isn't there, nothing is left to clean by what the segments say either.
pub still_by_segments : (shape : Shape) (blocks : List (List ℕ)) (b : ℕ) → b < table_blocks shape → AreYoung shape blocks → NothingLeft shape blocks b
    → cleaned_home (env_of shape blocks).look (home_of (block_of blocks b)) ≡ home_of (block_of blocks b)
still_by_segments shape blocks b there young still = sym (block_same shape blocks b there young) ∙ still
