-- A new file opens with no commit and no row.
use Rattle.std.proofs.Common.{◌≡◌, ◌<◌, ◌≤◌, ◌+◌, ◌-◌, ◌*◌, ◌/◌, ◌%◌, ◌==◌, ℕ, zero, suc, Bool, nat_lt, false, if◌then◌else◌, List, [], ◌++◌, length, replicate, get_or, refl, sym, ◌∙◌, ap, subst, arith}
use Rattle.std.proofs.Math.Nat.{div-add-mod, mul-mod_right}
use Rattle.std.proofs.lemmas.Bool.{le-ltb}
use Rattle.std.proofs.lemmas.List.{length-replicate}
use Rattle.std.proofs.lemmas.List.FromFn.{length-map-range_with_len}
use Rattle.rb_base.specs.Blocks.{block_of, block_kind, fresh_head, fresh_rest, fresh_segment, fresh_blocks, greatest, header_block, shape_blocks, table_blocks}
use Rattle.rb_base.specs.declared.shape.Shape.{Shape}
use Rattle.rb_heap.proofs.Fresh.{new_block, new_empty}
use Rattle.rb_heap.specs.Homes as heap
use Rattle.rb_layout.specs.Fresh.{fresh_are_blocks}
use Rattle.rb_layout.specs.Regions.{file_version, fresh_file, shape_of}
use Rattle.rb_layout.specs.declared.layout.Layout.{Layout}
use Rattle.rb_model.specs.Book.{fresh_book}
use Rattle.rb_model.specs.State.{opened}
use Rattle.rb_recovery.proofs.Sound.{sound_as}
use Rattle.rb_recovery.specs.Opens.{books_of}
use Rattle.rb_restart.proofs.Slots.{owed_is, owed_none}
use Rattle.rb_ring.specs.Ring.{extent_ord, extent_newest, head_extent, head_records, record_count, lost_number}
use Rattle.rb_segment.proofs.Fresh.{all_same, fresh_is_book, fresh_slot}
use Rattle.rb_segment.specs.Books.{IsBook, fresh_header}
use Rattle.rb_segment.specs.Header.{Header, header_of, segment_of, slot_in, undo_block}
use Rattle.rb_segment.specs.Segments.{commit_scn, owed_in}
use Rattle.rb_shell.proofs.Restarting.{head_small}
use Rattle.rb_shell.specs.Runs.{IsSound}
use Rattle.rb_sound.proofs.Fresh.{homes_fresh}
use Rattle.law_blocks.proofs.Fresh.{fresh_running, fresh_stands}
use Rattle.law_blocks.proofs.SegmentRead.{header_is, scn_least}
use Rattle.law_blocks.specs.Fresh.{IsFresh, no_past}
use Rattle.law_blocks.specs.Says.{walk_home}
use Rattle.law_blocks.specs.Standing.{SoundAs, homes_of, logged_of, segments_of}
use Rattle.law_blocks.specs.Values.{StandingAs, slot_of, wraps_of}
use Rattle.rb_store.proofs.FreshOpening.{fresh_opens}
use Rattle.rb_txntable.specs.Slots.{slot_state, slot_touched, slot_live, slot_wrap, slot_newest, slot_before, slot_record, slot_first, slot_start}
use Rattle.rb_txntable.specs.declared.slots.TableSlot.{TableSlot}
use Rattle.rb_undoblock.specs.Undo.{undo_at}
use Rattle.law_home.specs.Kinds.{Empty, Entry, Free}
use Rattle.law_home.specs.Walk.{Change, Home, AllEmpty, cell_at, entry_at, free_entry}

-- the header of a segment in a new file, as block n
header_read : (n : ℕ) → header_of (fresh_head 2 n ++ fresh_segment) ≡ fresh_header
unfolding header_of slot_state slot_touched slot_live slot_wrap slot_newest slot_before slot_record slot_first slot_start extent_ord extent_newest head_extent head_records record_count lost_number
header_read n = refl

-- the kind of a block, by whether it is one of the tables and by its place in its segment
abbrev kind_by : Bool → ℕ → ℕ
kind_by front rest = if front then 1 else if rest == 0 then 2 else 3

header_kind : (front : Bool) (rest : ℕ) → front ≡ false → rest ≡ 0 → kind_by front rest ≡ 2
header_kind front rest behind whole = rw (behind, whole) refl

kind_of : (shape : Shape) (g : ℕ) → block_kind shape (header_block shape g) ≡ 2
kind_of shape g =
    let which = header_block shape g in
    let back : which - table_blocks shape ≡ 33 * g = omega arith in
    header_kind (nat_lt which (table_blocks shape)) ((which - table_blocks shape) % 33) (le-ltb which (table_blocks shape) (omega arith)) (rw back (mul-mod_right 33 g))

-- an entry among free ones
free_at : (x : Entry) → x.status ≡ Free → (n i : ℕ) → (get_or (replicate n x) i free_entry).status ≡ Free
free_at x is zero i = refl
free_at x is (suc n) zero = is
free_at x is (suc n) (suc i) = free_at x is n i

-- the blocks of a new file
module _ (shape : Shape) where
  abbrev Blocks : List (List ℕ)
  Blocks = fresh_blocks shape

  header_fresh : (g : ℕ) → g < shape.segments → (segments_of shape Blocks g).header ≡ fresh_header
  header_fresh g lt =
      let which = header_block shape g in
      header_is shape Blocks g
      ∙ ap header_of (new_block shape which (omega (arith, lt)) ∙ ap (λ (kind : ℕ). fresh_head kind which ++ fresh_rest kind) (kind_of shape g))
      ∙ header_read which

  undo_counted : (g : ℕ) → length (segments_of shape Blocks g).undo ≡ 320
  unfolding segment_of
  undo_counted g = length-map-range_with_len (λ i. undo_at (block_of Blocks (undo_block shape g i)) (i % 10)) 0 320

  home_read : (b : ℕ) → b < table_blocks shape → homes_of shape Blocks b ≡ walk_home shape b heap.empty_home
  home_read b lt = ap (walk_home shape b) (new_empty shape b lt)

  are_fresh : IsFresh shape (segments_of shape Blocks) (homes_of shape Blocks)
  are_fresh = record {
    headers = header_fresh;
    undo = λ g lt. undo_counted g;
    entries = λ b i lt. ap (λ (h : Home). (entry_at h i).status) (home_read b lt) ∙ free_at (entry_at (walk_home shape b heap.empty_home) 0) refl 8 i;
    cells = λ b j lt. ap (λ (h : Home). cell_at h j) (home_read b lt) ∙ all_same Empty 16 j;
  }

  slot_fresh : (A : Type 0) (read : TableSlot → A) (t : ℕ) → t < 16 * shape.segments → read (slot_of (segments_of shape Blocks) t) ≡ read (slot_in fresh_header (t % 16))
  slot_fresh A read t lt = let parts = div-add-mod t 16 in ap (λ (h : Header). read (slot_in h (t % 16))) (header_fresh (t / 16) (omega (arith, parts, lt)))

  no_commit : commit_scn shape Blocks ≡ 0
  no_commit =
      let least = scn_least shape Blocks 0 (λ t lt. let here = slot_fresh ℕ (λ (s : TableSlot). s.newest) t lt ∙ ap (λ (s : TableSlot). s.newest) (fresh_slot (t % 16)) in omega (arith, here)) in
      omega (arith, least)

  none_owed : owed_in shape Blocks ≡ 0
  none_owed = owed_none shape Blocks (λ t lt active. let here = slot_fresh ℕ (λ (s : TableSlot). s.state) t lt ∙ ap (λ (s : TableSlot). s.state) (fresh_slot (t % 16)) in absurd (omega (arith, here, active)))

  -- no slot has a live change
  abbrev Lives : List (List Change)
  Lives = replicate (16 * shape.segments) []

  sound_fresh : logged_of shape Blocks ≡ 0 → SoundAs shape Blocks 0 []
  sound_fresh unlogged = record {
    lives = Lives;
    running = fresh_running shape (segments_of shape Blocks) (homes_of shape Blocks) are_fresh;
    books = λ g g_in. (fresh_book, subst (λ (z : Header). IsBook z fresh_book) (sym (are_fresh.headers g g_in)) fresh_is_book);
    standing = record {
      whole = fresh_are_blocks shape;
      homes_sound = λ b lt. homes_fresh shape (commit_scn shape Blocks) (wraps_of (segments_of shape Blocks)) (b % shape.blocks) b lt;
      ahead = let owes = sym (owed_is shape Blocks) ∙ none_owed in omega (arith, unlogged, owes);
      order = tt;
      tables = tt;
      stands =
          let none : AllEmpty Lives = λ s. all_same [] (16 * shape.segments) s in
          let stands = fresh_stands shape (segments_of shape Blocks) (homes_of shape Blocks) are_fresh Lives (length-replicate (16 * shape.segments) []) none in
          subst (λ (commit : ℕ). StandingAs shape commit (logged_of shape Blocks) (segments_of shape Blocks) (homes_of shape Blocks) no_past Lives) (sym no_commit)
          (subst (λ (logged : ℕ). StandingAs shape 0 logged (segments_of shape Blocks) (homes_of shape Blocks) no_past Lives) (sym unlogged) stands);
    };
  }

-- no block of a new file has a log number
greatest_none : (f : ℕ → ℕ) (n : ℕ) → ((i : ℕ) → i < n → f i ≤ 0) → greatest f n ≡ 0
unfolding greatest
greatest_none f zero none = refl
greatest_none f (suc n) none =
    let before = greatest_none f n (λ i lt. none i (omega (arith, lt))) in
    let last = none n (omega arith) in omega (arith, before, last)

fresh_logged : (l : Layout) → logged_of (shape_of l) (fresh_blocks (shape_of l)) ≡ 0
fresh_logged l = greatest_none _ (shape_blocks (shape_of l)) (λ which lt. ((fresh_opens l).headed which lt).low)

pub new_file : (l : Layout) → (sound : IsSound (fresh_file file_version l)) × (sound.state ≡ opened (shape_of l) 0 [] (books_of (shape_of l) (fresh_blocks (shape_of l))) [])
new_file l =
    let shape = shape_of l in
    let blocks = fresh_blocks shape in
    let unlogged = fresh_logged l in
    let sound = sound_fresh shape unlogged in (
      record {
        store = record {
          layout = l;
          blocks = blocks;
          lsn = 0;
          opens = fresh_opens l;
          small = head_small l (fresh_file file_version l) blocks 0 (fresh_opens l).means (omega arith);
          sound = sound_as shape blocks 0 [] sound;
        };
        state = opened shape 0 [] (books_of shape blocks) [];
        opening = record { number = 0; rows = []; sound = sound; state = refl };
        logged = sym unlogged;
      },
      refl,
    )

-- no group has a number, and nothing is owed
pub new_number : (l : Layout) → (new_file l).0.store.lsn + owed_in (shape_of (new_file l).0.store.layout) (new_file l).0.store.blocks ≡ 0
unfolding new_file
new_number l = ap (λ (k : ℕ). 0 + k) (none_owed (shape_of l))

pub new_log : (l : Layout) → (new_file l).0.store.layout.log ≡ l.log
unfolding new_file
new_log l = refl
