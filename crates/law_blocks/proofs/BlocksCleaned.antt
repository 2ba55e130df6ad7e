-- A cleaning of a block of rows leaves what the blocks of a file stand for.
use Rattle.std.proofs.Common.{◌*◌, ◌≡◌, ◌≢◌, ◌<◌, ◌+◌, ◌%◌, inl, inr, ℕ, List, map, get_or, sym, ◌∙◌, ap, subst, arith}
use Rattle.std.proofs.lemmas.Bool.{cases_eq}
use Rattle.std.specs.List.{range_with_len}
use Rattle.rb_undoblock.specs.declared.record.TheConstants.{UNDO_RECORDS}
use Rattle.rb_ring.specs.declared.extents.TheConstants.{EXTENTS, EXTENT_RECORDS}
use Rattle.rb_itl.specs.declared.slots.TheConstants.{ENTRIES}
use Rattle.rb_cell.specs.declared.cell.TheConstants.{CELLS}
use Rattle.rb_base.specs.Blocks.{block_of, greatest, header_block, table_blocks, IsShape}
use Rattle.rb_base.specs.declared.shape.Shape.{Shape}
use Rattle.rb_cell.specs.Cells as cells_of
use Rattle.rb_heap.specs.Homes.{Home, home_of, home_cell, home_entry, empty_cell}
use Rattle.rb_heap.specs.Soundness.{IsHomeSound, IsEntrySound, IsCellSound}
use Rattle.rb_heap.proofs.Reading.{entry_read, cell_read}
use Rattle.rb_itl.specs.Entries as itl
use Rattle.rb_segment.specs.Header.{header_of, segment_of, undo_block}
use Rattle.rb_segment.specs.Segments.{commit_scn}
use Rattle.law_blocks.specs.BlockLaws.{HasNext}
use Rattle.law_blocks.specs.Groups.{IsCleaned}
use Rattle.law_blocks.specs.Says.{says, walk_home}
use Rattle.law_blocks.specs.Standing.{Standing, env_of, homes_of, logged_of, segments_of}
use Rattle.law_blocks.specs.Values.{HomeStands, Past, Running, StandingAs, owed, wraps_of}
use Rattle.law_blocks.proofs.CleanedSound.{Cleaned, block_sound, cell_in_order, entry_in_order, home_walked}
use Rattle.law_blocks.proofs.Group.{block_stays, blocks_stay, logged_next}
use Rattle.law_blocks.proofs.HomesSound.{home_sound}
use Rattle.law_blocks.proofs.StandingCleaned.{standing_cleaned}
use Rattle.rb_txntable.specs.Slots.{header_newest}
use Rattle.rb_undoblock.specs.Undo.{undo_at}
use Rattle.rb_undoblock.specs.declared.record.UndoRecord.{UndoRecord}
use Rattle.law_home.specs.Steps.{cleaned}
use Rattle.law_home.specs.Walk as walk

module _ (shape : Shape) (before now : List (List ℕ)) (past : Past) (lives : List (List walk.Change)) (b : ℕ) (shaped : IsShape shape) (b_in : b < table_blocks shape) (next : HasNext shape before) (stand : Standing shape before past lives) (clean : IsCleaned shape b before now) where
  stays : (k : ℕ) → k ≢ b → block_of now k ≡ block_of before k
  stays k ne = block_stays shape (λ x. x ≡ b) before now clean.group k ne

  header_stays : (g : ℕ) → block_of now (header_block shape g) ≡ block_of before (header_block shape g)
  header_stays g = stays (header_block shape g) (λ is. omega (arith, is, b_in))

  undo_stays : (g i : ℕ) → block_of now (undo_block shape g i) ≡ block_of before (undo_block shape g i)
  undo_stays g i = stays (undo_block shape g i) (λ is. omega (arith, is, b_in))

  one_segment : (g : ℕ) → segments_of shape now g ≡ segments_of shape before g
  unfolding segment_of
  one_segment g =
      let undo : (λ (i : ℕ). undo_at (block_of now (undo_block shape g i)) (i % UNDO_RECORDS)) ≡ (λ (i : ℕ). undo_at (block_of before (undo_block shape g i)) (i % UNDO_RECORDS)) = λ j i. ap (λ (l : List ℕ). undo_at l (i % UNDO_RECORDS)) (undo_stays g i) j in
      ap (λ (h : List ℕ). record { header = header_of h; undo = map (λ i. undo_at (block_of now (undo_block shape g i)) (i % UNDO_RECORDS)) (range_with_len 0 (EXTENTS * EXTENT_RECORDS)) }) (header_stays g)
      ∙ ap (λ (f : ℕ → UndoRecord). record { header = header_of (block_of before (header_block shape g)); undo = map f (range_with_len 0 (EXTENTS * EXTENT_RECORDS)) }) undo

  pub segments_same : segments_of shape now ≡ segments_of shape before
  segments_same = λ j g. one_segment g j

  pub commit_same : commit_scn shape now ≡ commit_scn shape before
  commit_same =
      let each : (λ (g : ℕ). header_newest (block_of now (header_block shape g))) ≡ (λ (g : ℕ). header_newest (block_of before (header_block shape g))) = λ j g. ap header_newest (header_stays g) j in
      ap (λ (f : ℕ → ℕ). greatest f shape.segments) each

  logged : logged_of shape now ≡ logged_of shape before + 1
  logged = logged_next shape (λ x. x ≡ b) before now clean.group stand.whole (λ x is. omega (arith, is, b_in)) (let a = next in omega (arith, a))

  abbrev New : List ℕ
  New = block_of now b

  home_is : homes_of shape now b ≡ cleaned (env_of shape before) (homes_of shape before b)
  home_is = ap (walk_home shape b) clean.home ∙ home_walked shape before past lives stand b b_in

  home_stays : (k : ℕ) → k ≢ b → homes_of shape now k ≡ homes_of shape before k
  home_stays k ne = ap (λ (l : List ℕ). walk_home shape k (home_of l)) (stays k ne)

  values : StandingAs shape (commit_scn shape before) (logged_of shape before + 1) (segments_of shape before) (homes_of shape now) past lives
  values = standing_cleaned shape (commit_scn shape before) (logged_of shape before) (segments_of shape before) (homes_of shape before) past lives stand.stands (homes_of shape now) b home_is home_stays

  -- each entry and each cell of the cleaned block
  entry_is : (i : ℕ) → i < ENTRIES → itl.entry_at New i ≡ home_entry (Cleaned shape before past lives stand b b_in) i
  entry_is i few = sym (entry_read New i itl.free_entry few) ∙ ap (λ (h : Home). get_or h.entries i itl.free_entry) clean.home

  cell_is : (c : ℕ) → c < CELLS → cells_of.cell_at New c ≡ home_cell (Cleaned shape before past lives stand b b_in) c
  cell_is c few = sym (cell_read New c empty_cell few) ∙ ap (λ (h : Home). get_or h.cells c empty_cell) clean.home

  here_stands : HomeStands (says shape (segments_of shape before)) (λ g. (segments_of shape before g).header.writes) past.base (Rattle.law_blocks.specs.Values.rows_here shape b past.rows) (map (Rattle.law_home.specs.Homes.narrow b) past.list) (map (Rattle.law_home.specs.Homes.here b) lives) (homes_of shape now b)
  here_stands = values.homes_stand b b_in

  sound_here : IsHomeSound shape (commit_scn shape before) (wraps_of (segments_of shape before)) (b % shape.blocks) New
  sound_here =
      home_sound shape New (commit_scn shape before) (wraps_of (segments_of shape before)) (b % shape.blocks)
      (λ i few. subst (IsEntrySound shape (commit_scn shape before) (wraps_of (segments_of shape before))) (sym (entry_is i few)) (entry_in_order shape before past lives stand b b_in i few))
      (λ c few. subst (IsCellSound shape (b % shape.blocks)) (sym (cell_is c few)) (cell_in_order shape before past lives stand b b_in c few))
      (clean.short (block_sound shape before past lives stand b b_in).cells.values) here_stands.unique here_stands.locks

  sound_all : (k : ℕ) → k < table_blocks shape → IsHomeSound shape (commit_scn shape before) (wraps_of (segments_of shape before)) (k % shape.blocks) (block_of now k)
  sound_all k k_in = elim (cases_eq k b) [
    | inl at ↦ subst (λ (z : ℕ). IsHomeSound shape (commit_scn shape before) (wraps_of (segments_of shape before)) (z % shape.blocks) (block_of now z)) (sym at) sound_here
    | inr ne ↦ subst (λ (l : List ℕ). IsHomeSound shape (commit_scn shape before) (wraps_of (segments_of shape before)) (k % shape.blocks) l) (sym (stays k ne)) (stand.homes_sound k k_in)
  ]

  pub blocks_cleaned : Standing shape now past lives
  blocks_cleaned = record {
    whole = blocks_stay shape (λ x. x ≡ b) before now clean.group stand.whole;
    homes_sound = λ k k_in. rw (commit_same, segments_same) (sound_all k k_in);
    ahead = let a = next in let o : owed shape (segments_of shape now) ≡ owed shape (segments_of shape before) = ap (owed shape) segments_same in omega (arith, a, o, logged);
    order = stand.order;
    tables = stand.tables;
    stands = rw (commit_same, segments_same, logged) values;
  }

  pub running_cleaned : Running shape (segments_of shape before) → Running shape (segments_of shape now)
  running_cleaned running = rw segments_same running
