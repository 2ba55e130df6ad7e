-- A write leaves the blocks of rows in order, and the file's commit number. So what stands as values after it does in the
-- blocks.
use Rattle.std.proofs.Common.{◌≡◌, ◌≢◌, ◌⊎◌, ◌<◌, ◌≤◌, ◌==◌, ◌+◌, ◌*◌, ◌/◌, ◌%◌, ◌^◌, inl, inr, ℕ, suc, Bool, true, if◌then◌else◌, List, [], ◌∷◌, length, map, set, get_or, Some, refl, sym, ◌∙◌, ap, subst, arith}
use Rattle.std.proofs.lemmas.Bool.{cases_eq, false≢true}
use Rattle.std.proofs.lemmas.List.{get_or-set_same, get_or-set_other}
use Rattle.std.proofs.Math.Nat.{div-add-mod}
use Rattle.rb_base.specs.declared.sizes.TheConstants.{SLOTS}
use Rattle.rb_ring.specs.declared.extents.TheConstants.{EXTENTS, EXTENT_RECORDS}
use Rattle.rb_itl.specs.declared.slots.TheConstants.{ENTRIES}
use Rattle.rb_cell.specs.declared.cell.TheConstants.{CELLS}
use Rattle.rb_base.specs.Blocks.{block_of, shape_blocks, table_blocks}
use Rattle.rb_base.specs.declared.ids.Uba.{Uba}
use Rattle.rb_base.specs.declared.shape.Shape.{Shape}
use Rattle.rb_cell.specs.declared.cell.Cell as cells
use Rattle.rb_cell.specs.Cells as cells_of
use Rattle.rb_heap.specs.Homes as heap
use Rattle.rb_heap.specs.Soundness.{IsHomeSound, IsEntrySound, IsCellSound}
use Rattle.rb_heap.proofs.Reading.{entry_read, cell_read}
use Rattle.rb_itl.specs.Entries as itl
use Rattle.rb_itl.specs.declared.slots.Entry as entries
use Rattle.rb_model.specs.Change.{Held, Kind, Place}
use Rattle.rb_segment.specs.Header.{Segment, SegmentInOrder, record_in, slot_in}
use Rattle.rb_segment.specs.Moves.{Records}
use Rattle.rb_segment.specs.Running.{KeepsRecords, RunningSlot}
use Rattle.rb_segment.specs.Segments.{commit_scn}
use Rattle.law_blocks.specs.BlockLaws.{HasRoomFor}
use Rattle.law_blocks.specs.Says.{place_of, says, walk_record, walk_undo}
use Rattle.law_blocks.specs.Standing.{Standing, homes_of, logged_of, segments_of}
use Rattle.law_blocks.specs.Values.{HomeStands, Past, Running, StandingAs, made_by, owed, rows_here, slot_of, wraps_of}
use Rattle.law_blocks.specs.Writes.{Written, change_made}
use Rattle.law_blocks.specs.Writing.{IsNotHeld, IsWritten, KeepsHome, cell_after, entry_after}
use Rattle.law_blocks.proofs.BlocksMoved.{moved_stands, stays_sound}
use Rattle.law_blocks.proofs.BlocksWritten as blocks
use Rattle.law_blocks.proofs.ChangedSound.{cell_made, entry_made, here_few}
use Rattle.law_blocks.proofs.CleanedSound as clean
use Rattle.law_blocks.proofs.Homes.{own_here}
use Rattle.law_blocks.proofs.HomesSound.{entry_here, home_sound}
use Rattle.law_blocks.proofs.Listed.{entry_later}
use Rattle.law_blocks.proofs.OwedMoves.{owed_written}
use Rattle.law_blocks.proofs.SegmentRead.{scn_same}
use Rattle.law_blocks.proofs.SlotsMoved as moves
use Rattle.law_blocks.proofs.StandingWritten.{slot_few, standing_written}
use Rattle.rb_segment.proofs.Rooms.{live_few}
use Rattle.rb_segment.proofs.SegmentWritten.{keeps_own, newest_same, other_slot_same, own_slot, running_own, written_found, written_order}
use Rattle.rb_segment.proofs.WithSegment.{at_segment}
use Rattle.rb_txntable.specs.declared.slots.TableSlot.{TableSlot}
use Rattle.rb_undoblock.specs.declared.record.UndoRecord.{UndoRecord}
use Rattle.law_home.specs.Homes.{here, narrow}
use Rattle.law_home.specs.Kinds as kinds
use Rattle.law_home.specs.Walk as walk
use Rattle.law_home.specs.Walk.{Change, Head, Walk, own}
use Rattle.law_home.proofs.Homes.{live_here}
use Rattle.law_home.proofs.Lives.{first}

module _ (shape : Shape) (before now : List (List ℕ)) (past : Past) (lives : List (List Change)) (stand : Standing shape before past lives) (running : Running shape (segments_of shape before)) (t : ℕ) (t_in : t < SLOTS * shape.segments) (adds : Bool) (kind : Kind) (address : Uba) (u : UndoRecord) (home_in : u.home < table_blocks shape) (is : IsWritten shape t adds kind address u before now)
    (free : IsNotHeld (blocks.Cleaned shape before now past lives stand running t t_in adds kind address u home_in is) (record { seg = t / SLOTS; slot = t % SLOTS; wrap = u.wrap }) u.key) (key_here : u.key % shape.blocks ≡ u.home % shape.blocks) where
  abbrev G : ℕ
  G = t / SLOTS

  abbrev I : ℕ
  I = t % SLOTS

  abbrev Segs : ℕ → Segment
  Segs = segments_of shape before

  abbrev S : Segment
  S = Segs G

  abbrev Commit : ℕ
  Commit = commit_scn shape before

  abbrev Logged : ℕ
  Logged = logged_of shape before

  abbrev Made : Segment
  Made = blocks.Made shape before now past lives stand running t t_in adds kind address u home_in is

  abbrev pub After : ℕ → Segment
  After = blocks.After shape before now past lives stand running t t_in adds kind address u home_in is

  abbrev pub Homes2 : ℕ → walk.Home
  Homes2 = blocks.Homes2 shape before now past lives stand running t t_in adds kind address u home_in is

  abbrev Cleaned : heap.Home
  Cleaned = blocks.Cleaned shape before now past lives stand running t t_in adds kind address u home_in is

  pub values : Written shape Commit Segs After (homes_of shape before) Homes2 lives t kind address u
  values = blocks.written_values shape before now past lives stand running t t_in adds kind address u home_in is free

  abbrev Made_change : Change
  Made_change = change_made shape t kind address u

  abbrev Longer : List (List Change)
  Longer = set lives t (Made_change ∷ own lives t)

  stands : StandingAs shape Commit (Logged + 1) After Homes2 past Longer
  stands = standing_written shape Commit Logged Segs (homes_of shape before) past lives stand.stands running Homes2 t kind address u t_in After values

  g_in : G < shape.segments
  g_in = let a = div-add-mod t SLOTS in omega (arith, a, t_in)

  abbrev Order : SegmentInOrder Commit Logged S
  Order = blocks.order shape before now past lives stand running t t_in adds kind address u home_in is

  abbrev Keeps : (j : ℕ) → (slot_in S.header j).state ≡ 1 → KeepsRecords S j
  Keeps = blocks.keeps_records shape before now past lives stand running t t_in adds kind address u home_in is

  abbrev Runs : (j : ℕ) → (slot_in S.header j).state ≡ 1 → RunningSlot S.header (slot_in S.header j)
  Runs = blocks.runs shape before now past lives stand running t t_in adds kind address u home_in is

  abbrev Rec : Records S I address u Made
  Rec = blocks.Rec shape before now past lives stand running t t_in adds kind address u home_in is

  wrap_is : u.wrap ≡ (slot_in Made.header I).wrap
  wrap_is = blocks.wrap_is shape before now past lives stand running t t_in adds kind address u home_in is

  after_own : After G ≡ Made
  after_own = at_segment G Made Segs

  runs_now : RunningSlot Made.header (slot_in Made.header I)
  runs_now = running_own S I address u Made Rec Commit Logged Order (slot_few t) Keeps Runs is.recorded.slot wrap_is

  -- the slot's live changes are those that the ring has room for
  lives_few : suc (length (own lives t)) ≤ (EXTENTS * EXTENT_RECORDS)
  lives_few =
      let slot = own_slot S I address u Made Rec Commit Logged Order (slot_few t) Keeps Runs is.recorded.slot wrap_is in
      let count : (slot_in Made.header I).live ≡ (slot_in is.recorded.ready I).live + 1 = ap (λ (z : TableSlot). z.live) slot in
      let few = live_few Commit (Logged + 1) Made I (written_order S I address u Made Rec Commit Logged Order (slot_few t) Keeps Runs is.recorded.slot wrap_is) (keeps_own S I address u Made Rec Commit Logged Order (slot_few t) Keeps Runs is.recorded.slot wrap_is) runs_now in
      let number = values.number in
      let said = is.recorded.number in
      omega (arith, count, few, number, said)

  abbrev New : List ℕ
  New = block_of now u.home

  abbrev E : entries.Entry
  E = entry_after (record { seg = t / SLOTS; slot = t % SLOTS; wrap = u.wrap }) address (heap.home_entry Cleaned u.entry)

  abbrev C : cells.Cell
  C = cell_after kind u.key u.entry (heap.home_cell Cleaned u.cell)

  home_now : heap.home_of New ≡ heap.with_home_entry (heap.with_home_cell Cleaned u.cell C) u.entry E
  home_now = blocks.home_now shape before now past lives stand running t t_in adds kind address u home_in is

  abbrev Kept : KeepsHome Cleaned (block_of before u.home) (record { seg = t / SLOTS; slot = t % SLOTS; wrap = u.wrap }) adds kind u
  Kept = blocks.keeps shape before now past lives stand running t t_in adds kind address u home_in is

  cell_few : u.cell < CELLS
  cell_few = blocks.cell_few shape before now past lives stand running t t_in adds kind address u home_in is

  -- each entry and each cell of the block
  entry_own : itl.entry_at New u.entry ≡ E
  entry_own =
      sym (entry_read New u.entry itl.free_entry Kept.entry.within) ∙ ap (λ (h : heap.Home). get_or h.entries u.entry itl.free_entry) home_now
      ∙ get_or-set_same Cleaned.entries u.entry E itl.free_entry (let n = eight in let w = Kept.entry.within in omega (arith, n, w))
    where
      eight : length Cleaned.entries ≡ ENTRIES
      eight = blocks.eight shape before now past lives stand running t t_in adds kind address u home_in is

  entry_other : (i : ℕ) → i < ENTRIES → i ≢ u.entry → itl.entry_at New i ≡ heap.home_entry Cleaned i
  entry_other i few ne =
      sym (entry_read New i itl.free_entry few) ∙ ap (λ (h : heap.Home). get_or h.entries i itl.free_entry) home_now
      ∙ get_or-set_other Cleaned.entries u.entry i E itl.free_entry ne

  cell_own : cells_of.cell_at New u.cell ≡ C
  cell_own =
      sym (cell_read New u.cell heap.empty_cell cell_few) ∙ ap (λ (h : heap.Home). get_or h.cells u.cell heap.empty_cell) home_now
      ∙ get_or-set_same Cleaned.cells u.cell C heap.empty_cell (let n = sixteen in omega (arith, n, cell_few))
    where
      sixteen : length Cleaned.cells ≡ CELLS
      sixteen = blocks.sixteen shape before now past lives stand running t t_in adds kind address u home_in is

  cell_other : (c : ℕ) → c < CELLS → c ≢ u.cell → cells_of.cell_at New c ≡ heap.home_cell Cleaned c
  cell_other c few ne =
      sym (cell_read New c heap.empty_cell few) ∙ ap (λ (h : heap.Home). get_or h.cells c heap.empty_cell) home_now
      ∙ get_or-set_other Cleaned.cells u.cell c C heap.empty_cell ne

  abbrev Now : walk.Home
  Now = homes_of shape now u.home

  here_stands : HomeStands (says shape After) (made_by After) past.base (rows_here shape u.home past.rows) (map (narrow u.home) past.list) (map (here u.home) Longer) Now
  here_stands = subst (HomeStands (says shape After) (made_by After) past.base (rows_here shape u.home past.rows) (map (narrow u.home) past.list) (map (here u.home) Longer))
      (blocks.read_rows shape before now past lives stand running t t_in adds kind address u home_in is u.home home_in) (stands.homes_stand u.home home_in)

  -- the entry's chain is as long as the slot has live changes here
  chain_is : E.length ≡ suc (length (here u.home (own lives t)))
  chain_is =
      let f : (r : kinds.Undo) × Head (says shape After) t Made_change (suc (length (here u.home (own lives t)))) Now r = first (says shape After) (Walk (says shape After) past.base (rows_here shape u.home past.rows) (map (narrow u.home) past.list)) here_stands.m (map (here u.home) Longer) Now t Made_change (here u.home (own lives t)) has here_stands.tree in
      let one : Some f.0 ≡ Some (walk_undo shape G u) = sym f.1.there ∙ stored in
      let undo : f.0 ≡ walk_undo shape G u = cc in
      let entry : f.0.entry ≡ u.entry = ap (λ (r : kinds.Undo). r.entry) undo in
      let at : (walk.entry_at Now f.0.entry).chain ≡ E.length = ap (λ (z : ℕ). (walk.entry_at Now z).chain) entry ∙ (ap (λ (e : kinds.Entry). e.chain) (entry_here shape New u.entry Kept.entry.within) ∙ ap (λ (e : entries.Entry). e.length) entry_own) in
      sym at ∙ f.1.leads.chain
    where
      has : own (map (here u.home) Longer) t ≡ Made_change ∷ here u.home (own lives t)
      has = own_here u.home Longer t ∙ (ap (here u.home) (get_or-set_same lives t (Made_change ∷ own lives t) [] (omega (arith, t_in, stand.stands.slots_counted))) ∙ live_here u.home (own lives t) Made_change refl)

      found : record_in Made (S.header.writes + 1) ≡ Some u
      found = written_found S I address u Made Rec Commit Logged Order (slot_few t) Keeps Runs is.recorded.slot wrap_is

      stored : (says shape After).store (place_of shape address) ≡ Some (walk_undo shape G u)
      stored = subst (λ (z : Place). (says shape After).store z ≡ Some (walk_undo shape G u)) (sym values.place) (subst (λ (z : Segment). walk_record shape G (record_in z (S.header.writes + 1)) ≡ Some (walk_undo shape G u)) (sym after_own) (ap (walk_record shape G) found))

  wraps_rise : (g i : ℕ) → wraps_of Segs g i ≤ wraps_of After g i
  wraps_rise = blocks.wraps_rise shape before now past lives stand running t t_in adds kind address u home_in is

  entry_sound : IsEntrySound shape Commit (wraps_of After) E
  entry_sound =
      let given : wraps_of After G I ≡ u.wrap = ap (λ (z : Segment). (slot_in z.header I).wrap) after_own ∙ sym wrap_is in
      let some = runs_now.wrap in
      let few = here_few u.home (own lives t) in
      let length = chain_is in
      let most = lives_few in
      entry_made shape Commit (wraps_of After) (record { seg = t / SLOTS; slot = t % SLOTS; wrap = u.wrap }) address (heap.home_entry Cleaned u.entry) g_in (slot_few t) (omega (arith, wrap_is, some)) (omega (arith, given)) (omega (arith, few, length, most))

  cell_sound : IsCellSound shape (u.home % shape.blocks) C
  cell_sound = cell_made shape (u.home % shape.blocks) kind u.key u.entry (heap.home_cell Cleaned u.cell) key_here (λ held. keyed held Kept.cell.way) (clean.cell_in_order shape before past lives stand u.home home_in u.cell cell_few)
    where
      keyed : kind ≡ Held → (heap.IsFirst (heap.is_keyed u.key) Cleaned.cells u.cell ⊎ ((adds ≡ true) × heap.IsNowhere (heap.is_keyed u.key) Cleaned.cells × heap.IsFirst heap.is_free Cleaned.cells u.cell)) → heap.is_keyed u.key (heap.home_cell Cleaned u.cell) ≡ true
      keyed held (inl there) = there.passes
      keyed held (inr none) = absurd (false≢true (sym (Kept.held held) ∙ none.0))

  -- the tests of an opening on the block, and on all blocks of rows
  sound_here : IsHomeSound shape Commit (wraps_of After) (u.home % shape.blocks) New
  sound_here =
      home_sound shape New Commit (wraps_of After) (u.home % shape.blocks)
      (λ i few. elim (cases_eq i u.entry) [
        | inl at ↦ subst (IsEntrySound shape Commit (wraps_of After)) (sym (ap (itl.entry_at New) at ∙ entry_own)) entry_sound
        | inr ne ↦ subst (IsEntrySound shape Commit (wraps_of After)) (sym (entry_other i few ne)) (entry_later shape Commit Commit (wraps_of Segs) (wraps_of After) (heap.home_entry Cleaned i) (omega arith) wraps_rise (clean.entry_in_order shape before past lives stand u.home home_in i few))
      ])
      (λ c few. elim (cases_eq c u.cell) [
        | inl at ↦ subst (IsCellSound shape (u.home % shape.blocks)) (sym (ap (cells_of.cell_at New) at ∙ cell_own)) cell_sound
        | inr ne ↦ subst (IsCellSound shape (u.home % shape.blocks)) (sym (cell_other c few ne)) (clean.cell_in_order shape before past lives stand u.home home_in c few)
      ])
      (is.short (clean.block_sound shape before past lives stand u.home home_in).cells.values) here_stands.unique here_stands.locks

  abbrev Is : ℕ → Type 0
  Is = blocks.Is shape before now past lives stand running t t_in adds kind address u home_in is

  within : (b : ℕ) → Is b → b < shape_blocks shape
  within = blocks.within shape before now past lives stand running t t_in adds kind address u home_in is

  sound_all : (b : ℕ) → b < table_blocks shape → IsHomeSound shape Commit (wraps_of After) (b % shape.blocks) (block_of now b)
  sound_all b b_in = elim (cases_eq b u.home) [
    | inl at ↦ subst (λ (z : ℕ). IsHomeSound shape Commit (wraps_of After) (z % shape.blocks) (block_of now z)) (sym at) sound_here
    | inr ne ↦ stays_sound shape Is before now is.group within past lives stand Commit After (omega arith) wraps_rise b b_in (blocks.row_stays shape before now past lives stand running t t_in adds kind address u home_in is b b_in ne)
  ]

  pub moved : segments_of shape now ≡ After
  moved = blocks.moved shape before now past lives stand running t t_in adds kind address u home_in is

  scn_written : commit_scn shape now ≡ Commit
  scn_written = scn_same shape before now (λ v v_in.
      ap (λ (z : ℕ → Segment). (slot_of z v).newest) moved
      ∙ moves.newest_same Segs After t Made (λ g. refl) (other_slot_same S I address u Made Rec Commit Logged Order (slot_few t) Keeps Runs is.recorded.slot wrap_is) (newest_same S I address u Made Rec Commit Logged Order (slot_few t) Keeps Runs is.recorded.slot wrap_is I) v)

  pub write_moves : HasRoomFor shape before t → (past2 : Past) (lives2 : List (List Change)) → past2.rows ≡ past.rows → StandingAs shape Commit (Logged + 1) After Homes2 past2 lives2 → Standing shape now past2 lives2
  write_moves room past2 lives2 rows now_stands =
      let rise : owed shape After ≡ owed shape Segs + (if (slot_of Segs t).state == 1 then 1 else 2) = owed_written shape Commit Logged Segs (homes_of shape before) past lives stand.stands t t_in running After Homes2 kind address u values in
      let fits : logged_of shape before + 1 + owed shape Segs + (if (slot_of Segs t).state == 1 then 1 else 2) ≤ 2 ^ 60 + 2 ^ 13 = room in
      moved_stands shape Is before now is.group within past lives stand Commit After Homes2 past2 lives2 scn_written moved
      (λ b b_in. sym (blocks.read_rows shape before now past lives stand running t t_in adds kind address u home_in is b b_in))
      sound_all (omega (arith, rise, fits)) rows now_stands
