-- What the blocks of a file say of a write is one as values: a record in its segment, and a home that has the change.
use Rattle.std.proofs.Common.{◌≡◌, ◌≢◌, ◌⊎◌, ◌<◌, ◌≤◌, ◌+◌, ◌*◌, ◌/◌, ◌%◌, inl, inr, ℕ, suc, Bool, List, length, nat_lt, if◌then◌else◌, refl, sym, ◌∙◌, ap, subst, arith}
use Rattle.std.proofs.lemmas.Bool.{cases_eq, cases_lt, cond-true, cond-false}
use Rattle.std.proofs.lemmas.Bool.Decides.{nat_tests}
use Rattle.std.proofs.lemmas.List.{length-map}
use Rattle.std.proofs.Math.Nat.{div-add-mod}
use Rattle.rb_base.specs.declared.sizes.TheConstants.{SLOTS}
use Rattle.rb_itl.specs.declared.slots.TheConstants.{ENTRIES}
use Rattle.rb_cell.specs.declared.cell.TheConstants.{CELLS}
use Rattle.rb_base.specs.Blocks.{block_of, header_block, shape_blocks, table_blocks}
use Rattle.rb_base.specs.declared.ids.Uba.{Uba}
use Rattle.rb_base.specs.declared.ids.Xid.{Xid}
use Rattle.rb_base.specs.declared.shape.Shape.{Shape}
use Rattle.rb_heap.specs.Cleaning.{cleaned_cell, cleaned_entry}
use Rattle.rb_heap.specs.Homes as heap
use Rattle.rb_heap.specs.Soundness.{IsEntrySound, IsCellSound}
use Rattle.rb_heap.proofs.Reading.{entries_counted, cells_counted}
use Rattle.rb_model.specs.Change.{Kind, Place}
use Rattle.rb_segment.specs.Header.{Segment, SegmentInOrder, head_turn, slot_in}
use Rattle.rb_segment.specs.Moves.{Records, with_segment}
use Rattle.rb_segment.specs.Running.{KeepsRecords, RunningSlot}
use Rattle.rb_segment.specs.Segments.{commit_scn}
use Rattle.law_blocks.specs.Says.{place_of, walk_home, walk_undo, xid_by}
use Rattle.law_blocks.specs.Standing.{Standing, env_of, homes_of, logged_of, segments_of}
use Rattle.law_blocks.specs.Values.{IsSaved, Past, Running, SlotStands, wraps_of}
use Rattle.law_blocks.specs.Writes.{Chooses, IsWriter, Reads, Written}
use Rattle.law_blocks.specs.Writing.{IsNotHeld, IsWritten, KeepsHome, home_after}
use Rattle.law_blocks.proofs.Addresses.{next_place_is}
use Rattle.law_blocks.proofs.Choosing.{chosen_reads}
use Rattle.law_blocks.proofs.CleanedSound as clean
use Rattle.law_blocks.proofs.Group.{block_stays}
use Rattle.law_blocks.proofs.HomeChosen as chosen
use Rattle.law_blocks.proofs.Listed.{entry_later}
use Rattle.law_blocks.proofs.Seen.{one_xid}
use Rattle.law_blocks.proofs.SegmentRead.{home_stays}
use Rattle.law_blocks.proofs.SegmentRecorded as segment
use Rattle.law_blocks.proofs.StandingWritten.{keeps_of, running_of, slot_few}
use Rattle.rb_segment.proofs.Recording.{RoomIs}
use Rattle.rb_segment.proofs.SegmentWritten.{own_slot, slot_claimed, wraps_up, written_address}
use Rattle.rb_segment.proofs.WithSegment.{at_segment, off_segment}
use Rattle.rb_txntable.specs.declared.slots.TableSlot.{TableSlot}
use Rattle.rb_undoblock.specs.declared.record.UndoRecord.{UndoRecord}
use Rattle.law_home.specs.Steps.{cleaned}
use Rattle.law_home.specs.Walk.{Change, Home, own}
use Rattle.law_home.specs.Writes.{written}

module _ (shape : Shape) (before now : List (List ℕ)) (past : Past) (lives : List (List Change)) (stand : Standing shape before past lives) (running : Running shape (segments_of shape before)) (t : ℕ) (t_in : t < SLOTS * shape.segments) (adds : Bool) (kind : Kind) (address : Uba) (u : UndoRecord) (home_in : u.home < table_blocks shape) (is : IsWritten shape t adds kind address u before now) where
  abbrev G : ℕ
  G = t / SLOTS

  abbrev I : ℕ
  I = t % SLOTS

  abbrev Segs : ℕ → Segment
  Segs = segments_of shape before

  abbrev S : Segment
  S = Segs G

  abbrev Commit : ℕ
  Commit = commit_scn shape before

  abbrev Logged : ℕ
  Logged = logged_of shape before

  abbrev pub Is : ℕ → Type 0
  Is x = (x ≡ u.home) ⊎ (x ≡ header_block shape (t / SLOTS)) ⊎ (x ≡ address.block)

  g_in : G < shape.segments
  g_in = let a = div-add-mod t SLOTS in omega (arith, a, t_in)

  pub order : SegmentInOrder Commit Logged S
  order = stand.stands.in_order G g_in

  pub keeps_records : (j : ℕ) → (slot_in S.header j).state ≡ 1 → KeepsRecords S j
  keeps_records = keeps_of shape Commit Logged Segs (homes_of shape before) past lives stand.stands running G g_in

  pub runs : (j : ℕ) → (slot_in S.header j).state ≡ 1 → RunningSlot S.header (slot_in S.header j)
  runs = running_of shape Commit Logged Segs (homes_of shape before) past lives stand.stands running G g_in

  -- the segment with the record
  abbrev pub Made : Segment
  Made = segment.Made shape t address u before now Commit Logged order is.recorded

  abbrev pub After : ℕ → Segment
  After = with_segment G Made Segs

  stays : (b : ℕ) → (Is b → ⊥) → block_of now b ≡ block_of before b
  stays b not = block_stays shape Is before now is.group b not

  pub row_stays : (b : ℕ) → b < table_blocks shape → b ≢ u.home → (Is b → ⊥)
  row_stays b b_in ne at = let a = segment.address_within shape t address u before now Commit Logged order is.recorded in elim at [
    | inl home ↦ ne home
    | inr other ↦ elim other [ inl head ↦ omega (arith, head, b_in) | inr undo ↦ omega (arith, undo, b_in, a) ]
  ]

  pub within : (b : ℕ) → Is b → b < shape_blocks shape
  within b at = let a = segment.address_within shape t address u before now Commit Logged order is.recorded in elim at [
    | inl home ↦ omega (arith, home, home_in)
    | inr other ↦ elim other [ inl head ↦ omega (arith, head, g_in) | inr undo ↦ omega (arith, undo, g_in, a) ]
  ]

  pub moved : segments_of shape now ≡ After
  moved = segment.segments_recorded shape t address u before now Commit Logged order is.recorded (λ b behind no_head no_undo. stays b (λ at. elim at [
    | inl home ↦ omega (arith, home, home_in, behind)
    | inr other ↦ elim other [ inl head ↦ no_head head | inr undo ↦ no_undo undo ]
  ]))

  after_own : After G ≡ Made
  after_own = at_segment G Made Segs

  pub wraps_rise : (g i : ℕ) → wraps_of Segs g i ≤ wraps_of After g i
  wraps_rise g i = elim (cases_eq g G) [
    | inl at ↦ subst (λ (z : ℕ). wraps_of Segs z i ≤ wraps_of After z i) (sym at) (subst (λ (z : Segment). (slot_in S.header i).wrap ≤ (slot_in z.header i).wrap) (sym after_own)
        (wraps_up S I address u Made (segment.recorded shape t address u before now Commit Logged order is.recorded) Commit Logged order (slot_few t) keeps_records runs is.recorded.slot (segment.made_wrap shape t address u before now Commit Logged order is.recorded) i))
    | inr off ↦ let a : wraps_of After g i ≡ wraps_of Segs g i = ap (λ (z : Segment). (slot_in z.header i).wrap) (off_segment G g Made Segs off) in omega (arith, a)
  ]

  -- the home, cleaned as the headers said before
  abbrev pub Cleaned : heap.Home
  Cleaned = clean.Cleaned shape before past lives stand u.home home_in

  abbrev pub X : Xid
  X = record { seg = t / SLOTS; slot = t % SLOTS; wrap = u.wrap }

  pub keeps : KeepsHome Cleaned (block_of before u.home) X adds kind u
  keeps = subst (λ (z : Xid). KeepsHome Cleaned (block_of before u.home) z adds kind u) is.xid_is is.keeps

  pub home_now : heap.home_of (block_of now u.home) ≡ home_after kind X address u Cleaned
  home_now = is.home ∙ ap (λ (z : Xid). home_after kind z address u Cleaned) is.xid_is

  pub eight : length Cleaned.entries ≡ ENTRIES
  eight = length-map (heap.home_of (block_of before u.home)).entries (cleaned_entry (env_of shape before).look) ∙ entries_counted (block_of before u.home)

  pub sixteen : length Cleaned.cells ≡ CELLS
  sixteen = length-map (heap.home_of (block_of before u.home)).cells (cleaned_cell (env_of shape before).look (heap.home_of (block_of before u.home))) ∙ cells_counted (block_of before u.home)

  undo_xid : (walk_undo shape G u).xid ≡ X
  undo_xid = one_xid (walk_undo shape G u).xid X refl is.recorded.slot refl

  pub cell_few : u.cell < CELLS
  cell_few = chosen.cell_few shape u.home Cleaned eight sixteen G X adds kind (block_of before u.home) u keeps undo_xid

  abbrev pub Rec : Records S I address u Made
  Rec = segment.recorded shape t address u before now Commit Logged order is.recorded

  pub wrap_is : u.wrap ≡ (slot_in Made.header I).wrap
  wrap_is = segment.made_wrap shape t address u before now Commit Logged order is.recorded

  pub xid_after : xid_by After t ≡ X
  xid_after = one_xid (xid_by After t) X refl refl (ap (λ (z : Segment). (slot_in z.header I).wrap) after_own ∙ sym wrap_is)

  -- the record counts the slot's live changes
  number : u.number ≡ suc (length (own lives t))
  number =
      let before_it : SlotStands shape Commit (wraps_of Segs) G S I (own lives t) = stand.stands.slots t t_in in
      let said = is.recorded.number in
      elim Rec.is_ready [
        | inl mine ↦
            let a : (slot_in is.recorded.ready I).live ≡ (slot_in S.header I).live = ap (λ (z : Segment). (slot_in z.header I).live) mine.1 in
            let b = (before_it.active mine.0).count in
            omega (arith, said, a, b)
        | inr free ↦
            let a : (slot_in is.recorded.ready I).live ≡ 0 = ap (λ (z : TableSlot). z.live) (slot_claimed S I address u Made Rec Commit Logged order (slot_few t) keeps_records runs is.recorded.slot wrap_is free.0 free.1) in
            let b : length (own lives t) ≡ 0 = ap length (before_it.idle free.0) in
            omega (arith, said, a, b)
      ]

  -- the transaction runs, or takes its slot by the write
  writer : IsWriter Segs X
  writer =
      let slot = own_slot S I address u Made Rec Commit Logged order (slot_few t) keeps_records runs is.recorded.slot wrap_is in
      let ready : (slot_in Made.header I).wrap ≡ (slot_in is.recorded.ready I).wrap = ap (λ (z : TableSlot). z.wrap) slot in
      elim Rec.is_ready [
        | inl mine ↦
            let a : (slot_in is.recorded.ready I).wrap ≡ (slot_in S.header I).wrap = ap (λ (z : Segment). (slot_in z.header I).wrap) mine.1 in
            inl (t, one_xid X (xid_by Segs t) refl refl (wrap_is ∙ (ready ∙ a)), mine.0)
        | inr free ↦
            let a : (slot_in is.recorded.ready I).wrap ≡ (slot_in S.header I).wrap + 1 = ap (λ (z : TableSlot). z.wrap) (slot_claimed S I address u Made Rec Commit Logged order (slot_few t) keeps_records runs is.recorded.slot wrap_is free.0 free.1) in
            inr (omega (arith, wrap_is, ready, a))
      ]

  -- what the record keeps could be written back
  saved : IsSaved shape Commit (wraps_of After) u
  saved = record {
    there = home_in;
    entry = keeps.entry.within;
    cell = cell_few;
    entry_sound = subst (IsEntrySound shape Commit (wraps_of After)) (sym keeps.entry_before) (entry_later shape Commit Commit (wraps_of Segs) (wraps_of After) (heap.home_entry Cleaned u.entry) (omega arith) wraps_rise (clean.entry_in_order shape before past lives stand u.home home_in u.entry keeps.entry.within));
    cell_sound = subst (IsCellSound shape (u.home % shape.blocks)) (sym keeps.cell_before) (clean.cell_in_order shape before past lives stand u.home home_in u.cell cell_few);
    value = let a = keeps.length in let b = (clean.block_sound shape before past lives stand u.home home_in).cells.values u.cell cell_few in omega (arith, a, b);
  }

  -- the homes as values: the blocks behind those of rows are read as they were
  abbrev pub Homes2 : ℕ → Home
  Homes2 k = if nat_lt k (table_blocks shape) then homes_of shape now k else homes_of shape before k

  pub read_rows : (b : ℕ) → b < table_blocks shape → Homes2 b ≡ homes_of shape now b
  read_rows b b_in = cond-true (nat_lt b (table_blocks shape)) (homes_of shape now b) (homes_of shape before b) (grind (arith, nat_tests))

  module _ (free : IsNotHeld Cleaned X u.key) where
    reads : Reads kind (walk_undo shape G u) X (cleaned (env_of shape before) (homes_of shape before u.home))
    reads = chosen_reads shape Segs (homes_of shape before) past lives stand.stands.homes_stand u.home home_in X writer kind (walk_undo shape G u)
        (subst (Chooses kind (walk_undo shape G u) X) (clean.home_walked shape before past lives stand u.home home_in)
        (chosen.chooses shape u.home Cleaned eight sixteen G X adds kind (block_of before u.home) u keeps undo_xid (u.home % shape.blocks) refl (clean.cell_in_order shape before past lives stand u.home home_in) free))

    pub written_values : Written shape Commit Segs After (homes_of shape before) Homes2 lives t kind address u
    written_values = record {
      segment = Made;
      records = Rec;
      others = λ g. refl;
      slot = is.recorded.slot;
      wrap = wrap_is;
      number = number;
      previous = is.recorded.previous;
      there = let a : address.ord ≡ head_turn is.recorded.room = ap (λ (z : Uba). z.ord) is.recorded.at in omega (arith, a, room.ring.second);
      given = written_address S I address u Made Rec Commit Logged order (slot_few t) keeps_records runs is.recorded.slot wrap_is shape G is.recorded.at;
      place = ap (place_of shape) is.recorded.at ∙ (next_place_is shape G is.recorded.room room.ring room.few ∙ ap (λ (z : ℕ). let p : Place = record { seg = G; index = z + 1 } in p) room.writes);
      saved = saved;
      reads = subst (λ (z : Xid). Reads kind (walk_undo shape G u) z (cleaned (env_of shape before) (homes_of shape before u.home))) (sym xid_after) reads;
      home = read_rows u.home home_in ∙ (ap (walk_home shape u.home) home_now
          ∙ (chosen.home_changed shape u.home Cleaned eight sixteen G X adds kind (block_of before u.home) u keeps undo_xid address
          ∙ ap (written kind (walk_undo shape G u) (place_of shape address)) (clean.home_walked shape before past lives stand u.home home_in)));
      homes_same = λ b ne. elim (cases_lt b (table_blocks shape)) [
        | inl lt ↦ read_rows b lt ∙ home_stays shape before now b (stays b (row_stays b lt ne))
        | inr le ↦ cond-false (nat_lt b (table_blocks shape)) (homes_of shape now b) (homes_of shape before b) (grind (arith, nat_tests))
      ];
    }
      where
        room : RoomIs (λ j. ⊥) S (segment.Room shape t address u before now Commit Logged order is.recorded)
        room = segment.room shape t address u before now Commit Logged order is.recorded
