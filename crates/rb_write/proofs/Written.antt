-- What the group of a write makes of the blocks of a file.
use Rattle.std.proofs.Common.{◌-◌, ◌≡◌, ◌≢◌, ◌⊎◌, ℕ, ◌+◌, ◌*◌, ◌/◌, ◌%◌, ◌<◌, ◌≤◌, ◌==◌, Bool, true, false, List, [], ◌∷◌, ◌++◌, length, take, drop, refl, arith, append_assoc, ap, sym, subst, ◌∙◌, inl, inr, Option, None, Some}
use Rattle.std.proofs.lemmas.Bool.{eq-eqb, ne_eqb}
use Rattle.std.proofs.lemmas.List.{drop-drop, drop-take, length-append}
use Rattle.std.specs.List.{AllByRecursion}
use Rattle.rb_undoblock.specs.declared.record.TheConstants.{UNDO_BYTES, UNDO_RECORDS}
use Rattle.rb_ring.specs.declared.extents.TheConstants.{EXTENT_RECORDS}
use Rattle.rb_itl.specs.declared.slots.TheConstants.{ENTRIES}
use Rattle.rb_cell.specs.declared.cell.TheConstants.{CELLS, CELL_BYTES, LENGTH_AT}
use Rattle.rb_base.specs.declared.sizes.TheConstants.{BLOCK_HEAD, SEGMENT_BLOCKS, SLOTS, UNIT}
use Rattle.byteorder.specs.Endian.{big_number}
use Rattle.byteorder.specs.Numbers.{big_from-take}
use Rattle.rb_base.proofs.Blocks.{block_long}
use Rattle.rb_base.proofs.Each.{all_so}
use Rattle.rb_base.proofs.OneBlock.{one_block}
use Rattle.rb_base.specs.Blocks.{after_group, behind_head, block_of, header_block, home_block, shape_blocks, table_blocks, written_to, AreBlocks, StaysBehind}
use Rattle.rb_base.specs.Fields.{number_at, part}
use Rattle.rb_base.specs.Groups.{Patch, IsPatch}
use Rattle.rb_base.specs.declared.ids.Uba.{Uba}
use Rattle.rb_base.specs.declared.ids.Xid.{Xid}
use Rattle.rb_base.specs.declared.shape.Shape.{Shape}
use Rattle.rb_cell.proofs.CellBytes.{cell_size}
use Rattle.rb_cell.specs.Cells.{cell_place, value_length, with_cell}
use Rattle.rb_cell.specs.declared.cell.Cell.{Cell}
use Rattle.rb_cleanout.proofs.Copies.{all_joined, written_on}
use Rattle.rb_cleanout.proofs.Grouped.{of_block}
use Rattle.rb_heap.proofs.Blocks.{home_after as home_grouped}
use Rattle.rb_heap.proofs.Lengths.{length_behind, length_cleaned, length_entry, short_cell}
use Rattle.rb_heap.proofs.Patching.{cell_written, entry_written}
use Rattle.rb_heap.proofs.Reading.{cell_read, entry_read}
use Rattle.rb_heap.specs.Choices.{IsEntryChoice}
use Rattle.rb_heap.specs.Cleaning.{cleaned_home, IsCleanPatch}
use Rattle.rb_heap.specs.Homes.{Home, empty_cell, home_cell, home_entry, home_of, home_patches, with_home_cell, with_home_entry}
use Rattle.rb_heap.specs.Soundness.{StaysShort}
use Rattle.rb_itl.specs.Entries.{free_entry, with_entry}
use Rattle.rb_itl.specs.declared.slots.Entry.{Entry}
use Rattle.rb_model.specs.Change.{Held}
use Rattle.rb_model.specs.declared.op.Op.{Op}
use Rattle.rb_model.specs.declared.op.Op.TheVariants.{Insert, Update, Put, Delete}
use Rattle.rb_segment.proofs.HeaderAfter.{header_after}
use Rattle.rb_segment.specs.Calls.{AddedAs, HasTurned, IsYoungAt, Runs, record_patches}
use Rattle.rb_segment.specs.Header.{Header, header_of}
use Rattle.law_blocks.specs.Standing.{env_of, logged_of}
use Rattle.law_blocks.specs.Writing.{cell_after, entry_after, home_after, AreOfChange, AreOfReady, IsCellChoice, IsHeaderReady, IsRecorded, IsWritten, KeepsHome}
use Rattle.rb_undoblock.proofs.Places.{others_kept, own_read}
use Rattle.rb_undoblock.specs.Undo.{undo_at, undo_of, with_undo}
use Rattle.rb_undoblock.specs.declared.record.UndoRecord.{UndoRecord}
use Rattle.rb_write.proofs.Headers.{room_is}
use Rattle.rb_write.specs.Asks.{adds_for, adds_in, adds_row, header_in, kind_of, shows_row}
use Rattle.rb_write.specs.Making.{Changes, IsUndoOf}
use Rattle.rb_write.specs.declared.ask.Ask.{Ask}
use Rattle.rb_write.specs.declared.home.Place.{Place}

-- A cell's 92 bytes tell the length of its value.
value_of_cell : (block : List ℕ) (c : ℕ) → number_at (part block (cell_place c) CELL_BYTES) 2 2 ≡ value_length block c
unfolding value_length
value_of_cell block c =
    let rest = drop (cell_place c) block in
    ap (big_number 2) (drop-take 2 (CELL_BYTES - LENGTH_AT) rest) ∙ big_from-take 0 2 (CELL_BYTES - LENGTH_AT) (drop 2 rest) (omega arith) ∙ ap (big_number 2) (drop-drop 2 (cell_place c) block)

-- patches of other blocks write nothing over this one
untouched : (which : ℕ) (ps : List Patch) (copy : List ℕ) → AllByRecursion (λ p. p.block ≢ which) ps → written_to which ps copy ≡ copy
untouched which [] copy each = refl
untouched which (p ∷ ps) copy each = rw (ne_eqb p.block which each.0) (untouched which ps copy each.1)

-- All that the parts of a write say, as one fact on the transaction.
pub record Prepared (shape : Shape) (blocks : List (List ℕ)) (ask : Ask) (p : Place) (group : List Patch) (x : Xid) : Type 0 where
  pub are : AreBlocks shape blocks
  pub there : p.block ≡ home_block shape ask.table ask.key
  pub of_rows : p.block < table_blocks shape
  pub entry : p.entry < ENTRIES
  pub cell : p.cell < CELLS
  pub seg : x.seg < shape.segments
  pub valid : AllByRecursion IsPatch group
  pub copy : List ℕ
  pub cleaning : List Patch
  pub cleans : AllByRecursion (IsCleanPatch p.block) cleaning
  pub copied : copy ≡ written_to p.block cleaning (block_of blocks p.block)
  pub long : length copy ≡ UNIT
  pub cleaned : home_of copy ≡ cleaned_home (env_of shape blocks).look (home_of (block_of blocks p.block))
  pub header : List ℕ
  pub taking : List Patch
  pub takes : AreOfReady (header_block shape x.seg) x.slot (header_of header) taking
  pub taken : header ≡ written_to (header_block shape x.seg) taking (block_of blocks (header_block shape x.seg))
  pub runs : Runs (header_of header) x
  pub ready : IsHeaderReady (header_in shape blocks x.seg) x.slot (header_of header)
  pub young : IsYoungAt (header_of header) x.slot
  pub header2 : List ℕ
  pub changes : Changes shape ask x p copy header header2 (cleaning ++ taking) group
  pub choice : IsEntryChoice (home_entry (home_of copy)) x p.entry
  pub place : IsCellChoice (home_of copy) (adds_in (home_of copy) ask) ask.key p.cell

-- An undo record is read behind the head alone.
undo_same : (one other : List ℕ) (r : ℕ) → behind_head one ≡ behind_head other → undo_at one r ≡ undo_at other r
unfolding undo_at
undo_same one other r same = ap (λ (l : List ℕ). undo_of (take UNDO_BYTES l)) (sym (drop-drop (UNDO_BYTES * r) BLOCK_HEAD one) ∙ ap (drop (UNDO_BYTES * r)) same ∙ drop-drop (UNDO_BYTES * r) BLOCK_HEAD other)

-- What turns patches the header alone,
turn_blocks : (block : ℕ) (h room : Header) (before : List Patch) → HasTurned block h room before → AllByRecursion (λ (q : Patch). q.block ≡ block) before
turn_blocks block h room before turned = elim turned [
  | inl same ↦ subst (AllByRecursion (λ (q : Patch). q.block ≡ block)) (sym same.2) tt
  | inr turn ↦ subst (AllByRecursion (λ (q : Patch). q.block ≡ block)) (sym turn.3) (refl, (refl, (refl, tt)))
]

-- and so does what takes a slot
pub ready_blocks : (block i : ℕ) (ready : Header) (taking : List Patch) → AreOfReady block i ready taking → AllByRecursion (λ (q : Patch). q.block ≡ block) taking
ready_blocks block i ready taking takes = elim takes [
  | inl none ↦ subst (AllByRecursion (λ (q : Patch). q.block ≡ block)) (sym none) tt
  | inr claims ↦ subst (AllByRecursion (λ (q : Patch). q.block ≡ block)) (sym claims) (refl, (refl, tt))
]

-- A turn leaves a head that there is, and room.
turn_place : (block : ℕ) (h room : Header) (before : List Patch) → h.head < 8 → HasTurned block h room before → (room.head < 8) × (room.records < EXTENT_RECORDS)
turn_place block h room before few turned = elim turned [
  | inl same ↦ subst (λ (k : Header). (k.head < 8) × (k.records < EXTENT_RECORDS)) (sym same.1) (few, same.0)
  | inr turn ↦ subst (λ (k : Header). (k.head < 8) × (k.records < EXTENT_RECORDS)) (sym turn.2) (turn.1.within, omega arith)
]

-- what holds a row as it is adds none
held_adds_none : (op : Option Op) (present : Bool) → kind_of op ≡ Held → adds_row op present ≡ false
held_adds_none (Some (Insert value)) present is = absurd cc
held_adds_none (Some (Update value)) present is = refl
held_adds_none (Some (Put value)) present is = absurd cc
held_adds_none (Some Delete) present is = refl
held_adds_none None present is = refl

-- what the record keeps, of the copy that the change finds
module _ (copy : List ℕ) (h : Header) (ask : Ask) (x : Xid) (p : Place) (u : UndoRecord) (of : IsUndoOf copy h ask x p u) where
  keeps_copy : (block : List ℕ) → p.entry < ENTRIES → p.cell < CELLS → IsEntryChoice (home_entry (home_of copy)) x p.entry → IsCellChoice (home_of copy) (adds_in (home_of copy) ask) ask.key p.cell
      → value_length copy p.cell ≡ value_length block p.cell → KeepsHome (home_of copy) block x (adds_in (home_of copy) ask) (kind_of ask.op) u
  keeps_copy block few fewer choice place same = record {
    sort = of.sort;
    held = held_adds_none ask.op (shows_row (home_of copy) ask.key);
    entry = rw of.entry choice;
    cell = rw (of.key, of.cell) place;
    entry_before = rw (of.entry_before, of.entry) (sym (entry_read copy p.entry free_entry few));
    cell_before = rw (of.cell_before, of.cell) (sym (cell_read copy p.cell empty_cell fewer));
    length = rw (of.cell_before, of.cell) (value_of_cell copy p.cell ∙ same);
  }

  -- and the home with the change
  changed : (a : Uba) (cell : Cell) (entry : Entry) → cell ≡ cell_after (kind_of ask.op) ask.key p.entry (home_cell (home_of copy) p.cell) → entry ≡ entry_after x a (home_entry (home_of copy) p.entry)
      → with_home_entry (with_home_cell (home_of copy) p.cell cell) p.entry entry ≡ home_after (kind_of ask.op) x a u (home_of copy)
  changed a cell entry cell_is entry_is = rw (of.cell, of.entry, of.key, cell_is, entry_is) refl

  -- by these patches
  home_part : (a : Uba) (cell : Cell) (entry : Entry) → cell ≡ cell_after (kind_of ask.op) ask.key p.entry (home_cell (home_of copy) p.cell) → entry ≡ entry_after x a (home_entry (home_of copy) p.entry)
      → home_patches p.block p.cell cell p.entry entry ≡ home_patches u.home u.cell (cell_after (kind_of ask.op) u.key u.entry (home_cell (home_of copy) u.cell)) u.entry (entry_after x a (home_entry (home_of copy) u.entry))
  home_part a cell entry cell_is entry_is = rw (of.home, of.cell, of.entry, of.key, cell_is, entry_is) refl

module _ (shape : Shape) (blocks : List (List ℕ)) (ask : Ask) (p : Place) (group : List Patch) (x : Xid) (number : ℕ) (pr : Prepared shape blocks ask p group x) where
  abbrev hb : ℕ
  hb = header_block shape x.seg

  abbrev u : UndoRecord
  u = pr.changes.undo

  abbrev a : Uba
  a = pr.changes.address

  abbrev last : List Patch
  last = home_patches p.block p.cell pr.changes.cell p.entry pr.changes.entry

  abbrev now : List (List ℕ)
  now = after_group number group blocks

  taking_blocks : AllByRecursion (λ (q : Patch). q.block ≡ hb) pr.taking
  taking_blocks = ready_blocks hb x.slot (header_of pr.header) pr.taking pr.takes

  -- the group's patches, part by part
  parts : (which : ℕ) (copy : List ℕ) → written_to which group copy ≡ written_to which last (written_to which pr.changes.patches (written_to which pr.taking (written_to which pr.cleaning copy)))
  parts which copy =
      ap (λ (l : List Patch). written_to which l copy) pr.changes.group ∙ written_on which (pr.cleaning ++ pr.taking ++ pr.changes.patches) last copy
      ∙ ap (written_to which last) (written_on which (pr.cleaning ++ pr.taking) pr.changes.patches copy ∙ ap (written_to which pr.changes.patches) (written_on which pr.cleaning pr.taking copy))

  -- the record's block is one of its segment's, behind the header
  record_place : (hb < a.block) × (a.block < hb + SEGMENT_BLOCKS) × (a.rec < UNDO_RECORDS)
  record_place =
      let few = turn_place hb (header_of pr.header) pr.changes.recorded.room pr.changes.recorded.before pr.young.head pr.changes.recorded.has_turned in
      let block = ap (λ (u : Uba). u.block) pr.changes.recorded.at in
      let rec = ap (λ (u : Uba). u.rec) pr.changes.recorded.at in
      (omega (arith, block), omega (arith, block, few.0, few.1), omega (arith, rec))

  stay : AllByRecursion StaysBehind group
  stay = all_so IsPatch StaysBehind group (λ q is. record { behind_head = is.behind_head; within_block = is.within_block }) pr.valid

  clean_elsewhere : (which : ℕ) → p.block ≢ which → (copy : List ℕ) → written_to which pr.cleaning copy ≡ copy
  clean_elsewhere which differ copy = untouched which pr.cleaning copy (all_so (IsCleanPatch p.block) (λ (q : Patch). q.block ≢ which) pr.cleaning (λ q is same. differ (sym (of_block p.block q is) ∙ same)) pr.cleans)

  take_elsewhere : (which : ℕ) → hb ≢ which → (copy : List ℕ) → written_to which pr.taking copy ≡ copy
  take_elsewhere which differ copy = untouched which pr.taking copy (all_so (λ (q : Patch). q.block ≡ hb) (λ (q : Patch). q.block ≢ which) pr.taking (λ q is same. differ (sym is ∙ same)) taking_blocks)

  last_elsewhere : (which : ℕ) → p.block ≢ which → (copy : List ℕ) → written_to which last copy ≡ copy
  last_elsewhere which differ copy = untouched which last copy (differ, (differ, tt))

  -- what adds the record
  add_blocks : AllByRecursion (λ (q : Patch). (q.block ≡ hb) ⊎ (q.block ≡ a.block)) pr.changes.patches
  add_blocks =
      let before = all_so (λ (q : Patch). q.block ≡ hb) (λ (q : Patch). (q.block ≡ hb) ⊎ (q.block ≡ a.block)) pr.changes.recorded.before (λ q is. inl is) (turn_blocks hb (header_of pr.header) pr.changes.recorded.room pr.changes.recorded.before pr.changes.recorded.has_turned) in
      subst (AllByRecursion (λ (q : Patch). (q.block ≡ hb) ⊎ (q.block ≡ a.block))) (sym pr.changes.recorded.patched)
      (all_joined (λ (q : Patch). (q.block ≡ hb) ⊎ (q.block ≡ a.block)) pr.changes.recorded.before (record_patches hb x.slot (header_of pr.header2) a u) before (inl refl, (inl refl, (inl refl, (inr refl, tt)))))

  home_bytes : written_to p.block group (block_of blocks p.block) ≡ with_entry (with_cell pr.copy p.cell pr.changes.cell) p.entry pr.changes.entry
  home_bytes =
      let own : (p.block == p.block) ≡ true = eq-eqb p.block p.block refl in
      let added = untouched p.block pr.changes.patches pr.copy (all_so (λ (q : Patch). (q.block ≡ hb) ⊎ (q.block ≡ a.block)) (λ (q : Patch). q.block ≢ p.block) pr.changes.patches
      (λ q is same. elim is [ inl header ↦ omega (arith, header, same, pr.of_rows) | inr undo ↦ omega (arith, undo, same, pr.of_rows, record_place.0) ]) add_blocks) in
      parts p.block (block_of blocks p.block)
      ∙ ap (λ (l : List ℕ). written_to p.block last (written_to p.block pr.changes.patches (written_to p.block pr.taking l))) (sym pr.copied)
      ∙ ap (λ (l : List ℕ). written_to p.block last (written_to p.block pr.changes.patches l)) (take_elsewhere p.block (λ same. omega (arith, same, pr.of_rows)) pr.copy)
      ∙ ap (written_to p.block last) added
      ∙ rw own refl

  header_bytes : written_to hb group (block_of blocks hb) ≡ pr.header2
  header_bytes =
      let apart : p.block ≢ hb = λ same. omega (arith, same, pr.of_rows) in
      parts hb (block_of blocks hb)
      ∙ ap (λ (l : List ℕ). written_to hb last (written_to hb pr.changes.patches (written_to hb pr.taking l))) (clean_elsewhere hb apart (block_of blocks hb))
      ∙ ap (λ (l : List ℕ). written_to hb last (written_to hb pr.changes.patches l)) (sym pr.taken)
      ∙ ap (written_to hb last) (sym pr.changes.same)
      ∙ last_elsewhere hb apart pr.header2

  undo_bytes_are : written_to a.block group (block_of blocks a.block) ≡ with_undo (block_of blocks a.block) a.rec u
  undo_bytes_are =
      let block = block_of blocks a.block in
      let apart : p.block ≢ a.block = λ same. omega (arith, same, pr.of_rows, record_place.0) in
      let behind : hb ≢ a.block = λ same. omega (arith, same, record_place.0) in
      let header : (hb == a.block) ≡ false = ne_eqb hb a.block behind in
      let own : (a.block == a.block) ≡ true = eq-eqb a.block a.block refl in
      let before = untouched a.block pr.changes.recorded.before block (all_so (λ (q : Patch). q.block ≡ hb) (λ (q : Patch). q.block ≢ a.block) pr.changes.recorded.before (λ q is same. behind (sym is ∙ same))
      (turn_blocks hb (header_of pr.header) pr.changes.recorded.room pr.changes.recorded.before pr.changes.recorded.has_turned)) in
      let added : written_to a.block pr.changes.patches block ≡ with_undo block a.rec u =
      ap (λ (l : List Patch). written_to a.block l block) pr.changes.recorded.patched
      ∙ written_on a.block pr.changes.recorded.before (record_patches hb x.slot (header_of pr.header2) a u) block
      ∙ ap (written_to a.block (record_patches hb x.slot (header_of pr.header2) a u)) before
      ∙ rw (header, own) (refl {a = with_undo block a.rec u}) in
      parts a.block block
      ∙ ap (λ (l : List ℕ). written_to a.block last (written_to a.block pr.changes.patches (written_to a.block pr.taking l))) (clean_elsewhere a.block apart block)
      ∙ ap (λ (l : List ℕ). written_to a.block last (written_to a.block pr.changes.patches l)) (take_elsewhere a.block behind block)
      ∙ ap (written_to a.block last) added
      ∙ last_elsewhere a.block apart (with_undo block a.rec u)

  in_file : p.block < shape_blocks shape
  in_file = omega (arith, pr.of_rows)

  header_in_file : hb < shape_blocks shape
  header_in_file = omega (arith, pr.seg)

  undo_in_file : a.block < shape_blocks shape
  undo_in_file = omega (arith, record_place.1, pr.seg)

  -- the home after the group
  home_now : home_of (block_of now p.block) ≡ home_after (kind_of ask.op) x a u (cleaned_home (env_of shape blocks).look (home_of (block_of blocks p.block)))
  home_now =
      let cell = pr.changes.cell in
      let entry = pr.changes.entry in
      home_grouped shape blocks number p.block group pr.are in_file stay ∙ ap home_of home_bytes
      ∙ entry_written (with_cell pr.copy p.cell cell) p.entry entry (cell_size pr.copy p.cell cell pr.long pr.cell pr.changes.cell_sound) pr.entry pr.changes.entry_sound
      ∙ ap (λ (h : Home). with_home_entry h p.entry entry) (cell_written pr.copy p.cell cell pr.long pr.cell pr.changes.cell_sound)
      ∙ changed pr.copy (header_of pr.header) ask x p u pr.changes.undo_of a cell entry pr.changes.cell_is pr.changes.entry_is
      ∙ ap (home_after (kind_of ask.op) x a u) pr.cleaned

  header_now : header_of (block_of now hb) ≡ header_of pr.header2
  header_now = header_after shape blocks number hb group pr.are header_in_file stay ∙ ap header_of header_bytes

  undo_now : (r : ℕ) → undo_at (block_of now a.block) r ≡ undo_at (with_undo (block_of blocks a.block) a.rec u) r
  undo_now r = undo_same (block_of now a.block) (with_undo (block_of blocks a.block) a.rec u) r (one_block shape number a.block group blocks pr.are undo_in_file stay ∙ ap behind_head undo_bytes_are)

  short_now : StaysShort (block_of blocks p.block) (block_of now p.block)
  short_now short c few =
      let cell = pr.changes.cell in
      let written = with_cell pr.copy p.cell cell in
      let entry = length_entry written p.entry c pr.changes.entry (cell_size pr.copy p.cell cell pr.long pr.cell pr.changes.cell_sound) pr.entry in
      let after = length_behind (block_of now p.block) (with_entry written p.entry pr.changes.entry) c (one_block shape number p.block group blocks pr.are in_file stay ∙ ap behind_head home_bytes) in
      let cleaned = λ (k : ℕ). ap (λ (l : List ℕ). value_length l k) pr.copied ∙ length_cleaned p.block pr.cleaning (block_of blocks p.block) k (block_long shape blocks p.block pr.are in_file) pr.cleans in
      let less = short_cell pr.copy p.cell cell pr.long pr.cell pr.changes.cell_sound (λ k k_in. let same = cleaned k in let s = short k k_in in omega (arith, same, s)) c few in
      omega (arith, after, entry, less)

  keeps : KeepsHome (home_of pr.copy) (block_of blocks p.block) x (adds_in (home_of pr.copy) ask) (kind_of ask.op) u
  keeps =
      let same = ap (λ (l : List ℕ). value_length l p.cell) pr.copied ∙ length_cleaned p.block pr.cleaning (block_of blocks p.block) p.cell (block_long shape blocks p.block pr.are in_file) pr.cleans in
      keeps_copy pr.copy (header_of pr.header) ask x p u pr.changes.undo_of (block_of blocks p.block) pr.entry pr.cell pr.choice pr.place same

  recorded : IsRecorded shape x.seg x.slot a u (header_in shape blocks x.seg) (header_of (block_of now hb)) blocks now
  recorded =
      let of = pr.changes.undo_of in
      let block = block_of blocks a.block in
      let long = block_long shape blocks a.block pr.are undo_in_file in
      record {
        ready = header_of pr.header;
        room = pr.changes.recorded.room;
        is_ready = pr.ready;
        has_room = room_is hb (header_of pr.header) pr.changes.recorded.room pr.changes.recorded.before pr.changes.recorded.has_turned;
        at = pr.changes.recorded.at;
        added_as = subst (AddedAs x.slot a pr.changes.recorded.room) (sym header_now) pr.changes.recorded.added_as;
        made = undo_now a.rec ∙ own_read block a.rec u long record_place.2 pr.changes.sound;
        others = λ r few differ. undo_now r ∙ others_kept block a.rec r u long record_place.2 few pr.changes.sound differ;
        slot = of.slot;
        wrap = of.wrap ∙ sym pr.runs.wrap;
        number = of.number pr.young.live;
        previous = of.previous;
      }

  -- all patches of the group
  patched : AreOfChange hb x.slot (kind_of ask.op) x a u (cleaned_home (env_of shape blocks).look (home_of (block_of blocks p.block))) (header_of pr.header) pr.changes.recorded.room (header_of (block_of now hb)) group
  patched =
      let front = pr.cleaning ++ pr.taking in
      let turning = pr.changes.recorded.before in
      let record_part = record_patches hb x.slot (header_of pr.header2) a u in
      let Last : Home → List Patch = λ h. home_patches u.home u.cell (cell_after (kind_of ask.op) u.key u.entry (home_cell h u.cell)) u.entry (entry_after x a (home_entry h u.entry)) in
      record {
        cleaning = pr.cleaning;
        taking = pr.taking;
        turning = turning;
        cleans = subst (λ (b : ℕ). AllByRecursion (IsCleanPatch b) pr.cleaning) (sym pr.changes.undo_of.home) pr.cleans;
        takes = pr.takes;
        turns = pr.changes.recorded.has_turned;
        all = pr.changes.group
            ∙ (ap (λ (l : List Patch). front ++ l ++ last) pr.changes.recorded.patched
            ∙ (ap (λ (l : List Patch). l ++ last) (sym (append_assoc front turning record_part))
            ∙ (ap (λ (h : Header). front ++ turning ++ record_patches hb x.slot h a u ++ last) (sym header_now)
            ∙ (ap (λ (l : List Patch). front ++ turning ++ record_patches hb x.slot (header_of (block_of now hb)) a u ++ l) (home_part pr.copy (header_of pr.header) ask x p u pr.changes.undo_of a pr.changes.cell pr.changes.entry pr.changes.cell_is pr.changes.entry_is)
            ∙ ap (λ (h : Home). front ++ turning ++ record_patches hb x.slot (header_of (block_of now hb)) a u ++ Last h) pr.cleaned))));
      }

  -- the patches are of the home, the header and the record's block
  only : AllByRecursion (λ (q : Patch). (q.block ≡ p.block) ⊎ (q.block ≡ hb) ⊎ (q.block ≡ a.block)) group
  only =
      let Is : Patch → Type 0 = λ q. (q.block ≡ p.block) ⊎ (q.block ≡ hb) ⊎ (q.block ≡ a.block) in
      let cleaning = all_so (IsCleanPatch p.block) Is pr.cleaning (λ q is. inl (of_block p.block q is)) pr.cleans in
      let taking = all_so (λ (q : Patch). q.block ≡ hb) Is pr.taking (λ q is. inr (inl is)) taking_blocks in
      let adding = all_so (λ (q : Patch). (q.block ≡ hb) ⊎ (q.block ≡ a.block)) Is pr.changes.patches (λ q is. inr is) add_blocks in
      subst (AllByRecursion Is) (sym pr.changes.group)
      (all_joined Is (pr.cleaning ++ pr.taking ++ pr.changes.patches) last (all_joined Is (pr.cleaning ++ pr.taking) pr.changes.patches (all_joined Is pr.cleaning pr.taking cleaning taking) adding) (inl refl, (inl refl, tt)))

  some : 1 ≤ length group
  some = omega (arith, ap length pr.changes.group, length-append (pr.cleaning ++ pr.taking ++ pr.changes.patches) last)

-- So the transaction of slot t has made the write.
written : (shape : Shape) (blocks : List (List ℕ)) (ask : Ask) (p : Place) (group : List Patch) (t w : ℕ) (pr : Prepared shape blocks ask p group (record { seg = t / SLOTS; slot = t % SLOTS; wrap = w }))
    → IsWritten shape t (adds_for shape blocks ask) (kind_of ask.op) pr.changes.address pr.changes.undo blocks (after_group (logged_of shape blocks + 1) group blocks)
unfolding recorded
written shape blocks ask p group t w pr =
    let x : Xid = record { seg = t / SLOTS; slot = t % SLOTS; wrap = w } in
    let number = logged_of shape blocks + 1 in
    let now = after_group number group blocks in
    let look = (env_of shape blocks).look in
    let u = pr.changes.undo in
    let a = pr.changes.address in
    let of = pr.changes.undo_of in
    let at = sym of.home in
    record {
      xid = x;
      xid_is = ap (λ (n : ℕ). let k : Xid = record { seg = t / SLOTS; slot = t % SLOTS; wrap = n } in k) (sym of.wrap);
      group = record {
        patches = group;
        some = some shape blocks ask p group x number pr;
        each = pr.valid;
        only = subst (λ (b : ℕ). AllByRecursion (λ (q : Patch). (q.block ≡ b) ⊎ (q.block ≡ header_block shape (t / SLOTS)) ⊎ (q.block ≡ a.block)) group) at (only shape blocks ask p group x number pr);
        made = refl;
      };
      keeps = subst (λ (b : ℕ). KeepsHome (cleaned_home look (home_of (block_of blocks b))) (block_of blocks b) x (adds_for shape blocks ask) (kind_of ask.op) u) at
          (subst (λ (b : ℕ). KeepsHome (cleaned_home look (home_of (block_of blocks p.block))) (block_of blocks p.block) x (adds_in (cleaned_home look (home_of (block_of blocks b))) ask) (kind_of ask.op) u) pr.there
          (subst (λ (h : Home). KeepsHome h (block_of blocks p.block) x (adds_in h ask) (kind_of ask.op) u) pr.cleaned (keeps shape blocks ask p group x number pr)));
      home = subst (λ (b : ℕ). home_of (block_of now b) ≡ home_after (kind_of ask.op) x a u (cleaned_home look (home_of (block_of blocks b)))) at (home_now shape blocks ask p group x number pr);
      short = subst (λ (b : ℕ). StaysShort (block_of blocks b) (block_of now b)) at (short_now shape blocks ask p group x number pr);
      recorded = recorded shape blocks ask p group x number pr;
      patches = subst (λ (b : ℕ). AreOfChange (header_block shape (t / SLOTS)) (t % SLOTS) (kind_of ask.op) x a u (cleaned_home look (home_of (block_of blocks b))) (header_of pr.header) pr.changes.recorded.room (header_of (block_of now (header_block shape (t / SLOTS)))) group) at
          (patched shape blocks ask p group x number pr);
    }

-- the write of a transaction, with what is told of its record
pub record IsMadeBy (shape : Shape) (blocks : List (List ℕ)) (ask : Ask) (group : List Patch) (x : Xid) : Type 0 where
  pub address : Uba
  pub undo : UndoRecord
  pub table : undo.table ≡ ask.table
  pub key : undo.key ≡ ask.key
  pub wrap : undo.wrap ≡ x.wrap
  pub home : undo.home ≡ home_block shape ask.table ask.key
  pub is_written : IsWritten shape (SLOTS * x.seg + x.slot) (adds_for shape blocks ask) (kind_of ask.op) address undo blocks (after_group (logged_of shape blocks + 1) group blocks)

pub made_by : (shape : Shape) (blocks : List (List ℕ)) (ask : Ask) (p : Place) (group : List Patch) (x : Xid) → Prepared shape blocks ask p group x → IsMadeBy shape blocks ask group x
made_by shape blocks ask p group x prepared =
    let t = SLOTS * x.seg + x.slot in
    let few = prepared.runs.slot in
    let seg : t / SLOTS ≡ x.seg = omega (arith, few) in
    let slot : t % SLOTS ≡ x.slot = omega (arith, few) in
    let same : x ≡ record { seg = t / SLOTS; slot = t % SLOTS; wrap = x.wrap } = rw (seg, slot) refl in
    let pr = subst (Prepared shape blocks ask p group) same prepared in
    record {
      address = pr.changes.address;
      undo = pr.changes.undo;
      table = pr.changes.undo_of.table;
      key = pr.changes.undo_of.key;
      wrap = pr.changes.undo_of.wrap;
      home = pr.changes.undo_of.home ∙ pr.there;
      is_written = written shape blocks ask p group t x.wrap pr;
    }
