-- The put back of a slot's newest live change leaves what the blocks of a file stand for, with that change less.
use Rattle.std.proofs.Common.{◌≡◌, ◌≢◌, ◌⊎◌, ◌<◌, ◌+◌, ◌*◌, ◌/◌, ◌%◌, inl, inr, ℕ, List, [], ◌∷◌, map, set, get_or, nat_lt, if◌then◌else◌, Some, sym, ◌∙◌, ap, subst, arith}
use Rattle.std.proofs.lemmas.Bool.{cases_eq, cases_lt, cond-true, cond-false}
use Rattle.std.proofs.lemmas.Bool.Decides.{nat_tests}
use Rattle.std.proofs.lemmas.List.{get_or-set_same, get_or-set_other, map-set}
use Rattle.std.proofs.Math.Nat.{div-add-mod}
use Rattle.rb_itl.specs.declared.slots.TheConstants.{ENTRIES}
use Rattle.rb_cell.specs.declared.cell.TheConstants.{CELLS}
use Rattle.rb_base.specs.Blocks.{block_of, header_block, shape_blocks, table_blocks, IsShape}
use Rattle.rb_base.specs.declared.shape.Shape.{Shape}
use Rattle.rb_base.specs.declared.ids.Xid.{Xid}
use Rattle.rb_base.specs.declared.sizes.TheConstants.{ACTIVE, SLOTS}
use Rattle.rb_cell.specs.Cells as cells_of
use Rattle.rb_heap.specs.Homes.{Home, home_of, empty_cell}
use Rattle.rb_heap.specs.Soundness.{IsHomeSound, IsEntrySound, IsCellSound}
use Rattle.rb_heap.proofs.Reading.{entries_counted, cells_counted, entry_read, cell_read}
use Rattle.rb_itl.specs.Entries as itl
use Rattle.rb_itl.specs.declared.slots.Entry as entries
use Rattle.rb_model.specs.Change.{Place}
use Rattle.rb_segment.specs.Header.{Segment, record_in}
use Rattle.rb_segment.specs.Segments.{commit_scn}
use Rattle.law_blocks.specs.Groups.{IsPutBack}
use Rattle.law_blocks.specs.Says.{says, walk_cell, walk_entry, walk_home, walk_undo}
use Rattle.law_blocks.specs.Standing.{Standing, homes_of, logged_of, segments_of}
use Rattle.law_blocks.specs.Values.{ActiveSlot, HomeStands, IsSaved, Listed, Past, Running, StandingAs, made_by, rows_here, slot_of, wraps_of, xid_in}
use Rattle.law_blocks.specs.Writes.{PutBack}
use Rattle.law_blocks.proofs.Group.{block_stays, blocks_stay, logged_next}
use Rattle.law_blocks.proofs.HomesSound.{home_sound}
use Rattle.law_blocks.proofs.OwedMoves.{owed_back}
use Rattle.law_blocks.proofs.SegmentRead.{home_stays, scn_same, segments_put_back}
use Rattle.law_blocks.proofs.BlocksMoved.{homes_agree}
use Rattle.law_blocks.proofs.StandingBack.{newest_stays, running_back, standing_back, xid_back}
use Rattle.rb_undoblock.specs.declared.record.UndoRecord.{UndoRecord}
use Rattle.law_home.specs.Homes.{here, narrow}
use Rattle.law_home.specs.Walk as walk
use Rattle.law_home.specs.Walk.{Change, own}

-- an entry in order, where the slots' wraps are the same
pub entry_same_wraps : (shape : Shape) (commit : ℕ) (wraps wraps2 : ℕ → ℕ → ℕ) (e : entries.Entry) → ((g i : ℕ) → i < SLOTS → wraps2 g i ≡ wraps g i) → IsEntrySound shape commit wraps e → IsEntrySound shape commit wraps2 e
entry_same_wraps shape commit wraps wraps2 e same sound = record {
  kind = sound.kind;
  taken = λ some. let t = sound.taken some in record {
    segment = t.segment;
    slot = t.slot;
    wrap = let w = same e.xid.seg e.xid.slot t.slot in (t.wrap.0, omega (arith, w, t.wrap.1));
    chain = t.chain;
    number = t.number;
  };
}

pub home_same_wraps : (shape : Shape) (commit : ℕ) (wraps wraps2 : ℕ → ℕ → ℕ) (h : ℕ) (block : List ℕ) → ((g i : ℕ) → i < SLOTS → wraps2 g i ≡ wraps g i) → IsHomeSound shape commit wraps h block → IsHomeSound shape commit wraps2 h block
home_same_wraps shape commit wraps wraps2 h block same sound = record { entries = λ i few. entry_same_wraps shape commit wraps wraps2 (itl.entry_at block i) same (sound.entries i few); cells = sound.cells }

module _ (shape : Shape) (before now : List (List ℕ)) (past : Past) (lives : List (List Change)) (t : ℕ) (u : UndoRecord) (ch : Change) (more : List Change) (shaped : IsShape shape) (t_in : t < SLOTS * shape.segments) (stand : Standing shape before past lives) (has : own lives t ≡ ch ∷ more) (there : record_in (segments_of shape before (t / SLOTS)) ch.place.index ≡ Some u) (put : IsPutBack shape t u before now) where
  abbrev Segs : ℕ → Segment
  Segs = segments_of shape before

  abbrev After : ℕ → Segment
  After = segments_of shape now

  abbrev Commit : ℕ
  Commit = commit_scn shape before

  abbrev Wraps : ℕ → ℕ → ℕ
  Wraps = wraps_of Segs

  abbrev Is : ℕ → Type 0
  Is x = (x ≡ u.home) ⊎ (x ≡ header_block shape (t / SLOTS))

  pub active : (slot_of Segs t).state ≡ ACTIVE
  active = elim (cases_eq (slot_of Segs t).state ACTIVE) [
    | inl is ↦ is
    | inr ne ↦ let none : own lives t ≡ [] = (stand.stands.slots t t_in).idle ne in let never : [] ≡ ch ∷ more = sym none ∙ has in absurd cc
  ]

  slot : ActiveSlot shape Commit Wraps (t / SLOTS) (Segs (t / SLOTS)) (t % SLOTS) (own lives t)
  slot = (stand.stands.slots t t_in).active active

  listed : Listed shape (Segs (t / SLOTS)) (xid_in (t / SLOTS) (Segs (t / SLOTS)) (t % SLOTS)) (IsSaved shape Commit Wraps) (slot_of Segs t).newest_at (ch ∷ more)
  listed = subst (λ (z : List Change). Listed shape (Segs (t / SLOTS)) (xid_in (t / SLOTS) (Segs (t / SLOTS)) (t % SLOTS)) (IsSaved shape Commit Wraps) (slot_of Segs t).newest_at z) has slot.listed

  saved : IsSaved shape Commit Wraps u
  saved = let one : Some listed.4.0 ≡ Some u = sym listed.4.1 ∙ there in let same : listed.4.0 ≡ u = cc in subst (IsSaved shape Commit Wraps) same listed.4.6

  moved : After ≡ Rattle.rb_segment.specs.Moves.with_segment (t / SLOTS) (Rattle.law_blocks.specs.Writes.back_segment Segs t u) Segs
  moved = segments_put_back shape t u before now saved.there put

  stays : (k : ℕ) → k ≢ u.home → k ≢ header_block shape (t / SLOTS) → block_of now k ≡ block_of before k
  stays k no_home no_header = block_stays shape Is before now put.group k (λ is. elim is [ inl at ↦ no_home at | inr at ↦ no_header at ])

  row_stays : (k : ℕ) → k < table_blocks shape → k ≢ u.home → block_of now k ≡ block_of before k
  row_stays k k_in ne = stays k ne (λ at. omega (arith, at, k_in))

  header_in : header_block shape (t / SLOTS) < shape_blocks shape
  header_in = let a = div-add-mod t SLOTS in omega (arith, a, t_in)

  within : (b : ℕ) → Is b → b < shape_blocks shape
  within b is = elim is [ inl at ↦ omega (arith, at, saved.there) | inr at ↦ let a = header_in in omega (arith, at, a) ]

  pub logged : logged_of shape now ≡ logged_of shape before + 1
  logged = logged_next shape Is before now put.group stand.whole within (let a = stand.ahead in omega (arith, a))

  home_is : homes_of shape now u.home ≡ walk.back (walk_undo shape (t / SLOTS) u) (homes_of shape before u.home)
  home_is =
      let old = home_of (block_of before u.home) in
      ap (walk_home shape u.home) put.home
      ∙ ap (λ (l : List Rattle.law_home.specs.Kinds.Entry). record { block = u.home; entries = l; cells = map walk_cell (set old.cells u.cell (cells_of.cell_of u.cell_before)) }) (map-set (walk_entry shape) old.entries u.entry (itl.entry_of u.entry_before))
      ∙ ap (λ (l : List Rattle.law_home.specs.Kinds.Cell). record { block = u.home; entries = set (map (walk_entry shape) old.entries) u.entry (walk_entry shape (itl.entry_of u.entry_before)); cells = l }) (map-set walk_cell old.cells u.cell (cells_of.cell_of u.cell_before))

  -- the homes as values: the blocks behind those of rows are read as they were
  abbrev pub Homes2 : ℕ → walk.Home
  Homes2 k = if nat_lt k (table_blocks shape) then homes_of shape now k else homes_of shape before k

  pub read_rows : (b : ℕ) → b < table_blocks shape → Homes2 b ≡ homes_of shape now b
  read_rows b b_in = cond-true (nat_lt b (table_blocks shape)) (homes_of shape now b) (homes_of shape before b) (grind (arith, nat_tests))

  pub put_values : PutBack shape Segs After (homes_of shape before) Homes2 t u
  put_values = record {
    active = active;
    record_there = ap (λ (p : Place). record_in (Segs (t / SLOTS)) p.index) listed.2 ∙ there;
    others = λ g. ap (λ (f : ℕ → Segment). f g) moved;
    home = read_rows u.home saved.there ∙ home_is;
    homes_same = λ b ne. elim (cases_lt b (table_blocks shape)) [
      | inl lt ↦ read_rows b lt ∙ home_stays shape before now b (row_stays b lt ne)
      | inr le ↦ cond-false (nat_lt b (table_blocks shape)) (homes_of shape now b) (homes_of shape before b) (grind (arith, nat_tests))
    ];
  }

  pub values : StandingAs shape Commit (logged_of shape before + 1) After (homes_of shape now) past (set lives t more)
  values = homes_agree shape Commit (logged_of shape before + 1) After Homes2 (homes_of shape now) past (set lives t more) (λ b b_in. sym (read_rows b b_in))
      (standing_back shape Commit (logged_of shape before) Segs (homes_of shape before) past lives stand.stands Homes2 t u t_in After put_values ch more has)

  wraps_same : (g i : ℕ) → i < SLOTS → wraps_of After g i ≡ Wraps g i
  wraps_same g i few =
      let d : (SLOTS * g + i) / SLOTS ≡ g = omega (arith, few) in
      let m : (SLOTS * g + i) % SLOTS ≡ i = omega (arith, few) in
      let x = xid_back shape Commit (logged_of shape before) Segs (homes_of shape before) past lives stand.stands Homes2 t u t_in After put_values ch more has (SLOTS * g + i) in
      let a : wraps_of After ((SLOTS * g + i) / SLOTS) ((SLOTS * g + i) % SLOTS) ≡ Wraps ((SLOTS * g + i) / SLOTS) ((SLOTS * g + i) % SLOTS) = ap (λ (y : Xid). y.wrap) x in
      subst (λ (z : ℕ). wraps_of After z i ≡ Wraps z i) d (subst (λ (z : ℕ). wraps_of After ((SLOTS * g + i) / SLOTS) z ≡ Wraps ((SLOTS * g + i) / SLOTS) z) m a)

  pub commit_same : commit_scn shape now ≡ Commit
  commit_same = scn_same shape before now (λ v v_in. newest_stays shape Commit (logged_of shape before) Segs (homes_of shape before) past lives stand.stands Homes2 t u t_in After put_values ch more has v)

  abbrev Old : List ℕ
  Old = block_of before u.home

  abbrev New : List ℕ
  New = block_of now u.home

  sound : IsHomeSound shape Commit Wraps (u.home % shape.blocks) Old
  sound = stand.homes_sound u.home saved.there

  entry_own : u.entry < ENTRIES → itl.entry_at New u.entry ≡ itl.entry_of u.entry_before
  entry_own few =
      sym (entry_read New u.entry itl.free_entry few) ∙ ap (λ (h : Home). get_or h.entries u.entry itl.free_entry) put.home
      ∙ get_or-set_same (home_of Old).entries u.entry (itl.entry_of u.entry_before) itl.free_entry (let n = entries_counted Old in omega (arith, n, few))

  entry_other : (i : ℕ) → i < ENTRIES → i ≢ u.entry → itl.entry_at New i ≡ itl.entry_at Old i
  entry_other i few ne =
      sym (entry_read New i itl.free_entry few) ∙ ap (λ (h : Home). get_or h.entries i itl.free_entry) put.home
      ∙ get_or-set_other (home_of Old).entries u.entry i (itl.entry_of u.entry_before) itl.free_entry ne ∙ entry_read Old i itl.free_entry few

  cell_own : u.cell < CELLS → cells_of.cell_at New u.cell ≡ cells_of.cell_of u.cell_before
  cell_own few =
      sym (cell_read New u.cell empty_cell few) ∙ ap (λ (h : Home). get_or h.cells u.cell empty_cell) put.home
      ∙ get_or-set_same (home_of Old).cells u.cell (cells_of.cell_of u.cell_before) empty_cell (let n = cells_counted Old in omega (arith, n, few))

  cell_other : (c : ℕ) → c < CELLS → c ≢ u.cell → cells_of.cell_at New c ≡ cells_of.cell_at Old c
  cell_other c few ne =
      sym (cell_read New c empty_cell few) ∙ ap (λ (h : Home). get_or h.cells c empty_cell) put.home
      ∙ get_or-set_other (home_of Old).cells u.cell c (cells_of.cell_of u.cell_before) empty_cell ne ∙ cell_read Old c empty_cell few

  here_stands : HomeStands (says shape After) (made_by After) past.base (rows_here shape u.home past.rows) (map (narrow u.home) past.list) (map (here u.home) (set lives t more)) (homes_of shape now u.home)
  here_stands = values.homes_stand u.home saved.there

  sound_here : IsHomeSound shape Commit Wraps (u.home % shape.blocks) New
  sound_here =
      home_sound shape New Commit Wraps (u.home % shape.blocks)
      (λ i few. elim (cases_eq i u.entry) [
        | inl at ↦ subst (IsEntrySound shape Commit Wraps) (sym (ap (itl.entry_at New) at ∙ entry_own saved.entry)) saved.entry_sound
        | inr ne ↦ subst (IsEntrySound shape Commit Wraps) (sym (entry_other i few ne)) (sound.entries i few)
      ])
      (λ c few. elim (cases_eq c u.cell) [
        | inl at ↦ subst (IsCellSound shape (u.home % shape.blocks)) (sym (ap (cells_of.cell_at New) at ∙ cell_own saved.cell)) saved.cell_sound
        | inr ne ↦ subst (IsCellSound shape (u.home % shape.blocks)) (sym (cell_other c few ne)) (sound.cells.each c few)
      ])
      (put.short sound.cells.values) here_stands.unique here_stands.locks

  sound_all : (k : ℕ) → k < table_blocks shape → IsHomeSound shape Commit Wraps (k % shape.blocks) (block_of now k)
  sound_all k k_in = elim (cases_eq k u.home) [
    | inl at ↦ subst (λ (z : ℕ). IsHomeSound shape Commit Wraps (z % shape.blocks) (block_of now z)) (sym at) sound_here
    | inr ne ↦ subst (λ (l : List ℕ). IsHomeSound shape Commit Wraps (k % shape.blocks) l) (sym (row_stays k k_in ne)) (stand.homes_sound k k_in)
  ]

  pub blocks_back : Standing shape now past (set lives t more)
  blocks_back = record {
    whole = blocks_stay shape Is before now put.group stand.whole;
    homes_sound = λ k k_in. rw commit_same (home_same_wraps shape Commit Wraps (wraps_of After) (k % shape.blocks) (block_of now k) wraps_same (sound_all k k_in));
    ahead =
        let a = stand.ahead in
        let o = owed_back shape Commit (logged_of shape before) Segs (homes_of shape before) past lives stand.stands t t_in After Homes2 u put_values ch more has in
        omega (arith, a, o, logged);
    order = stand.order;
    tables = stand.tables;
    stands = rw (commit_same, logged) values;
  }

  pub blocks_running_back : Running shape Segs → Running shape After
  blocks_running_back = running_back shape Commit (logged_of shape before) Segs (homes_of shape before) past lives stand.stands Homes2 t u t_in After put_values ch more has
