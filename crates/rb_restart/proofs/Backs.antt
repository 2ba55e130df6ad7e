-- The put back of a transaction's newest live change: in blocks that stand it can be done, and is one group that puts back.
use Rattle.std.proofs.Common.{◌≡◌, ◌≢◌, ◌⊎◌, ◌<◌, ◌≤◌, ◌+◌, ◌-◌, ◌*◌, ◌/◌, ◌%◌, inl, inr, ℕ, List, [], ◌∷◌, ◌++◌, length, set, Some, refl, sym, ◌∙◌, ap, subst, arith}
use Rattle.std.proofs.lemmas.Bool.{cases_eq}
use Rattle.std.proofs.lemmas.List.{get_or-set_same}
use Rattle.std.proofs.Math.Nat.{div-add-mod}
use Rattle.rb_undoblock.specs.declared.record.TheConstants.{UNDO_RECORDS}
use Rattle.rb_itl.specs.declared.slots.TheConstants.{ENTRIES}
use Rattle.rb_cell.specs.declared.cell.TheConstants.{CELLS}
use Rattle.rb_base.specs.Blocks.{after_group, block_of, header_block, shape_blocks, table_blocks, IsShape}
use Rattle.rb_base.specs.Groups.{Patch, IsGroup}
use Rattle.rb_base.specs.declared.ids.Uba.{Uba}
use Rattle.rb_base.specs.declared.ids.Xid.{Xid}
use Rattle.rb_base.specs.declared.shape.Shape.{Shape}
use Rattle.rb_base.specs.declared.sizes.TheConstants.{ACTIVE, SLOTS}
use Rattle.rb_cell.specs.Cells.{cell_of}
use Rattle.rb_heap.specs.Homes.{home_patches}
use Rattle.rb_itl.specs.Entries.{entry_of}
use Rattle.rb_model.specs.Rows.{TableRow}
use Rattle.rb_restart.specs.Rollback.{change, found_book}
use Rattle.rb_restart.specs.Steps.{HasLive, IsIdle, PutsBack}
use Rattle.rb_restart.proofs.Joined.{one_puts}
use Rattle.rb_restart.proofs.Marks.{book_back, books_same}
use Rattle.rb_restart.proofs.Slots.{owed_is, slot_is, xid_is, xid_of}
use Rattle.rb_segment.proofs.Back.{back_other}
use Rattle.rb_segment.proofs.Parts.{slots_many}
use Rattle.rb_segment.specs.Calls.{slot_patches}
use Rattle.rb_segment.specs.Header.{Header, Segment, record_in, slot_in}
use Rattle.rb_segment.specs.Moves.{taken_back}
use Rattle.rb_segment.specs.Segments.{commit_scn}
use Rattle.law_blocks.specs.Groups.{IsPutBack, header_at, last_record}
use Rattle.law_blocks.proofs.TellBooks.{back_books}
use Rattle.law_blocks.specs.Standing.{SoundAs, Standing, homes_of, logged_of, segments_of, TellBooks}
use Rattle.law_blocks.specs.Values.{IsSaved, Listed, Past, slot_of, wraps_of, xid_in, Running}
use Rattle.law_blocks.specs.Writes.{back_segment}
use Rattle.law_blocks.proofs.Addresses.{listed_reads}
use Rattle.law_blocks.proofs.BlocksBack.{Homes2, blocks_back, blocks_running_back, logged, put_values}
use Rattle.law_blocks.proofs.OwedMoves.{owed_back}
use Rattle.law_blocks.proofs.SegmentRead.{RowsOrHeader, segments_put_back}
use Rattle.law_blocks.proofs.SlotsMoved.{slot_other}
use Rattle.rb_txntable.specs.Slots.{no_slot}
use Rattle.rb_txntable.specs.declared.slots.TableSlot.{TableSlot}
use Rattle.rb_undo.specs.Backs.{back_patches, header_for, newest_of, newest_record, CanBack, TakesBack}
use Rattle.rb_undoblock.specs.Undo.{undo_at}
use Rattle.rb_undoblock.specs.declared.record.UndoRecord.{UndoRecord}
use Rattle.law_home.specs.Walk.{Change, own}

-- what a put back leaves of the transaction's slot: it runs and has one live change less
pub less_live : (shape : Shape) (x : Xid) (u : UndoRecord) (before now : List (List ℕ)) (n : ℕ) → x.slot < SLOTS → TakesBack shape x u before now → HasLive shape before x (n + 1) → HasLive shape now x n
less_live shape x u before now n few takes has =
    let h = header_for shape before x in
    let s = slot_in h x.slot in
    let at : slot_in (header_for shape now x) x.slot ≡ record s { live = s.live - 1; newest_at = u.previous } =
    ap (λ (h : Header). slot_in h x.slot) takes.header
    ∙ get_or-set_same h.slots x.slot (record s { live = s.live - 1; newest_at = u.previous }) no_slot (let many = slots_many (block_of before (header_block shape x.seg)) in omega (arith, few, many)) in
    record {
      runs = record {
        slot = few;
        active = ap (λ (s : TableSlot). s.state) at ∙ has.runs.active;
        wrap = ap (λ (s : TableSlot). s.wrap) at ∙ has.runs.wrap;
      };
      live = ap (λ (s : TableSlot). s.live) at ∙ omega (arith, has.live);
    }

-- the group that puts back a transaction's newest change
abbrev pub back_group : Shape → List (List ℕ) → Xid → List Patch
back_group shape blocks x = back_patches shape x (newest_record shape blocks x) (header_for shape blocks x)

-- Its patches are those of the record and of the slot as it is then.
pub patches_back : (shape : Shape) (t wrap : ℕ) (u : UndoRecord) (before now : List (List ℕ)) → newest_record shape before (xid_of t wrap) ≡ u → header_at shape now t ≡ taken_back (t % SLOTS) u.previous (header_at shape before t)
    → back_group shape before (xid_of t wrap) ≡ home_patches u.home u.cell (cell_of u.cell_before) u.entry (entry_of u.entry_before) ++ slot_patches (header_block shape (t / SLOTS)) (t % SLOTS) (header_at shape now t)
patches_back shape t wrap u before now read header =
    ap (λ (r : UndoRecord). back_patches shape (xid_of t wrap) r (header_at shape before t)) read
    ∙ ap (λ (h : Header). home_patches u.home u.cell (cell_of u.cell_before) u.entry (entry_of u.entry_before) ++ slot_patches (header_block shape (t / SLOTS)) (t % SLOTS) h) (sym header)

-- a list of some length has a first item
first_of : (chs : List Change) (n : ℕ) → length chs ≡ n + 1 → (ch : Change) × (more : List Change) × (chs ≡ ch ∷ more)
first_of [] n is = absurd (omega (arith, is))
first_of (ch ∷ more) n is = (ch, more, refl)

-- The newest live change of slot t, and its record.
record Newest (shape : Shape) (blocks : List (List ℕ)) (lives : List (List Change)) (t wrap : ℕ) : Type 0 where
  ch : Change
  more : List Change
  has : own lives t ≡ ch ∷ more
  u : UndoRecord
  there : record_in (segments_of shape blocks (t / SLOTS)) ch.place.index ≡ Some u
  home : u.home < table_blocks shape
  can : CanBack shape blocks (xid_of t wrap)
  read : newest_record shape blocks (xid_of t wrap) ≡ u
  last : last_record shape blocks t ≡ u

module _ (shape : Shape) (number : ℕ) (rows : List TableRow) (before : List (List ℕ)) (lives : List (List Change)) (stand : Standing shape before (record { base = number; rows = rows; list = [] }) lives) (running : Running shape (segments_of shape before)) (books : TellBooks shape before) (t wrap : ℕ) (t_in : t < SLOTS * shape.segments) (n : ℕ) (live : HasLive shape before (xid_of t wrap) (n + 1)) where
  abbrev Segs : ℕ → Segment
  Segs = segments_of shape before

  abbrev Past0 : Past
  Past0 = record { base = number; rows = rows; list = [] }

  abbrev X : Xid
  X = xid_of t wrap

  slot_at_x : slot_of Segs t ≡ slot_in (header_for shape before X) (t % SLOTS)
  slot_at_x = slot_is shape before t wrap

  active : (slot_of Segs t).state ≡ ACTIVE
  active = ap (λ (s : TableSlot). s.state) slot_at_x ∙ live.runs.active

  newest : Newest shape before lives t wrap
  newest =
      let slot = (stand.stands.slots t t_in).active active in
      let count : length (own lives t) ≡ n + 1 = sym slot.count ∙ (ap (λ (s : TableSlot). s.live) slot_at_x ∙ live.live) in
      let first = first_of (own lives t) n count in
      let ch = first.0 in
      let more = first.1 in
      let at = (slot_of Segs t).newest_at in
      let listed : Listed shape (Segs (t / SLOTS)) (xid_in (t / SLOTS) (Segs (t / SLOTS)) (t % SLOTS)) (IsSaved shape (commit_scn shape before) (wraps_of Segs)) at (ch ∷ more) =
      subst (λ (z : List Change). Listed shape (Segs (t / SLOTS)) (xid_in (t / SLOTS) (Segs (t / SLOTS)) (t % SLOTS)) (IsSaved shape (commit_scn shape before) (wraps_of Segs)) at z) first.2 slot.listed in
      let u = listed.4.0 in
      let same : at ≡ newest_of shape before X = ap (λ (s : TableSlot). s.newest_at) slot_at_x in
      let reads : undo_at (block_of before at.block) at.rec ≡ u = listed_reads shape before (xid_in (t / SLOTS) (Segs (t / SLOTS)) (t % SLOTS)) (IsSaved shape (commit_scn shape before) (wraps_of Segs)) at ch more u listed listed.4.1 in
      let read : newest_record shape before X ≡ u = ap (λ (z : Uba). undo_at (block_of before z.block) z.rec) (sym same) ∙ reads in
      let g_in = div-add-mod t SLOTS in
      record {
        ch = ch;
        more = more;
        has = first.2;
        u = u;
        there = listed.4.1;
        home = listed.4.6.there;
        can = record {
          runs = live.runs;
          live = omega (arith, live.live);
          some = subst (λ (z : Uba). 1 ≤ z.ord) same listed.0;
          block = subst (λ (z : Uba). z.block < shape_blocks shape) same (omega (arith, listed.1.within, g_in, t_in));
          place = subst (λ (z : Uba). z.rec < UNDO_RECORDS) same listed.1.rec;
          home = subst (λ (z : UndoRecord). z.home < table_blocks shape) (sym read) listed.4.6.there;
          entry = subst (λ (z : UndoRecord). z.entry < ENTRIES) (sym read) listed.4.6.entry;
          cell = subst (λ (z : UndoRecord). z.cell < CELLS) (sym read) listed.4.6.cell;
        };
        read = read;
        last = reads;
      }

  pub can_back : CanBack shape before X
  can_back = newest.can

  module _ (now : List (List ℕ)) (shaped : IsShape shape) where
    abbrev group : List Patch
    group = back_group shape before X

    module _ (valid : IsGroup group) (made : now ≡ after_group (logged_of shape before + 1) group before) (takes : TakesBack shape X (newest_record shape before X) before now) where
      abbrev Is : ℕ → Type 0
      Is x = (x ≡ newest.u.home) ⊎ (x ≡ header_block shape (t / SLOTS))

      at_home : (newest_record shape before X).home ≡ newest.u.home
      at_home = ap (λ (u : UndoRecord). u.home) newest.read

      puts : IsPutBack shape t newest.u before now
      puts =
          let back = subst (λ (u : UndoRecord). TakesBack shape X u before now) newest.read takes in
          record {
            group = record {
              patches = group;
              some = omega arith;
              each = valid.each;
              only = (inl at_home, (inl at_home, (inr refl, tt)));
              made = made;
            };
            home = back.home;
            short = back.short;
            header = back.header;
            patches = patches_back shape t wrap newest.u before now newest.read back.header;
          }

      only : (b : ℕ) → Is b → RowsOrHeader shape (t / SLOTS) b
      only b = elim [ inl at ↦ inl (omega (arith, at, newest.home)) | inr at ↦ inr at ]

      others : (v : ℕ) → v ≢ t → slot_of (segments_of shape now) v ≡ slot_of Segs v
      others = slot_other Segs (segments_of shape now) t (back_segment Segs t newest.u) (λ g. ap (λ (f : ℕ → Segment). f g) (segments_put_back shape t newest.u before now newest.home puts)) (back_other (Segs (t / SLOTS)) (t % SLOTS) newest.u.previous)

      idle : (v : ℕ) → v < SLOTS * shape.segments → IsIdle shape before v → IsIdle shape now v
      idle v v_in is = elim (cases_eq v t) [
        | inl at ↦ absurd (is (ap (λ (z : ℕ). (slot_of Segs z).state) at ∙ active))
        | inr ne ↦ λ runs. is (ap (λ (s : TableSlot). s.state) (sym (others v ne)) ∙ runs)
      ]

      pub back_puts_at : PutsBack shape number rows (group ∷ []) before now
      back_puts_at =
          one_puts shape number rows group before now
          (record { lives = lives; standing = stand; running = running; books = books })
          (record {
            lives = set lives t newest.more;
            standing = blocks_back shape before now Past0 lives t newest.u newest.ch newest.more shaped t_in stand newest.has newest.there puts;
            running = blocks_running_back shape before now Past0 lives t newest.u newest.ch newest.more shaped t_in stand newest.has newest.there puts running;
            books = back_books shape before now Past0 lives t newest.u newest.ch newest.more shaped t_in stand newest.has newest.there puts books;
          })
          made
          (logged shape before now Past0 lives t newest.u newest.ch newest.more shaped t_in stand newest.has newest.there puts)
          (let o = owed_back shape (commit_scn shape before) (logged_of shape before) Segs (homes_of shape before) Past0 lives stand.stands t t_in (segments_of shape now) (Homes2 shape before now Past0 lives t newest.u newest.ch newest.more shaped t_in stand newest.has newest.there puts) newest.u (put_values shape before now Past0 lives t newest.u newest.ch newest.more shaped t_in stand newest.has newest.there puts) newest.ch newest.more newest.has in
          let a = owed_is shape before in
          let b = owed_is shape now in
          omega (arith, o, a, b))
          (change t t_in (subst (λ (u : UndoRecord). IsPutBack shape t u before now) (sym newest.last) puts))
          (books_same shape t Is before now puts.group only (ap found_book puts.header ∙ book_back (t % SLOTS) newest.u.previous (header_at shape before t)))
          idle

-- the same by the transaction's id
module _ (shape : Shape) (number : ℕ) (rows : List TableRow) (before : List (List ℕ)) (sound : SoundAs shape before number rows) (x : Xid) (there : x.seg < shape.segments) (few : x.slot < SLOTS) where
  pub can_be_back : (n : ℕ) → HasLive shape before x (n + 1) → CanBack shape before x
  can_be_back n live =
      let is = xid_is x few in
      subst (CanBack shape before) (sym is) (can_back shape number rows before sound.lives sound.standing sound.running sound.books (SLOTS * x.seg + x.slot) x.wrap (omega (arith, there, few)) n (subst (λ (z : Xid). HasLive shape before z (n + 1)) is live))

  pub back_puts : (now : List (List ℕ)) (n : ℕ) → IsShape shape → HasLive shape before x (n + 1) → IsGroup (back_group shape before x) → now ≡ after_group (logged_of shape before + 1) (back_group shape before x) before → TakesBack shape x (newest_record shape before x) before now → PutsBack shape number rows (back_group shape before x ∷ []) before now
  back_puts now n shaped live =
      let is = xid_is x few in
      let Fact : Xid → Type 0 = λ z.
      IsGroup (back_group shape before z) → now ≡ after_group (logged_of shape before + 1) (back_group shape before z) before → TakesBack shape z (newest_record shape before z) before now
      → PutsBack shape number rows (back_group shape before z ∷ []) before now in
      subst Fact (sym is) (back_puts_at shape number rows before sound.lives sound.standing sound.running sound.books (SLOTS * x.seg + x.slot) x.wrap (omega (arith, there, few)) n (subst (λ (z : Xid). HasLive shape before z (n + 1)) is live) now shaped)
