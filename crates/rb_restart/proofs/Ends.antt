-- The end of the slot of a transaction without a live change: one group that puts back, after which the slot is idle.
use Rattle.std.proofs.Common.{◌≡◌, ◌≢◌, ◌<◌, ◌≤◌, ◌+◌, ◌*◌, ◌/◌, ◌%◌, inl, inr, ℕ, List, [], ◌∷◌, length, set, refl, sym, ◌∙◌, ap, subst, arith}
use Rattle.std.proofs.lemmas.Bool.{cases_eq}
use Rattle.std.proofs.lemmas.Nat.{mul-le}
use Rattle.std.proofs.Math.Nat.{div-add-mod}
use Rattle.std.specs.List.{AllByRecursion}
use Rattle.rb_base.specs.Blocks.{after_group, block_of, header_block, written_to, AreBlocks, IsShape, StaysBehind}
use Rattle.rb_base.specs.Groups.{Patch}
use Rattle.rb_base.specs.declared.ids.Xid.{Xid}
use Rattle.rb_base.specs.declared.shape.Shape.{Shape}
use Rattle.rb_base.specs.declared.sizes.TheConstants.{ACTIVE, SLOTS}
use Rattle.rb_model.specs.Rows.{TableRow}
use Rattle.rb_restart.specs.Rollback.{found_book, slot}
use Rattle.rb_restart.specs.Steps.{HasLive, IsIdle, PutsBack}
use Rattle.rb_restart.proofs.Joined.{one_puts}
use Rattle.rb_restart.proofs.Marks.{book_ended, books_same}
use Rattle.rb_restart.proofs.Slots.{owed_is, slot_is, xid_is, xid_of}
use Rattle.rb_segment.proofs.Ended.{ended_done, ended_other}
use Rattle.rb_segment.proofs.HeaderAfter.{header_after}
use Rattle.rb_segment.specs.Calls.{slot_patches}
use Rattle.rb_segment.specs.Header.{Header, Segment, header_of, slot_in}
use Rattle.rb_segment.specs.Moves.{ended, with_header}
use Rattle.rb_segment.specs.Segments.{commit_scn}
use Rattle.law_blocks.specs.Groups.{IsEnded, header_at}
use Rattle.law_blocks.proofs.TellBooks.{end_books}
use Rattle.law_blocks.specs.Standing.{SoundAs, Standing, homes_of, logged_of, segments_of, TellBooks}
use Rattle.law_blocks.specs.Values.{Past, owed, slot_of, Running}
use Rattle.law_blocks.specs.Writes.{ended_segments}
use Rattle.law_blocks.proofs.BlocksDone.{end_keeps}
use Rattle.law_blocks.proofs.Group.{logged_next}
use Rattle.law_blocks.proofs.OwedMoves.{owed_ended}
use Rattle.law_blocks.proofs.SegmentRead.{segments_ended}
use Rattle.law_blocks.proofs.SlotsMoved.{slot_after, slot_other}
use Rattle.rb_txntable.specs.declared.slots.TableSlot.{TableSlot}
use Rattle.rb_undo.specs.Backs.{header_for}
use Rattle.law_home.specs.Walk.{Change, own}

-- the group that ends a transaction's slot
abbrev pub end_group : Shape → List (List ℕ) → Xid → List Patch
end_group shape blocks x = slot_patches (header_block shape x.seg) x.slot (ended x.slot (header_for shape blocks x))

-- The header was moved in a copy, to which the same bytes were written.
pub header_ended : (shape : Shape) (blocks : List (List ℕ)) (number : ℕ) (x : Xid) (header : List ℕ) → AreBlocks shape blocks → x.seg < shape.segments → x.slot < SLOTS
    → header ≡ written_to (header_block shape x.seg) (slot_patches (header_block shape x.seg) x.slot (header_of header)) (block_of blocks (header_block shape x.seg)) → header_of header ≡ ended x.slot (header_for shape blocks x)
    → header_for shape (after_group number (end_group shape blocks x) blocks) x ≡ ended x.slot (header_for shape blocks x)
header_ended shape blocks number x header are there few copied moved =
    let at = header_block shape x.seg in
    let stay : AllByRecursion StaysBehind (end_group shape blocks x) = (record { behind_head = omega arith; within_block = omega (arith, few) }, tt) in
    let same : written_to at (end_group shape blocks x) (block_of blocks at) ≡ header = ap (λ (h : Header). written_to at (slot_patches at x.slot h) (block_of blocks at)) (sym moved) ∙ sym copied in
    header_after shape blocks number at (end_group shape blocks x) are (omega (arith, there)) stay ∙ (ap header_of same ∙ moved)

no_changes : (chs : List Change) → length chs ≡ 0 → chs ≡ []
no_changes [] is = refl
no_changes (ch ∷ chs) is = absurd (omega (arith, is))

module _ (shape : Shape) (number : ℕ) (rows : List TableRow) (before : List (List ℕ)) (lives : List (List Change)) (stand : Standing shape before (record { base = number; rows = rows; list = [] }) lives) (running : Running shape (segments_of shape before)) (books : TellBooks shape before) (shaped : IsShape shape) (t wrap : ℕ) (t_in : t < SLOTS * shape.segments) (live : HasLive shape before (xid_of t wrap) 0) (now : List (List ℕ)) where
  abbrev Segs : ℕ → Segment
  Segs = segments_of shape before

  abbrev Past0 : Past
  Past0 = record { base = number; rows = rows; list = [] }

  abbrev X : Xid
  X = xid_of t wrap

  slot_at_x : slot_of Segs t ≡ slot_in (header_for shape before X) (t % SLOTS)
  slot_at_x = slot_is shape before t wrap

  active : (slot_of Segs t).state ≡ ACTIVE
  active = ap (λ (s : TableSlot). s.state) slot_at_x ∙ live.runs.active

  empty : own lives t ≡ []
  empty = no_changes (own lives t) (sym ((stand.stands.slots t t_in).active active).count ∙ (ap (λ (s : TableSlot). s.live) slot_at_x ∙ live.live))

  abbrev Is : ℕ → Type 0
  Is x = x ≡ header_block shape (t / SLOTS)

  module _ (made : now ≡ after_group (logged_of shape before + 1) (end_group shape before X) before) (header : header_for shape now X ≡ ended (t % SLOTS) (header_for shape before X)) where
    ends : IsEnded shape t before now
    ends =
        let g_in = div-add-mod t SLOTS in
        let rows_few : shape.tables * shape.blocks ≤ 16 * 4096 = mul-le shape.tables shape.blocks 16 4096 shaped.few_tables.1 shaped.few_blocks.1 in
        record {
          group = record {
            patches = end_group shape before X;
            some = omega arith;
            each = (record { block_fits = omega (arith, rows_few, shaped.few_segments, g_in, t_in); some = omega arith; behind_head = omega arith; within_block = omega arith }, tt);
            only = (refl, tt);
            made = made;
          };
          header = header;
          patches = ap (slot_patches (header_block shape (t / SLOTS)) (t % SLOTS)) (sym header);
        }

    within : t % SLOTS < length (Segs (t / SLOTS)).header.slots
    within = let g_in = div-add-mod t SLOTS in let many = (stand.stands.in_order (t / SLOTS) (omega (arith, g_in, t_in))).header.slots_counted in omega (arith, many)

    after : (g : ℕ) → segments_of shape now g ≡ ended_segments t Segs g
    after g = ap (λ (f : ℕ → Segment). f g) (segments_ended shape t before now ends)

    others : (v : ℕ) → v ≢ t → slot_of (segments_of shape now) v ≡ slot_of Segs v
    others = slot_other Segs (segments_of shape now) t (with_header (ended (t % SLOTS) (Segs (t / SLOTS)).header) (Segs (t / SLOTS))) after (ended_other (Segs (t / SLOTS)) (t % SLOTS) within active)

    pub idle_at : IsIdle shape now t
    idle_at is =
        let at : slot_of (segments_of shape now) t ≡ slot_in (ended (t % SLOTS) (Segs (t / SLOTS)).header) (t % SLOTS) = slot_after Segs (segments_of shape now) t (with_header (ended (t % SLOTS) (Segs (t / SLOTS)).header) (Segs (t / SLOTS))) after in
        ended_done (Segs (t / SLOTS)) (t % SLOTS) within active (ap (λ (s : TableSlot). s.state) (sym at) ∙ is)

    idle : (v : ℕ) → v < SLOTS * shape.segments → IsIdle shape before v → IsIdle shape now v
    idle v v_in is = elim (cases_eq v t) [
      | inl at ↦ absurd (is (ap (λ (z : ℕ). (slot_of Segs z).state) at ∙ active))
      | inr ne ↦ λ runs. is (ap (λ (s : TableSlot). s.state) (sym (others v ne)) ∙ runs)
    ]

    logged : logged_of shape now ≡ logged_of shape before + 1
    logged = logged_next shape Is before now ends.group stand.whole (λ b at. let g_in = div-add-mod t SLOTS in omega (arith, at, g_in, t_in)) (omega (arith, stand.ahead))

    pub end_puts_at : PutsBack shape number rows (end_group shape before X ∷ []) before now
    end_puts_at = one_puts shape number rows (end_group shape before X) before now
        (record { lives = lives; standing = stand; running = running; books = books })
        (let keeps = end_keeps shape before now Past0 lives stand t t_in active empty ends in
        record { lives = set lives t []; standing = keeps.0; running = keeps.1 running; books = end_books shape before now Past0 lives t shaped t_in stand active ends books })
        made
        logged
        (let o = owed_ended shape (commit_scn shape before) (logged_of shape before) Segs (homes_of shape before) Past0 lives stand.stands t t_in active empty in
        let a = owed_is shape before in
        let b = owed_is shape now in
        let c = ap (owed shape) (segments_ended shape t before now ends) in
        omega (arith, o, a, b, c))
        (slot t t_in ends)
        (books_same shape t Is before now ends.group (λ b at. inr at) (ap found_book ends.header ∙ book_ended (t % SLOTS) (header_at shape before t)))
        idle

-- the same by the transaction's id
pub end_puts : (shape : Shape) (number : ℕ) (rows : List TableRow) (before now : List (List ℕ)) (x : Xid) → SoundAs shape before number rows → IsShape shape → x.seg < shape.segments → x.slot < SLOTS → HasLive shape before x 0
    → now ≡ after_group (logged_of shape before + 1) (end_group shape before x) before → header_for shape now x ≡ ended x.slot (header_for shape before x)
    → PutsBack shape number rows (end_group shape before x ∷ []) before now × IsIdle shape now (SLOTS * x.seg + x.slot)
end_puts shape number rows before now x sound shaped there few live =
    let is = xid_is x few in
    let t = SLOTS * x.seg + x.slot in
    let Fact : Xid → Type 0 = λ z.
    now ≡ after_group (logged_of shape before + 1) (end_group shape before z) before → header_for shape now z ≡ ended z.slot (header_for shape before z)
    → PutsBack shape number rows (end_group shape before z ∷ []) before now × IsIdle shape now t in
    let has = subst (λ (z : Xid). HasLive shape before z 0) is live in
    let t_in : t < SLOTS * shape.segments = omega (arith, there, few) in
    subst Fact (sym is) (λ made header. (
      end_puts_at shape number rows before sound.lives sound.standing sound.running sound.books shaped t x.wrap t_in has now made header,
      idle_at shape number rows before sound.lives sound.standing sound.running sound.books shaped t x.wrap t_in has now made header,
    ))
