-- Blocks that have a number and rows, once what is under way is taken back, pass the tests of an opening.
use Rattle.std.proofs.Common.{◌≡◌, ◌<◌, ◌+◌, ◌*◌, ◌/◌, ◌%◌, ℕ, List, [], refl, sym, ap, subst, arith}
use Rattle.rb_base.specs.Blocks.{block_of, header_block}
use Rattle.rb_base.specs.declared.shape.Shape.{Shape}
use Rattle.rb_base.specs.declared.sizes.TheConstants.{ACTIVE, SLOTS}
use Rattle.rb_model.specs.Rows.{TableRow}
use Rattle.rb_recovery.proofs.Headers.{segment_sound}
use Rattle.rb_recovery.proofs.Listed.{listed_chain}
use Rattle.rb_segment.proofs.Records.{found}
use Rattle.rb_segment.specs.Header.{HeaderInOrder, Segment, SegmentInOrder, slot_in}
use Rattle.rb_segment.specs.Segments.{commit_scn, wrap_at}
use Rattle.rb_sound.proofs.Chains.{slot_is}
use Rattle.rb_sound.proofs.Together.{AreAlike, home_later, stand_alike}
use Rattle.rb_sound.specs.Active.{Chain, CouldStand, IsActive}
use Rattle.rb_sound.specs.Sound.{AreSound}
use Rattle.law_blocks.proofs.SegmentRead.{header_is}
use Rattle.law_blocks.specs.Standing.{SoundAs, Standing, logged_of, segments_of}
use Rattle.law_blocks.specs.Values.{ActiveSlot, IsSaved, Past, SlotStands, wraps_of, xid_in}
use Rattle.rb_txntable.specs.declared.slots.TableSlot.{TableSlot}
use Rattle.rb_undoblock.specs.declared.record.UndoRecord.{UndoRecord}
use Rattle.law_home.specs.Walk.{Change, own}

-- an Active slot of a segment in order has its live records, as an opening tests them
active_slot : (shape : Shape) (commit logged : ℕ) (wraps : ℕ → ℕ → ℕ) (g : ℕ) (s : Segment) (i : ℕ) (chs : List Change) → SegmentInOrder commit logged s → ActiveSlot shape commit wraps g s i chs → (Kept : UndoRecord → Type 0) → ((r : UndoRecord) → IsSaved shape commit wraps r → Kept r) → IsActive Kept shape g s i
active_slot shape commit logged wraps g s i chs order slot Kept kept = record {
  begun =
      let at = found s.header.extents (slot_in s.header i).first slot.keeps.pinned.0 slot.keeps.pinned.1 in
      record {
        some = omega (arith, slot.keeps.first);
        first = (slot.keeps.pinned.0, omega (arith, at.0, order.header.extents_counted), at.1);
        start = slot.start;
      };
  chain = subst (λ (n : ℕ). Chain Kept shape s (xid_in g s i) n (slot_in s.header i).newest_at) (sym slot.count)
      (listed_chain shape s (xid_in g s i) order.numbers.count (IsSaved shape commit wraps) Kept (λ r saved. (saved.there, saved.entry, saved.cell)) kept (slot_in s.header i).newest_at chs slot.listed);
}

module _ (shape : Shape) (blocks : List (List ℕ)) (past : Past) (lives : List (List Change)) (stand : Standing shape blocks past lives) where
  abbrev Scn : ℕ
  Scn = commit_scn shape blocks

  abbrev Segs : ℕ → Segment
  Segs = segments_of shape blocks

  -- the wraps by the segments are those by the headers' bytes
  alike : AreAlike shape (wraps_of Segs) (wrap_at shape blocks)
  alike seg slot there few = ap (λ (s : TableSlot). s.wrap) (sym (slot_is shape blocks seg slot (block_of blocks (header_block shape seg)) refl few))

  stands : (r : UndoRecord) → IsSaved shape Scn (wraps_of Segs) r → CouldStand shape Scn (wrap_at shape blocks) r
  stands r saved = stand_alike shape Scn (wraps_of Segs) (wrap_at shape blocks) r alike (record { entry = saved.entry_sound; cell = saved.cell_sound; value = saved.value })

  active : (g i : ℕ) → g < shape.segments → i < SLOTS → (slot_in (Segs g).header i).state ≡ ACTIVE → IsActive (CouldStand shape Scn (wrap_at shape blocks)) shape g (Segs g) i
  active g i there few runs =
      let t = SLOTS * g + i in
      let seg : t / SLOTS ≡ g = omega (arith, few) in
      let at : t % SLOTS ≡ i = omega (arith, few) in
      let by_number = stand.stands.slots t (omega (arith, there, few)) in
      let by_segment = subst (λ (h : ℕ). SlotStands shape Scn (wraps_of Segs) h (Segs h) (t % SLOTS) (own lives t)) seg by_number in
      let slot = subst (λ (j : ℕ). SlotStands shape Scn (wraps_of Segs) g (Segs g) j (own lives t)) at by_segment in
      active_slot shape Scn (logged_of shape blocks) (wraps_of Segs) g (Segs g) i (own lives t) (stand.stands.in_order g there) (slot.active runs) (CouldStand shape Scn (wrap_at shape blocks)) stands

  pub standing_sound : AreSound shape blocks
  standing_sound = record {
    segments = λ g there. segment_sound Scn (block_of blocks (header_block shape g)) (subst (HeaderInOrder Scn) (header_is shape blocks g) (stand.stands.in_order g there).header);
    homes = λ which lt. home_later shape Scn Scn (wraps_of Segs) (wrap_at shape blocks) (which % shape.blocks) (block_of blocks which) (omega arith) alike (stand.homes_sound which lt);
    active = active;
  }

pub sound_as : (shape : Shape) (blocks : List (List ℕ)) (number : ℕ) (rows : List TableRow) → SoundAs shape blocks number rows → AreSound shape blocks
sound_as shape blocks number rows sound = standing_sound shape blocks (record { base = number; rows = rows; list = [] }) sound.lives sound.standing
