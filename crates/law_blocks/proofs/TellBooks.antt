-- Each header tells a book, also behind a put back and the end of a slot.
use Rattle.std.proofs.Common.{◌≡◌, ◌≢◌, inl, inr, ◌<◌, ◌*◌, ◌/◌, ◌%◌, ℕ, List, [], ◌∷◌, Some, sym, subst, arith}
use Rattle.std.proofs.lemmas.Bool.{cases_eq}
use Rattle.rb_base.specs.Blocks.{IsShape, table_blocks}
use Rattle.rb_base.specs.declared.shape.Shape.{Shape}
use Rattle.rb_base.specs.declared.sizes.TheConstants.{ACTIVE, SLOTS}
use Rattle.rb_model.specs.Book.{Book, left}
use Rattle.rb_segment.proofs.BookMoves.{book_back, book_left}
use Rattle.rb_segment.proofs.WithSegment.{at_segment, off_segment}
use Rattle.rb_segment.specs.Books.{IsBook}
use Rattle.rb_segment.specs.Header.{Segment, record_in, slot_in}
use Rattle.rb_segment.specs.Segments.{commit_scn}
use Rattle.rb_segment.specs.Moves.{ended, with_header, with_segment}
use Rattle.rb_undoblock.specs.declared.record.UndoRecord.{UndoRecord}
use Rattle.law_blocks.proofs.SegmentRead.{segments_ended, segments_put_back}
use Rattle.law_blocks.specs.Groups.{IsEnded, IsPutBack}
use Rattle.law_blocks.specs.Standing.{Standing, TellBooks, segments_of}
use Rattle.law_blocks.specs.Values.{IsSaved, Listed, Past, SlotStands, slot_of, wraps_of, xid_in}
use Rattle.law_blocks.specs.Writes.{back_segment}
use Rattle.law_home.specs.Walk.{Change, own}

-- each header tells a book behind a put back
pub back_books : (shape : Shape) (before now : List (List ℕ)) (past : Past) (lives : List (List Change)) (t : ℕ) (u : UndoRecord) (ch : Change) (more : List Change)
    → IsShape shape → t < SLOTS * shape.segments → Standing shape before past lives → own lives t ≡ ch ∷ more
    → record_in (segments_of shape before (t / SLOTS)) ch.place.index ≡ Some u → IsPutBack shape t u before now
    → TellBooks shape before → TellBooks shape now
back_books shape before now past lives t u ch more shaped t_in stand has there put books g g_in =
    let slot : SlotStands shape (commit_scn shape before) (wraps_of (segments_of shape before)) (t / SLOTS) (segments_of shape before (t / SLOTS)) (t % SLOTS) (own lives t) = stand.stands.slots t t_in in
    let active : (slot_of (segments_of shape before) t).state ≡ ACTIVE = elim (cases_eq (slot_of (segments_of shape before) t).state ACTIVE) [
      | inl is ↦ is
      | inr idle ↦ let none : own lives t ≡ [] = slot.idle idle in absurd (cc (none, has))
    ] in
    let listed : Listed shape (segments_of shape before (t / SLOTS)) (xid_in (t / SLOTS) (segments_of shape before (t / SLOTS)) (t % SLOTS)) (IsSaved shape (commit_scn shape before) (wraps_of (segments_of shape before))) (slot_in (segments_of shape before (t / SLOTS)).header (t % SLOTS)).newest_at (ch ∷ more) =
    subst (λ (z : List Change). Listed shape (segments_of shape before (t / SLOTS)) (xid_in (t / SLOTS) (segments_of shape before (t / SLOTS)) (t % SLOTS)) (IsSaved shape (commit_scn shape before) (wraps_of (segments_of shape before))) (slot_in (segments_of shape before (t / SLOTS)).header (t % SLOTS)).newest_at z) has (slot.active active).listed in
    let r : UndoRecord = listed.4.0 in
    let same : r ≡ u = (let a : record_in (segments_of shape before (t / SLOTS)) ch.place.index ≡ Some r = listed.4.1 in cc (a, there)) in
    let home_in : u.home < table_blocks shape = subst (λ (z : UndoRecord). z.home < table_blocks shape) same listed.4.6.there in
    let segs = segments_put_back shape t u before now home_in put in
    subst (λ (z : ℕ → Segment). (b : Book) × IsBook (z g).header b) (sym segs) (elim (cases_eq g (t / SLOTS)) [
      | inl at ↦
          let b = books (t / SLOTS) (omega (arith, t_in)) in
          subst (λ (z : ℕ). (b : Book) × IsBook (with_segment (t / SLOTS) (back_segment (segments_of shape before) t u) (segments_of shape before) z).header b) (sym at)
          (subst (λ (z : Segment). (b : Book) × IsBook z.header b) (sym (at_segment (t / SLOTS) (back_segment (segments_of shape before) t u) (segments_of shape before)))
          (b.0, book_back (segments_of shape before (t / SLOTS)).header b.0 b.1 (stand.stands.in_order (t / SLOTS) (omega (arith, t_in))).header.slots_counted (t % SLOTS) u.previous (omega arith)))
      | inr off ↦ subst (λ (z : Segment). (b : Book) × IsBook z.header b) (sym (off_segment (t / SLOTS) g (back_segment (segments_of shape before) t u) (segments_of shape before) off)) (books g g_in)
    ])

pub end_books : (shape : Shape) (before now : List (List ℕ)) (past : Past) (lives : List (List Change)) (t : ℕ)
    → IsShape shape → t < SLOTS * shape.segments → Standing shape before past lives
    → (slot_of (segments_of shape before) t).state ≡ ACTIVE → IsEnded shape t before now
    → TellBooks shape before → TellBooks shape now
end_books shape before now past lives t shaped t_in stand active end books g g_in =
    let segs = segments_ended shape t before now end in
    subst (λ (z : ℕ → Segment). (b : Book) × IsBook (z g).header b) (sym segs) (elim (cases_eq g (t / SLOTS)) [
      | inl at ↦
          let b = books (t / SLOTS) (omega (arith, t_in)) in
          subst (λ (z : ℕ). (b : Book) × IsBook (with_segment (t / SLOTS) (with_header (ended (t % SLOTS) (segments_of shape before (t / SLOTS)).header) (segments_of shape before (t / SLOTS))) (segments_of shape before) z).header b) (sym at)
          (subst (λ (z : Segment). (b : Book) × IsBook z.header b) (sym (at_segment (t / SLOTS) (with_header (ended (t % SLOTS) (segments_of shape before (t / SLOTS)).header) (segments_of shape before (t / SLOTS))) (segments_of shape before)))
          (left (t % SLOTS) b.0, book_left (segments_of shape before (t / SLOTS)).header b.0 b.1 (stand.stands.in_order (t / SLOTS) (omega (arith, t_in))).header.slots_counted (t % SLOTS) (omega arith)))
      | inr off ↦ subst (λ (z : Segment). (b : Book) × IsBook z.header b) (sym (off_segment (t / SLOTS) g (with_header (ended (t % SLOTS) (segments_of shape before (t / SLOTS)).header) (segments_of shape before (t / SLOTS))) (segments_of shape before) off)) (books g g_in)
    ])
