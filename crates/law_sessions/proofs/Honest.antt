-- What segments say of records that are gone, and whose slot a reader has.
use Rattle.std.proofs.Common.{◌≡◌, inl, inr, ◌+◌, ◌*◌, ◌/◌, ◌%◌, ◌&&◌, nat_le, ℕ, true, List, Option, Some, None, refl, sym, ◌∙◌, ap, arith}
use Rattle.std.proofs.Math.Nat.{div-add-mod}
use Rattle.std.proofs.lemmas.Bool.{cases_Bool, cond-true, cond-false}
use Rattle.rb_base.specs.declared.sizes.TheConstants.{SLOTS}
use Rattle.rb_base.specs.declared.ids.Xid.{Xid}
use Rattle.rb_base.specs.declared.shape.Shape.{Shape}
use Rattle.rb_model.specs.Book.{turn_of}
use Rattle.law_read.specs.Reading.{Honest, Reader}
use Rattle.rb_segment.specs.Header.{Segment, extent_with, limit_by, limit_in, position_of, record_in, undo_in}
use Rattle.law_blocks.specs.Says.{says, walk_record}
use Rattle.rb_undoblock.specs.declared.record.UndoRecord.{UndoRecord}
use Rattle.law_sessions.specs.Views.{reader_slot}

no_record : (shape : Shape) (g : ℕ) (o : Option UndoRecord) → walk_record shape g o ≡ None → o ≡ None
no_record shape g None is = refl
no_record shape g (Some r) is = absurd cc

no_extent_found : (undo : List UndoRecord) (position : ℕ) (o : Option ℕ) → undo_in undo position o ≡ None → o ≡ None
no_extent_found undo position None is = refl
no_extent_found undo position (Some e) is = absurd cc

-- a record that was made and is gone: its turn is gone, and its limit is lost
gone_made : (s : Segment) (i : ℕ) → (nat_le 1 i && nat_le i s.header.writes) ≡ true → record_in s i ≡ None → limit_in s.header i ≡ s.header.lost
gone_made s i made gone =
    let inner : undo_in s.undo (position_of i) (extent_with s.header.extents (turn_of i)) ≡ None = sym (cond-true (nat_le 1 i && nat_le i s.header.writes) (undo_in s.undo (position_of i) (extent_with s.header.extents (turn_of i))) None made) ∙ gone in
    ap (limit_by s.header) (no_extent_found s.undo (position_of i) (extent_with s.header.extents (turn_of i)) inner)

-- Segments are honest of every place, since the limit is of records that were made alone.
pub honest_says : (shape : Shape) (segments : ℕ → Segment) → Honest (says shape segments)
honest_says shape segments = λ p gone.
    let s : Segment = segments p.seg in
    let none : record_in s p.index ≡ None = no_record shape p.seg (record_in s p.index) gone in
    elim (cases_Bool (nat_le 1 p.index && nat_le p.index s.header.writes)) [
      | inl made ↦ let a = cond-true (nat_le 1 p.index && nat_le p.index s.header.writes) (limit_in s.header p.index) s.header.lost made in let b = gone_made s p.index made none in omega (arith, a, b)
      | inr not_made ↦ let a = cond-false (nat_le 1 p.index && nat_le p.index s.header.writes) (limit_in s.header p.index) s.header.lost not_made in omega (arith, a)
    ]

-- some slot is the reader's, whatever id he has
reader_some : (shape : Shape) (segments : ℕ → Segment) (x : Xid) → Reader (says shape segments) (SLOTS * x.seg + x.slot) (Some x)
reader_some shape segments x = λ t active mine.
    let is : Some x ≡ Some ((says shape segments).xid t) = sym mine in
    let same : x ≡ (says shape segments).xid t = cc in
    let a : x.seg ≡ t / SLOTS = ap (λ (y : Xid). y.seg) same in
    let b : x.slot ≡ t % SLOTS = ap (λ (y : Xid). y.slot) same in
    let c = div-add-mod t SLOTS in
    omega (arith, a, b, c)

pub reader_is : (shape : Shape) (segments : ℕ → Segment) (mine : Option Xid) → Reader (says shape segments) (reader_slot mine) mine
reader_is shape segments None = λ t active mine. absurd cc
reader_is shape segments (Some x) = reader_some shape segments x
