-- A write is the next group that is logged.
use Rattle.std.proofs.Common.{◌≡◌, ◌⊎◌, inl, inr, ◌<◌, ◌+◌, ◌*◌, ◌/◌, ℕ, Bool, List, arith}
use Rattle.std.proofs.Math.Nat.{div-add-mod}
use Rattle.rb_base.specs.declared.sizes.TheConstants.{SLOTS}
use Rattle.rb_base.specs.Blocks.{header_block, shape_blocks, table_blocks}
use Rattle.rb_base.specs.declared.ids.Uba.{Uba}
use Rattle.rb_base.specs.declared.ids.Xid.{Xid}
use Rattle.rb_model.specs.Change.{Kind}
use Rattle.rb_model.specs.State.{State}
use Rattle.rb_segment.specs.Header.{SegmentInOrder}
use Rattle.rb_segment.specs.Segments.{commit_scn}
use Rattle.law_blocks.specs.Standing.{logged_of, segments_of}
use Rattle.law_blocks.specs.States.{BlocksStand}
use Rattle.law_blocks.specs.Writing.{IsWritten}
use Rattle.law_blocks.proofs.Group.{logged_next}
use Rattle.law_blocks.proofs.SegmentRecorded as segment
use Rattle.rb_undoblock.specs.declared.record.UndoRecord.{UndoRecord}

module _ (h : State) (xids : List Xid) (before now : List (List ℕ)) (t : ℕ) (adds : Bool) (kind : Kind) (address : Uba) (u : UndoRecord) (stand : BlocksStand h xids before) (t_in : t < SLOTS * h.shape.segments) (home_in : u.home < table_blocks h.shape) (is : IsWritten h.shape t adds kind address u before now) where
  abbrev Is : ℕ → Type 0
  Is x = (x ≡ u.home) ⊎ (x ≡ header_block h.shape (t / SLOTS)) ⊎ (x ≡ address.block)

  g_in : t / SLOTS < h.shape.segments
  g_in = let a = div-add-mod t SLOTS in omega (arith, a, t_in)

  order : SegmentInOrder (commit_scn h.shape before) (logged_of h.shape before) (segments_of h.shape before (t / SLOTS))
  order = stand.standing.stands.in_order (t / SLOTS) g_in

  -- it is of blocks that there are
  within : (b : ℕ) → Is b → b < shape_blocks h.shape
  within b at =
      let a = segment.address_within h.shape t address u before now (commit_scn h.shape before) (logged_of h.shape before) order is.recorded in
      elim at [
        | inl home ↦ omega (arith, home, home_in)
        | inr other ↦ elim other [ inl head ↦ omega (arith, head, g_in) | inr undo ↦ omega (arith, undo, g_in, a) ]
      ]

  pub write_logged : logged_of h.shape now ≡ logged_of h.shape before + 1
  write_logged = logged_next h.shape Is before now is.group stand.standing.whole within (let a = stand.standing.ahead in omega (arith, a))
