-- A record as a segment gives it, as the walk sees it, and a row that is kept.
use Rattle.std.specs.Prelude.{◌==◌, ◌&&◌, ℕ, Bool, nat_lt, List, Option, Some, None}
use Rattle.arrayvec.specs.ArrayVec.{ArrayVec}
use Rattle.rb_base.specs.declared.ids.Xid.{Xid}
use Rattle.rb_base.specs.declared.shape.Shape.{Shape}
use Rattle.rb_cell.specs.declared.cell.TheConstants.{CELLS}
use Rattle.rb_cr.specs.declared.records.SegmentRecord.{SegmentRecord}
use Rattle.law_read.specs.Chains.{same_xid}
use Rattle.law_blocks.specs.Says.{walk_undo}
use Rattle.law_home.specs.Kinds.{Undo}

abbrev pub record_of : Shape → SegmentRecord → Undo
record_of shape found = walk_undo shape found.seg found.undo

abbrev pub walk_found : Shape → Option SegmentRecord → Option Undo
walk_found shape None = None
walk_found shape (Some found) = Some (record_of shape found)

-- the transaction that made it
abbrev pub maker_of : SegmentRecord → Xid
maker_of found = record { seg = found.seg; slot = found.undo.slot; wrap = found.undo.wrap }

-- it names this entry, this transaction, this block and a cell that there is
abbrev pub names_at : ℕ → ℕ → Xid → SegmentRecord → Bool
names_at i block xid found = found.undo.entry == i
    && (same_xid (maker_of found) xid && (found.undo.home == block && nat_lt found.undo.cell CELLS))

abbrev pub row_items : Option (ArrayVec ℕ) → Option (List ℕ)
row_items None = None
row_items (Some value) = Some value.items

abbrev pub kept_items : Option (Option (ArrayVec ℕ)) → Option (Option (List ℕ))
kept_items None = None
kept_items (Some row) = Some (row_items row)
