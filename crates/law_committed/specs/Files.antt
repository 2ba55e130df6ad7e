-- The rows of a file before all that is under way, by its blocks alone: each cell is told by one record.
use Rattle.std.specs.Prelude.{◌≡◌, ◌≤◌, ◌<◌, ◌+◌, ◌*◌, ◌/◌, ◌⊎◌, ℕ}
use Rattle.std.specs.Prelude.{zero, suc, List, Some}
use Rattle.std.specs.List.{AllByRecursion}
use Rattle.rb_base.specs.Blocks.{block_of, home_block, table_blocks}
use Rattle.rb_base.specs.declared.ids.Uba.{Uba}
use Rattle.rb_base.specs.declared.shape.Shape.{Shape}
use Rattle.rb_base.specs.declared.sizes.TheConstants.{ACTIVE}
use Rattle.rb_cell.specs.Cells.{cell_of}
use Rattle.rb_model.specs.Rows.{TableRow, InOrder, value_of}
use Rattle.law_blocks.specs.Says.{walk_cell}
use Rattle.law_blocks.specs.Standing.{homes_of, segments_of}
use Rattle.law_blocks.specs.Values.{slot_of}
use Rattle.rb_undoblock.specs.Undo.{undo_at}
use Rattle.rb_undoblock.specs.declared.record.UndoRecord.{UndoRecord}
use Rattle.law_home.specs.Kinds.{Cell}
use Rattle.law_home.specs.Walk.{cell_at, row_of}

-- one of so many records, of which the newest is at this address and each leads to the one before it
abbrev pub OnChain : List (List ℕ) → ℕ → Uba → UndoRecord → Type 0
OnChain blocks zero at u = ⊥
OnChain blocks (suc n) at u = (undo_at (block_of blocks at.block) at.rec ≡ u)
    ⊎ OnChain blocks n (undo_at (block_of blocks at.block) at.rec).previous u

-- a live record of the transaction in table slot t that is of cell j of home b
pub record LiveRecord (shape : Shape) (blocks : List (List ℕ)) (t b j : ℕ) (u : UndoRecord) : Type 0 where
  pub slot : t < 16 * shape.segments
  pub active : (slot_of (segments_of shape blocks) t).state ≡ ACTIVE
  pub on_chain : OnChain blocks (slot_of (segments_of shape blocks) t).live
      (slot_of (segments_of shape blocks) t).newest_at u
  pub home : u.home ≡ b
  pub cell : u.cell ≡ j

-- the first of these: that with the lowest number
pub record FirstRecord (shape : Shape) (blocks : List (List ℕ)) (t b j : ℕ) (u : UndoRecord) : Type 0 where
  pub live : LiveRecord shape blocks t b j u
  pub lowest : (q : UndoRecord) → LiveRecord shape blocks t b j q → u.number ≤ q.number

-- The committed cell j of home b is the cell itself where no live transaction changed it, else the cell before in the
-- first live record of it of one that did.
abbrev pub CommittedAt : Shape → List (List ℕ) → ℕ → ℕ → Cell → Type 0
CommittedAt shape blocks b j x =
    (((t : ℕ) (u : UndoRecord) → LiveRecord shape blocks t b j u → ⊥)
    × (cell_at (homes_of shape blocks b) j ≡ x))
    ⊎ ((t : ℕ) × (u : UndoRecord) × FirstRecord shape blocks t b j u × (walk_cell (cell_of u.cell_before) ≡ x))

-- a committed cell of home b has a row of this key and value
abbrev pub CommittedIn : Shape → List (List ℕ) → ℕ → ℕ → List ℕ → Type 0
CommittedIn shape blocks b key value = (j : ℕ) × (x : Cell) × CommittedAt shape blocks b j x
    × (row_of x key ≡ Some value)

-- Rows in scan order, of tables that there are: those that the committed cells of all homes have, each row in the home
-- of its key, and no others.
pub record AreCommitted (shape : Shape) (blocks : List (List ℕ)) (rows : List TableRow) : Type 0 where
  pub order : InOrder shape.blocks rows
  pub tables : AllByRecursion (λ row. (1 ≤ row.table) × (row.table ≤ shape.tables)) rows
  pub sound : (table key : ℕ) (value : List ℕ) → value_of table key rows ≡ Some value
      → CommittedIn shape blocks (home_block shape table key) key value
  pub complete : (b key : ℕ) (value : List ℕ) → b < table_blocks shape → CommittedIn shape blocks b key value
      → value_of (b / shape.blocks + 1) key rows ≡ Some value
