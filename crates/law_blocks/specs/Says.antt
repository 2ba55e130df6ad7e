-- Segments and homes as the walk sees them.
use Rattle.std.specs.Prelude.{◌==◌, ◌&&◌, ◌+◌, ◌-◌, ◌*◌, ◌/◌, ◌%◌, ℕ, if◌then◌else◌}
use Rattle.std.specs.Prelude.{map, Option, Some, None}
use Rattle.rb_base.specs.Blocks.{table_blocks}
use Rattle.rb_base.specs.declared.ids.Uba.{Uba}
use Rattle.rb_base.specs.declared.ids.Xid.{Xid}
use Rattle.rb_base.specs.declared.shape.Shape.{Shape}
use Rattle.rb_base.specs.declared.sizes.TheConstants.{SEGMENT_BLOCKS}
use Rattle.rb_cell.specs.Cells.{cell_of}
use Rattle.rb_cell.specs.declared.cell.Cell as cells
use Rattle.rb_cell.specs.declared.cell.TheConstants.{EMPTY, ROW}
use Rattle.rb_heap.specs.Homes as heap
use Rattle.rb_itl.specs.Entries.{entry_of}
use Rattle.rb_itl.specs.declared.slots.Entry as entries
use Rattle.rb_itl.specs.declared.slots.TheConstants.{OPEN, EXACT, BOUND}
use Rattle.rb_model.specs.Change.{Place}
use Rattle.rb_segment.specs.Header.{Segment, record_in, limit_made, look_in, slot_in}
use Rattle.rb_ring.specs.declared.extents.TheConstants.{EXTENT_BLOCKS, EXTENT_RECORDS}
use Rattle.rb_undoblock.specs.declared.record.TheConstants.{PUT, GONE, UNDO_RECORDS}
use Rattle.rb_undoblock.specs.declared.record.UndoRecord.{UndoRecord}
use Rattle.law_home.specs.Kinds.{Status, Free, Open, Exact, Bound, Entry, Cell, Empty, Row, Stub}
use Rattle.law_home.specs.Kinds.{Sort, Puts, Takes, Holds, Undo}
use Rattle.law_home.specs.Walk.{Home, Env}

-- The place that an address names: its block tells the segment and the part of the extent, its turn how many records
-- were before.
abbrev pub place_of : Shape → Uba → Place
place_of shape u = record {
  seg = (u.block - table_blocks shape) / SEGMENT_BLOCKS;
  index = EXTENT_RECORDS * (u.ord - 2)
      + UNDO_RECORDS * (((u.block - table_blocks shape) % SEGMENT_BLOCKS - 1) % EXTENT_BLOCKS) + u.rec + 1;
}

abbrev pub status_of : ℕ → ℕ → Status
status_of kind number =
    if kind == OPEN then Open
    else if kind == EXACT then Exact number
    else if kind == BOUND then Bound number
    else Free

abbrev pub walk_entry : Shape → entries.Entry → Entry
walk_entry shape e = record {
  status = status_of e.kind e.number;
  xid = e.xid;
  newest = place_of shape e.newest;
  chain = e.length;
}

abbrev pub walk_cell : cells.Cell → Cell
walk_cell x =
    if x.state == ROW then Row x.key x.value.items x.lock
    else if (x.state == EMPTY) && (x.lock == 0) then Empty
    else Stub x.key x.lock

-- the home of block b
abbrev pub walk_home : Shape → ℕ → heap.Home → Home
walk_home shape b home = record {
  block = b;
  entries = map (walk_entry shape) home.entries;
  cells = map walk_cell home.cells;
}

abbrev pub sort_by : ℕ → Sort
sort_by kind = if kind == PUT then Puts else if kind == GONE then Takes else Holds

abbrev pub walk_undo : Shape → ℕ → UndoRecord → Undo
walk_undo shape g r = record {
  xid = record { seg = g; slot = r.slot; wrap = r.wrap };
  number = r.number;
  home = r.home;
  key = r.key;
  sort = sort_by r.kind;
  entry = r.entry;
  cell = r.cell;
  entry_before = walk_entry shape (entry_of r.entry_before);
  cell_before = walk_cell (cell_of r.cell_before);
}

abbrev pub walk_record : Shape → ℕ → Option UndoRecord → Option Undo
walk_record shape g None = None
walk_record shape g (Some r) = Some (walk_undo shape g r)

-- the transaction that took table slot t last; the slots are counted over all segments
abbrev pub xid_by : (ℕ → Segment) → ℕ → Xid
xid_by segments t = record {
  seg = t / 16;
  slot = t % 16;
  wrap = (slot_in (segments (t / 16)).header (t % 16)).wrap;
}

-- what the segments say
abbrev pub says : Shape → (ℕ → Segment) → Env
says shape segments = record {
  store = λ p. walk_record shape p.seg (record_in (segments p.seg) p.index);
  look = λ x. look_in (segments x.seg).header x;
  xid = xid_by segments;
  lost = λ g. (segments g).header.lost;
  limit = λ p. limit_made (segments p.seg).header p.index;
}
