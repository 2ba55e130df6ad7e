-- Who holds a key, by its home as the blocks have it, which isn't cleaned.
use Rattle.std.specs.Prelude.{◌==◌, ℕ, zero, suc, if◌then◌else◌, List, find}
use Rattle.std.specs.Prelude.{Option, None, Some}
use Rattle.rb_base.specs.Blocks.{block_of, home_block}
use Rattle.rb_base.specs.declared.ids.Xid.{Xid}
use Rattle.rb_base.specs.declared.shape.Shape.{Shape}
use Rattle.rb_cell.specs.declared.cell.Cell.{Cell}
use Rattle.rb_heap.specs.Cleaning.{has_ended}
use Rattle.rb_heap.specs.Homes.{Home, home_entry, home_of, is_keyed}
use Rattle.rb_itl.specs.declared.slots.Entry.{Entry}
use Rattle.rb_itl.specs.declared.slots.TheConstants.{OPEN}
use Rattle.law_blocks.specs.Standing.{env_of}
use Rattle.rb_txntable.specs.declared.looks.Look.{Look}

-- the transaction of an entry in which no outcome is recorded
abbrev pub open_xid : Entry → Option Xid
open_xid entry = if entry.kind == OPEN then Some entry.xid else None

-- that of the entry which a lock names: a lock is one more than its entry's index
abbrev pub locker : Home → ℕ → Option Xid
locker home zero = None
locker home (suc i) = open_xid (home_entry home i)

-- the cell of a key, a row or locked
abbrev pub cell_of_key : Home → ℕ → Option Cell
cell_of_key home key = find (is_keyed key) home.cells

-- that has the cell locked, where there is a cell
abbrev pub cell_locker : Home → Option Cell → Option Xid
cell_locker home None = None
cell_locker home (Some cell) = locker home cell.lock

-- the transaction, where it runs
abbrev pub if_runs : (Xid → Look) → Option Xid → Option Xid
if_runs look None = None
if_runs look (Some x) = if has_ended (look x) then None else Some x

-- the home of a key, as the blocks have it
abbrev pub key_home : Shape → List (List ℕ) → ℕ → ℕ → Home
key_home shape blocks table key = home_of (block_of blocks (home_block shape table key))

-- The transaction that holds a key: it runs, and its entry is named by the lock of the key's cell.
abbrev pub holder_in : Shape → List (List ℕ) → ℕ → ℕ → Option Xid
holder_in shape blocks table key = if_runs (env_of shape blocks).look
    (cell_locker (key_home shape blocks table key) (cell_of_key (key_home shape blocks table key) key))
