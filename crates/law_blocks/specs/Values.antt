-- What segments and homes stand for, whatever blocks they are read from.
use Rattle.std.specs.Prelude.{◌≡◌, ◌≢◌, ◌<◌, ◌≤◌, ◌==◌, ◌+◌, ◌*◌, ◌/◌, ◌%◌}
use Rattle.std.specs.Prelude.{ℕ, suc, if◌then◌else◌}
use Rattle.std.specs.Prelude.{List, [], ◌∷◌, length, map, Some, None}
use Rattle.std.specs.List.{sum_by, range_with_len}
use Rattle.rb_base.specs.Blocks.{table_blocks}
use Rattle.rb_base.specs.Fields.{number_at}
use Rattle.rb_base.specs.declared.ids.Uba.{Uba}
use Rattle.rb_base.specs.declared.ids.Xid.{Xid}
use Rattle.rb_base.specs.declared.shape.Shape.{Shape}
use Rattle.rb_base.specs.declared.sizes.TheConstants.{ACTIVE, VALUE_BYTES}
use Rattle.rb_cell.specs.Cells.{cell_of}
use Rattle.rb_cell.specs.declared.cell.TheConstants.{CELLS, LENGTH_AT}
use Rattle.rb_heap.specs.Soundness.{IsEntrySound, IsCellSound}
use Rattle.rb_itl.specs.Entries.{entry_of}
use Rattle.rb_itl.specs.declared.slots.TheConstants.{ENTRIES}
use Rattle.rb_model.specs.Rows.{TableRow, value_of}
use Rattle.rb_segment.specs.Header.{Segment, SegmentInOrder, slot_in, record_in}
use Rattle.rb_segment.specs.Header.{slot_owed}
use Rattle.rb_segment.specs.Moves.{IsAddress}
use Rattle.rb_segment.specs.Running.{KeepsRecords, RunningSlot}
use Rattle.law_blocks.specs.Says.{says, place_of}
use Rattle.rb_txntable.specs.declared.slots.TableSlot.{TableSlot}
use Rattle.rb_undoblock.specs.declared.record.UndoRecord.{UndoRecord}
use Rattle.law_home.specs.Homes.{here, narrow}
use Rattle.law_home.specs.Kinds.{Open}
use Rattle.law_home.specs.Walk.{Change, Commit, Rows, Env, Home, Walk, Tree, Unique, OldCommits, own, last}
use Rattle.law_home.specs.Walk.{entry_at, cell_at, lock_of}

-- commits behind a base, newest first, all homes together
pub record Past : Type 0 where
  pub base : ℕ
  pub rows : List TableRow
  pub list : List Commit

-- what of the rows concerns the block of a home
abbrev pub rows_here : Shape → ℕ → List TableRow → Rows
rows_here shape b rows k =
    if k % shape.blocks == b % shape.blocks then value_of (b / shape.blocks + 1) k rows else None

-- one home: its live changes and then the commits are taken back
pub record HomeStands (env : Env) (made : ℕ → ℕ) (base : ℕ) (rows : Rows) (list : List Commit)
    (lives : List (List Change)) (b : Home) : Type 0 where
  pub m : ℕ
  pub tree : Tree env m lives b (Walk env base rows list)
  pub unique : Unique b
  pub locks : (i j : ℕ) → lock_of (cell_at b j) ≡ suc i → (entry_at b i).status ≡ Open
  pub old : OldCommits made list

-- how many records each segment has made
abbrev pub made_by : (ℕ → Segment) → ℕ → ℕ
made_by segments g = (segments g).header.writes

-- each home stands
abbrev pub HomesStand : Shape → (ℕ → Segment) → (ℕ → Home) → Past → List (List Change) → Type 0
HomesStand shape segments homes past lives = (b : ℕ) → b < table_blocks shape
    → HomeStands (says shape segments) (made_by segments) past.base (rows_here shape b past.rows)
    (map (narrow b) past.list) (map (here b) lives) (homes b)

-- what a live record keeps could be written back
pub record IsSaved (shape : Shape) (commit : ℕ) (wraps : ℕ → ℕ → ℕ) (r : UndoRecord) : Type 0 where
  pub there : r.home < table_blocks shape
  pub entry : r.entry < ENTRIES
  pub cell : r.cell < CELLS
  pub entry_sound : IsEntrySound shape commit wraps (entry_of r.entry_before)
  pub cell_sound : IsCellSound shape (r.home % shape.blocks) (cell_of r.cell_before)
  pub value : number_at r.cell_before LENGTH_AT 2 ≤ VALUE_BYTES

-- A slot's live records, newest first, from an address on: each leads to the one before it, over all homes. An address
-- tells the place and, by its block, where to read it.
abbrev pub Listed : Shape → Segment → Xid → (UndoRecord → Type 0) → Uba → List Change → Type 0
Listed shape s x Saved uba [] = uba.ord ≡ 0
Listed shape s x Saved uba (ch ∷ more) =
    (1 ≤ uba.ord) × IsAddress shape x.seg s.header uba
    × (place_of shape uba ≡ ch.place) × (ch.place.seg ≡ x.seg)
    × ((r : UndoRecord) × (record_in s ch.place.index ≡ Some r) × (r.slot ≡ x.slot) × (r.wrap ≡ x.wrap)
    × (r.number ≡ suc (length more)) × (r.home ≡ ch.home) × Saved r × Listed shape s x Saved r.previous more)

-- the transaction that took slot i of segment g last
abbrev pub xid_in : ℕ → Segment → ℕ → Xid
xid_in g s i = record { seg = g; slot = i; wrap = (slot_in s.header i).wrap }

-- Active slot i of segment g and its live changes
pub record ActiveSlot (shape : Shape) (commit : ℕ) (wraps : ℕ → ℕ → ℕ) (g : ℕ) (s : Segment) (i : ℕ)
    (chs : List Change) : Type 0 where
  pub count : (slot_in s.header i).live ≡ length chs
  -- how many records were made before its first
  pub start : (slot_in s.header i).start ≤ s.header.writes
  pub listed : Listed shape s (xid_in g s i) (IsSaved shape commit wraps) (slot_in s.header i).newest_at chs
  pub keeps : KeepsRecords s i

-- a slot and its live changes, of which one that isn't Active has none
pub record SlotStands (shape : Shape) (commit : ℕ) (wraps : ℕ → ℕ → ℕ) (g : ℕ) (s : Segment) (i : ℕ)
    (chs : List Change) : Type 0 where
  pub active : (slot_in s.header i).state ≡ ACTIVE → ActiveSlot shape commit wraps g s i chs
  pub idle : (slot_in s.header i).state ≢ ACTIVE → chs ≡ []

-- table slot t, counted over all segments
abbrev pub slot_of : (ℕ → Segment) → ℕ → TableSlot
slot_of segments t = slot_in (segments (t / 16)).header (t % 16)

abbrev pub wraps_of : (ℕ → Segment) → ℕ → ℕ → ℕ
wraps_of segments g i = (slot_in (segments g).header i).wrap

-- how many groups it takes to put back what is under way
abbrev pub owed : Shape → (ℕ → Segment) → ℕ
owed shape segments = sum_by (λ t. slot_owed (slot_of segments t)) (range_with_len 0 (16 * shape.segments))

-- Segments and homes stand for commits behind a base and for the live changes of each table slot.
pub record StandingAs (shape : Shape) (commit logged : ℕ) (segments : ℕ → Segment)
    (homes : ℕ → Home) (past : Past) (lives : List (List Change)) : Type 0 where
  pub slots_counted : length lives ≡ 16 * shape.segments
  pub number : commit ≡ last past.base past.list
  pub in_order : (g : ℕ) → g < shape.segments → SegmentInOrder commit logged (segments g)
  -- a positive commit number is that of one slot
  pub apart : (t u : ℕ) → t < 16 * shape.segments → u < 16 * shape.segments → 1 ≤ (slot_of segments t).newest
      → (slot_of segments t).newest ≡ (slot_of segments u).newest → t ≡ u
  pub slots : (t : ℕ) → t < 16 * shape.segments
      → SlotStands shape commit (wraps_of segments) (t / 16) (segments (t / 16)) (t % 16) (own lives t)
  pub homes_stand : HomesStand shape segments homes past lives

-- each Active slot is one of an engine that runs
abbrev pub Running : Shape → (ℕ → Segment) → Type 0
Running shape segments = (t : ℕ) → t < 16 * shape.segments → (slot_of segments t).state ≡ ACTIVE
    → RunningSlot (segments (t / 16)).header (slot_of segments t)
