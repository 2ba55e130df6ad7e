-- One change of a row, in its block and in its segment; its put back; and the past once a transaction commits.
use Rattle.std.specs.Prelude.{◌≡◌, ◌≢◌, ◌⊎◌, ◌<◌, ◌≤◌, ◌+◌, ◌/◌, ◌%◌, ℕ}
use Rattle.std.specs.Prelude.{suc, false, List, ◌∷◌, length, Some, None}
use Rattle.rb_base.specs.declared.ids.Uba.{Uba}
use Rattle.rb_base.specs.declared.ids.Xid.{Xid}
use Rattle.rb_base.specs.declared.shape.Shape.{Shape}
use Rattle.rb_base.specs.declared.sizes.TheConstants.{ACTIVE}
use Rattle.rb_model.specs.Change.{Kind}
use Rattle.rb_segment.specs.Header.{Segment, slot_in, record_in}
use Rattle.rb_segment.specs.Moves.{Records, IsAddress, with_segment, with_header, taken_back, committed, ended}
use Rattle.law_blocks.specs.Says.{says, place_of, walk_undo, xid_by}
use Rattle.law_blocks.specs.Values.{Past, IsSaved, wraps_of, slot_of}
use Rattle.rb_undoblock.specs.declared.record.UndoRecord.{UndoRecord}
use Rattle.law_home.specs.Kinds.{Undo, sort_of}
use Rattle.law_home.specs.Steps.{cleaned}
use Rattle.law_home.specs.Walk.{Change, Home, own, taken, cell_at, entry_at, back, lock_of}
use Rattle.law_home.specs.Writes.{is_open, IsOwn, written, Fits, change_of}

-- what a write reads of its block, once that is cleaned, and keeps in its record
pub record Reads (kind : Kind) (r : Undo) (t : Xid) (b : Home) : Type 0 where
  pub xid : r.xid ≡ t
  pub here : r.home ≡ b.block
  pub sort : r.sort ≡ sort_of kind
  pub entry_before : r.entry_before ≡ entry_at b r.entry
  pub cell_before : r.cell_before ≡ cell_at b r.cell
  pub fits : Fits b t r.key r.entry r.cell

-- What a write of slot t makes of the segments and homes that stand: one segment has one record more, and the home of
-- the record, cleaned with the looks of before, has the change.
pub record Written (shape : Shape) (commit : ℕ) (segments after : ℕ → Segment) (homes homes2 : ℕ → Home)
    (lives : List (List Change)) (t : ℕ) (kind : Kind) (address : Uba) (u : UndoRecord) : Type 0 where
  pub segment : Segment
  pub records : Records (segments (t / 16)) (t % 16) address u segment
  pub others : (g : ℕ) → after g ≡ with_segment (t / 16) segment segments g
  pub slot : u.slot ≡ t % 16
  pub wrap : u.wrap ≡ (slot_in segment.header (t % 16)).wrap
  pub number : u.number ≡ suc (length (own lives t))
  pub previous : u.previous ≡ (slot_in records.ready.header (t % 16)).newest_at
  pub there : 1 ≤ address.ord
  pub given : IsAddress shape (t / 16) segment.header address
  pub place : place_of shape address ≡ record { seg = t / 16; index = (segments (t / 16)).header.writes + 1 }
  pub saved : IsSaved shape commit (wraps_of after) u
  pub reads : Reads kind (walk_undo shape (t / 16) u) (xid_by after t)
      (cleaned (says shape segments) (homes u.home))
  pub home : homes2 u.home ≡ written kind (walk_undo shape (t / 16) u) (place_of shape address)
      (cleaned (says shape segments) (homes u.home))
  pub homes_same : (b : ℕ) → b ≢ u.home → homes2 b ≡ homes b

-- the change of a write
abbrev pub change_made : Shape → ℕ → Kind → Uba → UndoRecord → Change
change_made shape t kind address u = change_of kind (walk_undo shape (t / 16) u) (place_of shape address)

-- the segment of slot t with its newest live record put back
abbrev pub back_segment : (ℕ → Segment) → ℕ → UndoRecord → Segment
back_segment segments t u =
    with_header (taken_back (t % 16) u.previous (segments (t / 16)).header) (segments (t / 16))

-- What putting back the newest live record of slot t makes of the segments and homes.
pub record PutBack (shape : Shape) (segments after : ℕ → Segment) (homes homes2 : ℕ → Home) (t : ℕ)
    (u : UndoRecord) : Type 0 where
  pub active : (slot_in (segments (t / 16)).header (t % 16)).state ≡ ACTIVE
  pub record_there : record_in (segments (t / 16))
      (place_of shape (slot_in (segments (t / 16)).header (t % 16)).newest_at).index ≡ Some u
  pub others : (g : ℕ) → after g ≡ with_segment (t / 16) (back_segment segments t u) segments g
  pub home : homes2 u.home ≡ back (walk_undo shape (t / 16) u) (homes u.home)
  pub homes_same : (b : ℕ) → b ≢ u.home → homes2 b ≡ homes b

-- the past with the commit of slot t at number c in front
abbrev pub committed_past : (ℕ → Segment) → ℕ → ℕ → Past → List (List Change) → Past
committed_past segments t c past lives = record past {
  list = record { xid = xid_by segments t; number = c; changes = own lives t } ∷ past.list;
}

-- How a write chooses in its block, once that is cleaned, and what it keeps: its own Open entry, else one that isn't
-- Open; the cell of the key, else a free one. The last says that Waits has no cause: a lock of the key's cell is the
-- transaction's own.
pub record Chooses (kind : Kind) (r : Undo) (t : Xid) (b : Home) : Type 0 where
  pub xid : r.xid ≡ t
  pub here : r.home ≡ b.block
  pub within : r.entry < length b.entries
  pub cell : r.cell < length b.cells
  pub sort : r.sort ≡ sort_of kind
  pub entry_before : r.entry_before ≡ entry_at b r.entry
  pub cell_before : r.cell_before ≡ cell_at b r.cell
  pub entry_for : IsOwn t (entry_at b r.entry)
      ⊎ ((is_open (entry_at b r.entry).status ≡ false)
      × ((j : ℕ) → j < length b.entries → IsOwn t (entry_at b j) → ⊥))
  pub cell_for : (taken (cell_at b r.cell) ≡ Some r.key)
      ⊎ ((taken (cell_at b r.cell) ≡ None)
      × ((j : ℕ) → j < length b.cells → taken (cell_at b j) ≢ Some r.key))
  pub waits_not : (i : ℕ) → taken (cell_at b r.cell) ≡ Some r.key → lock_of (cell_at b r.cell) ≡ suc i
      → IsOwn t (entry_at b i)

-- the id of a transaction that runs, or one that is still to be given to its slot
abbrev pub IsWriter : (ℕ → Segment) → Xid → Type 0
IsWriter segments x = ((t : ℕ) × (x ≡ xid_by segments t) × ((slot_of segments t).state ≡ ACTIVE))
    ⊎ ((slot_in (segments x.seg).header x.slot).wrap < x.wrap)

-- the segments with slot t committed at that number, and with its transaction ended
abbrev pub committed_segments : ℕ → ℕ → (ℕ → Segment) → ℕ → Segment
committed_segments c t segments = with_segment (t / 16)
    (with_header (committed c (t % 16) (segments (t / 16)).header) (segments (t / 16))) segments

abbrev pub ended_segments : ℕ → (ℕ → Segment) → ℕ → Segment
ended_segments t segments = with_segment (t / 16)
    (with_header (ended (t % 16) (segments (t / 16)).header) (segments (t / 16))) segments
